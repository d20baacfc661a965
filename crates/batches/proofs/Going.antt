-- How far a batch has come: the calls made, their reports in the room, and what is still to come of the series.
use Rattle.std.proofs.Common.{◌≡◌, refl, sym, ap, ◌∙◌, Bool, true, false, not, ◌&&◌, List, [], ◌∷◌, ◌++◌, append_assoc, append-nil, ℕ, suc, ◌+◌, ◌-◌, ◌*◌, ◌/◌, ◌≤◌, ◌<◌, arith, ltb, length, take, drop, length-append, length-drop, rules}
use borrow.Author.Tests.{not-true, not-false}
use Rattle.wire.specs.Bytes.{Below}
use Rattle.wire.proofs.Words.{Octets, rest_at}
use Rattle.tables.proofs.Words.{bytes_drop}
use Rattle.image.specs.Promises.{GoodImage}
use Rattle.stream.specs.Tail.{Tail}
use Rattle.rules.specs.State.{State}
use Rattle.rules.specs.Calls.{Step, stays}
use Rattle.rules.specs.Places.{taken_words, goes_on, is_stop}
use Rattle.rules.specs.Series.{behind_first, series, taken_by}
use Rattle.rules.specs.declared.Taken.{Taken}
use Rattle.rules.proofs.Series.{series_on, series_last, taken_next}
use Rattle.memory.specs.Encoding.{memory_of, state_of}
use Rattle.memory.specs.Sound.{Sound, Held}
use Rattle.memory.specs.Calls.{Did, stored}
use Rattle.memory.proofs.Good.{good_is, good_sound, held_of}
use Rattle.memory.proofs.Sound.{state_again, good_memory}
use Rattle.memory.proofs.Octets.{every_below}
use Rattle.sound.proofs.Keep.{piece_sound}
use Rattle.places.specs.Places.{place_length, places_in, filled, Batched}
use Rattle.places.proofs.Rooms.{taken_length, filled_none, filled_length, filled_next}
use Rattle.batches.specs.Steps.{pieces, Stepped}

-- the reports so far, and then what the calls to come do
abbrev followed : List Taken → Step Tail (List Taken) → Step Tail (List Taken)
followed ts l = record { state = l.state; result = ts ++ l.result }

-- the calls so far have left this state, and `to_come` is what those behind them do
pub record Came (image : List ℕ) (n : ℕ) (m₀ p x : List ℕ) (limit : ℕ) (m y rest : List ℕ) (written : ℕ) (state : State Tail) (to_come : Step Tail (List Taken))
    : Type 0 where
  pub good : GoodImage image
  pub sound : Sound state
  pub bytes : m ≡ memory_of state
  pub fits : length m ≡ length m₀
  pub reports : List Taken
  pub count : length reports ≡ written
  pub all : series (pieces image n) limit (state_of m₀) p ≡ followed reports to_come
  pub inside : place_length * limit ≤ length x
  pub limited : limit ≡ places_in x
  pub some : written ≤ limit
  pub took : taken_by reports + length rest ≡ length p
  pub octets : Below 256 rest
  pub text : y ≡ filled taken_words reports x

-- the loop's invariant: as many calls are to come as there are places left
pub record Going (image : List ℕ) (n : ℕ) (m₀ p x : List ℕ) (limit : ℕ) (m y rest : List ℕ) (written : ℕ) : Type 0 where
  pub state : State Tail
  pub came : Came image n m₀ p x limit m y rest written state (series (pieces image n) (limit - written) state rest)

pub going_begins : (image : List ℕ) (n : ℕ) (m p x : List ℕ) (limit : ℕ) → GoodImage image → Held m → Octets m → Octets p → limit ≡ length x / place_length
    → Going image n m p x limit m x p 0
unfolding taken_by
going_begins image n m p x limit i h b o e =
    let f : Below 256 m = λ j. (b j).fits in
    let z : limit - 0 ≡ limit = omega arith in
    record {
      state = state_of m;
      came =
          record {
            good = i;
            sound = good_sound m f h.held;
            bytes = sym (good_is m f h.held);
            fits = refl;
            reports = [];
            count = refl;
            all = rw z;
            inside = omega arith;
            limited = e;
            some = omega arith;
            took = omega arith;
            octets = λ j. (o j).fits;
            text = sym (filled_none taken_words x);
          };
    }

-- ---- nothing is to come

module _ {image : List ℕ} {n : ℕ} {m₀ p x : List ℕ} {limit : ℕ} {m y rest : List ℕ} {written : ℕ} {state : State Tail}
    (g : Came image n m₀ p x limit m y rest written state (stays state [])) where
  ended : stored (series (pieces image n) limit (state_of m₀) p) ≡ record { memory = m; result = g.reports }
  ended = ap stored g.all ∙ rw (append-nil g.reports, ← g.bytes)

  came_ends : Batched (stored (series (pieces image n) (places_in x) (state_of m₀) p)) x (record { written = written; taken = length p - length rest }) m y
  came_ends =
      rw (← g.limited, ended)
      (record { wrote = record { written = sym g.count; memory = refl; room = g.text }; taken = omega (arith, g.took) })

-- ---- one call more

module _ {image : List ℕ} {n : ℕ} {m₀ p x : List ℕ} {limit : ℕ} {m y rest : List ℕ} {written : ℕ} {state : State Tail} {to_come : Step Tail (List Taken)}
    (g : Came image n m₀ p x limit m y rest written state to_come) (h : written < limit) where
  module _ {t : Taken} {e w : List ℕ} (s : Stepped image n m rest (take (length y - place_length * written) (drop (place_length * written) y)) t e w)
      (same : length e ≡ length m) where
    abbrev made : Step Tail Taken
    made = pieces image n state rest

    did : Did (stored made) t e
    did =
        let d : Did (stored (pieces image n (state_of m) rest)) t e = s.did in
        rw (g.bytes, state_again state g.sound) at d

    -- the room with this report in the place behind the others
    room_next : take (place_length * written) y ++ (w ++ drop (length y - place_length * written) (drop (place_length * written) y))
        ≡ filled taken_words (g.reports ++ (t ∷ [])) x
    room_next = filled_next taken_words x taken_length g.reports t g.text (ap (λ (j : ℕ). place_length * j) (sym g.count)) s.written

    pub came_on : {next : Step Tail (List Taken)} → to_come ≡ behind_first made.result next
        → Came image n m₀ p x limit e (take (place_length * written) y ++ (w ++ drop (length y - place_length * written) (drop (place_length * written) y)))
        (take (length rest - t.taken) (drop t.taken rest)) (written + 1) made.state next
    came_on {next} q =
        let i : t.taken ≤ length rest = s.within in
        rw (rest_at t.taken rest)
        (record {
          good = g.good;
          sound = piece_sound state g.sound rest (every_below 256 rest g.octets) image n;
          bytes = did.memory;
          fits = same ∙ g.fits;
          reports = g.reports ++ (t ∷ []);
          count = length-append g.reports (t ∷ []) ∙ omega (arith, g.count);
          all =
              g.all
              ∙ ap (followed g.reports) (q ∙ ap (λ (r : Taken). behind_first r next) (sym did.result))
              ∙ ap (λ (l : List Taken). record { state = next.state; result = l }) (sym (append_assoc g.reports (t ∷ []) next.result));
          inside = g.inside;
          limited = g.limited;
          some = omega arith;
          took = omega (arith, g.took, taken_next g.reports t, length-drop t.taken rest);
          octets = bytes_drop t.taken rest g.octets;
          text = room_next;
        })

-- ---- the loop

module _ {image : List ℕ} {n : ℕ} {m₀ p x : List ℕ} {limit : ℕ} {m y rest : List ℕ} {written : ℕ} (g : Going image n m₀ p x limit m y rest written) where
  pub going_held : Held m
  going_held = let c = g.came in rw c.bytes (held_of (memory_of g.state) (good_memory g.state c.sound))

  pub going_image : GoodImage image
  going_image = g.came.good

  pub going_size : length y ≡ length x
  going_size =
      let i : place_length * limit ≤ length x = g.came.inside in
      let s : written ≤ limit = g.came.some in
      ap length g.came.text ∙ filled_length taken_words x taken_length g.came.reports (omega (arith, g.came.count))

  pub going_fits : length m ≡ length m₀
  going_fits = g.came.fits

  pub going_left : length rest ≤ length p
  going_left = omega (arith, g.came.took)

  pub going_ends : limit ≤ written
      → Batched (stored (series (pieces image n) (places_in x) (state_of m₀) p)) x (record { written = limit; taken = length p - length rest }) m y
  unfolding series
  going_ends h =
      let s : written ≤ limit = g.came.some in
      let e : limit - written ≡ 0 = omega arith in
      let w : written ≡ limit = omega arith in
      rw w at (came_ends (rw e at g.came))

  module _ (h : written < limit) where
    going_room : place_length * written + place_length ≤ length y
    going_room = let i : place_length * limit ≤ length x = g.came.inside in omega (arith, going_size)

    pub going_at : place_length * written ≤ length y
    going_at = omega (arith, going_room)

    pub going_place : place_length ≤ length (take (length y - place_length * written) (drop (place_length * written) y))
    going_place = rw (rest_at (place_length * written) y) (omega (arith, going_room, length-drop (place_length * written) y))

    left : limit - written ≡ suc (limit - (written + 1))
    left = omega arith

    module _ {t : Taken} {e w : List ℕ} (s : Stepped image n m rest (take (length y - place_length * written) (drop (place_length * written) y)) t e w)
        (same : length e ≡ length m) where
      pub going_kept : length (take (place_length * written) y ++ (w ++ drop (length y - place_length * written) (drop (place_length * written) y))) ≡ length x
      going_kept =
          let c = g.came in
          let i : place_length * limit ≤ length x = c.inside in
          ap length (room_next c h s same)
          ∙ filled_length taken_words x taken_length (c.reports ++ (t ∷ [])) (omega (arith, c.count, length-append c.reports (t ∷ [])))

      module _ (b : Bool) (q : b ≡ not (is_stop t.judgement.answer) && ltb t.taken (length rest)) where
        on : {o : Bool} → b ≡ o → goes_on (pieces image n g.state rest).result rest ≡ o
        on f = rw (did g.came h s same).result at (sym q ∙ f)

        pub going_on : not b ≡ false
            → Going image n m₀ p x limit e (take (place_length * written) y ++ (w ++ drop (length y - place_length * written) (drop (place_length * written) y)))
            (take (length rest - t.taken) (drop t.taken rest)) (written + 1)
        going_on f =
            let z = pieces image n g.state rest in
            let k = limit - (written + 1) in
            let v : drop z.result.taken rest ≡ take (length rest - t.taken) (drop t.taken rest)
            = ap (λ (r : Taken). drop r.taken rest) (sym (did g.came h s same).result) ∙ sym (rest_at t.taken rest) in
            record {
              state = z.state;
              came =
                  came_on g.came h s same
                  (ap (λ (j : ℕ). series (pieces image n) j g.state rest) left ∙ series_on (pieces image n) k g.state rest (on (not-false b f))
                  ∙ ap (λ (l : List ℕ). behind_first z.result (series (pieces image n) k z.state l)) v);
            }

        pub going_stops : not b ≡ true
            → Batched (stored (series (pieces image n) (places_in x) (state_of m₀) p)) x
            (record { written = written + 1; taken = length p - length (take (length rest - t.taken) (drop t.taken rest)) }) e
            (take (place_length * written) y ++ (w ++ drop (length y - place_length * written) (drop (place_length * written) y)))
        going_stops f =
            came_ends
            (came_on g.came h s same
            (ap (λ (j : ℕ). series (pieces image n) j g.state rest) left
            ∙ series_last (pieces image n) (limit - (written + 1)) g.state rest (on (not-true b f))))

pub ruleset going =
    (going_begins, going_held, going_image, going_size, going_fits, going_left, going_ends, going_at, going_place, going_kept, going_on, going_stops, rules)

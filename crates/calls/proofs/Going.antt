-- How far a script has been run, and that it ends as the model says.
use Rattle.std.proofs.Common.{◌≡◌, refl, sym, ap, ◌∙◌, true, false, not, List, [], ◌∷◌, ◌++◌, append_assoc, append-nil, ℕ, suc, ◌+◌, ◌-◌, ◌*◌, ◌≤◌, ◌<◌, arith, eqb, ltb, length, take, drop, length-append, length-drop, rules, eq-eqb, ne_eqb, lt-ltb, le-ltb, eqb-true, ltb-true, ltb-false, Option, Some, None, is_some, unwrap_or}
use borrow.Author.Tests.{eqb-false}
use Rattle.wire.proofs.Words.{rest_at}
use Rattle.wire.proofs.Tests.{by_test}
use Rattle.rules.specs.State.{State}
use Rattle.rules.specs.Calls.{empty}
use Rattle.memory.specs.Layout.{memory_length}
use Rattle.memory.specs.Encoding.{memory_of}
use Rattle.memory.specs.Calls.{Did, start_on}
use Rattle.book.specs.Lists.{Call, starts, Answer, plain, connected, owned, taken, gone, ticked, model_step, answers, after, Run, done, then}
use Rattle.places.specs.Places.{place_length, places_in, filled}
use Rattle.places.proofs.Rooms.{shown_length, taken_length, filled_none, filled_length, filled_next}
use Rattle.book.proofs.List.{empty_claim}
use Rattle.book.proofs.Runs.{run_append}
use Rattle.calls.specs.declared.Entry.{Entry}
use Rattle.calls.specs.Script.{entry_kind, argument_of, entry_size, layout, script_calls, call_of, decode}
use Rattle.calls.specs.Places.{words_of, outcome, EndsAs}
use Rattle.calls.specs.Steps.{Stepped, FirstEntry, Counted, Ready, Replayed}
use Rattle.calls.proofs.Entries.{front_entry, layout_next, calls_next, calls_end, behind, size_some, size_any}

-- ---- a run has an answer for each call

run_length : {m d : List ℕ} {cs : List Call} {given : List Answer} → Run m cs given d → length cs ≡ length given
run_length done = refl
run_length (then q qs) = ap suc (run_length qs)

-- ---- places

answer_length : (a : Answer) → length (words_of a) ≡ 7
answer_length (plain n) = refl
answer_length (connected r) = omega (arith, shown_length r.rule)
answer_length (owned r) = omega (arith, shown_length r.rule)
answer_length (taken r) = taken_length r
answer_length (gone r) = refl
answer_length (ticked r) = refl

-- ---- the entries behind `rest` are to come; those before it have run

pub record Going (image s m₀ x m y rest : List ℕ) (at : ℕ) : Type 0 where
  pub whole : layout (length rest) rest ≡ true
  pub past : List Call
  pub given : List Answer
  pub ran : Run (memory_of empty) past given m
  pub all : script_calls image (length s) s ≡ past ++ script_calls image (length rest) rest
  pub place : at ≡ place_length * length past
  pub text : y ≡ filled words_of given x
  pub room : at + place_length * length (script_calls image (length rest) rest) ≤ length x
  pub sized : length y ≡ length x
  pub fits : length m ≡ length m₀

pub going_begins : (image s m x : List ℕ) → Ready image s m x → Going image s m x m x s 0
going_begins image s m x r =
    let k : place_length * length (script_calls image (length s) s) ≤ length x = r.room in
    record {
      whole = r.whole;
      past = [];
      given = [];
      ran = rw r.started done;
      all = refl;
      place = refl;
      text = sym (filled_none words_of x);
      room = omega arith;
      sized = refl;
      fits = refl;
    }

module _ {image s m₀ x m y rest : List ℕ} {at : ℕ} (g : Going image s m₀ x m y rest at) where
  written : at ≡ place_length * length g.given
  written = g.place ∙ ap (λ (k : ℕ). place_length * k) (run_length g.ran)

  module _ {e : Entry} (z : FirstEntry rest e) where
    going_room : at + place_length ≤ length y
    going_room = omega (arith, g.room, g.sized, ap length (calls_next rest (size_any z) image g.whole))

    pub going_at : at ≤ length y
    going_at = omega (arith, going_room)

    pub going_place : place_length ≤ length (take (length y - at) (drop at y))
    going_place = rw (rest_at at y) (omega (arith, going_room, length-drop at y))

    pub Going-on : (d w : List ℕ) → Stepped image rest m (take (length y - at) (drop at y)) d w → length d ≡ length m
        → Going image s m₀ x d (take at y ++ (w ++ drop (length y - at) (drop at y))) (take (length rest - (8 + e.argument)) (drop (8 + e.argument) rest))
        (at + place_length)
    Going-on d w t same =
        let n = size_some z in
        let h = size_any z in
        let c = call_of image (entry_kind rest) (argument_of rest) in
        let cs = calls_next rest h image g.whole in
        let text = filled_next words_of x answer_length g.given t.answer g.text written t.written in
        let l : length (g.given ++ (t.answer ∷ [])) ≡ length g.given + 1 = length-append g.given (t.answer ∷ []) in
        rw (behind z)
        (record {
          whole = sym (layout_next rest h n) ∙ g.whole;
          past = g.past ++ (c ∷ []);
          given = g.given ++ (t.answer ∷ []);
          ran = run_append g.ran (then t.ran done);
          all = g.all ∙ rw cs (sym (append_assoc g.past (c ∷ []) (script_calls image (length (drop (entry_size rest) rest)) (drop (entry_size rest) rest))));
          place = omega (arith, g.place, length-append g.past (c ∷ []));
          text = text;
          room = omega (arith, g.room, ap length cs);
          sized = ap length text ∙ filled_length words_of x answer_length (g.given ++ (t.answer ∷ [])) (omega (arith, l, written, g.room, ap length cs));
          fits = same ∙ g.fits;
        })

  pub going_ends : entry_size rest ≡ 0 → Replayed image s x m y
  going_ends z =
      let h : length rest ≤ 0 = by_test (ltb 0 (length rest)) (λ p. absurd (front_entry (length rest) rest (ltb-true 0 (length rest) p) g.whole z))
      (ltb-false 0 (length rest)) in
      let c : script_calls image (length s) s ≡ g.past = g.all ∙ ap (λ (v : List Call). g.past ++ v) (calls_end image (length rest) rest h)
      ∙ append-nil g.past in
      let a = empty_claim g.ran in
      record { memory = rw c a.memory; room = rw (c, ← a.answered) g.text }

pub ruleset going = (going_begins, going_at, going_place, Going-on, going_ends, rules)

-- ---- the whole

start_refused : (m e : List ℕ) (r : ℕ) → Did (start_on m) r e → (r ≡ 0 → ⊥) → (length m ≡ memory_length → ⊥) × (e ≡ m)
unfolding start_on
start_refused m e r d h =
    by_test (eqb (length m) memory_length) (λ q. absurd (h (rw q at d.result))) (λ q. (eqb-false (length m) memory_length q, rw q at d.memory))

start_done : (m e : List ℕ) (r : ℕ) → Did (start_on m) r e → r ≡ 0 → (length m ≡ memory_length) × (e ≡ memory_of empty)
unfolding start_on
start_done m e r d h =
    by_test (eqb (length m) memory_length) (λ q. (eqb-true (length m) memory_length q, rw q at d.memory))
    (λ q. let z : r ≡ 51 = rw q at d.result in absurd (omega arith))

module _ (image s m x : List ℕ) (c : Option ℕ) (o : Counted s c) where
  pub run_broken : c ≡ None → EndsAs (outcome image s m x) 67 m x
  unfolding outcome decode
  run_broken t = let b : layout (length s) s ≡ false = sym o.whole ∙ ap is_some t in rw b (record { answer = refl; memory = refl; room = refl })

  module _ (n : ℕ) (t : c ≡ Some n) where
    laid : layout (length s) s ≡ true
    laid = sym o.whole ∙ ap is_some t

    counted : length (script_calls image (length s) s) ≡ n
    counted = o.many n t image

    pub run_full : places_in x < n → EndsAs (outcome image s m x) 68 m x
    unfolding outcome decode
    run_full l = rw (laid, counted, lt-ltb (places_in x) n l) (record { answer = refl; memory = refl; room = refl })

    module _ (l : n ≤ places_in x) (e : List ℕ) (r : ℕ) (d : Did (start_on m) r e) where
      pub run_unfit : (r ≡ 0 → ⊥) → EndsAs (outcome image s m x) 51 e x
      unfolding outcome decode
      run_unfit h =
          let z = start_refused m e r d h in
          rw (laid, counted, le-ltb (places_in x) n l, ne_eqb (length m) memory_length z.0) (record { answer = refl; memory = z.1; room = refl })

      module _ (h : r ≡ 0) where
        pub run_ready : Ready image s e x
        run_ready = record { whole = laid; started = (start_done m e r d h).1; room = omega (arith, counted) }

        pub run_done : (f y : List ℕ) → Replayed image s x f y → EndsAs (outcome image s m x) 0 f y
        unfolding outcome decode
        run_done f y p =
            let z : ltb (places_in x) (length (script_calls image (length s) s)) ≡ false = rw counted (le-ltb (places_in x) n l) in
            rw (laid, z, eq-eqb (length m) memory_length (start_done m e r d h).0) (record { answer = refl; memory = p.memory; room = p.room })

pub ruleset running = (run_broken, run_full, run_unfit, run_ready, run_done, rules)

-- the contract's answers and memory are those of the list that begins with a start, whatever the model held before
pub start_answers : (b : State (List ℕ)) (cs : List Call) → answers b (starts ∷ cs) ≡ plain 0 ∷ answers empty cs
unfolding answers model_step
start_answers b cs = refl

pub start_after : (b : State (List ℕ)) (cs : List Call) → after b (starts ∷ cs) ≡ after empty cs
unfolding after model_step
start_after b cs = refl

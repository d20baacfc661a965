-- The bytes of a stream in its slot: its counts, its head, zeros; and what an offer leaves of them.
use Rattle.std.proofs.Common.{◌≡◌, sym, ap, subst, ◌∙◌, List, [], ◌++◌, append-nil, ℕ, ◌≤◌, ◌<◌, min, arith, length, take, drop, length-drop, drop_of_length-le, take_at, drop_at, drop-drop, take_all, length-take-le, rules}
use Rattle.wire.specs.Bytes.{pad}
use Rattle.wire.specs.Words.{word_at, word_bytes}
use Rattle.wire.specs.declared.Order.TheVariants.{Little}
use Rattle.wire.proofs.Texts.{pad_length}
use Rattle.wire.proofs.Words.{word_length, word_again, word_drop}
use Rattle.stream.specs.Stream.{offer}
use Rattle.stream.specs.Tail.{Tail, tails, judge, good_tail}
use Rattle.stream.specs.Promises.{tail_in, verdict_of, Open, Gives, Advanced}
use Rattle.stream.specs.declared.Stream.{Stream}
use Rattle.stream.specs.declared.Advance.{Advance}
use Rattle.stream.proofs.Good.{tail_fits, open_more}
use Rattle.memory.specs.Layout.{head_room, head_offset, byte_offset}
use Rattle.memory.specs.Encoding.{head_bytes}
use Rattle.pieces.specs.Fed.{stream_in, Opens, Fed}

module _ (x : List ℕ) (o : Opens x) where
  fits : ((stream_in x).taken < 134217728) × (length (stream_in x).head ≤ head_room)
  fits = tail_fits (stream_in x) o.good

  -- the head behind its count
  head_part : drop head_offset x ≡ word_bytes (length (stream_in x).head) ++ pad head_room (stream_in x).head
  unfolding head_bytes
  head_part = ap (drop head_offset) o.bytes
      ∙ drop_at (word_bytes (stream_in x).taken) (head_bytes (stream_in x).head) head_offset (word_length (stream_in x).taken)

  count_is : word_at Little x head_offset ≡ length (stream_in x).head
  count_is =
      sym (word_drop Little x head_offset 0)
      ∙ ap (λ (z : List ℕ). word_at Little z 0) head_part
      ∙ word_again (length (stream_in x).head) (pad head_room (stream_in x).head) (omega (arith, fits))

  region_is : drop byte_offset x ≡ pad head_room (stream_in x).head
  region_is =
      sym (drop-drop 4 head_offset x)
      ∙ ap (drop 4) head_part
      ∙ drop_at (word_bytes (length (stream_in x).head)) (pad head_room (stream_in x).head) 4 (word_length (length (stream_in x).head))

  part_is : take head_room (drop byte_offset x) ≡ drop byte_offset x
  part_is = take_all head_room (drop byte_offset x) (rw (region_is, pad_length) (omega arith))

  -- the tail that the counts and the region say
  tail_is : (s : Stream) → s.taken ≡ word_at Little x 0 → s.stored ≡ word_at Little x head_offset → tail_in (take head_room (drop byte_offset x)) s ≡ stream_in x
  tail_is s p q =
      let k : min (word_at Little x head_offset) head_room ≡ word_at Little x head_offset = omega (arith, fits, count_is) in
      let h : take s.stored (take head_room (drop byte_offset x)) ≡ (stream_in x).head = rw (q, part_is, k) in
      λ j. record { taken = p j; head = h j }

  pub opened : (s : Stream) → s.taken ≡ word_at Little x 0 → s.stored ≡ word_at Little x head_offset → Open (take head_room (drop byte_offset x)) s
  opened s p q =
      let t = tail_is s p q in
      record {
        sized = ap length part_is ∙ rw (region_is, pad_length);
        stored = omega (arith, fits, count_is);
        counted = omega (arith, fits);
        padded = part_is ∙ region_is ∙ ap (λ (z : Tail). pad head_room z.head) (sym t);
        good = ap good_tail t ∙ o.good;
        running = ap judge t ∙ open_more (stream_in x) o.good o.runs;
      }

  -- the counts are written in front of the new head
  pub fed : (s : Stream) → s.taken ≡ word_at Little x 0 → s.stored ≡ word_at Little x head_offset → (piece region x₁ x₂ x₃ : List ℕ) (r : Advance)
      → Advanced (take head_room (drop byte_offset x)) s piece r region
      → x₁ ≡ take byte_offset x ++ (region ++ drop head_room (drop byte_offset x))
      → x₂ ≡ take 0 x₁ ++ (word_bytes r.stream.taken ++ drop head_offset x₁)
      → x₃ ≡ take head_offset x₂ ++ (word_bytes r.stream.stored ++ drop byte_offset x₂)
      → Fed (offer tails (stream_in x) piece) r x₃
  unfolding head_bytes
  fed s p q piece region x₁ x₂ x₃ r a e₁ e₂ e₃ =
      let g : Gives (offer tails (stream_in x) piece) (length piece) r region
      = subst (λ (t : Tail). Gives (offer tails t piece) (length piece) r region) (tail_is s p q) a.gives in
      let w = word_bytes r.stream.taken in
      let v = word_bytes r.stream.stored in
      let l : length (take byte_offset x) ≡ byte_offset = length-take-le byte_offset x (omega (arith, o.sized)) in
      let z : drop head_room (drop byte_offset x) ≡ []
      = drop_of_length-le (drop byte_offset x) {i = head_room} (omega (arith, length-drop byte_offset x, o.sized)) in
      let y₁ : x₁ ≡ take byte_offset x ++ region = e₁ ∙ rw z (ap (λ (y : List ℕ). take byte_offset x ++ y) (append-nil region)) in
      let d₁ : drop byte_offset x₁ ≡ region = ap (drop byte_offset) y₁ ∙ drop_at (take byte_offset x) region byte_offset l in
      let d₂ : drop byte_offset x₂ ≡ region
      = ap (drop byte_offset) e₂ ∙ sym (drop-drop 4 head_offset (w ++ drop head_offset x₁))
      ∙ ap (drop 4) (drop_at w (drop head_offset x₁) head_offset (word_length r.stream.taken)) ∙ drop-drop 4 head_offset x₁ ∙ d₁ in
      let t₂ : take head_offset x₂ ≡ w = ap (take head_offset) e₂ ∙ take_at w (drop head_offset x₁) head_offset (word_length r.stream.taken) in
      record {
        taken = g.taken;
        verdict = ap (λ (y : List ℕ). verdict_of y r.event) (sym g.padded) ∙ g.verdict;
        bytes = e₃ ∙ rw (t₂, d₂, g.counted, g.kept, g.padded);
      }

pub ruleset feeding = (opened, fed, rules)

-- `Stream::advance` up to 16 bytes, way by way, and what its fixed part then says.
use mathlib.Core.Path.{◌≡◌, sym, ap, ◌∙◌}
use mathlib.Core.List.{List}
use Prim.Native.Nat.{ℕ, ◌+◌, ◌-◌, ◌≤◌, ◌<◌, min}
use native.Mathlib.Omega.{arith}
use native.Mathlib.Nat.{zero-add, sub-zero, lt_of_le_of_lt}
use borrow.Author.Rules.{rules}
use lib.ListN.{length, take, drop, length-take}
use lib.Seq.{length-take-le}
use native.Mathlib.Decide.{dec_lt}
use Rattle.wire.proofs.Texts.{impossible}
use Rattle.std.specs.Prelude.{Ok, Err}
use Rattle.header.specs.declared.Fault.{Fault}
use Rattle.header.specs.declared.Sizes.{Sizes}
use Rattle.header.specs.declared.Unread.TheVariants as unread
use Rattle.header.specs.Fixed.{fixed_length, message_limit, head_length, Fixed, measures, fixed_part}
use Rattle.header.specs.Header.{read_header}
use Rattle.header.proofs.Front.{head_low}
use Rattle.header.proofs.Readings.{read_few, read_broken}
use Rattle.stream.specs.declared.Stream.{Stream}
use Rattle.stream.specs.declared.Event.TheVariants.{More, Broken}
use Rattle.stream.specs.declared.Advance.{Advance}
use Rattle.stream.specs.Stream.{offer}
use Rattle.stream.specs.Tail.{tails}
use Rattle.stream.specs.Promises.{tail_in, Open, Advanced}
use Rattle.stream.specs.Steps.{Resumed, resumed, Room, Stored, Started, Begun, InHead}
use Rattle.stream.proofs.Heads.{Sized, sized, whole_head}
use Rattle.stream.proofs.Good.{Running, in_head, in_body, more_runs, kept, end_is}
use Rattle.stream.proofs.Phases.{stored_fixed}
use Rattle.stream.proofs.Regions.{started_length, fits, started_after}
use Rattle.stream.proofs.Gives.{same_offer, open_resumes, plus, moved, more_stored, broken_at_lem, in_body_of}

-- ---- `advance`: up to 16 bytes

module _ {region : List ℕ} {s : Stream} (o : Open region s) where
  head_is : length (take s.stored region) ≡ s.stored
  head_is = length-take-le s.stored region (omega (arith, o.sized, o.stored))

  -- below 16 bytes, all that were taken are kept
  all_kept : s.stored < fixed_length → s.taken ≡ s.stored
  all_kept l = go (more_runs (tail_in region s) o.good o.running)
    where
      go : Running (tail_in region s) → s.taken ≡ s.stored
      go (in_head e n) = n ∙ head_is
      go (in_body x e q n k) = absurd (omega (arith, head_is, (whole_head (take s.stored region) e).sizes.above))

  pub begun_open : (piece : List ℕ) → fixed_length ≤ s.stored → Begun region s piece 0
  begun_open piece l =
      let a : fixed_length ≤ length (take s.stored region) = rw head_is l in
      record {
        started = record { sized = o.sized; padded = o.padded; above = l; stored = o.stored; within = omega arith };
        kept = sym head_is ∙ kept (tail_in region s) o.good ∙ ap (min s.taken) (end_is (take s.stored region) a);
        running = λ i. o.running;
      }

  pub from_open : {piece : List ℕ} {r : Advance} {last : List ℕ} → Resumed region s piece 0 r last → Advanced region s piece r last
  from_open {piece} g = record { gives = same_offer (open_resumes (tail_in region s) piece o.running) g.gives }

  pub room_fixed : (piece : List ℕ) → s.stored < fixed_length → Room region s.stored fixed_length piece 0
  room_fixed piece l = record { sized = o.sized; up = omega arith; inside = omega arith; within = omega arith }

  module _ {piece after : List ℕ} {k : ℕ} (l : s.stored < fixed_length) (w : Stored region s.stored fixed_length piece 0 k after) where
    room : Room region s.stored fixed_length piece 0
    room = room_fixed piece l

    many : (s.stored + k ≤ fixed_length) × (0 + k ≤ length piece)
    many = fits region s.stored fixed_length piece 0 k after room w

    moved_fixed : offer tails (tail_in region s) piece ≡ resumed (tail_in after (plus s k)) piece (0 + k)
    moved_fixed =
        open_resumes (tail_in region s) piece o.running
        ∙ moved s room w (stored_fixed k s.taken (take s.stored region) piece (omega (arith, many)) (rw head_is many.0))

    pub more_fixed : s.stored + k < fixed_length
        → Advanced region s piece (record { stream = record { taken = s.taken + k; stored = s.stored + k }; taken = k; event = More }) after
    more_fixed h =
        let q = read_few (take (s.stored + k) after) (rw (length-take (s.stored + k) after) (omega arith)) in
        record { gives = rw (zero-add k) at (more_stored s room w moved_fixed h q o.padded (omega (arith, all_kept l))) }

    pub begun_fixed : fixed_length ≤ s.stored + k → Begun after (record { taken = s.taken + k; stored = s.stored + k }) piece k
    begun_fixed h =
        let a : s.stored + k ≡ fixed_length = omega (arith, many) in
        let b : s.taken + k ≡ fixed_length = omega (arith, all_kept l) in
        let c : fixed_length ≤ head_length (take (s.stored + k) after) = head_low (take (s.stored + k) after) in
        record {
          started = rw (zero-add k) at (started_after region s.stored fixed_length piece 0 k after room w (s.taken + k) o.padded h);
          kept = omega arith;
          running = λ i. absurd (omega arith);
        }

    pub from_fixed : {r : Advance} {last : List ℕ} → Resumed after (record { taken = s.taken + k; stored = s.stored + k }) piece k r last
        → Advanced region s piece r last
    from_fixed g = record { gives = same_offer moved_fixed (rw (zero-add k) g.gives) }

-- fewer than 16 bytes, however the code asks for them
pub ruleset few = (more_fixed, lt_of_le_of_lt, rules)

-- ---- `after_fixed`: 1 to 6, or the lengths

module _ {region : List ℕ} {s : Stream} {piece : List ℕ} {used : ℕ} (b : Begun region s piece used) where
  begun : Started region s piece used
  begun = b.started

  pub long_fixed : fixed_length ≤ length (take (s.stored - 0) (drop 0 region))
  long_fixed = rw (sub-zero, started_length begun) begun.above

  module _ {f : Fixed} (e : f ≡ fixed_part (take (s.stored - 0) (drop 0 region))) where
    is_fixed : fixed_part (take s.stored region) ≡ f
    is_fixed = sym (rw sub-zero at e)

    pub broken_fixed : {a : Fault} → f ≡ Err a → Resumed region s piece used (record { stream = s; taken = used; event = Broken a }) region
    broken_fixed {a} q = broken_at_lem begun r (go (dec_lt (head_length (take s.stored region)) s.taken))
      where
        r : read_header (take s.stored region) ≡ Err (unread.Broken a)
        r = read_broken (take s.stored region) (omega (arith, started_length begun, begun.above)) (is_fixed ∙ q)

        go : Dec (head_length (take s.stored region) < s.taken) → s.taken ≤ message_limit
        go (yes d) = let z = rw r at (b.running d) in impossible cc
        go (no d) = omega (arith, b.kept, begun.stored)

    pub sizes_fixed : {x : Sizes} → f ≡ Ok x → InHead region s piece used x.head x.message
    sizes_fixed {x} q =
        let k : s.stored ≡ min s.taken x.head = rw z.is_head b.kept in
        record {
          measured = record { started = begun; sizes = is_fixed ∙ q; small = z.small; below = go k (dec_lt x.head s.taken); few = z.fits };
          kept = k;
          running = λ i. b.running (rw (← z.is_head) i);
        }
      where
        z : Sized (take s.stored region) x.head x.message
        z = sized (take s.stored region) (is_fixed ∙ q)

        go : s.stored ≡ min s.taken x.head → Dec (x.head < s.taken) → s.taken ≤ x.message
        go k (yes d) =
            let w = in_body_of s.taken (take s.stored region) x.head x.message (omega (arith, started_length begun, begun.above)) (is_fixed ∙ q)
            (omega (arith, started_length begun)) (b.running (rw (← z.is_head) d)) in
            omega (arith, w.2)
        go k (no d) = omega (arith, z.inside)

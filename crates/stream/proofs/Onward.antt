-- `Stream::advance` behind the fixed part, way by way: the rest of the head, the head's end, and the body.
use mathlib.Core.Path.{◌≡◌, refl, sym, ap, ◌∙◌}
use mathlib.Core.List.{List}
use Prim.Native.Nat.{ℕ, ◌+◌, ◌-◌, ◌≤◌, ◌<◌}
use native.Mathlib.Omega.{arith}
use native.Mathlib.Nat.{sub-zero}
use lib.ListN.{length, take, drop, length-drop}
use Rattle.header.specs.declared.Header.{Header}
use Rattle.std.specs.Prelude.{Ok, Err}
use Rattle.header.specs.declared.Fault.{Fault}
use Rattle.header.specs.declared.Unread.{Unread}
use Rattle.header.specs.declared.Unread.TheVariants as unread
use Rattle.header.specs.Fixed.{fixed_part, measures}
use Rattle.header.specs.Header.{Reading, read_header}
use Rattle.header.proofs.Front.{fixed_append}
use Rattle.header.proofs.Readings.{read_short}
use Rattle.stream.specs.declared.Stream.{Stream}
use Rattle.stream.specs.declared.Event.TheVariants.{More, Broken, Whole}
use Rattle.stream.specs.declared.Advance.{Advance}
use Rattle.stream.specs.Stream.{whole}
use Rattle.stream.specs.Promises.{tail_in}
use Rattle.stream.specs.Steps.{Resumed, resumed, Room, Stored, Started, Measured, InHead, InBody, AtEnd, all_taken}
use Rattle.stream.proofs.Heads.{Sized, sized, not_short}
use Rattle.stream.proofs.Good.{kept}
use Rattle.stream.proofs.Phases.{stored_head}
use Rattle.stream.proofs.Regions.{started_length, fits, head_after, kept_after, started_after}
use Rattle.stream.proofs.Gives.{same_offer, plus, moved, more_stored, broken_at_lem, lengths, body_more, body_whole, in_body_of}

-- ---- `after_head`

module _ {region : List ℕ} {s : Stream} {piece : List ℕ} {used end message : ℕ} (a : AtEnd region s piece used end message) {r : Reading}
    (e : r ≡ read_header (take (end - 0) (drop 0 region))) where
  here : Measured region s piece used end message
  here = a.measured

  is_read : read_header (take s.stored region) ≡ r
  is_read = rw a.kept (sym (rw sub-zero at e))

  end_length : length (take s.stored region) ≡ end
  end_length = started_length here.started ∙ a.kept

  pub never_short : {u : Unread} → r ≡ Err u → u ≡ unread.Short → {q : Advance} → Resumed region s piece used q region
  never_short f g =
      absurd (not_short (take s.stored region) (omega (arith, started_length here.started, here.started.above)) here.sizes
      (omega (arith, end_length)) (is_read ∙ f ∙ ap (λ (v : Unread). Err v) g))

  pub broken_end : {u : Unread} {n : Fault} → r ≡ Err u → u ≡ unread.Broken n → Resumed region s piece used (record { stream = s; taken = used; event = Broken n }) region
  broken_end f g = broken_at_lem here.started (is_read ∙ f ∙ ap (λ (v : Unread). Err v) g) (omega (arith, here.below, here.few))

  module _ {x : Header} (f : r ≡ Ok x) where
    is_lengths : (x.head ≡ end) × (x.head + x.body ≡ message)
    is_lengths = lengths (take s.stored region) x end message (is_read ∙ f) here.sizes

    pub more_end : s.taken + (length piece - used) < message → {q : Advance} → q ≡ all_taken s piece used end → Resumed region s piece used q region
    more_end h g =
        rw (g, ← a.kept)
        (body_more here.started x (is_read ∙ f) (a.kept ∙ sym is_lengths.0) (rw is_lengths.1 h))

    pub whole_end : message ≤ s.taken + (length piece - used)
        → Resumed region s piece used (record { stream = record { taken = message; stored = end }; taken = used + (message - s.taken); event = Whole x })
        region
    whole_end h =
        rw (← a.kept, ← is_lengths.1)
        (body_whole here.started x (is_read ∙ f) (a.kept ∙ sym is_lengths.0) (rw is_lengths.1 here.below) (rw is_lengths.1 h))

-- ---- `in_head` and `in_body`

module _ {region : List ℕ} {s : Stream} {piece : List ℕ} {used end message : ℕ} (i : InHead region s piece used end message) where
  lent : Started region s piece used
  lent = i.measured.started

  in_length : length (take s.stored region) ≡ s.stored
  in_length = started_length lent

  in_sized : Sized (take s.stored region) end message
  in_sized = sized (take s.stored region) i.measured.sizes

  pub past_head : end < s.taken → InBody region s piece used end message
  past_head h = record { whole = i; past = h }

  pub room_head : Room region s.stored end piece used
  room_head = record { sized = lent.sized; up = omega (arith, i.kept); inside = i.measured.small; within = lent.within }

  module _ (l : s.taken ≤ end) {after : List ℕ} {k : ℕ} (w : Stored region s.stored end piece used k after) where
    many_head : (s.stored + k ≤ end) × (used + k ≤ length piece)
    many_head = fits region s.stored end piece used k after room_head w

    moved_head : resumed (tail_in region s) piece used ≡ resumed (tail_in after (plus s k)) piece (used + k)
    moved_head =
        moved s room_head w
        (stored_head k s.taken (take s.stored region) (drop used piece) end message (rw (length-drop used piece) (omega (arith, many_head)))
        (omega (arith, in_length, lent.above)) i.measured.sizes (omega (arith, in_length, many_head)))

    after_sizes : fixed_part (take (s.stored + k) after) ≡ measures end message
    after_sizes =
        ap fixed_part (head_after region s.stored end piece used k after room_head w)
        ∙ fixed_append (take s.stored region) (take k (drop used piece)) (omega (arith, in_length, lent.above))
        ∙ i.measured.sizes

    pub more_head : s.stored + k < end
        → Resumed region s piece used (record { stream = record { taken = s.taken + k; stored = s.stored + k }; taken = used + k; event = More }) after
    more_head h =
        let m = kept_after region s.stored end piece used k after room_head w in
        let q = read_short (take (s.stored + k) after) (omega (arith, lent.above)) after_sizes (omega arith) in
        record { gives = more_stored s room_head w moved_head h q lent.padded (omega (arith, i.measured.few, i.kept, in_sized.inside)) }

    pub end_head : end ≤ s.stored + k → AtEnd after (record { taken = s.taken + k; stored = s.stored + k }) piece (used + k) end message
    end_head h =
        record {
          measured =
              record {
                started =
                    started_after region s.stored end piece used k after room_head w (s.taken + k) lent.padded (omega (arith, lent.above));
                sizes = after_sizes;
                small = i.measured.small;
                below = omega (arith, i.kept, many_head, in_sized.inside);
                few = i.measured.few;
              };
          kept = omega (arith, many_head);
          reached = omega (arith, i.kept);
        }

    pub from_head : {r : Advance} {last : List ℕ} → Resumed after (record { taken = s.taken + k; stored = s.stored + k }) piece (used + k) r last
        → Resumed region s piece used r last
    from_head g = record { gives = same_offer moved_head g.gives }

module _ {region : List ℕ} {s : Stream} {piece : List ℕ} {used end message : ℕ} (b : InBody region s piece used end message) where
  body_kept : s.stored ≡ end
  body_kept = omega (arith, b.whole.kept, b.past)

  pub end_body : AtEnd region s piece used end message
  end_body = record { measured = b.whole.measured; kept = body_kept; reached = omega (arith, b.past) }

  pub more_body : s.taken + (length piece - used) < message → {q : Advance} → q ≡ all_taken s piece used end → Resumed region s piece used q region
  more_body h g =
      let i = b.whole in
      let l = in_length i in
      let w = in_body_of s.taken (take s.stored region) end message (omega (arith, l, i.measured.started.above)) i.measured.sizes
      (omega (arith, l, body_kept)) (i.running b.past) in
      let r : Ok w.0 ≡ read_header (take (end - 0) (drop 0 region)) = sym w.1
      ∙ ap (λ (n : ℕ). read_header (take n region)) (body_kept ∙ sym (sub-zero end)) in
      more_end end_body r refl h g

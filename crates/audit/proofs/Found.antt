-- Whether a slot passes, by what a search came to.
use Rattle.std.proofs.Common.{◌≡◌, refl, sym, ap, ◌∙◌, Option, Some, None, is_some, true, false, IfSome, unwrap_or, ◌<◌}
use mathlib.Core.Bool.{Bool, not}
use mathlib.Core.List.{List}
use Prim.Native.Nat.{ℕ, ◌-◌}
use native.Mathlib.Omega.{arith}
use native.Mathlib.Decide.{dec_le}
use lib.Dec.{leb, ltb}
use lib.ListN.{length, drop, length-drop}
use borrow.Author.Tests.{le-leb, lt-leb, lt-ltb, le-ltb}
use Rattle.wire.specs.Lists.{any}
use Rattle.stream.specs.Tail.{Tail}
use Rattle.rules.specs.State.{Slot, first_by}
use Rattle.rules.proofs.First.{first_any}
use Rattle.memory.specs.Encoding.{state_of}
use Rattle.memory.proofs.Reading.{sixteen}
use Rattle.memory.specs.Places.{FoundSlot}
use Rattle.slots.proofs.Cells.{before}

pub not_ltb : (a b : ℕ) → not (ltb a b) ≡ leb b a
not_ltb a b = elim (dec_le b a) [
  | yes h ↦ ap not (le-ltb a b h) ∙ sym (le-leb b a h)
  | no h ↦ ap not (lt-ltb a b (omega arith)) ∙ sym (lt-leb b a (omega arith))
]

pub not_not : (z : Bool) → z ≡ not (not z)
not_not true = refl
not_not false = refl

pub found_any : (t : Slot Tail → Bool) (m : List ℕ) (from : ℕ) (r : Option ℕ) → FoundSlot t m from r → any t (drop from (state_of m).slots) ≡ is_some r
found_any t m from r f =
    let s = (state_of m).slots in
    let l : length (drop from s) ≡ 16 - from = length-drop from s ∙ rw (sixteen m) in
    first_any t (drop from s) ∙ rw (l, before (first_by t (drop from s)) 16 from, ← f.is) (below r f.inside)
  where
    below : (r : Option ℕ) → IfSome r (λ i. i < 16) → ltb (unwrap_or r 16) 16 ≡ is_some r
    below None h = le-ltb 16 16 (omega arith)
    below (Some i) h = lt-ltb i 16 h

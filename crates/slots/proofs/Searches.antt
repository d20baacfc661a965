-- What a search among the names or the pending calls of a slot came to, by what it said of each.
use Rattle.std.proofs.Common.{Bool, true, false, ◌&&◌, List, [], ◌≡◌, sym, ◌∙◌, ℕ, ◌+◌, ◌*◌, ◌≤◌, ◌<◌, eqb, ltb, arith, length, get_or, drop}
use Rattle.std.proofs.Common.{length-drop, Option, Some, None, is_some, MatchOption}
use native.Mathlib.Decide.{dec_le}
use lib.ListN.{drop_of_length-le}
use lib.Seq.{get_or-drop}
use borrow.Author.Tests.{lt-ltb, le-ltb}
use Rattle.wire.specs.Bytes.{same}
use Rattle.wire.specs.Words.{word_at}
use Rattle.wire.specs.declared.Order.TheVariants.{Little}
use Rattle.policy.specs.Names.{owns, name_width}
use Rattle.rules.specs.State.{Pending, first_by}
use Rattle.rules.specs.Pending.{is_call}
use Rattle.memory.specs.Layout.{slot_start, first_callee, first_serial, call_width, first_name}
use Rattle.memory.proofs.Search.{first_found, Said}
use Rattle.slots.specs.Slots.{peer_at, name_at, FoundIn}
use Rattle.slots.proofs.Cells.{names_next, calls_next, owns_first}

-- ---- of any list

module _ {A : Type 0} (t : A → Bool) (xs : List A) (d : A) (from : ℕ) where
  within : from ≤ length xs → (r : Option ℕ)
      → MatchOption r ((k : ℕ) → from ≤ k → k < length xs → Said t xs d false k)
      (λ i. (from ≤ i) × (i < length xs) × Said t xs d true i × ((k : ℕ) → from ≤ k → k < i → Said t xs d false k))
      → FoundIn t xs from r
  within h None f = record { inside = tt; is = omega (arith, length-drop from xs, first_found t xs d from h None f) }
  within h (Some i) f = let q = first_found t xs d from h (Some i) f in record { inside = q.0; is = q.1 }

  past : length xs < from → (r : Option ℕ) → MatchOption r (Unit {0}) (λ i. (from ≤ i) × (i < length xs)) → FoundIn t xs from r
  unfolding first_by
  past h None f = record { inside = tt; is = rw (drop_of_length-le xs {i = from} (omega arith)) }
  past h (Some i) f = absurd (omega (arith, f.0, f.1))

  some : (r : Option ℕ)
      → MatchOption r ((k : ℕ) → from ≤ k → k < length xs → Said t xs d false k)
      (λ i. (from ≤ i) × (i < length xs) × Said t xs d true i × ((k : ℕ) → from ≤ k → k < i → Said t xs d false k))
      → MatchOption r (Unit {0}) (λ i. (from ≤ i) × (i < length xs))
  some None f = tt
  some (Some i) f = (f.0, f.1)

  pub found_in : (n : ℕ) → n ≡ length xs → (r : Option ℕ)
      → MatchOption r ((k : ℕ) → from ≤ k → k < n → Said t xs d false k)
      (λ i. (from ≤ i) × (i < n) × Said t xs d true i × ((k : ℕ) → from ≤ k → k < i → Said t xs d false k))
      → FoundIn t xs from r
  found_in n e r f = let g = rw e at f in elim (dec_le from (length xs)) [
    | yes h ↦ within h r g
    | no h ↦ past (omega arith) r (some r g)
  ]

-- whether there is one
pub found_some : {A : Type 0} (t : A → Bool) (xs : List A) (from : ℕ) (r : Option ℕ) → FoundIn t xs from r
    → ltb (first_by t (drop from xs)) (length (drop from xs)) ≡ is_some r
found_some t xs from None f = le-ltb (first_by t (drop from xs)) (length (drop from xs)) (omega (arith, f.is))
found_some t xs from (Some i) f = lt-ltb (first_by t (drop from xs)) (length (drop from xs)) (omega (arith, length-drop from xs, f.inside, f.is))

-- ---- of the names

pub name_said : (m : List ℕ) (i j : ℕ) (name : List ℕ) (r b : Bool) → r ≡ same (name_at m i j) name → get_or m (slot_start i + first_name + name_width * j) 0 < 256
    → r ≡ b → j < length (peer_at m i).names
    → same (get_or (peer_at m i).names j []) name ≡ b
name_said m i j name r b e k q h =
    let n : j + 0 ≡ j = omega arith in
    let g : get_or (peer_at m i).names j [] ≡ name_at m i j = sym (rw n at (get_or-drop j (peer_at m i).names 0 [])) ∙ rw (names_next m i j h k) in
    rw g (sym e ∙ q)

pub owns_found : (m : List ℕ) (i from : ℕ) (name : List ℕ) (r : Option ℕ) → FoundIn (λ x. same x name) (peer_at m i).names from r
    → is_some r ≡ owns (drop from (peer_at m i).names) name
owns_found m i from name r f =
    sym (owns_first name (drop from (peer_at m i).names) ∙ found_some (λ x. same x name) (peer_at m i).names from r f)

-- ---- of the pending calls

abbrev pub no_call : Pending
no_call = record { callee = 0; serial = 0; tick = 0 }

pub call_said : (m : List ℕ) (i j callee serial p q : ℕ) (b : Bool) → p ≡ word_at Little m (slot_start i + (first_callee + call_width * j))
    → q ≡ word_at Little m (slot_start i + (first_serial + call_width * j))
    → eqb p callee && eqb q serial ≡ b → j < length (peer_at m i).pending
    → is_call callee serial (get_or (peer_at m i).pending j no_call) ≡ b
call_said m i j callee serial p q b e f k h =
    let n : j + 0 ≡ j = omega arith in
    let g = sym (rw n at (get_or-drop j (peer_at m i).pending 0 no_call)) in
    rw (g, calls_next m i j h, ← e, ← f) k

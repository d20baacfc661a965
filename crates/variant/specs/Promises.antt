-- What the walk's functions ensure among themselves, in the terms of the definitions.
use Rattle.std.specs.Prelude.{◌≡◌, true, false, cond, ◌&&◌, List, ℕ, suc, ◌-◌, ◌%◌, ◌≤◌, ◌<◌, leb, ltb, eqb, length, drop, Option, Some, None}
use Rattle.wire.specs.declared.Order.{Order}
use Rattle.types.specs.Types.{single}
use Rattle.basics.specs.Values.{padded}
use Rattle.variant.specs.declared.Begin.{Begin}
use Rattle.variant.specs.declared.Begin.TheVariants as begin
use Rattle.variant.specs.declared.Step.{Step}
use Rattle.variant.specs.declared.Step.TheVariants as step
use Rattle.variant.specs.Opening.{open_limit, begin_of}
use Rattle.variant.specs.Walk.{due, value_of, row, items}

-- what is opened may be opened, and its places are in the head
abbrev pub BeginFits : List ℕ → ℕ → List ℕ → ℕ → ℕ → Option Begin → Type 0
BeginFits h depth s i at (Some (begin.Done to)) = (at < to) × (to ≤ length h)
BeginFits h depth s i at (Some (begin.Array start to)) = (i < length s) × (depth < open_limit) × (at < start) × (start ≤ to) × (to ≤ length h)
BeginFits h depth s i at (Some (begin.Row start)) = (i < length s) × (depth < open_limit) × (at ≤ start) × (start ≤ length h)
BeginFits h depth s i at (Some (begin.Variant from to)) = (depth < open_limit) × (at < from) × (from < to) × (to ≤ length h)
BeginFits h depth s i at None = Unit {0}

pub record BeginAt (o : Order) (h : List ℕ) (depth : ℕ) (s : List ℕ) (i at : ℕ) (r : Option Begin) : Type 0 where
  pub is : r ≡ begin_of o h depth (drop i s) at
  pub fits : BeginFits h depth s i at r

-- a value by the type that is all of s, which must be one
abbrev pub typed_of : Order → List ℕ → ℕ → List ℕ → ℕ → Option ℕ
typed_of o h depth s at = elim (single s) [ true ↦ value_of o h depth s at | false ↦ None ]

abbrev pub row_of : Order → List ℕ → ℕ → List ℕ → ℕ → Option ℕ
row_of o h depth s at = row (suc (suc (due h depth at))) o h depth s at

abbrev pub items_of : Order → List ℕ → ℕ → List ℕ → ℕ → Option ℕ
items_of o h depth s at = items (suc (suc (due h depth at))) o h depth s at

abbrev pub stepped : Option ℕ → Option Step
stepped (Some n) = Some (step.At n)
stepped None = None

-- a row begins, or a value stops
abbrev pub step_in : Option Begin → Option ℕ → Option Step
step_in (Some (begin.Done to)) v = stepped v
step_in (Some (begin.Array start to)) v = stepped v
step_in (Some (begin.Row start)) v = Some (step.Row start)
step_in (Some (begin.Variant from to)) v = stepped v
step_in None v = stepped v

abbrev pub step_of : Order → List ℕ → ℕ → List ℕ → ℕ → Option Step
step_of o h depth s at = step_in (begin_of o h depth s at) (value_of o h depth s at)

-- numbers of k bytes from `at` up to the end of h, by its length alone: what an array of numbers is walked by (`items_numbers`, proofs/Widths.antt)
unfoldable pub numbers_at : List ℕ → ℕ → ℕ → Option ℕ
numbers_at h k at =
    cond (leb (length h) at) (Some at)
    (elim (padded h k at) [
      | None ↦ None
      | Some a ↦ cond (ltb a (length h) && eqb ((length h - a) % k) 0) (Some (length h)) None
    ])

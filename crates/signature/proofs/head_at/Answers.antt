-- `signature::head_at` meets its contract: the tests that led to each `return` say which case of `head_of` holds.
use Rattle.std.proofs.Common.{◌≡◌, Bool, true, false, ◌&&◌, ◌||◌, List, ℕ, ◌+◌, ◌≤◌, ◌<◌, arith, eqb, ltb, length, drop, get_or, rules, eq-eqb}
use Rattle.std.proofs.Common.{ne_eqb, ltb-true, Some, None}
use Rattle.signature.specs.Signature.{basic, head_of}
use Rattle.signature.specs.Reader.{HeadAt}
use Rattle.signature.specs.declared.FirstCode.TheVariants.{Plain, Array, Dict, Paren}
use Rattle.wire.specs.Bytes.{byte, front}
use Rattle.wire.proofs.From.{next, past, skip}
use Rattle.wire.proofs.Texts.{both_second}
use Rattle.signature.proofs.head_at.Goals as goal

none_left : {s : List ℕ} {at arrays parens : ℕ} → length s ≤ at → HeadAt s at arrays parens None
unfolding head_of
none_left {s} {at} h = record { is = rw (past s at h); fits = tt }

few : (b : Bool) (n : ℕ) → b && ltb n 32 ≡ true → n < 32
few b n t = ltb-true n 32 (both_second b (ltb n 32) t)

module _ {s : List ℕ} {at arrays parens : ℕ} (h : at < length s) {k : Bool} (e : k ≡ basic (get_or s at 0)) where
  plain : k || eqb (get_or s at 0) (byte "v") ≡ true → HeadAt s at arrays parens (Some Plain)
  unfolding head_of
  plain t = record { is = rw (next s at h, ← e, t); fits = h }

  module _ (t : k || eqb (get_or s at 0) (byte "v") ≡ false) where
    paren : eqb (get_or s at 0) (byte "(") && ltb parens 32 ≡ true → HeadAt s at arrays parens (Some Paren)
    unfolding head_of
    paren p = record { is = rw (next s at h, ← e, t, p); fits = (h, few (eqb (get_or s at 0) (byte "(")) parens p) }

    module _ (p : eqb (get_or s at 0) (byte "(") && ltb parens 32 ≡ false) where
      other : eqb (get_or s at 0) (byte "a") && ltb arrays 32 ≡ false → HeadAt s at arrays parens None
      unfolding head_of
      other a = record { is = rw (next s at h, ← e, t, p, a); fits = tt }

      module _ (a : eqb (get_or s at 0) (byte "a") && ltb arrays 32 ≡ true) {q : ℕ} (f : q ≡ front (drop (at + 1) s)) where
        array : (q ≡ byte "{" → ⊥) → HeadAt s at arrays parens (Some Array)
        unfolding head_of
        array n = record { is = rw (next s at h, ← e, t, p, a, ← f, ne_eqb q (byte "{") n); fits = (h, few (eqb (get_or s at 0) (byte "a")) arrays a) }

        dict : q ≡ byte "{" → {r : ℕ} → r ≡ front (drop (at + 2) s) → {key : Bool} → key ≡ basic r → HeadAt s at arrays parens (Some (Dict key))
        unfolding head_of
        dict n {r} g {key} b =
            record {
              is = rw (next s at h, ← e, t, p, a, ← f, eq-eqb q (byte "{") n, skip s (at + 1) 1 (at + 2) (omega arith), b, g);
              fits = (h, few (eqb (get_or s at 0) (byte "a")) arrays a);
            }

ruleset heads = (none_left, plain, paren, other, array, dict, rules)

pub returns-then-s-at : goal.returns-then-s-at
returns-then-s-at c = search heads

pub returns-then-is_basic-b : goal.returns-then-is_basic-b
returns-then-is_basic-b c = search heads

pub returns-then-b-parens : goal.returns-then-b-parens
returns-then-b-parens c = search heads

pub returns-then-peek-eq123 : goal.returns-then-peek-eq123
returns-then-peek-eq123 c = search heads

pub returns-then-b-arrays : goal.returns-then-b-arrays
returns-then-b-arrays c = search heads

pub returns : goal.returns
returns c = search heads

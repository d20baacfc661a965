-- A name and a prefix: the same length, or a dot after the prefix.
use Rattle.std.proofs.Common.{◌≡◌, refl, sym, ◌∙◌, Bool, false, ◌&&◌, List, [], ◌∷◌, ◌++◌, ℕ, ◌-◌, ◌≤◌, ◌<◌, arith, eqb, length, take, drop, get_or}
use Rattle.std.proofs.Common.{rules, eq-eqb, ne_eqb}
use mathlib.Core.Bool.{and-true, and-false, and_assoc, or-false}
use native.Mathlib.Nat.{sub-zero}
use Rattle.wire.specs.Bytes.{byte, bytes, same}
use Rattle.wire.proofs.Texts.{same_length}
use Rattle.names.specs.Namespace.{is_prefix, in_namespace}

-- a name that is no longer than the prefix has no dot after it
starts_short : (p n : List ℕ) → length n ≤ length p → is_prefix (p ++ bytes ".") n ≡ false
starts_short [] [] h = refl
starts_short [] (y ∷ n) h = absurd (omega arith)
starts_short (x ∷ p) [] h = refl
starts_short (x ∷ p) (y ∷ n) h = rw (starts_short p n (omega arith), and-false)

-- a longer name: its first bytes are the prefix, and the next is the dot
starts_dot : (p n : List ℕ) → length p < length n → is_prefix (p ++ bytes ".") n ≡ same p (take (length p) n) && eqb (byte ".") (get_or n (length p) 0)
unfolding same
starts_dot [] [] h = absurd (omega arith)
starts_dot [] (y ∷ n) h = and-true (eqb (byte ".") y)
starts_dot (x ∷ p) [] h = absurd (omega arith)
starts_dot (x ∷ p) (y ∷ n) h = rw (starts_dot p n (omega arith), and_assoc (eqb x y) (same p (take (length p) n)) (eqb (byte ".") (get_or n (length p) 0)))

module _ (p n : List ℕ) where
  pub shorter : length n < length p → false ≡ in_namespace p n
  unfolding in_namespace
  shorter h = rw (same_length p n (λ e. omega arith), starts_short p n (omega arith))

  pub as_long : length n ≡ length p → {r : Bool} → r ≡ same p n → r ≡ in_namespace p n
  unfolding in_namespace
  as_long h e = e ∙ rw (starts_short p n (omega arith), or-false)

  module _ (h : length p ≤ length n) (k : length n ≡ length p → ⊥) where
    pub no_dot : (get_or n (length p) 0 ≡ byte "." → ⊥) → false ≡ in_namespace p n
    unfolding in_namespace
    no_dot e =
        rw (same_length p n (λ e. k (sym e)), starts_dot p n (omega arith), ne_eqb (byte ".") (get_or n (length p) 0) (λ q. e (sym q)), and-false)

    pub dotted : get_or n (length p) 0 ≡ byte "." → {r : Bool} → r ≡ same p (take (length p - 0) (drop 0 n)) → r ≡ in_namespace p n
    unfolding in_namespace
    dotted e f =
        f ∙ rw (sub-zero (length p), same_length p n (λ e. k (sym e)), starts_dot p n (omega arith), eq-eqb (byte ".") (get_or n (length p) 0) (sym e), and-true)

-- what answers each need of `in_namespace`
pub ruleset under = (shorter, as_long, no_dot, dotted, rules)

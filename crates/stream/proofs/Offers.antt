-- What a piece loses, over any streams: at most all of it, and one byte at least where it has one (rule 9.2).
use mathlib.Core.List.{List, [], ◌∷◌}
use mathlib.Core.Path.{◌≡◌, refl}
use Prim.Native.Nat.{ℕ, ◌≤◌, ◌<◌}
use native.Mathlib.Omega.{arith}
use lib.ListN.{length}
use Rattle.stream.specs.Stream.{Verdict, more, broken, whole, Streams, Offer, bump, offer}
use Rattle.stream.specs.Steps.{follows}

module _ {S : Type 0} (O : Streams S) where
  pub offer_none : (s : S) → offer O s [] ≡ record { verdict = more; taken = 0; stream = s }
  unfolding offer
  offer_none s = refl

  -- a piece's first byte is taken; then its verdict says what follows
  pub offer_step : (s : S) (b : ℕ) (p : List ℕ) → offer O s (b ∷ p) ≡ bump (follows (O.judge (O.push s b)) (O.push s b) (offer O (O.push s b) p))
  unfolding offer
  offer_step s b p = go (O.judge (O.push s b))
    where
      go : (v : Verdict)
          → elim v [
            | more ↦ bump (offer O (O.push s b) p)
            | broken a ↦ record { verdict = broken a; taken = 1; stream = O.push s b }
            | whole h x ↦ record { verdict = whole h x; taken = 1; stream = O.push s b }
          ]
          ≡ bump (follows v (O.push s b) (offer O (O.push s b) p))
      go more = refl
      go (broken a) = refl
      go (whole h x) = refl

  follows_within : (v : Verdict) (s : S) (o : Offer S) (n : ℕ) → o.taken ≤ n → (follows v s o).taken ≤ n
  follows_within more s o n l = l
  follows_within (broken a) s o n l = omega arith
  follows_within (whole h x) s o n l = omega arith

  pub taken_within : (s : S) (p : List ℕ) → (offer O s p).taken ≤ length p
  taken_within s [] = rw (offer_none s) (omega arith)
  taken_within s (b ∷ p) =
      let l = follows_within (O.judge (O.push s b)) (O.push s b) (offer O (O.push s b) p) (length p) (taken_within (O.push s b) p) in
      rw (offer_step s b p) (omega arith)

  pub taken_some : (s : S) (p : List ℕ) → 0 < length p → 0 < (offer O s p).taken
  taken_some s [] l = absurd (omega arith)
  taken_some s (b ∷ p) l = rw (offer_step s b p) (omega arith)

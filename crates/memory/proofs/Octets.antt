-- Numbers below a bound, as a test and by place; and the head in a slot of bytes is one of bytes.
use mathlib.Core.Path.{◌≡◌, refl}
use mathlib.Core.Bool.{Bool, true, false, cond, ◌&&◌}
use mathlib.Core.List.{List, [], ◌∷◌, ◌++◌}
use Prim.Native.Nat.{ℕ, zero, suc, min, ◌<◌}
use lib.Dec.{ltb, eqb}
use lib.ListN.{take, drop}
use borrow.Author.Tests.{lt-ltb, ltb-true}
use Rattle.wire.specs.Bytes.{Below}
use Rattle.wire.specs.Lists.{every, distinct}
use Rattle.wire.specs.Words.{word_at}
use Rattle.wire.specs.declared.Order.TheVariants.{Little}
use Rattle.wire.proofs.Texts.{both_first, both_second, both_true}
use Rattle.tables.proofs.Words.{bytes_take, bytes_drop}
use Rattle.rules.specs.State.{free, peer}
use Rattle.rules.proofs.Any.{first_good, rest_distinct}
use Rattle.memory.specs.Layout.{head_at, head_room, first_byte}
use Rattle.memory.specs.Encoding.{slot_tail, peer_of, slot_of}
use Rattle.memory.specs.Sound.{head_octets}

-- ---- every thing of a list

module _ {A : Type 0} (t : A → Bool) where
  pub every_snoc : (l : List A) (x : A) → every t l ≡ true → t x ≡ true → every t (l ++ (x ∷ [])) ≡ true
  every_snoc [] x e h = rw h
  every_snoc (y ∷ l) x e h =
      both_true (t y) (every t (l ++ (x ∷ []))) (both_first (t y) (every t l) e) (every_snoc l x (both_second (t y) (every t l) e) h)

  pub every_both : (u : A → Bool) (l : List A) → every t l ≡ true → every u l ≡ true → every (λ x. t x && u x) l ≡ true
  every_both u [] e f = refl
  every_both u (x ∷ l) e f =
      both_true (t x && u x) (every (λ y. t y && u y) l) (both_true (t x) (u x) (both_first (t x) (every t l) e) (both_first (u x) (every u l) f))
      (every_both u l (both_second (t x) (every t l) e) (both_second (u x) (every u l) f))

  -- what each thing that passes one test passes too
  pub every_each : (u : A → Bool) → ((x : A) → t x ≡ true → u x ≡ true) → (l : List A) → every t l ≡ true → every u l ≡ true
  every_each u f [] e = refl
  every_each u f (x ∷ l) e =
      both_true (u x) (every u l) (f x (both_first (t x) (every t l) e)) (every_each u f l (both_second (t x) (every t l) e))

  pub distinct_every : (is : A → A → Bool) (l : List A) → distinct t is l ≡ true → every t l ≡ true
  distinct_every is [] e = refl
  distinct_every is (x ∷ l) e = both_true (t x) (every t l) (first_good t is x l e) (distinct_every is l (rest_distinct t is x l e))

-- ---- numbers below k

pub every_below : (k : ℕ) (l : List ℕ) → Below k l → every (λ n. ltb n k) l ≡ true
every_below k [] h = refl
every_below k (x ∷ l) h = both_true (ltb x k) (every (λ n. ltb n k) l) (lt-ltb x k (h 0)) (every_below k l (λ i. h (suc i)))

pub below_every : (k : ℕ) (l : List ℕ) → 0 < k → every (λ n. ltb n k) l ≡ true → Below k l
below_every k [] h e i = h
below_every k (x ∷ l) h e zero = ltb-true x k (both_first (ltb x k) (every (λ n. ltb n k) l) e)
below_every k (x ∷ l) h e (suc i) = below_every k l h (both_second (ltb x k) (every (λ n. ltb n k) l) e) i

-- ---- the head in a slot

pub slot_octets : (b : List ℕ) → Below 256 b → head_octets (slot_of b) ≡ true
unfolding slot_of peer_of slot_tail head_octets
slot_octets b h = go (eqb (word_at Little b 0) 0)
  where
    go : (z : Bool) → head_octets (cond z free (peer (peer_of b))) ≡ true
    go true = refl
    go false =
        let n = min (word_at Little b head_at) head_room in
        every_below 256 (take n (drop first_byte b)) (bytes_take n (drop first_byte b) (bytes_drop first_byte b h))

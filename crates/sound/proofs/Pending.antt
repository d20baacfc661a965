-- Good pending calls are good by themselves, not newer than the last tick, and have connected callees; serials of 32 bits.
use mathlib.Core.Path.{◌≡◌, refl, subst}
use mathlib.Core.Bool.{Bool, true, ◌&&◌}
use mathlib.Core.List.{List, [], ◌∷◌, ◌++◌}
use Prim.Native.Nat.{ℕ, ◌≤◌, ◌<◌}
use native.Mathlib.Omega.{arith}
use lib.Dec.{leb}
use borrow.Author.Tests.{lt-ltb, le-leb, leb-true}
use Rattle.wire.specs.Lists.{any, every, distinct}
use Rattle.wire.proofs.Texts.{both, both_first, both_second, both_true}
use Rattle.stream.specs.Tail.{Tail}
use Rattle.rules.specs.State.{Pending, Slot, is_peer}
use Rattle.rules.specs.Pending.{is_call, same_call, awaits}
use Rattle.rules.proofs.Fewer.{Fewer, none, skip, keep}
use Rattle.rules.proofs.Any.{first_good, first_once, rest_distinct, distinct_any, distinct_pass}
use Rattle.rules.proofs.Waits.{call, call_callee, call_own, has_serial, ok_pending}
use Rattle.memory.specs.Good.{good_pending}
use Rattle.memory.proofs.Octets.{every_snoc, distinct_every, every_each}
use Rattle.memory.specs.Sound.{word32}

-- ---- what every call of a list keeps

pub fewer_every : {A : Type 0} (t : A → Bool) {xs ys : List A} → Fewer xs ys → every t xs ≡ true → every t ys ≡ true
fewer_every t none e = e
fewer_every t (skip {x = x} {xs = xs} f) e = fewer_every t f (both_second (t x) (every t xs) e)
fewer_every t (keep {x = x} {xs = xs} {ys = ys} f) e =
    both_true (t x) (every t ys) (both_first (t x) (every t xs) e) (fewer_every t f (both_second (t x) (every t xs) e))

-- serials of 32 bits
abbrev pub narrow_call : Pending → Bool
narrow_call w = word32 w.serial

abbrev pub narrow_pending : List Pending → Bool
narrow_pending ws = every narrow_call ws

pub narrow_snoc : (ws : List Pending) (c s k : ℕ) → narrow_pending ws ≡ true → s < 4294967296 → narrow_pending (ws ++ (call c s k ∷ [])) ≡ true
narrow_snoc ws c s k e h = every_snoc narrow_call ws (call c s k) e (lt-ltb s 4294967296 h)

-- no call is newer than the tick
abbrev pub dated_call : ℕ → Pending → Bool
dated_call tick w = leb w.tick tick

abbrev pub dated : ℕ → List Pending → Bool
dated tick ws = every (dated_call tick) ws

pub dated_snoc : (tick : ℕ) (ws : List Pending) (c s : ℕ) → dated tick ws ≡ true → dated tick (ws ++ (call c s tick ∷ [])) ≡ true
dated_snoc tick ws c s e = every_snoc (dated_call tick) ws (call c s tick) e (le-leb tick tick (omega arith))

pub dated_later : (tick now : ℕ) → tick ≤ now → (ws : List Pending) → dated tick ws ≡ true → dated now ws ≡ true
dated_later tick now h ws e =
    every_each (dated_call tick) (dated_call now) (λ w d. let k : w.tick ≤ tick = leb-true w.tick tick d in le-leb w.tick now (omega arith)) ws e

-- ---- good pending calls are good by themselves and not newer than the tick, and their callees are connected

distinct_both : {A : Type 0} (t u : A → Bool) (is : A → A → Bool) (xs : List A) → distinct t is xs ≡ true → every u xs ≡ true
    → distinct (λ x. t x && u x) is xs ≡ true
unfolding distinct
distinct_both t u is [] e d = refl
distinct_both t u is (x ∷ xs) e d =
    rw (first_good t is x xs e, both_first (u x) (every u xs) d, first_once t is x xs e)
    (distinct_both t u is xs (rest_distinct t is x xs e) (both_second (u x) (every u xs) d))

module _ (all : List (Slot Tail)) (tick : ℕ) where
  abbrev known : Pending → Bool
  known w = any (is_peer w.callee) all

  abbrev good_call : Pending → Bool
  good_call w = known w && has_serial w && dated_call tick w

  pub pending_ok : (ws : List Pending) → good_pending all tick ws ≡ true → ok_pending ws ≡ true
  unfolding good_pending
  pending_ok ws e = distinct_pass good_call same_call has_serial call_own ws e (λ w h p. search both)

  pub pending_dated : (ws : List Pending) → good_pending all tick ws ≡ true → dated tick ws ≡ true
  unfolding good_pending
  pending_dated ws e =
      distinct_every (dated_call tick) same_call ws (distinct_pass good_call same_call (dated_call tick) call_own ws e (λ w h p. search both))

  pub pending_known : (ws : List Pending) → good_pending all tick ws ≡ true → (c s : ℕ) → awaits c s ws ≡ true → any (is_peer c) all ≡ true
  unfolding good_pending awaits
  pending_known ws e c s h =
      distinct_any good_call same_call (any (is_peer c) all ≡ true) (is_call c s)
      (λ w p q. let k : known w ≡ true = search both in subst (λ (x : ℕ). any (is_peer x) all ≡ true) (call_callee c s w q) k) ws e h

  pub pending_good : (ws : List Pending) → ok_pending ws ≡ true → dated tick ws ≡ true
      → ((c s : ℕ) → awaits c s ws ≡ true → any (is_peer c) all ≡ true) → good_pending all tick ws ≡ true
  unfolding good_pending awaits
  pending_good ws e d h =
      distinct_pass (λ w. has_serial w && dated_call tick w) same_call good_call call_own ws (distinct_both has_serial (dated_call tick) same_call ws e d)
      (λ w o p. rw (h w.callee w.serial p) o)

-- The numbers that a piece is answered with: a judged message 0 or 20 to 26, a broken head 1 to 9, and never 51.
use mathlib.Core.Path.{◌≡◌, refl, sym, subst, ◌∙◌}
use mathlib.Core.Logic.{◌⊎◌, inl, inr}
use mathlib.Core.Bool.{true, ◌&&◌}
use mathlib.Core.List.{List}
use Prim.Native.Nat.{ℕ, ◌+◌, ◌≤◌}
use native.Mathlib.Omega.{arith}
use lib.Dec.{eqb, ltb, leb}
use lib.ListN.{take}
use borrow.Author.Tests.{eqb-true, leb-true}
use Rattle.wire.proofs.Texts.{impossible, both_first, both_second, either}
use Rattle.header.specs.declared.Header.{Header}
use Rattle.std.specs.Prelude.{Ok, Err}
use Rattle.header.specs.declared.Fault.{Fault}
use Rattle.header.specs.declared.Unread.TheVariants.{Short, Broken}
use Rattle.header.specs.Faults.{fault_number}
use Rattle.header.specs.Header.{Reading, read_header}
use Rattle.header.proofs.Front.{fixed_number}
use Rattle.header.proofs.Readings.{head_number, read_whole}
use Rattle.stream.specs.Stream.{Verdict, more, broken, whole}
use Rattle.stream.specs.Tail.{finished}
use Rattle.stream.proofs.Heads.{Known, early, late, known}
use Rattle.rules.specs.State.{Peer, State}
use Rattle.rules.specs.Judge.{Judged, judged}
use Rattle.rules.specs.Places.{is_judged}
use Rattle.wire.proofs.Tests.{choice}
use Rattle.sound.proofs.Judged.{judged_any}

-- ---- a judged message

pub judged_low : (a : ℕ) → is_judged a ≡ true → (a ≡ 0) ⊎ ((20 ≤ a) × (a ≤ 26))
judged_low a h =
    elim (either (eqb a 0) (leb 20 a && leb a 26) h) [
      | inl q ↦ inl (eqb-true a 0 q)
      | inr q ↦ inr (leb-true 20 a (both_first (leb 20 a) (leb a 26) q), leb-true a 26 (both_second (leb 20 a) (leb a 26) q))
    ]

pub judged_few : (a : ℕ) → is_judged a ≡ true → a ≤ 26
judged_few a h = elim (judged_low a h) [ inl q ↦ omega arith | inr q ↦ q.1 ]

pub judged_proper : {S : Type 0} (image : List ℕ) (s : State S) (i : ℕ) (sender : Peer S) (x : Header) (h : List ℕ)
    → is_judged (judged image s i sender h x).judgement.answer ≡ true
judged_proper {S} image s i sender x h =
    judged_any image s i sender x (λ (j : Judged S). is_judged j.judgement.answer ≡ true) (λ a p q. p) (λ l. refl) (λ d j p. p) refl (λ m c. refl)
    (λ j q e r w. refl) (λ j q e w n l. refl) (λ j q e r w. refl) h

-- ---- a broken head

read_number : (s : List ℕ) (a : Fault) → read_header s ≡ Err (Broken a) → (1 ≤ fault_number a) × (fault_number a ≤ 9)
read_number s a e = go (known s e)
  where
    go : Known s (Err (Broken a)) → (1 ≤ fault_number a) × (fault_number a ≤ 9)
    go (early l k f) = let n = fixed_number s f in omega arith
    go (late {head = h} l k z w) = let n = head_number (take h s) (sym (read_whole s l z.sizes w) ∙ e) in omega arith

-- a message that is broken or whole is so by what its head reads as
abbrev Says : Reading → Verdict → Type 0
Says r more = Unit {0}
Says r (broken a) = (f : Fault) × (r ≡ Err (Broken f)) × (fault_number f ≡ a)
Says r (whole h x) = r ≡ Ok x

finished_read : (n : ℕ) (h : List ℕ) (r : Reading) → Says r (finished n h r)
finished_read n h (Err Short) = tt
finished_read n h (Err (Broken f)) = (f, refl, refl)
finished_read n h (Ok x) = choice (λ (v : Verdict). Says (Ok x) v) (ltb n (x.head + x.body)) _ _ (λ e. tt) (λ e. refl)

pub broken_read : (n : ℕ) (h : List ℕ) (a : ℕ) → finished n h (read_header h) ≡ broken a
    → (f : Fault) × (read_header h ≡ Err (Broken f)) × (fault_number f ≡ a)
broken_read n h a e = subst (Says (read_header h)) e (finished_read n h (read_header h))

pub whole_read : (n : ℕ) (k h : List ℕ) (x : Header) → finished n k (read_header k) ≡ whole h x → read_header k ≡ Ok x
whole_read n k h x e = subst (Says (read_header k)) e (finished_read n k (read_header k))

pub broken_number : (n : ℕ) (h : List ℕ) (a : ℕ) → finished n h (read_header h) ≡ broken a → (1 ≤ a) × (a ≤ 9)
broken_number n h a e = let q = broken_read n h a e in subst (λ (m : ℕ). (1 ≤ m) × (m ≤ 9)) q.2 (read_number h q.0 q.1)

-- The head that a piece of bytes leaves is one of bytes, and a message that it makes whole is read from such a head.
use mathlib.Core.Path.{◌≡◌, refl, sym, ◌∙◌}
use mathlib.Core.Bool.{true}
use mathlib.Core.List.{List, [], ◌∷◌}
use Prim.Native.Nat.{ℕ}
use lib.Dec.{ltb}
use lib.ListN.{length}
use Rattle.wire.specs.Lists.{every}
use Rattle.wire.proofs.Texts.{impossible, both_first, both_second}
use Rattle.header.specs.Header.{read_header}
use Rattle.header.specs.declared.Header.{Header}
use Rattle.std.specs.Prelude.{Ok}
use Rattle.stream.specs.Stream.{Verdict, more, broken, whole, Streams, Offer, offer, settled}
use Rattle.stream.specs.Steps.{follows}
use Rattle.stream.specs.Tail.{Tail, push, judge, tails, head_end}
use Rattle.stream.proofs.Offers.{offer_step}
use Rattle.memory.proofs.Octets.{every_snoc}
use Rattle.memory.specs.Sound.{octet}
use Rattle.wire.proofs.Tests.{choice}
use Rattle.sound.proofs.Numbers.{whole_read}

push_octets : (t : Tail) (b : ℕ) → every octet t.head ≡ true → octet b ≡ true → every octet (push t b).head ≡ true
push_octets t b e h =
    choice (λ (l : List ℕ). every octet l ≡ true) (ltb (length t.head) (head_end t.head)) _ _ (λ c. every_snoc octet t.head b e h) (λ c. e)

pub taken_octets : (t : Tail) (p : List ℕ) → every octet t.head ≡ true → every octet p ≡ true → every octet (offer tails t p).stream.head ≡ true
unfolding offer
taken_octets t [] e h = e
taken_octets t (b ∷ p) e h =
    let pushed = push_octets t b e (both_first (octet b) (every octet p) h) in
    let later = taken_octets (push t b) p pushed (both_second (octet b) (every octet p) h) in
    rw (offer_step tails t b p)
    (elim (judge (push t b)) as (λ (v : Verdict). every octet (follows v (push t b) (offer tails (push t b) p)).stream.head ≡ true)
    [ more ↦ later | broken n ↦ pushed | whole k x ↦ pushed ])

pub offer_octets : (t : Tail) (p : List ℕ) → every octet t.head ≡ true → every octet p ≡ true
    → every octet (settled tails (offer tails t p).verdict (offer tails t p).stream).head ≡ true
offer_octets t p e h =
    let o = offer tails t p in
    let a = taken_octets t p e h in
    elim o.verdict as (λ (v : Verdict). every octet (settled tails v o.stream).head ≡ true) [ more ↦ a | broken n ↦ a | whole k x ↦ refl ]

-- ---- a verdict

-- but for `more`, it is what the stream left is judged
pub offer_judged : {S : Type 0} (O : Streams S) (v : Verdict) → (v ≡ more → ⊥) → (s : S) (p : List ℕ) → (offer O s p).verdict ≡ v
    → O.judge (offer O s p).stream ≡ v
unfolding offer
offer_judged O v n s [] e = absurd (n (sym e))
offer_judged {S} O v n s (b ∷ p) e =
    let t = O.push s b in
    let after : Verdict → Offer S = λ u. follows u t (offer O t p) in
    rw (offer_step O s b p)
    ((elim (O.judge t) as (λ (u : Verdict). O.judge t ≡ u → (after u).verdict ≡ v → O.judge (after u).stream ≡ v)
    [ more ↦ λ q a. offer_judged O v n t p a | broken k ↦ λ q a. q ∙ a | whole k y ↦ λ q a. q ∙ a ]) refl (rw (offer_step O s b p) at e))

pub offer_read : (t : Tail) (p h : List ℕ) (x : Header) → (offer tails t p).verdict ≡ whole h x → read_header (offer tails t p).stream.head ≡ Ok x
offer_read t p h x e =
    let o = (offer tails t p).stream in
    whole_read o.taken o.head h x (offer_judged tails (whole h x) (λ q. impossible cc) t p e)

-- Two promises about each call, for any image and any memory of bytes (rules 8.1 and 10.6). An answer of 30 to 51 leaves every byte of memory as it was and
-- reports nothing else but who decided. And where its turn comes, 51 is the answer exactly where memory is not good.
use mathlib.Core.Path.{◌≡◌, refl, sym, ap, ◌∙◌}
use mathlib.Core.Logic.{◌↔◌}
use mathlib.Core.Bool.{true, false}
use mathlib.Core.List.{List}
use Prim.Native.Nat.{ℕ, ◌≤◌}
use native.Mathlib.Omega.{arith}
use lib.Dec.{eqb}
use lib.ListN.{length}
use borrow.Author.Tests.{eq-eqb}
use Rattle.wire.specs.Bytes.{Below}
use Rattle.image.specs.Good.{image_answer}
use Rattle.stream.specs.Stream.{broken}
use Rattle.stream.specs.Tail.{Tail, tails}
use Rattle.rules.specs.Calls.{Step, no_connect, no_own, no_piece, no_gone, no_tick}
use Rattle.rules.specs.declared.Connected.{Connected}
use Rattle.rules.specs.declared.Owned.{Owned}
use Rattle.rules.specs.declared.Taken.{Taken}
use Rattle.rules.specs.declared.Gone.{Gone}
use Rattle.rules.specs.declared.Ticked.{Ticked}
use Rattle.wire.proofs.Tests.{clash, choice, by_test}
use Rattle.memory.specs.Layout.{memory_length}
use Rattle.memory.specs.Encoding.{memory_of, state_of}
use Rattle.memory.specs.Good.{good}
use Rattle.memory.specs.Calls.{MemoryStep, Did, stored, unchanged, on_memory, on_image, start_on, connect_on, own_on, release_on, piece_on, disconnect_on, tick_on}
use Rattle.memory.proofs.Good.{good_is}
use Rattle.sound.proofs.Numbers.{broken_number}
use Rattle.sound.proofs.Answers.{Modest, bare_connected, bare_gone, bare_ticked, connect_modest, own_modest, release_modest}
use Rattle.sound.proofs.Answers.{disconnect_modest, tick_modest}
use Rattle.sound.proofs.Pieces.{bare_taken, piece_modest}

-- ---- any call

module _ {R : Type 0} {say : R → ℕ} {bare : R → R} (refuse : ℕ → R) (says : (a : ℕ) → say (refuse a) ≡ a)
    (bares : (a : ℕ) → bare (refuse a) ≡ refuse a) (m : List ℕ) {z : Step Tail R} (modest : Modest say bare (state_of m) z) where
  -- the report of an answer alone
  alone : (a : ℕ) {r : R} {e : List ℕ} → Did (unchanged m (refuse a)) r e → Did (unchanged m (bare r)) r e
  alone a d = record { result = d.result ∙ sym (ap bare d.result ∙ bares a); memory = d.memory }

  stored_keeps : Below 256 m → good m ≡ true → {r : R} {e : List ℕ} → Did (stored z) r e → 30 ≤ say r → Did (unchanged m (bare r)) r e
  stored_keeps b g {r} d h =
      let q : say r ≡ say z.result = ap say d.result in
      let s = modest.still (rw (← q) h) in
      record {
        result = d.result ∙ ap (λ (y : Step Tail R). y.result) s ∙ ap bare (sym d.result);
        memory = d.memory ∙ ap (λ (y : Step Tail R). memory_of y.state) s ∙ good_is m b g;
      }

  memory_keeps : Below 256 m → {r : R} {e : List ℕ} → Did (on_memory refuse m z) r e → 30 ≤ say r → Did (unchanged m (bare r)) r e
  memory_keeps b {r} {e} d h =
      choice (λ (o : MemoryStep R). Did o r e → Did (unchanged m (bare r)) r e) (good m) _ _ (λ g x. stored_keeps b g x h) (λ g. alone 51) d

  image_keeps : (image : List ℕ) → Below 256 m → {r : R} {e : List ℕ} → Did (on_image refuse image m z) r e → 30 ≤ say r
      → Did (unchanged m (bare r)) r e
  image_keeps image b {r} {e} d h =
      choice (λ (o : MemoryStep R). Did o r e → Did (unchanged m (bare r)) r e) (eqb (image_answer image) 0) _ _ (λ g x. memory_keeps b x h)
      (λ g. alone (image_answer image)) d

  memory_51 : {r : R} {e : List ℕ} → Did (on_memory refuse m z) r e → (say r ≡ 51) ↔ (good m ≡ false)
  memory_51 d =
      by_test (good m) (λ g. let x = rw g at d in (λ q. absurd (omega (arith, modest.most, q, ap say x.result)), λ q. absurd (clash g q)))
      (λ g. let x = rw g at d in (λ q. g, λ q. ap say x.result ∙ says 51))

  image_51 : (image : List ℕ) → image_answer image ≡ 0 → {r : R} {e : List ℕ} → Did (on_image refuse image m z) r e → (say r ≡ 51) ↔ (good m ≡ false)
  image_51 image q d = memory_51 (rw (eq-eqb (image_answer image) 0 q) at d)

-- ---- a refusal keeps memory: the report is that of the answer alone, and the bytes are as they were

tail_faults : (t : Tail) (a : ℕ) → tails.judge t ≡ broken a → (1 ≤ a) × (a ≤ 9)
tail_faults t a e = broken_number t.taken t.head a e

pub refusal_keeps_start : (m : List ℕ) {r : ℕ} {e : List ℕ} → Did (start_on m) r e → 30 ≤ r → Did (unchanged m r) r e
unfolding start_on
refusal_keeps_start m {r} {e} d h =
    choice (λ (o : MemoryStep ℕ). Did o r e → Did (unchanged m r) r e) (eqb (length m) memory_length) _ _
    (λ b x. absurd (omega (arith, x.result, h))) (λ b x. record { result = refl; memory = x.memory }) d

module _ (m : List ℕ) (octets : Below 256 m) where
  pub refusal_keeps_connect : (image : List ℕ) (uid : ℕ) (gids : List ℕ) {r : Connected} {e : List ℕ} → Did (connect_on image m uid gids) r e
      → 30 ≤ r.answer → Did (unchanged m (bare_connected r)) r e
  unfolding connect_on
  refusal_keeps_connect image uid gids = image_keeps no_connect (λ a. refl) (λ a. refl) m (connect_modest tails (state_of m) image uid gids) image octets

  pub refusal_keeps_own : (image : List ℕ) (n : ℕ) (name : List ℕ) {r : Owned} {e : List ℕ} → Did (own_on image m n name) r e
      → 30 ≤ r.answer → Did (unchanged m r) r e
  unfolding own_on
  refusal_keeps_own image n name = image_keeps no_own (λ a. refl) (λ a. refl) m (own_modest (state_of m) image n name) image octets

  pub refusal_keeps_release : (n : ℕ) (name : List ℕ) {r : ℕ} {e : List ℕ} → Did (release_on m n name) r e → 30 ≤ r → Did (unchanged m r) r e
  unfolding release_on
  refusal_keeps_release n name = memory_keeps (λ a. a) (λ a. refl) (λ a. refl) m (release_modest (state_of m) n name) octets

  pub refusal_keeps_piece : (image : List ℕ) (n : ℕ) (bytes : List ℕ) {r : Taken} {e : List ℕ} → Did (piece_on image m n bytes) r e
      → 30 ≤ r.judgement.answer → Did (unchanged m (bare_taken r)) r e
  unfolding piece_on
  refusal_keeps_piece image n bytes = image_keeps no_piece (λ a. refl) (λ a. refl) m (piece_modest tails tail_faults (state_of m) image n bytes) image octets

  pub refusal_keeps_disconnect : (n : ℕ) {r : Gone} {e : List ℕ} → Did (disconnect_on m n) r e → 30 ≤ r.answer → Did (unchanged m (bare_gone r)) r e
  unfolding disconnect_on
  refusal_keeps_disconnect n = memory_keeps no_gone (λ a. refl) (λ a. refl) m (disconnect_modest tails (state_of m) n) octets

  pub refusal_keeps_tick : (now limit : ℕ) {r : Ticked} {e : List ℕ} → Did (tick_on m now limit) r e → 30 ≤ r.answer → Did (unchanged m (bare_ticked r)) r e
  unfolding tick_on
  refusal_keeps_tick now limit = memory_keeps no_tick (λ a. refl) (λ a. refl) m (tick_modest (state_of m) now limit) octets

-- ---- 51 exactly where memory is not good, once the image has passed

module _ (m : List ℕ) where
  pub not_good_connect : (image : List ℕ) (uid : ℕ) (gids : List ℕ) → image_answer image ≡ 0 → {r : Connected} {e : List ℕ}
      → Did (connect_on image m uid gids) r e → (r.answer ≡ 51) ↔ (good m ≡ false)
  unfolding connect_on
  not_good_connect image uid gids = image_51 no_connect (λ a. refl) (λ a. refl) m (connect_modest tails (state_of m) image uid gids) image

  pub not_good_own : (image : List ℕ) (n : ℕ) (name : List ℕ) → image_answer image ≡ 0 → {r : Owned} {e : List ℕ}
      → Did (own_on image m n name) r e → (r.answer ≡ 51) ↔ (good m ≡ false)
  unfolding own_on
  not_good_own image n name = image_51 no_own (λ a. refl) (λ a. refl) m (own_modest (state_of m) image n name) image

  pub not_good_release : (n : ℕ) (name : List ℕ) {r : ℕ} {e : List ℕ} → Did (release_on m n name) r e → (r ≡ 51) ↔ (good m ≡ false)
  unfolding release_on
  not_good_release n name = memory_51 (λ a. a) (λ a. refl) (λ a. refl) m (release_modest (state_of m) n name)

  pub not_good_piece : (image : List ℕ) (n : ℕ) (bytes : List ℕ) → image_answer image ≡ 0 → {r : Taken} {e : List ℕ}
      → Did (piece_on image m n bytes) r e → (r.judgement.answer ≡ 51) ↔ (good m ≡ false)
  unfolding piece_on
  not_good_piece image n bytes = image_51 no_piece (λ a. refl) (λ a. refl) m (piece_modest tails tail_faults (state_of m) image n bytes) image

  pub not_good_disconnect : (n : ℕ) {r : Gone} {e : List ℕ} → Did (disconnect_on m n) r e → (r.answer ≡ 51) ↔ (good m ≡ false)
  unfolding disconnect_on
  not_good_disconnect n = memory_51 no_gone (λ a. refl) (λ a. refl) m (disconnect_modest tails (state_of m) n)

  pub not_good_tick : (now limit : ℕ) {r : Ticked} {e : List ℕ} → Did (tick_on m now limit) r e → (r.answer ≡ 51) ↔ (good m ≡ false)
  unfolding tick_on
  not_good_tick now limit = memory_51 no_tick (λ a. refl) (λ a. refl) m (tick_modest (state_of m) now limit)

-- Good memory stays good, whatever call comes, with any image and any argument (rule 10.6): uids and gids are of 32 bits, ticks of 64, and bytes of 8.
use mathlib.Core.Path.{◌≡◌, ap, ◌∙◌}
use mathlib.Core.Bool.{true}
use mathlib.Core.List.{List}
use Prim.Native.Nat.{ℕ, ◌<◌}
use lib.Dec.{eqb}
use lib.ListN.{length}
use borrow.Author.Tests.{eq-eqb}
use Rattle.wire.specs.Bytes.{Below}
use Rattle.image.specs.Good.{image_answer}
use Rattle.stream.specs.Tail.{Tail, tails}
use Rattle.rules.specs.Calls.{Step, empty, no_connect, no_own, no_piece, no_gone, no_tick, connect, own, release, piece, disconnect, tick}
use Rattle.rules.specs.declared.Connected.{Connected}
use Rattle.rules.specs.declared.Owned.{Owned}
use Rattle.rules.specs.declared.Taken.{Taken}
use Rattle.rules.specs.declared.Gone.{Gone}
use Rattle.rules.specs.declared.Ticked.{Ticked}
use Rattle.wire.proofs.Tests.{choice}
use Rattle.memory.specs.Layout.{memory_length}
use Rattle.memory.specs.Encoding.{state_of}
use Rattle.memory.specs.Good.{good}
use Rattle.memory.specs.Sound.{Sound}
use Rattle.memory.specs.Calls.{MemoryStep, Did, on_memory, on_image, start_on, connect_on, own_on, release_on, piece_on, disconnect_on, tick_on}
use Rattle.memory.proofs.Good.{good_sound}
use Rattle.memory.proofs.Octets.{every_below}
use Rattle.memory.proofs.Sound.{good_memory}
use Rattle.sound.proofs.Keep.{empty_sound, connect_sound, own_sound, release_sound, piece_sound, disconnect_sound, tick_sound}

-- ---- any call

module _ {R : Type 0} (refuse : ℕ → R) (m : List ℕ) (g : good m ≡ true) (z : Step Tail R) (s : Sound z.state) where
  memory_good : {r : R} {e : List ℕ} → Did (on_memory refuse m z) r e → good e ≡ true
  memory_good d = ap good (rw g at d.memory) ∙ good_memory z.state s

  image_good : (image : List ℕ) {r : R} {e : List ℕ} → Did (on_image refuse image m z) r e → good e ≡ true
  image_good image {r} {e} d =
      choice (λ (o : MemoryStep R). Did o r e → good e ≡ true) (eqb (image_answer image) 0) _ _ (λ b. memory_good) (λ b x. ap good x.memory ∙ g) d

-- ---- each call

pub good_stays_start : (m : List ℕ) → length m ≡ memory_length → {r : ℕ} {e : List ℕ} → Did (start_on m) r e → good e ≡ true
unfolding start_on
good_stays_start m l d = ap good (rw (eq-eqb (length m) memory_length l) at d.memory) ∙ good_memory empty empty_sound

module _ (m : List ℕ) (octets : Below 256 m) (g : good m ≡ true) where
  pub good_stays_connect : (image : List ℕ) (uid : ℕ) (gids : List ℕ) → uid < 4294967296 → Below 4294967296 gids
      → {r : Connected} {e : List ℕ} → Did (connect_on image m uid gids) r e → good e ≡ true
  unfolding connect_on
  good_stays_connect image uid gids u w =
      image_good no_connect m g (connect tails image (state_of m) uid gids)
      (connect_sound (state_of m) uid gids (good_sound m octets g) u (every_below 4294967296 gids w) image) image

  pub good_stays_own : (image : List ℕ) (n : ℕ) (name : List ℕ) {r : Owned} {e : List ℕ} → Did (own_on image m n name) r e → good e ≡ true
  unfolding own_on
  good_stays_own image n name = image_good no_own m g (own image (state_of m) n name) (own_sound (state_of m) (good_sound m octets g) image n name) image

  pub good_stays_release : (n : ℕ) (name : List ℕ) {r : ℕ} {e : List ℕ} → Did (release_on m n name) r e → good e ≡ true
  unfolding release_on
  good_stays_release n name = memory_good (λ a. a) m g (release (state_of m) n name) (release_sound (state_of m) (good_sound m octets g) n name)

  pub good_stays_piece : (image : List ℕ) (n : ℕ) (bytes : List ℕ) → Below 256 bytes
      → {r : Taken} {e : List ℕ} → Did (piece_on image m n bytes) r e → good e ≡ true
  unfolding piece_on
  good_stays_piece image n bytes w =
      image_good no_piece m g (piece tails image (state_of m) n bytes)
      (piece_sound (state_of m) (good_sound m octets g) bytes (every_below 256 bytes w) image n) image

  pub good_stays_disconnect : (n : ℕ) {r : Gone} {e : List ℕ} → Did (disconnect_on m n) r e → good e ≡ true
  unfolding disconnect_on
  good_stays_disconnect n =
      memory_good no_gone m g (disconnect tails (state_of m) n) (disconnect_sound (state_of m) (good_sound m octets g) n)

  pub good_stays_tick : (now limit : ℕ) → now < 18446744073709551616 → {r : Ticked} {e : List ℕ} → Did (tick_on m now limit) r e → good e ≡ true
  unfolding tick_on
  good_stays_tick now limit h =
      memory_good no_tick m g (tick (state_of m) now limit) (tick_sound (state_of m) (good_sound m octets g) now limit h)

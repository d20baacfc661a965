-- An empty guard is sound, and each call keeps a sound state sound (rule 10.6).
use mathlib.Core.Path.{◌≡◌, refl, ◌∙◌}
use mathlib.Core.Bool.{true, cond}
use mathlib.Core.List.{List}
use Prim.Native.Nat.{ℕ, ◌+◌, ◌≤◌, ◌<◌}
use native.Mathlib.Omega.{arith}
use lib.Dec.{ltb}
use lib.ListN.{length, get_or, set, length-set, length-map}
use borrow.Author.Tests.{lt-ltb, ltb-true, ltb-false, leb-true, leb-false, eq-eqb}
use Rattle.wire.specs.Lists.{distinct, every}
use Rattle.header.specs.declared.Header.{Header}
use Rattle.policy.specs.Names.{owns}
use Rattle.policy.specs.Decisions.{connect_decision, own_decision}
use Rattle.stream.specs.Stream.{Verdict, more, broken, whole, offer}
use Rattle.stream.proofs.Good.{fresh_good}
use Rattle.stream.specs.Tail.{Tail, closed, tails}
use Rattle.rules.specs.State.{Peer, Slot, free, peer, State, is_free, is_peer, first_by}
use Rattle.rules.specs.Addresses.{ownable}
use Rattle.rules.specs.Pending.{is_to, expired, awaits, remove_calls}
use Rattle.rules.specs.Calls.{Step, stays, empty, no_connect, newcomer, seated, connect_at, connect, own_new, own_at, slot_at, own}
use Rattle.rules.specs.Calls.{release_at, release, offered, piece_at, piece, disconnect_at, disconnect, tick}
use Rattle.rules.specs.declared.Connected.{Connected}
use Rattle.rules.specs.declared.Owned.{Owned}
use Rattle.rules.specs.declared.Ticked.{Ticked}
use Rattle.memory.specs.Good.{good_slots}
use Rattle.memory.proofs.Octets.{below_every}
use Rattle.memory.specs.Sound.{word32, narrow, octet, head_octets, Sound}
use Rattle.wire.proofs.Tests.{choice}
use Rattle.sound.proofs.Serial.{header_serial, offer_keeps}
use Rattle.sound.proofs.Slots.{first_none}
use Rattle.rules.proofs.First.{first_passes, taken_below}
use Rattle.sound.proofs.Kept.{sound_kept, kept_sound}
use Rattle.sound.proofs.Put.{peer_fine, put_there, New, new_kept, gone_kept, expired_kept}
use Rattle.sound.proofs.Renew.{stream_sound, granted_sound, released_sound}
use Rattle.sound.proofs.Octets.{taken_octets, offer_octets, offer_read}
use Rattle.sound.proofs.Judged.{judged_sound}

-- the call leaves a sound state
abbrev Leaves : {R : Type 0} → Step Tail R → Type 0
Leaves j = Sound j.state

-- ---- start

pub empty_sound : Sound empty
unfolding good_slots narrow head_octets
empty_sound = record { sixteen = refl; fits = omega arith; ticks = omega arith; slots = refl; narrows = refl; octets = refl }

-- ---- connect

module _ (s : State Tail) (uid : ℕ) (gids : List ℕ) (g : Sound s)
    (user : uid < 4294967296) (groups : every word32 gids ≡ true) where
  newcomer_new : length gids ≤ 16 → New s.last s.tick (newcomer tails (s.last + 1) uid gids)
  unfolding distinct owns awaits
  newcomer_new l =
      let low : 1 ≤ s.last + 1 = omega arith in
      let high : s.last + 1 ≤ s.last + 1 = omega arith in
      search (leb-true, lt-ltb, fresh_good)

  seated_sound : length gids ≤ 16 → (i : ℕ) → i < length s.slots → is_free (get_or s.slots i free) ≡ true → s.last < 4294967295
      → Leaves (seated tails s i uid gids)
  seated_sound l i h f n =
      kept_sound (seated tails s i uid gids).state (length-set s.slots i (peer (newcomer tails (s.last + 1) uid gids)) ∙ g.sixteen) (omega arith) g.ticks
      (new_kept s.last s.tick s.slots i (newcomer tails (s.last + 1) uid gids) h f (sound_kept g) (newcomer_new l))

  connect_at_lem : length gids ≤ 16 → Leaves (connect_at tails s (first_by is_free s.slots) uid gids)
  connect_at_lem l = search (choice (Leaves {R = Connected}), seated_sound, ltb-true, first_passes is_free s.slots free)

  pub connect_sound : (image : List ℕ) → Sound (connect tails image s uid gids).state
  unfolding connect
  connect_sound image =
      let d = connect_decision image (record { 0 = uid }) gids in
      choice (Leaves {R = Connected}) (ltb 16 (length gids)) _ _ (λ e. g)
      (λ e. choice (Leaves {R = Connected}) d.allow (connect_at tails s (first_by is_free s.slots) uid gids) (stays s (no_connect 36))
      (λ a. connect_at_lem (omega (arith, ltb-false 16 (length gids) e))) (λ a. g))

-- ---- own and release

module _ (s : State Tail) (g : Sound s) where
  own_at_lem : (image : List ℕ) (i : ℕ) (x : Slot Tail) (name : List ℕ) → get_or s.slots i free ≡ x → Leaves (own_at image s i x name)
  own_at_lem image i free name e = g
  own_at_lem image i (peer p) name e =
      let d = own_decision image (record { 0 = p.uid }) p.gids name in
      choice (Leaves {R = Owned}) (ownable name) _ _
      (λ a. choice (Leaves {R = ℕ}) d.allow (cond (owns p.names name) (stays s 0) (own_new s i p name)) (stays s 32)
      (λ b. search (choice (Leaves {R = ℕ}), granted_sound, first_none, leb-false) depth 8) (λ b. g))
      (λ a. g)

  pub own_sound : (image : List ℕ) (n : ℕ) (name : List ℕ) → Sound (own image s n name).state
  unfolding own
  own_sound image n name = let i = first_by (is_peer n) s.slots in own_at_lem image i (slot_at s i) name refl

  release_at_lem : (i : ℕ) (x : Slot Tail) (name : List ℕ) → get_or s.slots i free ≡ x → Leaves (release_at s i x name)
  release_at_lem i free name e = g
  release_at_lem i (peer p) name e = search (choice (Leaves {R = ℕ}), released_sound)

  pub release_sound : (n : ℕ) (name : List ℕ) → Sound (release s n name).state
  unfolding release
  release_sound n name = let i = first_by (is_peer n) s.slots in release_at_lem i (slot_at s i) name refl

-- ---- disconnect

disconnect_at_lem : (s : State Tail) → Sound s → (i : ℕ) (x : Slot Tail) → get_or s.slots i free ≡ x → Leaves (disconnect_at tails s i x)
disconnect_at_lem s g i free e = g
disconnect_at_lem s g i (peer p) e =
    kept_sound (disconnect_at tails s i (peer p)).state
    (length-map (set s.slots i free) (remove_calls (is_to p.number)) ∙ length-set s.slots i free ∙ g.sixteen) g.fits g.ticks
    (gone_kept s.last s.tick s.slots i p.number (taken_below s.slots i p e) (sound_kept g) (rw e (eq-eqb p.number p.number refl)))

pub disconnect_sound : (s : State Tail) → Sound s → (n : ℕ) → Sound (disconnect tails s n).state
unfolding disconnect
disconnect_sound s g n = let i = first_by (is_peer n) s.slots in disconnect_at_lem s g i (slot_at s i) refl

-- ---- tick

pub tick_sound : (s : State Tail) → Sound s → (now limit : ℕ) → now < 18446744073709551616 → Sound (tick s now limit).state
unfolding tick
tick_sound s g now limit h =
    choice (Leaves {R = Ticked}) (ltb now s.tick) _ _ (λ e. g)
    (λ e. kept_sound _ (length-map s.slots (remove_calls (expired now limit)) ∙ g.sixteen) g.fits h
    (expired_kept (expired now limit) (ltb-false now s.tick e) s.slots (sound_kept g)))

-- ---- piece

module _
    (s : State Tail) (g : Sound s) (bytes : List ℕ) (small : every octet bytes ≡ true) where
  offered_sound : (image : List ℕ) (i : ℕ) (q : Peer Tail) (taken : ℕ) (v : Verdict) (z : State Tail) → Sound z → get_or z.slots i free ≡ peer q
      → ((h : List ℕ) (x : Header) → v ≡ whole h x → (1 ≤ x.serial) × (x.serial < 4294967296)) → Leaves (offered image z i q taken v)
  offered_sound image i q taken more z k e w = k
  offered_sound image i q taken (broken a) z k e w = k
  offered_sound image i q taken (whole h x) z k e w = let r = w h x refl in judged_sound image z i q x k e r.0 r.1 h

  piece_at_lem : (image : List ℕ) (i : ℕ) (x : Slot Tail) → get_or s.slots i free ≡ x → Leaves (piece_at tails image s i x bytes)
  piece_at_lem image i free e = g
  piece_at_lem image i (peer p) e =
      let f = peer_fine s i p g e in
      let o = offer tails p.stream bytes in
      choice Leaves (closed p.stream) _ _ (λ a. g)
      (λ a. offered_sound image i _ _ o.verdict _
      (stream_sound s i p g e _ (offer_keeps p.stream bytes f.tail a) (offer_octets p.stream bytes f.bytes small)) (put_there s i p _ e)
      (λ h x v. header_serial _ x (below_every 256 o.stream.head (omega arith) (taken_octets p.stream bytes f.bytes small))
      (offer_read p.stream bytes h x v)))

  pub piece_sound : (image : List ℕ) (n : ℕ) → Sound (piece tails image s n bytes).state
  unfolding piece
  piece_sound image n = let i = first_by (is_peer n) s.slots in piece_at_lem image i (slot_at s i) refl

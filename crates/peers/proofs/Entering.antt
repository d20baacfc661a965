-- Each way through connect.
use Rattle.std.proofs.Common.{Some}
use Rattle.std.proofs.Common.{◌≡◌, refl, sym, ap, ◌∙◌, true, false, not, List, ◌++◌, append_assoc, ℕ, ◌+◌, ◌-◌, ◌*◌, ◌≤◌, ◌<◌, arith, length, take, drop, replicate, rules, lt-ltb, le-ltb, None}
use borrow.Author.Tests.{not-true, not-false}
use Rattle.wire.proofs.Words.{Octets, octets_below}
use Rattle.wire.specs.Words.{word_bytes}
use Rattle.policy.specs.Decisions.{connect_decision}
use Rattle.policy.specs.declared.Decision.{Decision}
use Rattle.stream.specs.Tail.{tails}
use Rattle.rules.specs.State.{peer, is_free}
use Rattle.rules.specs.Calls.{newcomer, connect, no_connect, connected_by}
use Rattle.memory.specs.Layout.{slot_length, slot_start, first_gid, gid_width, gid_room, tick_at}
use Rattle.memory.specs.Encoding.{slot_bytes, state_of}
use Rattle.memory.specs.Sound.{Held}
use Rattle.memory.specs.Calls.{stored, Did}
use Rattle.memory.proofs.Reading.{sixteen}
use Rattle.memory.specs.Places.{FoundSlot}
use Rattle.memory.proofs.Find.{found_first}
use Rattle.memory.proofs.Frame.{free_bytes}
use Rattle.memory.proofs.Newcomer.{newcomer_spread}
use Rattle.memory.proofs.Good.{seated}
use Rattle.rules.specs.declared.Connected.{Connected}
use Rattle.peers.specs.Writes.{new_bytes}
use Rattle.peers.specs.Steps.{Free, admitted, entered}
use Rattle.slots.proofs.Zeros.{zero_rest}
use Rattle.slots.proofs.Found.{did_stay, free_part}

-- a newcomer's bytes are what was written, and the zeros of the slot
seat_bytes : (m gids : List ℕ) (a n u : ℕ) → length gids ≤ gid_room → take slot_length (drop a m) ≡ replicate slot_length 0
    → new_bytes n u gids ++ drop (a + (first_gid + gid_width * length gids)) m ≡ slot_bytes (peer (newcomer tails n u gids)) ++ drop (a + slot_length) m
unfolding new_bytes
seat_bytes m gids a n u h e =
    let k = first_gid + gid_width * length gids in
    let f : slot_length - k ≡ (slot_length - first_gid) - gid_width * length gids = omega arith in
    rw (zero_rest m a slot_length k (omega arith) e, f, newcomer_spread n u gids h) (simp append_assoc)

-- ---- the seat

pub admit_seated : (m : List ℕ) → Octets m → (i n uid : ℕ) (gids m₁ m₂ : List ℕ) → Free m i gids
    → m₁ ≡ take (slot_start i) m ++ (new_bytes n uid gids ++ drop (slot_start i + (first_gid + gid_width * length gids)) m)
    → m₂ ≡ word_bytes n ++ drop tick_at m₁
    → m₂ ≡ admitted m i n uid gids
unfolding admitted
admit_seated m f i n uid gids m₁ m₂ g e₁ e₂ =
    let a = slot_start i in
    let x = peer (newcomer tails n uid gids) in
    let q : m₁ ≡ take a m ++ (slot_bytes x ++ drop (a + slot_length) m)
    = e₁ ∙ ap (λ (y : List ℕ). take a m ++ y) (seat_bytes m gids a n uid g.few (g.zeros ∙ free_bytes)) in
    e₂ ∙ ap (λ (y : List ℕ). word_bytes n ++ drop tick_at y) q ∙ sym (seated m (octets_below m f) g.held.held n i x g.below)

pub ruleset admitting = (admit_seated, rules)

-- ---- 38, 39, and the seat

pub enter_free : (m gids : List ℕ) (i : ℕ) → Held m → FoundSlot is_free m 0 (Some i) → length gids ≤ gid_room → Free m i gids
enter_free m gids i g e h = record { sized = g.sized; held = g; below = e.inside; few = h; zeros = free_part m i g e }

module _ (m : List ℕ) (f : Octets m) (g : Held m) (uid : ℕ) (gids : List ℕ) where
  pub enter_full : FoundSlot is_free m 0 None → (r : Connected) → r ≡ no_connect 38 → Did (stored (entered m uid gids)) r m
  unfolding entered
  enter_full e r d =
      did_stay m f g r (entered m uid gids) (rw (found_first is_free m None e, sixteen m, d))

  module _ (i : ℕ) (e : FoundSlot is_free m 0 (Some i)) (l : ℕ) (el : l ≡ (state_of m).last) where
    pub enter_last : l ≡ 4294967295 → (r : Connected) → r ≡ no_connect 39 → Did (stored (entered m uid gids)) r m
    unfolding entered
    enter_last z r d =
        did_stay m f g r (entered m uid gids)
        (rw (found_first is_free m (Some i) e, sixteen m, lt-ltb i 16 e.inside, le-ltb (state_of m).last 4294967295 (omega arith), d))

    pub enter_seated : (l ≡ 4294967295 → ⊥) → l < 4294967296 → (m₁ : List ℕ) → m₁ ≡ admitted m i (l + 1) uid gids
        → Did (stored (entered m uid gids)) (record { answer = 0; number = l + 1; slot = i; rule = None }) m₁
    unfolding entered admitted
    enter_seated z k m₁ e₁ =
        rw (found_first is_free m (Some i) e, sixteen m, lt-ltb i 16 e.inside, lt-ltb (state_of m).last 4294967295 (omega arith), ← el)
        (record { result = refl; memory = e₁ })

pub ruleset entering = (enter_free, enter_full, enter_last, enter_seated, rules)

-- ---- 37, 36

module _ (image m : List ℕ) (f : Octets m) (g : Held m) (uid : ℕ) (gids : List ℕ) where
  pub connect_many : 16 < length gids → (r : Connected) → r ≡ no_connect 37 → Did (stored (connect tails image (state_of m) uid gids)) r m
  unfolding connect
  connect_many h r d = did_stay m f g r (connect tails image (state_of m) uid gids) (rw (lt-ltb 16 (length gids) h, d))

  module _ (h : length gids ≤ gid_room) (b : Decision) (e : b ≡ connect_decision image (record { 0 = uid }) gids) where
    pub connect_denied : not b.allow ≡ true → (k r : Connected) → k ≡ no_connect 36 → r ≡ connected_by b.rule k
        → Did (stored (connect tails image (state_of m) uid gids)) r m
    unfolding connect
    connect_denied t k r d w =
        did_stay m f g r (connect tails image (state_of m) uid gids) (rw (le-ltb 16 (length gids) h, ← e, not-true b.allow t, w, d))

    pub connect_entered : not b.allow ≡ false → (k r : Connected) (m₁ : List ℕ) → Did (stored (entered m uid gids)) k m₁ → r ≡ connected_by b.rule k
        → Did (stored (connect tails image (state_of m) uid gids)) r m₁
    unfolding connect entered
    connect_entered t k r m₁ d w =
        rw (le-ltb 16 (length gids) h, ← e, not-false b.allow t) (record { result = w ∙ rw d.result; memory = d.memory })

pub ruleset connecting = (connect_many, connect_denied, connect_entered, rules)

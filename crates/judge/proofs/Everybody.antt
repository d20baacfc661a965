-- The mask of a signal's receivers, from the last slot down.
use Rattle.std.proofs.Common.{◌≡◌, sym, ap, ◌∙◌, Bool, true, false, List, map, ℕ, ◌+◌, ◌-◌, ◌*◌, ◌≤◌, ◌<◌, arith, lt_of_lt_of_le, pow_mono, length, drop, get_or, rules, None}
use lib.Count.{ones}
use lib.ListN.{length-map, get_or-map}
use Rattle.header.specs.declared.Header.{Header}
use Rattle.policy.specs.Matching.{message_of}
use Rattle.rules.specs.State.{free}
use Rattle.rules.specs.Judge.{bit, mask_of, count_of, reaches}
use Rattle.rules.specs.declared.Receiver.TheVariants as to
use Rattle.rules.proofs.Mask.{mask_ones, mask_from, mask_past, mask_room}
use Rattle.memory.specs.Encoding.{state_of}
use Rattle.memory.proofs.Reading.{sixteen}
use Rattle.slots.specs.Slots.{peer_at}
use Rattle.judge.specs.Steps.{Reaches, ToAll}

-- ---- one slot more

pub below_reached : (b : Bool) (mask : ℕ) → b ≡ true → 1 + 2 * mask ≡ bit b + 2 * mask
below_reached b mask e = rw e

pub below_not : (b : Bool) (mask : ℕ) → b ≡ false → 2 * mask ≡ bit b + 2 * mask
below_not b mask e = rw e (omega arith)

pub ruleset one_more_lem = (below_reached, below_not, rules)

-- ---- the slots from k on

-- which slots the signal reaches
abbrev bits : List ℕ → List ℕ → ℕ → List ℕ → Header → List Bool
bits image m i head x = map (reaches image (peer_at m i) (message_of head x)) (state_of m).slots

bits_length : (image m : List ℕ) (i : ℕ) (head : List ℕ) (x : Header) → length (bits image m i head x) ≡ 16
bits_length image m i head x = length-map (state_of m).slots (reaches image (peer_at m i) (message_of head x)) ∙ sixteen m

pub record Masking (image m : List ℕ) (i : ℕ) (head : List ℕ) (x : Header) (mask k : ℕ) : Type 0 where
  pub high : k ≤ 16
  pub is : mask ≡ mask_of (drop k (bits image m i head x))

pub masking_begins : (image m : List ℕ) (i : ℕ) (head : List ℕ) (x : Header) → Masking image m i head x 0 16
masking_begins image m i head x =
    record { high = omega arith; is = sym (mask_past (bits image m i head x) 16 (omega (arith, bits_length image m i head x))) }

module _ {image m : List ℕ} {i : ℕ} {head : List ℕ} {x : Header} {mask k : ℕ} (g : Masking image m i head x mask k) where
  pub masking_room : 0 < k → mask < 32768
  masking_room h =
      let r = rw (bits_length image m i head x) at (mask_room (bits image m i head x) k) in
      let e : 16 - k ≤ 15 = omega arith in
      lt_of_lt_of_le (rw g.is r) (pow_mono e)

  pub masking_more : 0 < k → {r : Bool} → Reaches image m i (k - 1) head x r → {n : ℕ} → n ≡ bit r + 2 * mask → Masking image m i head x n (k - 1)
  masking_more h {r} a {n} e =
      let f : k - 1 + 1 ≡ k = omega arith in
      let b : get_or (bits image m i head x) (k - 1) false ≡ r
      = get_or-map (reaches image (peer_at m i) (message_of head x)) (state_of m).slots (k - 1) free ∙ sym a.is in
      record {
        high = omega arith;
        is = e ∙ sym (mask_from (bits image m i head x) (k - 1) (omega (arith, bits_length image m i head x)) ∙ rw (b, f, g.is));
      }

  pub masking_ends : k ≤ 0 → ToAll image m i head x (record { answer = 0; receiver = to.Slots mask (ones mask); rule = None })
  masking_ends h =
      let z : k ≡ 0 = omega arith in
      let e : mask ≡ mask_of (bits image m i head x) = rw z at g.is in
      let f : ones mask ≡ count_of (bits image m i head x) = ap ones e ∙ mask_ones (bits image m i head x) in
      record { is = λ j. record { answer = 0; receiver = to.Slots (e j) (f j); rule = None } }

pub ruleset masking = (masking_begins, masking_room, masking_more, masking_ends, rules)

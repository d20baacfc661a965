-- Each way through disconnect.
use Rattle.std.proofs.Common.{Some, None}
use mathlib.Core.Path.{◌≡◌, refl, sym, ap, ◌∙◌}
use mathlib.Core.List.{List, ◌++◌}
use Prim.Native.Nat.{ℕ, ◌+◌, ◌-◌, ◌<◌}
use native.Mathlib.Omega.{arith}
use lib.ListN.{length, take, drop, replicate, length-drop}
use lib.Seq.{length-take-le}
use borrow.Author.Rules.{rules}
use Rattle.wire.specs.Words.{word_at}
use Rattle.wire.specs.declared.Order.TheVariants.{Little}
use Rattle.wire.proofs.Words.{Octets, octets_below, cut_at, put_at_lem}
use Rattle.stream.specs.Tail.{tails}
use Rattle.rules.specs.State.{free, put_slot, is_peer}
use Rattle.rules.specs.Pending.{is_to, remove_calls}
use Rattle.rules.specs.Calls.{disconnect, no_gone}
use Rattle.rules.specs.declared.Gone.{Gone}
use Rattle.memory.specs.Layout.{slot_length, slot_start, taken_at}
use Rattle.memory.specs.Encoding.{slot_bytes, memory_of, state_of}
use Rattle.memory.specs.Sound.{Held}
use Rattle.memory.specs.Calls.{stored, Did}
use Rattle.memory.specs.Places.{FoundSlot, put_at}
use Rattle.memory.proofs.Find.{found_number}
use Rattle.memory.proofs.Frame.{free_bytes, slot_length_lem}
use Rattle.memory.proofs.Slots.{free_back}
use Rattle.memory.proofs.Good.{framed}
use Rattle.memory.proofs.Sweep.{put_again, put_length, swept_freed}
use Rattle.endings.specs.Endings.{Encoded, ended_for, EndedAll}
use Rattle.peers.specs.Steps.{slots_without}
use Rattle.slots.proofs.Found.{did_stay, peer_none, peer_place, peer_some}

-- ---- a slot wiped

module _ (m : List ℕ) (g : Held m) (i : ℕ) (h : i < 16) (z : List ℕ)
    (e : z ≡ replicate (length (take (slot_start i + slot_length - (slot_start i)) (drop (slot_start i) m))) 0) where
  zeros : z ≡ slot_bytes free
  zeros =
      let a = slot_start i in
      let l : length (take (a + slot_length - a) (drop a m)) ≡ slot_length
      = ap length (cut_at a slot_length m) ∙ length-take-le slot_length (drop a m) (omega (arith, length-drop a m)) in
      e ∙ ap (λ (k : ℕ). replicate k 0) l ∙ sym free_bytes

  wiped : take (slot_start i) m ++ (z ++ drop (slot_start i + slot_length - (slot_start i)) (drop (slot_start i) m)) ≡ put_at m i (slot_bytes free)
  wiped = put_at_lem (slot_start i) slot_length m z ∙ ap (λ (y : List ℕ). put_at m i y) zeros

  pub leave_encoded : Octets m → Encoded (take (slot_start i) m ++ (z ++ drop (slot_start i + slot_length - (slot_start i)) (drop (slot_start i) m)))
  leave_encoded f =
      let u = put_at m i (slot_bytes free) in
      let s : state_of u ≡ put_slot (state_of m) i free
      = put_again m (slot_bytes free) i h g.sized (slot_length_lem free) ∙ ap (put_slot (state_of m) i) free_back in
      let q : Encoded u
      = record {
        sized = put_length m (slot_bytes free) i h g.sized (slot_length_lem free);
        is = ap memory_of s ∙ framed m (octets_below m f) g.held i free h;
      } in
      rw wiped q

  pub leave_gone : (c r : ℕ) (m₂ : List ℕ)
      → EndedAll (is_to c) (take (slot_start i) m ++ (z ++ drop (slot_start i + slot_length - (slot_start i)) (drop (slot_start i) m))) r m₂
      → m₂ ≡ slots_without m i c
  unfolding ended_for slots_without
  leave_gone c r m₂ q =
      swept_freed (remove_calls (is_to c)) m (take (slot_start i) m ++ (z ++ drop (slot_start i + slot_length - (slot_start i)) (drop (slot_start i) m))) m₂
      (slot_bytes free) i h g.sized refl wiped q.left

pub ruleset leaving = (leave_encoded, leave_gone, rules)

-- ---- 30, and the report

module _ (m : List ℕ) (f : Octets m) (g : Held m) (n : ℕ) where
  pub disconnect_none : FoundSlot (is_peer n) m 0 None → (r : Gone) → r ≡ no_gone 30 → Did (stored (disconnect tails (state_of m) n)) r m
  unfolding disconnect
  disconnect_none e r d = did_stay m f g r (disconnect tails (state_of m) n) (rw (peer_none n m e, d))

  pub disconnect_gone : (i : ℕ) → FoundSlot (is_peer n) m 0 (Some i) → (b : ℕ) → b ≡ word_at Little m (slot_start i + taken_at) → (m₂ : List ℕ) → m₂ ≡ slots_without m i n
      → Did (stored (disconnect tails (state_of m) n)) (record { answer = 0; bytes = b }) m₂
  unfolding disconnect slots_without
  disconnect_gone i e b eb m₂ em =
      rw (peer_place n m i e, peer_some n m i e, found_number n m 0 i e, ← eb) (record { result = refl; memory = em })

pub ruleset disconnecting = (disconnect_none, disconnect_gone, rules)

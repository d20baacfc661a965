-- The judgement of a whole message never looks at streams: over a state seen through them it is what is seen of the judgement.
use mathlib.Core.Path.{◌≡◌, refl, ◌∙◌, ap}
use mathlib.Core.Bool.{Bool, cond}
use mathlib.Core.List.{List, [], ◌∷◌}
use Prim.Native.Nat.{ℕ}
use lib.ListN.{get_or}
use Rattle.header.specs.declared.Header.{Header}
use Rattle.policy.specs.Names.{bus_name}
use Rattle.policy.specs.Matching.{Message, field_of}
use Rattle.rules.specs.State.{Slot, free, peer, Peer, Pending, State, put_slot, with_pending}
use Rattle.rules.specs.Addresses.{Address, undirected, bus, slot, unknown}
use Rattle.policy.specs.declared.Decision.{Decision}
use Rattle.rules.specs.Judge.{Judged, judged_by, refused, passed, send_decision, receive_decision, to_bus, delivered, reaches, mask_of, count_of, to_all}
use Rattle.rules.specs.Judge.{reply_to, reply, to_slot, directed, judged}
use Rattle.rules.specs.declared.Receiver.{Receiver}
use Rattle.rules.specs.declared.Receiver.TheVariants as to
use Rattle.rules.specs.View.{seen_peer, seen_slot, seen, seen_judged}
use Rattle.rules.proofs.View.{chosen, map_over, same_seen, slot_seen, resolve_seen, put_seen}

module _ {A B : Type 0} (f : A → B) (image : List ℕ) (s : State A) (sender : Peer A) (x : Header) where
  abbrev z : State B
  z = seen f s

  abbrev sender' : Peer B
  sender' = seen_peer f sender

  -- passed, with other pending calls
  put_passed : (p : Peer A) (i : ℕ) (ws : List Pending) (r : Receiver)
      → passed (put_slot z i (peer (with_pending (seen_peer f p) ws))) r ≡ seen_judged f (passed (put_slot s i (peer (with_pending p ws))) r)
  put_passed p i ws r = rw (put_seen f s i (peer (with_pending p ws)))

  -- who decided is seen as it is
  decided : (d : Decision) (a : ℕ) (j : Judged A) (u : Judged B) → u ≡ seen_judged f j
      → judged_by d.rule (cond d.allow u (refused z a)) ≡ seen_judged f (judged_by d.rule (cond d.allow j (refused s a)))
  decided d a j u e = ap (judged_by d.rule) (chosen (seen_judged f) d.allow j (refused s a) u (refused z a) e refl)

  bus_seen : (m : Message) → to_bus image z sender' m ≡ seen_judged f (to_bus image s sender m)
  bus_seen m = decided (send_decision image sender (bus_name ∷ []) m) 22 (passed s to.Bus) (passed z to.Bus) refl

  all_seen : (m : Message) → to_all image z sender' m ≡ seen_judged f (to_all image s sender m)
  all_seen m =
      ap (λ (bits : List Bool). passed z (to.Slots (mask_of bits) (count_of bits)))
      (map_over (seen_slot f) (reaches image sender m) (reaches image sender' m)
      (same_seen f (reaches image sender m) (reaches image sender' m) refl (λ p. refl)) s.slots)

  reply_to_seen : (j : ℕ) (y : Slot A) → reply_to z j sender' (seen_slot f y) x ≡ seen_judged f (reply_to s j sender y x)
  reply_to_seen j free = refl
  reply_to_seen j (peer caller) = search (chosen (seen_judged f), put_passed caller)

  reply_seen : (a : Address) → reply z sender' a x ≡ seen_judged f (reply s sender a x)
  reply_seen undirected = refl
  reply_seen bus = refl
  reply_seen unknown = refl
  reply_seen (slot j) = ap (λ (y : Slot B). reply_to z j sender' y x) (slot_seen f s j) ∙ reply_to_seen j (get_or s.slots j free)

  delivered_seen : (i : ℕ) (receiver : Peer A) → delivered z i sender' (seen_peer f receiver) x ≡ seen_judged f (delivered s i sender receiver x)
  delivered_seen i receiver = search (chosen (seen_judged f), put_passed sender) depth 8

  to_slot_seen : (i : ℕ) (m : Message) (y : Slot A) → to_slot image z i sender' (seen_slot f y) m x ≡ seen_judged f (to_slot image s i sender y m x)
  to_slot_seen i m free = refl
  to_slot_seen i m (peer receiver) =
      chosen (seen_judged f) (send_decision image sender receiver.names m).allow _ _ _ _
      (decided (receive_decision image receiver sender.names m) 23 (delivered s i sender receiver x) (delivered z i sender' (seen_peer f receiver) x)
      (delivered_seen i receiver))
      refl

  directed_seen : (i : ℕ) (m : Message) (a : Address) → directed image z i sender' a m x ≡ seen_judged f (directed image s i sender a m x)
  directed_seen i m undirected = search (chosen (seen_judged f), bus_seen, all_seen)
  directed_seen i m bus = bus_seen m
  directed_seen i m unknown = refl
  directed_seen i m (slot j) = ap (λ (y : Slot B). to_slot image z i sender' y m x) (slot_seen f s j) ∙ to_slot_seen i m (get_or s.slots j free)

  pub judged_seen : (i : ℕ) (h : List ℕ) → judged image (seen f s) i (seen_peer f sender) h x ≡ seen_judged f (judged image s i sender h x)
  unfolding judged
  judged_seen i h = rw (resolve_seen f s (field_of h x.destination)) (search (chosen (seen_judged f), reply_seen, directed_seen))

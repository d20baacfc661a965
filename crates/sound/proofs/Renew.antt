-- What the calls change of a peer: a name more or less, its stream, a pending call more or less. Each keeps a sound state sound.
use mathlib.Core.Path.{◌≡◌, refl, sym, ap, ◌∙◌}
use mathlib.Core.Logic.{◌⊎◌, inl, inr}
use mathlib.Core.Bool.{true, false}
use mathlib.Core.List.{List, [], ◌∷◌, ◌++◌}
use Prim.Native.Nat.{ℕ, ◌≤◌, ◌<◌}
use native.Mathlib.Omega.{arith}
use lib.ListN.{length, get_or, length-append}
use Rattle.wire.specs.Bytes.{same}
use Rattle.wire.specs.Lists.{any, every}
use Rattle.policy.specs.Names.{owns}
use Rattle.stream.specs.Tail.{Tail, good_tail}
use Rattle.rules.specs.State.{Pending, Peer, free, peer, State, is_peer, put_slot, with_names, with_pending, with_stream}
use Rattle.rules.specs.Addresses.{ownable}
use Rattle.rules.specs.Pending.{is_call, same_call, awaits, ended}
use Rattle.rules.specs.Calls.{is_owner, released}
use Rattle.memory.specs.Good.{nobody}
use Rattle.memory.specs.Sound.{octet, Sound}
use Rattle.sound.proofs.Slots.{nobody_at}
use Rattle.rules.proofs.Fewer.{fewer_length, drop_fewer}
use Rattle.rules.proofs.Any.{any_snoc, distinct_fewer}
use Rattle.sound.proofs.Names as names
use Rattle.rules.proofs.Waits as waits
use Rattle.sound.proofs.Pending.{fewer_every, narrow_call, narrow_pending, narrow_snoc, dated_call, dated, dated_snoc}
use Rattle.rules.proofs.Waits.{call}
use Rattle.sound.proofs.Kept.{Fine}
use Rattle.sound.proofs.Put.{peer_fine, sound_renewed}

-- the slot i of a sound state has the peer p
module _ (s : State Tail) (i : ℕ) (p : Peer Tail) (g : Sound s) (e : get_or s.slots i free ≡ peer p) where
  abbrev fine : Fine s.last s.tick p
  fine = peer_fine s i p g e

  names_renewed : (ns : List (List ℕ)) → length ns ≤ 4 → names.ok_names ns ≡ true
      → ((y : List ℕ) → owns ns y ≡ true → (owns p.names y ≡ true) ⊎ (nobody (is_owner y) s.slots ≡ true)) → Sound (put_slot s i (peer (with_names p ns)))
  names_renewed ns l o h = let f = fine in sound_renewed s i p (with_names p ns) g e (search inl)

  pending_renewed : (ws : List Pending) → length ws ≤ 16 → waits.ok_pending ws ≡ true → narrow_pending ws ≡ true → dated s.tick ws ≡ true
      → ((c r : ℕ) → awaits c r ws ≡ true → (awaits c r p.pending ≡ true) ⊎ (any (is_peer c) s.slots ≡ true))
      → Sound (put_slot s i (peer (with_pending p ws)))
  pending_renewed ws l o n d h = let f = fine in sound_renewed s i p (with_pending p ws) g e (search inl)

  pub stream_sound : (t : Tail) → good_tail t ≡ true → every octet t.head ≡ true → Sound (put_slot s i (peer (with_stream p t)))
  stream_sound t h b = let f = fine in sound_renewed s i p (with_stream p t) g e (search inl)

  pub granted_sound : (name : List ℕ) → ownable name ≡ true → nobody (is_owner name) s.slots ≡ true → length p.names < 4
      → Sound (put_slot s i (peer (with_names p (p.names ++ (name ∷ [])))))
  granted_sound name o n l =
      names_renewed (p.names ++ (name ∷ [])) (omega (arith, length-append p.names (name ∷ [])))
      (names.ok_snoc p.names name fine.owned o (sym (ap (is_owner name) e) ∙ nobody_at (is_owner name) refl s.slots n i))
      (λ y q. elim (names.owns_snoc p.names name y q) [ inl a ↦ inl a | inr a ↦ inr (rw a n) ])

  pub released_sound : (name : List ℕ) → Sound (put_slot s i (peer (with_names p (released name p.names))))
  unfolding released
  released_sound name =
      let f = drop_fewer (λ x. same x name) p.names in
      names_renewed (released name p.names) (omega (arith, fewer_length f, fine.few_names_lem)) (distinct_fewer ownable names.same_name f fine.owned)
      (λ y q. inl (names.owns_fewer f y q))

  pub waits_sound : (c r : ℕ) → any (is_peer c) s.slots ≡ true → awaits c r p.pending ≡ false → length p.pending < 16 → 1 ≤ r → r < 4294967296
      → Sound (put_slot s i (peer (with_pending p (p.pending ++ (call c r s.tick ∷ [])))))
  unfolding awaits
  waits_sound c r k n l a b =
      pending_renewed (p.pending ++ (call c r s.tick ∷ [])) (omega (arith, length-append p.pending (call c r s.tick ∷ [])))
      (waits.ok_snoc p.pending c r s.tick fine.waits a n) (narrow_snoc p.pending c r s.tick fine.serials b)
      (dated_snoc s.tick p.pending c r fine.dates)
      (λ d q h. elim (any_snoc (is_call d q) p.pending (call c r s.tick) h)
      [ inl a ↦ inl a | inr a ↦ inr (rw (← waits.call_callee d q (call c r s.tick) a) k) ])

  pub ended_sound : (c r : ℕ) → Sound (put_slot s i (peer (with_pending p (ended c r p.pending))))
  unfolding ended
  ended_sound c r =
      let f = drop_fewer (is_call c r) p.pending in
      pending_renewed (ended c r p.pending) (omega (arith, fewer_length f, fine.few_pending)) (distinct_fewer waits.has_serial same_call f fine.waits)
      (fewer_every narrow_call f fine.serials) (fewer_every (dated_call s.tick) f fine.dates)
      (λ d q h. inl (waits.awaits_fewer f d q h))

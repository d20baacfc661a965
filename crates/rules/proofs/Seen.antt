-- Streams seen as other streams: the calls, which are defined once over any streams, answer alike and leave states that are seen alike.
use mathlib.Core.Path.{◌≡◌, refl, ◌∙◌, ap}
use mathlib.Core.Bool.{Bool, cond}
use mathlib.Core.List.{List, [], ◌∷◌, map}
use Prim.Native.Nat.{ℕ, ◌+◌}
use lib.Dec.{ltb}
use lib.ListN.{length, set}
use Rattle.header.specs.declared.Header.{Header}
use Rattle.policy.specs.Names.{owns}
use Rattle.policy.specs.Decisions.{connect_decision, own_decision}
use Rattle.stream.specs.Stream.{Verdict, more, broken, whole, Streams, Offer, bump, offer, settled}
use Rattle.stream.specs.Steps.{follows}
use Rattle.stream.proofs.Offers.{offer_step}
use Rattle.rules.specs.State.{Pending, Slot, free, peer, Peer, State, is_free, is_peer, first_by, put_slot, with_names, with_stream}
use Rattle.rules.specs.Addresses.{ownable}
use Rattle.rules.specs.Pending.{is_to, expired, remove_calls, count_slot, count_in}
use Rattle.rules.specs.Calls.{Step, stays, newcomer, no_connect, seated, connect_by, connect_at, connect, own_by, is_owner, own_new, own_at, slot_at, own}
use Rattle.rules.specs.Calls.{release_at, release, offered, piece_at, piece, disconnect_at, disconnect, tick}
use Rattle.rules.specs.declared.Connected.{Connected}
use Rattle.rules.specs.declared.Taken.{Taken}
use Rattle.rules.specs.declared.Ticked.{Ticked}
use Rattle.rules.specs.View.{seen_peer, seen_slot, seen, seen_step}
use Rattle.rules.proofs.View.{chosen, map_swap, set_over, same_seen, first_seen, first_peer, long_seen, slot_seen, put_seen}
use Rattle.rules.proofs.SeenJudge.{judged_seen}

-- B's streams answer as A's do, seen through f
pub record Simulates {A B : Type 0} (OA : Streams A) (OB : Streams B) (f : A → B) : Type 0 where
  pub fresh : OB.fresh ≡ f OA.fresh
  pub closed : (s : A) → OB.closed (f s) ≡ OA.closed s
  pub count : (s : A) → OB.count (f s) ≡ OA.count s
  pub judge : (s : A) (b : ℕ) → OB.judge (OB.push (f s) b) ≡ OA.judge (OA.push s b)
  pub more : (s : A) (b : ℕ) → OA.judge (OA.push s b) ≡ more → OB.push (f s) b ≡ f (OA.push s b)
  pub broken : (s : A) (b a : ℕ) → OA.judge (OA.push s b) ≡ broken a → OB.push (f s) b ≡ f (OA.push s b)
  pub whole : (s : A) (b : ℕ) (h : List ℕ) (x : Header) → OA.judge (OA.push s b) ≡ whole h x → OB.next (OB.push (f s) b) ≡ f (OA.next (OA.push s b))

-- ---- offers

-- what the rules hear of an offer: the verdict, the bytes taken, and the stream left
abbrev pub told : {S : Type 0} → Streams S → Offer S → Offer S
told O o = record { verdict = o.verdict; taken = o.taken; stream = settled O o.verdict o.stream }

abbrev pub seen_offer : {A B : Type 0} → (A → B) → Offer A → Offer B
seen_offer f o = record { verdict = o.verdict; taken = o.taken; stream = f o.stream }

-- calls that ended by a test
removed_seen : {A B : Type 0} (f : A → B) (t : Pending → Bool) (l : List (Slot A))
    → map (remove_calls t) (map (seen_slot f) l) ≡ map (seen_slot f) (map (remove_calls t) l)
removed_seen f t l =
    map_swap (seen_slot f) (remove_calls t) (remove_calls t) (same_seen f (λ y. seen_slot f (remove_calls t y)) (remove_calls t) refl (λ q. refl)) l

module _ {A B : Type 0} (OA : Streams A) (OB : Streams B) (f : A → B) (h : Simulates OA OB f) where
  pub offer_seen : (s : A) (p : List ℕ) → told OB (offer OB (f s) p) ≡ seen_offer f (told OA (offer OA s p))
  unfolding offer
  offer_seen s [] = refl
  offer_seen s (b ∷ p) =
      let t = OA.push s b in
      let u = OB.push (f s) b in
      rw (offer_step OB (f s) b p, offer_step OA s b p, h.judge s b)
      ((elim (OA.judge t) as (λ (v : Verdict). OA.judge t ≡ v
      → told OB (bump (follows v u (offer OB u p))) ≡ seen_offer f (told OA (bump (follows v t (offer OA t p)))))
      [ more ↦ λ e. rw (h.more s b e) (ap bump (offer_seen t p)) | broken a ↦ λ e. rw (h.broken s b a e) | whole k x ↦ λ e. rw (h.whole s b k x e) ]) refl)

  -- ---- connect

  seated_seen : (s : State A) (i uid : ℕ) (gids : List ℕ) → seated OB (seen f s) i uid gids ≡ seen_step f (seated OA s i uid gids)
  seated_seen s i uid gids = rw (h.fresh, set_over (seen_slot f) s.slots i (peer (newcomer OA (s.last + 1) uid gids)))

  connect_at_lem : (s : State A) (i uid : ℕ) (gids : List ℕ) → connect_at OB (seen f s) i uid gids ≡ seen_step f (connect_at OA s i uid gids)
  connect_at_lem s i uid gids = rw (long_seen f s) (search (chosen (seen_step f {R = Connected}), seated_seen))

  pub connect_seen : (image : List ℕ) (s : State A) (uid : ℕ) (gids : List ℕ) → connect OB image (seen f s) uid gids ≡ seen_step f (connect OA image s uid gids)
  unfolding connect
  connect_seen image s uid gids =
      let d = connect_decision image (record { 0 = uid }) gids in
      let i = first_by is_free s.slots in
      let z = seen f s in
      rw (first_seen f s is_free is_free refl (λ p. refl))
      (chosen (seen_step f) (ltb 16 (length gids)) _ _ _ _ refl
      (ap (connect_by d.rule)
      (chosen (seen_step f) d.allow (connect_at OA s i uid gids) (stays s (no_connect 36)) (connect_at OB z i uid gids) (stays z (no_connect 36))
      (connect_at_lem s i uid gids) refl)))

  -- ---- piece

  -- the judgement of an offer by what the rules hear of it
  abbrev heard : {S : Type 0} → List ℕ → State S → ℕ → Peer S → Offer S → Step S Taken
  heard image s i p o = let q = with_stream p o.stream in offered image (put_slot s i (peer q)) i q o.taken o.verdict

  offered_seen : (image : List ℕ) (s : State A) (i : ℕ) (p : Peer A) (n : ℕ) (v : Verdict)
      → offered image (seen f s) i (seen_peer f p) n v ≡ seen_step f (offered image s i p n v)
  offered_seen image s i p n more = refl
  offered_seen image s i p n (broken a) = refl
  offered_seen image s i p n (whole k x) = rw (judged_seen f image s p x i k)

  heard_seen : (image : List ℕ) (s : State A) (i : ℕ) (p : Peer A) (o : Offer A)
      → heard image (seen f s) i (seen_peer f p) (seen_offer f o) ≡ seen_step f (heard image s i p o)
  heard_seen image s i p o =
      let q = with_stream p o.stream in
      rw (put_seen f s i (peer q)) (offered_seen image (put_slot s i (peer q)) i q o.taken o.verdict)

  piece_at_lem : (image : List ℕ) (s : State A) (i : ℕ) (x : Slot A) (bytes : List ℕ)
      → piece_at OB image (seen f s) i (seen_slot f x) bytes ≡ seen_step f (piece_at OA image s i x bytes)
  piece_at_lem image s i free bytes = refl
  piece_at_lem image s i (peer p) bytes =
      rw (h.closed p.stream)
      (chosen (seen_step f) (OA.closed p.stream) _ _ _ _ refl
      (ap (heard image (seen f s) i (seen_peer f p)) (offer_seen p.stream bytes) ∙ heard_seen image s i p (told OA (offer OA p.stream bytes))))

  pub piece_seen : (image : List ℕ) (s : State A) (n : ℕ) (bytes : List ℕ) → piece OB image (seen f s) n bytes ≡ seen_step f (piece OA image s n bytes)
  unfolding piece
  piece_seen image s n bytes = let i = first_by (is_peer n) s.slots in rw (first_peer f s n, slot_seen f s i) (piece_at_lem image s i (slot_at s i) bytes)

  -- ---- disconnect

  disconnect_at_lem : (s : State A) (i : ℕ) (x : Slot A) → disconnect_at OB (seen f s) i (seen_slot f x) ≡ seen_step f (disconnect_at OA s i x)
  disconnect_at_lem s i free = refl
  disconnect_at_lem s i (peer p) =
      rw (
        set_over (seen_slot f) s.slots i free,
        removed_seen f (is_to p.number) (set s.slots i free),
        h.count p.stream,
      )

  pub disconnect_seen : (s : State A) (n : ℕ) → disconnect OB (seen f s) n ≡ seen_step f (disconnect OA s n)
  unfolding disconnect
  disconnect_seen s n = let i = first_by (is_peer n) s.slots in rw (first_peer f s n, slot_seen f s i) (disconnect_at_lem s i (slot_at s i))

-- ---- tick, own and release, which know nothing of streams

module _ {A B : Type 0} (f : A → B) (s : State A) where
  abbrev z : State B
  z = seen f s

  named : (i : ℕ) (p : Peer A) (ns : List (List ℕ))
      → stays {R = ℕ} (put_slot z i (peer (with_names (seen_peer f p) ns))) 0 ≡ seen_step f (stays (put_slot s i (peer (with_names p ns))) 0)
  named i p ns = rw (put_seen f s i (peer (with_names p ns)))

  -- own where policy allows it
  abbrev own_granted : {S : Type 0} → State S → ℕ → Peer S → List ℕ → Step S ℕ
  own_granted s i p name = cond (owns p.names name) (stays s 0) (own_new s i p name)

  granted : (i : ℕ) (p : Peer A) (name : List ℕ) → own_granted z i (seen_peer f p) name ≡ seen_step f (own_granted s i p name)
  granted i p name =
      rw (first_seen f s (is_owner name) (is_owner name) refl (λ p. refl), long_seen f s)
      (search (chosen (seen_step f {R = ℕ}), named i p) depth 8)

  own_at_lem : (image : List ℕ) (i : ℕ) (x : Slot A) (name : List ℕ) → own_at image z i (seen_slot f x) name ≡ seen_step f (own_at image s i x name)
  own_at_lem image i free name = refl
  own_at_lem image i (peer p) name =
      let d = own_decision image (record { 0 = p.uid }) p.gids name in
      chosen (seen_step f) (ownable name) _ _ _ _
      (ap (own_by d.rule)
      (chosen (seen_step f) d.allow (own_granted s i p name) (stays s 32) (own_granted z i (seen_peer f p) name) (stays z 32) (granted i p name) refl))
      refl

  pub own_seen : (image : List ℕ) (n : ℕ) (name : List ℕ) → own image (seen f s) n name ≡ seen_step f (own image s n name)
  unfolding own
  own_seen image n name = let i = first_by (is_peer n) s.slots in rw (first_peer f s n, slot_seen f s i) (own_at_lem image i (slot_at s i) name)

  release_at_lem : (i : ℕ) (x : Slot A) (name : List ℕ) → release_at z i (seen_slot f x) name ≡ seen_step f (release_at s i x name)
  release_at_lem i free name = refl
  release_at_lem i (peer p) name = search (chosen (seen_step f {R = ℕ}), named i p)

  pub release_seen : (n : ℕ) (name : List ℕ) → release (seen f s) n name ≡ seen_step f (release s n name)
  unfolding release
  release_seen n name = let i = first_by (is_peer n) s.slots in rw (first_peer f s n, slot_seen f s i) (release_at_lem i (slot_at s i) name)

  count_seen : (t : Pending → Bool) (l : List (Slot A)) → count_in t (map (seen_slot f) l) ≡ count_in t l
  unfolding count_in
  count_seen t [] = refl
  count_seen t (x ∷ l) = rw (same_seen f (count_slot t) (count_slot t) refl (λ p. refl) x, count_seen t l)

  pub tick_seen : (now limit : ℕ) → tick (seen f s) now limit ≡ seen_step f (tick s now limit)
  unfolding tick
  tick_seen now limit =
      rw (removed_seen f (expired now limit) s.slots, count_seen (expired now limit) s.slots) (search (chosen (seen_step f {R = Ticked})))

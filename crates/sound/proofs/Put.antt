-- What a slot put anew leaves of good slots: one law over what changed, and its cases. And what is left of them where calls have ended by any test.
use mathlib.Core.Path.{◌≡◌, refl, sym, ◌∙◌, subst}
use mathlib.Core.Logic.{◌⊎◌, inl, inr}
use mathlib.Core.Bool.{Bool, true, false, false≢true}
use mathlib.Core.List.{List, map}
use Prim.Native.Nat.{ℕ, ◌+◌, ◌≤◌, ◌<◌}
use native.Mathlib.Omega.{arith}
use lib.ListN.{length, get_or, set, length-set, get_or-map}
use lib.Seq.{get_or-set_same}
use borrow.Author.Tests.{eqb-true}
use Rattle.wire.specs.Lists.{any}
use Rattle.policy.specs.Names.{owns}
use Rattle.stream.specs.Tail.{Tail}
use Rattle.rules.specs.State.{Pending, Peer, Slot, free, peer, State, is_free, is_peer, put_slot, with_pending}
use Rattle.rules.specs.Pending.{same_call, is_to, awaits, ended_where, remove_calls}
use Rattle.rules.specs.Calls.{is_owner}
use Rattle.memory.specs.Good.{nobody}
use Rattle.memory.specs.Sound.{Sound}
use Rattle.wire.proofs.Tests.{clash}
use Rattle.sound.proofs.Slots.{nobody_at, somebody_at, put_cases, put_passes, Single, single_set}
use Rattle.rules.proofs.First.{taken_below}
use Rattle.rules.specs.Awaited.{is_waiting}
use Rattle.rules.proofs.Fewer.{ended_where_fewer, fewer_length}
use Rattle.sound.proofs.Pending.{narrow_call, dated_call, fewer_every, dated_later}
use Rattle.rules.proofs.Any.{distinct_fewer}
use Rattle.rules.proofs.Waits.{has_serial, awaits_fewer, ended_to_ends}
use Rattle.sound.proofs.Kept.{Fine, Alone, Among, Kept, sound_kept, kept_sound}

-- ---- any slot put

-- x may stand at i: it is good by itself, its number and its names are in no other slot, its callees are connected, and a number that stood there stays
pub record Fits (last tick : ℕ) (l : List (Slot Tail)) (i : ℕ) (x : Slot Tail) : Type 0 where
  pub alone : Alone last tick x
  pub number : (n j : ℕ) → is_peer n x ≡ true → is_peer n (get_or l j free) ≡ true → j ≡ i
  pub name : (y : List ℕ) (j : ℕ) → is_owner y x ≡ true → is_owner y (get_or l j free) ≡ true → j ≡ i
  pub callee : (c s : ℕ) → is_waiting c s x ≡ true → (j : ℕ) × (is_peer c (get_or l j free) ≡ true)
  pub stays : (n : ℕ) → is_peer n (get_or l i free) ≡ true → is_peer n x ≡ true

pub put_kept : (last tick : ℕ) (l : List (Slot Tail)) (i : ℕ) (x : Slot Tail) → i < length l → Kept last tick l → Fits last tick l i x → Kept last tick (set l i x)
put_kept last tick l i x h k f =
    record {
      each = λ j. put_cases (Alone last tick) l i x h j (λ e. f.alone) (λ n. k.each j);
      numbers = λ n. single_set (is_peer n) l i x h (k.numbers n) (f.number n);
      names = λ y. single_set (is_owner y) l i x h (k.names y) (f.name y);
      callees =
          λ j c s q. there c (elim (put_passes (is_waiting c s) l i x h j q) [ inl u ↦ f.callee c s u.1 | inr u ↦ k.callees j c s u.1 ]);
    }
  where
    there : (c : ℕ) → (m : ℕ) × (is_peer c (get_or l m free) ≡ true) → (m : ℕ) × (is_peer c (get_or (set l i x) m free) ≡ true)
    there c r = (
      r.0,
      put_cases (λ y. is_peer c y ≡ true) l i x h r.0 (λ e. f.stays c (subst (λ (m : ℕ). is_peer c (get_or l m free) ≡ true) e r.1)) (λ n. r.1),
    )

-- ---- a peer put anew, with its number

-- what changed: its names are its own or nobody's, its callees are its own or connected
pub record Renewed (last tick : ℕ) (l : List (Slot Tail)) (p q : Peer Tail) : Type 0 where
  pub number : q.number ≡ p.number
  pub fine : Fine last tick q
  pub names : (y : List ℕ) → owns q.names y ≡ true → (owns p.names y ≡ true) ⊎ (nobody (is_owner y) l ≡ true)
  pub waits : (c s : ℕ) → awaits c s q.pending ≡ true → (awaits c s p.pending ≡ true) ⊎ (any (is_peer c) l ≡ true)

module _ (last tick : ℕ) (l : List (Slot Tail)) (i : ℕ) (p q : Peer Tail) (k : Kept last tick l) (e : get_or l i free ≡ peer p) where
  pub renewed_fits : Renewed last tick l p q → Fits last tick l i (peer q)
  renewed_fits r =
      record {
        alone = r.fine;
        number = λ n j a b. k.numbers n j i b (rw e (rw r.number at a));
        name = λ y j a b. elim (r.names y a) [ inl u ↦ k.names y j i b (rw e u) | inr u ↦ absurd (clash b (nobody_at (is_owner y) refl l u j)) ];
        callee = λ c s a. elim (r.waits c s a) [ inl u ↦ k.callees i c s (rw e u) | inr u ↦ somebody_at (is_peer c) l u ];
        stays = λ n a. rw r.number (rw e at a);
      }

-- the peer of a slot is good by itself
pub peer_fine : (s : State Tail) (i : ℕ) (p : Peer Tail) → Sound s → get_or s.slots i free ≡ peer p → Fine s.last s.tick p
peer_fine s i p g e = subst (Alone s.last s.tick) e ((sound_kept g).each i)

pub sound_renewed : (s : State Tail) (i : ℕ) (p q : Peer Tail) → Sound s → get_or s.slots i free ≡ peer p → Renewed s.last s.tick s.slots p q
    → Sound (put_slot s i (peer q))
sound_renewed s i p q g e r =
    kept_sound (put_slot s i (peer q)) (length-set s.slots i (peer q) ∙ g.sixteen) g.fits g.ticks
    (put_kept s.last s.tick s.slots i (peer q) (taken_below s.slots i p e) (sound_kept g)
    (renewed_fits s.last s.tick s.slots i p q (sound_kept g) e r))

-- what stands there then
pub put_there : (s : State Tail) (i : ℕ) (p q : Peer Tail) → get_or s.slots i free ≡ peer p → get_or (put_slot s i (peer q)).slots i free ≡ peer q
put_there s i p q e = get_or-set_same s.slots i (peer q) free (taken_below s.slots i p e)

-- ---- a later number and a later tick

later_fine : {last tick number now : ℕ} → last ≤ number → tick ≤ now → (x : Slot Tail) → Alone last tick x → Alone number now x
later_fine h k free a = tt
later_fine {tick = tick} {number = number} {now = now} h k (peer p) a =
    let high : p.number ≤ number = omega (arith, a.high) in
    let dates = dated_later tick now k p.pending a.dates in
    search

pub later_kept : {last tick number now : ℕ} → last ≤ number → tick ≤ now → (l : List (Slot Tail)) → Kept last tick l → Kept number now l
later_kept h q l k =
    record { each = λ i. later_fine h q (get_or l i free) (k.each i); numbers = k.numbers; names = k.names; callees = k.callees }

-- ---- a newcomer, whose number is above the last

number_below : (last tick n : ℕ) (x : Slot Tail) → Alone last tick x → is_peer n x ≡ true → n ≤ last
number_below last tick n free a h = absurd (false≢true h)
number_below last tick n (peer p) a h = omega (arith, a.high, eqb-true p.number n h)

free_nobody : (n : ℕ) (x : Slot Tail) → is_free x ≡ true → is_peer n x ≡ true → ⊥
free_nobody n free e h = false≢true h
free_nobody n (peer p) e h = false≢true e

-- a peer without names and pending calls
pub record New (last tick : ℕ) (q : Peer Tail) : Type 0 where
  pub number : q.number ≡ last + 1
  pub fine : Fine (last + 1) tick q
  pub nameless : (y : List ℕ) → owns q.names y ≡ false
  pub waitless : (c s : ℕ) → awaits c s q.pending ≡ false

pub new_kept : (last tick : ℕ) (l : List (Slot Tail)) (i : ℕ) (q : Peer Tail) → i < length l → is_free (get_or l i free) ≡ true → Kept last tick l
    → New last tick q → Kept (last + 1) tick (set l i (peer q))
new_kept last tick l i q h f k w =
    put_kept (last + 1) tick l i (peer q) h (later_kept (omega arith) (omega arith) l k)
    (record {
      alone = w.fine;
      number = λ n j a b. absurd (omega (arith, number_below last tick n (get_or l j free) (k.each j) b, eqb-true q.number n a, w.number));
      name = λ y j a b. absurd (clash a (w.nameless y));
      callee = λ c s a. absurd (clash a (w.waitless c s));
      stays = λ n a. absurd (free_nobody n (get_or l i free) f a);
    })

-- ---- calls that ended by any test

module _ (t : Pending → Bool) where
  removed_fine : (last tick : ℕ) (x : Slot Tail) → Alone last tick x → Alone last tick (remove_calls t x)
  removed_fine last tick free a = tt
  removed_fine last tick (peer p) a =
      let f = ended_where_fewer t p.pending in
      let few : length (ended_where t p.pending) ≤ 16 = omega (arith, fewer_length f, a.few_pending) in
      search (distinct_fewer has_serial same_call f, fewer_every narrow_call f, fewer_every (dated_call tick) f)

  -- what says nothing of pending calls says the same
  pub removed_same : (u : Slot Tail → Bool) → ((p : Peer Tail) (ws : List Pending) → u (peer (with_pending p ws)) ≡ u (peer p))
      → (x : Slot Tail) → u (remove_calls t x) ≡ u x
  removed_same u e free = refl
  removed_same u e (peer p) = e p (ended_where t p.pending)

  -- whoever waits still, waited
  removed_waiting : (c s : ℕ) (x : Slot Tail) → is_waiting c s (remove_calls t x) ≡ true → is_waiting c s x ≡ true
  removed_waiting c s free h = h
  removed_waiting c s (peer p) h = awaits_fewer (ended_where_fewer t p.pending) c s h

  module _ (all : List (Slot Tail)) (last tick : ℕ) (l : List (Slot Tail)) (k : Among all last tick l) where
    abbrev left : List (Slot Tail)
    left = map (remove_calls t) l

    left_at : (j : ℕ) → get_or left j free ≡ remove_calls t (get_or l j free)
    left_at j = get_or-map (remove_calls t) l j free

    left_single : (u : Slot Tail → Bool) → ((x : Slot Tail) → u (remove_calls t x) ≡ u x) → Single u l → Single u left
    left_single u b s i j p q = s i j (sym (b (get_or l i free)) ∙ (rw (left_at i) at p)) (sym (b (get_or l j free)) ∙ (rw (left_at j) at q))

    there : (c : ℕ) → (m : ℕ) × (is_peer c (get_or l m free) ≡ true) → (m : ℕ) × (is_peer c (get_or left m free) ≡ true)
    there c r = (r.0, rw (left_at r.0, removed_same (is_peer c) (λ p ws. refl) (get_or l r.0 free)) r.1)

    -- the slots are kept, if each callee that is still awaited stands in one of them
    pub removed_kept : ((c s j : ℕ) → is_waiting c s (remove_calls t (get_or l j free)) ≡ true → (m : ℕ) × (is_peer c (get_or all m free) ≡ true)
        → (m : ℕ) × (is_peer c (get_or l m free) ≡ true))
        → Kept last tick left
    removed_kept stay =
        record {
          each = λ j. rw (left_at j) (removed_fine last tick (get_or l j free) (k.each j));
          numbers = λ n. left_single (is_peer n) (removed_same (is_peer n) (λ p ws. refl)) (k.numbers n);
          names = λ y. left_single (is_owner y) (removed_same (is_owner y) (λ p ws. refl)) (k.names y);
          callees =
              λ j c s a. let w = rw (left_at j) at a in
              there c (stay c s j w (k.callees j c s (removed_waiting c s (get_or l j free) w)));
        }

-- ---- calls that are old enough: nobody is gone

pub expired_kept : (t : Pending → Bool) {last tick now : ℕ} → tick ≤ now → (l : List (Slot Tail)) → Kept last tick l → Kept last now (map (remove_calls t) l)
expired_kept t {last} {now = now} h l k = removed_kept t l last now l (later_kept (omega arith) h l k) (λ c s j w r. r)

-- ---- a peer gone, and the calls to it

-- nobody awaits it
gone_unawaited : (c s n : ℕ) (x : Slot Tail) → is_waiting c s (remove_calls (is_to n) x) ≡ true → c ≡ n → ⊥
gone_unawaited c s n free h e = false≢true h
gone_unawaited c s n (peer p) h e = clash h (subst (λ (m : ℕ). awaits c s (ended_where (is_to m) p.pending) ≡ false) e (ended_to_ends c s p.pending))

one_number : (n m : ℕ) (x : Slot Tail) → is_peer n x ≡ true → is_peer m x ≡ true → m ≡ n
one_number n m free a b = absurd (false≢true a)
one_number n m (peer p) a b = sym (eqb-true p.number m b) ∙ eqb-true p.number n a

module _ (last tick : ℕ) (l : List (Slot Tail)) (i n : ℕ) (h : i < length l) (k : Kept last tick l) (e : is_peer n (get_or l i free) ≡ true) where
  freed_single : (u : Slot Tail → Bool) → u free ≡ false → Single u l → Single u (set l i free)
  freed_single u f s = single_set u l i free h s (λ j z w. absurd (clash z f))

  -- its slot is freed: callees are still those of before
  freed : Among l last tick (set l i free)
  freed =
      record {
        each = λ j. put_cases (Alone last tick) l i free h j (λ z. tt) (λ z. k.each j);
        numbers = λ m. freed_single (is_peer m) refl (k.numbers m);
        names = λ y. freed_single (is_owner y) refl (k.names y);
        callees = λ j c s a. elim (put_passes (is_waiting c s) l i free h j a) [ inl u ↦ absurd (false≢true u.1) | inr u ↦ k.callees j c s u.1 ];
      }

  -- a callee that is another than the one gone stands where it stood
  elsewhere : (c : ℕ) → (c ≡ n → ⊥) → (m : ℕ) × (is_peer c (get_or l m free) ≡ true) → (m : ℕ) × (is_peer c (get_or (set l i free) m free) ≡ true)
  elsewhere c d r = (
    r.0,
    put_cases (λ y. is_peer c y ≡ true) l i free h r.0
        (λ z. absurd (d (one_number n c (get_or l i free) e (subst (λ (m : ℕ). is_peer c (get_or l m free) ≡ true) z r.1)))) (λ z. r.1),
  )

  pub gone_kept : Kept last tick (map (remove_calls (is_to n)) (set l i free))
  gone_kept =
      removed_kept (is_to n) l last tick (set l i free) freed (λ c s j w. elsewhere c (gone_unawaited c s n (get_or (set l i free) j free) w))

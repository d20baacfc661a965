-- A peer's pending calls that memory stores, and their count, are what the list of calls says (rule 12.4).
use mathlib.Core.Path.{◌≡◌, refl, sym, ap, ◌∙◌, subst}
use mathlib.Core.Bool.{cond, ◌&&◌}
use mathlib.Core.List.{List}
use Prim.Native.Nat.{ℕ, ◌+◌, ◌≤◌, ◌<◌}
use native.Mathlib.Omega.{arith}
use native.Mathlib.Decide.{dec_lt}
use lib.Dec.{eqb}
use lib.ListN.{length, replicate, get_or-replicate, get_or-eq_default}
use lib.Seq.{get_or-set_same}
use Rattle.image.specs.Good.{image_answer}
use Rattle.stream.specs.Stream.{Verdict, more, broken, whole, offer, settled}
use Rattle.stream.specs.Tail.{Tail}
use Rattle.rules.specs.State.{Slot, free, peer, Peer, State, is_peer, first_by, put_slot, with_stream}
use Rattle.rules.specs.Pending.{is_to, count_where}
use Rattle.rules.specs.Calls.{Step, empty, slot_at, no_piece, offered, piece_at, piece}
use Rattle.rules.specs.declared.Connected.{Connected}
use Rattle.rules.specs.declared.Owned.{Owned}
use Rattle.rules.specs.declared.Taken.{Taken}
use Rattle.rules.specs.View.{seen_slot, seen}
use Rattle.rules.proofs.View.{same_seen, slot_seen}
use Rattle.wire.proofs.Tests.{choice}
use Rattle.rules.proofs.First.{taken_below, number_found}
use Rattle.memory.specs.Layout.{slot_start}
use Rattle.memory.specs.Places.{peer_from, number_at, count_at}
use Rattle.memory.proofs.Fields.{count_stored}
use Rattle.memory.proofs.Reading.{slot_peer}
use Rattle.sound.proofs.Put.{peer_fine}
use Rattle.sound.proofs.Slots.{Single, single_set}
use Rattle.sound.proofs.Kept.{Alone, sound_kept}
use Rattle.book.specs.Book.{books, tail_view}
use Rattle.book.specs.Lists.{Call, starts, connects, claims, releases, offers, leaves, ticks, Answer, model_step, after, Run, done, then, Reached}
use Rattle.book.specs.Lists.{ran_start, since_start, since_empty, under_image}
use Rattle.book.specs.Tally.{Tally, no_calls, piece_passed, verdict_on, call_tallied, begins, tally_after, tallied, since}
use Rattle.book.proofs.Counts.{Right}
use Rattle.book.proofs.Tally.{RightAt, Counts, same_counts, judged_counts, owned_counts, released_counts, connected_counts, left_counts, ticked_counts}
use Rattle.book.proofs.List.{Holds, one, empty_holds, start_holds}
use Rattle.book.proofs.Runs.{reached_holds, held_slot}

-- ---- what a sound state says of numbers

module _ {m : List ℕ} {b : State (List ℕ)} (h : Holds m b) where
  number_seen : (n j : ℕ) → is_peer n (slot_at (seen tail_view b) j) ≡ is_peer n (slot_at b j)
  number_seen n j = ap (is_peer n) (slot_seen tail_view b j) ∙ same_seen tail_view (is_peer n) (is_peer n) refl (λ p. refl) (slot_at b j)

  pub one_slot : (n : ℕ) → Single (is_peer n) b.slots
  one_slot n i j p q = (sound_kept h.sound).numbers n i j (number_seen n i ∙ p) (number_seen n j ∙ q)

  pub low_number : (j : ℕ) (p : Peer (List ℕ)) → slot_at b j ≡ peer p → p.number ≤ b.last
  low_number j p e =
      (subst (Alone b.last b.tick) (slot_seen tail_view b j ∙ ap (seen_slot tail_view) e) ((sound_kept h.sound).each j)).high

-- ---- a piece

module _ (n : ℕ) (t : Tally) (image : List ℕ) (b : State (List ℕ)) (k : ℕ) (bytes : List ℕ)
    (single : Single (is_peer n) b.slots) (c : Counts n t b) where
  -- the tally after a piece that heard v
  abbrev Heard : Verdict → Step (List ℕ) Taken → Type 0
  Heard v z = Counts n (cond (eqb z.result.judgement.answer 0) (piece_passed n k b.tick v z.result.judgement.receiver t) t) z.state

  offered_counts : (i taken : ℕ) (q : Peer (List ℕ)) (v : Verdict) (s : State (List ℕ)) → Single (is_peer n) s.slots → Counts n t s → slot_at s i ≡ peer q
      → q.number ≡ k → s.tick ≡ b.tick
      → Heard v (offered image s i q taken v)
  offered_counts i taken q more s u d e f z = d
  offered_counts i taken q (broken a) s u d e f z = choice (λ (y : Tally). Counts n y s) (eqb a 0) t t (λ w. d) (λ w. d)
  offered_counts i taken q (whole h x) s u d e f z = rw (← f, ← z) (judged_counts n s t u d image i q e x h)

  piece_at_lem : (i : ℕ) (y : Slot (List ℕ)) → slot_at b i ≡ y → ((p : Peer (List ℕ)) → y ≡ peer p → p.number ≡ k) → Heard (verdict_on y bytes) (piece_at books image b i y bytes)
  piece_at_lem i free e f = c
  piece_at_lem i (peer p) e f =
      let o = offer books p.stream bytes in
      let q = with_stream p (settled books o.verdict o.stream) in
      let l = taken_below b.slots i p e in
      choice (Heard o.verdict) (books.closed p.stream) _ _ (λ z. c)
      (λ z. offered_counts i o.taken q o.verdict (put_slot b i (peer q))
      (single_set (is_peer n) b.slots i (peer q) l single (λ j g h. single j i h (ap (is_peer n) e ∙ g)))
      (same_counts n b t single c i p q e refl refl) (get_or-set_same b.slots i (peer q) free l) (f p refl) refl)

  pub piece_counts : Heard (verdict_on (slot_at b (first_by (is_peer k) b.slots)) bytes) (under_image no_piece image b (piece books image b k bytes))
  unfolding piece
  piece_counts =
      let i = first_by (is_peer k) b.slots in
      choice (Heard (verdict_on (slot_at b i) bytes)) (eqb (image_answer image) 0) _ _ (λ a. piece_at_lem i (slot_at b i) refl (number_found b.slots k))
      (λ a. rw a c)

-- ---- every call

no_peer : (j : ℕ) → slot_at {S = List ℕ} empty j ≡ free
no_peer j = elim (dec_lt j 16) [ yes h ↦ get_or-replicate 16 j free free h | no h ↦ let l : 16 ≤ j = omega arith in get_or-eq_default (replicate 16 free) free l ]

module _ (n : ℕ) where
  empty_counts : (t : Tally) → Counts {S = List ℕ} n t empty
  empty_counts t j = rw (no_peer j) tt

  step_counts : {m : List ℕ} (b : State (List ℕ)) (t : Tally) → Holds m b → Counts n t b
      → (x : Call) → Counts n (tally_after n b (model_step b x).answer x t) (model_step b x).state
  unfolding model_step begins call_tallied
  step_counts b t h c starts = empty_counts no_calls
  step_counts b t h c (connects image uid gids) =
      choice (λ (z : Step (List ℕ) Connected). Counts n (cond (eqb z.result.answer 0 && eqb z.result.number n) no_calls t) z.state)
      (eqb (image_answer image) 0) _ _ (λ a. connected_counts n b t (one_slot h n) c books uid gids (low_number h) image) (λ a. rw a c)
  step_counts b t h c (claims image k name) =
      choice (λ (z : Step (List ℕ) Owned). Counts n t z.state) (eqb (image_answer image) 0) _ _
      (λ a. owned_counts n b t (one_slot h n) c image k name) (λ a. c)
  step_counts b t h c (releases k name) = released_counts n b t (one_slot h n) c k name
  step_counts b t h c (offers image k bytes) = piece_counts n t image b k bytes (one_slot h n) c
  step_counts b t h c (leaves k) = left_counts n b t (one_slot h n) c books k
  step_counts b t h c (ticks now limit) = ticked_counts n b t (one_slot h n) c now limit

  run_counts : {m e : List ℕ} {cs : List Call} {given : List Answer} (b : State (List ℕ)) (t : Tally) → Run m cs given e → Holds m b → Counts n t b
      → Counts n (tallied n b cs t) (after b cs)
  unfolding tallied after
  run_counts b t done h c = c
  run_counts b t (then {c = x} r rs) h c = run_counts (model_step b x).state _ rs (one b h r).holds (step_counts b t h c x)

  pub reached_counts : {m : List ℕ} {cs : List Call} → Reached m cs → Counts n (since n cs) (after empty cs)
  unfolding model_step begins tallied after
  reached_counts (since_start {k = k} l (then (ran_start d) rs)) = run_counts empty no_calls rs (start_holds k l d).1 (empty_counts no_calls)
  reached_counts (since_empty r) = run_counts empty no_calls r empty_holds (empty_counts no_calls)

-- ---- what memory says

module _ {m : List ℕ} {cs : List Call} (run : Reached m cs) (i : ℕ) (h : i < 16) (used : number_at m i ≡ 0 → ⊥) where
  abbrev n : ℕ
  n = number_at m i

  -- the peer that memory has there
  abbrev there : Peer Tail
  there = peer_from m (slot_start i)

  -- is the model's
  there_is : seen_slot tail_view (slot_at (after empty cs) i) ≡ peer there
  there_is = sym (held_slot (reached_holds run) i) ∙ slot_peer m i h used

  seen_right : (y : Slot (List ℕ)) (t : Tally) → RightAt n t y → RightAt n t (seen_slot tail_view y)
  seen_right free t r = tt
  seen_right (peer p) t r = r

  right_there : Right (since n cs) there.pending
  right_there = subst (RightAt n (since n cs)) there_is (seen_right (slot_at (after empty cs) i) (since n cs) (reached_counts n run i)) refl

  stored_there : count_at m i ≡ length there.pending
  stored_there =
      let k = reached_holds run in
      let s = seen tail_view (after empty cs) in
      let e : slot_at s i ≡ peer there = slot_seen tail_view (after empty cs) i ∙ there_is in
      ap (λ (y : List ℕ). count_at y i) k.bytes ∙ count_stored s i there (rw k.sound.sixteen h) e (peer_fine s i there k.sound e).few_pending

  -- THE COUNT: with the replies and the other ends, it makes the calls that were admitted
  pub count_claim : count_at m i + ((since n cs).replied + (since n cs).otherwise) ≡ (since n cs).admitted
  count_claim = omega (arith, stored_there, right_there.sum)

  -- THE RECORDS: they are the calls that neither were replied to nor have ended otherwise, each with the tick at which it passed
  pub records_claim : there.pending ≡ (since n cs).waiting
  records_claim = right_there.are

  -- and so of each callee as many
  pub callee_claim : (c : ℕ) → count_where (is_to c) there.pending ≡ count_where (is_to c) (since n cs).waiting
  callee_claim c = ap (count_where (is_to c)) records_claim

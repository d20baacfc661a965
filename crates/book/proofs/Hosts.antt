-- Batches and hosts (rules 9.6 and 12.5): a batch is a run of the single calls that it stands for, so what a host does with single calls and batches is a
-- run of calls. All that is shown of runs is so shown of hosts: `count_claim` and `full_calls` speak of memory that calls have reached, `split_claim` and
-- `lists_alike` of what runs and offerings leave.
use mathlib.Core.Path.{◌≡◌, refl, sym, ap, ◌∙◌}
use mathlib.Core.Bool.{true, false, false≢true}
use mathlib.Core.List.{List, [], ◌∷◌, ◌++◌, map, append_assoc, append-nil}
use Prim.Native.Nat.{ℕ, zero, suc, ◌+◌, ◌<◌}
use native.Mathlib.Nat.{suc-add}
use native.Mathlib.Omega.{arith}
use lib.Dec.{eqb, eqb-suc-zero}
use lib.ListN.{length, take, drop}
use lib.Seq.{take_all, drop-drop}
use Rattle.wire.specs.Bytes.{Below}
use Rattle.wire.proofs.Tests.{refute, by_test}
use Rattle.image.specs.Good.{image_answer}
use Rattle.stream.specs.Tail.{Tail, tails}
use Rattle.rules.specs.State.{State}
use Rattle.rules.specs.Calls.{empty, piece, no_piece}
use Rattle.rules.specs.Series.{series, taken_by}
use Rattle.rules.specs.Places.{goes_on}
use Rattle.rules.specs.View.{seen, seen_step}
use Rattle.rules.specs.declared.Judgement.{Judgement}
use Rattle.rules.specs.declared.Taken.{Taken}
use Rattle.rules.proofs.View.{chosen}
use Rattle.rules.proofs.Seen.{piece_seen}
use Rattle.rules.proofs.Series.{series_on, series_last, series_one, series_refused, series_prefix, series_seen}
use Rattle.memory.specs.Layout.{memory_length}
use Rattle.memory.specs.Encoding.{memory_of, state_of}
use Rattle.memory.specs.Good.{good}
use Rattle.memory.specs.Sound.{Sound}
use Rattle.memory.specs.Calls.{MemoryStep, Did, stored, start_on, piece_on, on_place, batch_on}
use Rattle.book.specs.Book.{books, tail_view}
use Rattle.book.specs.Lists.{Call, starts, Answer, plain, taken, under_image, ran_start, ran_piece, Run, done, then, Reached, since_start, since_empty}
use Rattle.book.specs.Lists.{model_step, after, Agrees}
use Rattle.book.specs.Split.{said, Offers, ends, again, OffersAll, joined_pieces}
use Rattle.book.specs.Hosts.{HostCall, single, piece_calls, Hosted, rests, once, many, model_batch, said_all}
use Rattle.book.specs.Hosts.{goes_on_all, Behind, nothing_more, what_is_left}
use Rattle.book.proofs.Tails.{simulates}
use Rattle.book.proofs.Images.{image_refuses}
use Rattle.book.proofs.List.{Holds, on_image_lem, empty_holds, start_holds, one, all, run_claim, empty_claim}
use Rattle.book.proofs.Runs.{run_append}
use Rattle.book.proofs.Split.{below_drop, Known, known_sound, known_bad, known, step, step_is, piece_on_lem, step_sound, split_claim}

-- ---- the single calls of at most k places, from memory m to memory e: they end with one that does not go on, or when all places are used

pub data Calls (image : List ℕ) (n : ℕ) (e : List ℕ) : ℕ → List ℕ → List ℕ → List Taken → Type 0 where
  full : {p : List ℕ} → Calls image n e zero e p []
  last : {m p : List ℕ} {k : ℕ} {t : Taken} → Did (piece_on image m n p) t e → goes_on t p ≡ false → Calls image n e (suc k) m p (t ∷ [])
  on : {m d p : List ℕ} {k : ℕ} {t : Taken} {ts : List Taken} → Did (piece_on image m n p) t d → goes_on t p ≡ true
      → Calls image n e k d (drop t.taken p) ts
      → Calls image n e (suc k) m p (t ∷ ts)

module _ (image : List ℕ) (n : ℕ) where
  -- ---- a batch makes such calls: over the bytes of a sound state, where each call leaves the bytes of another

  series_calls : (k : ℕ) (s : State Tail) (p : List ℕ) → Sound s → Below 256 p
      → Calls image n (memory_of (series (step image n) k s p).state) k (memory_of s) p (series (step image n) k s p).result
  unfolding series
  series_calls zero s p g b = full
  series_calls (suc k) s p g b =
      let z = step image n s p in
      let l = z.result.taken in
      let d : Did (piece_on image (memory_of s) n p) z.result (memory_of z.state) = rw (piece_on_lem image n s g p) (record { result = refl; memory = refl }) in
      by_test (goes_on z.result p)
      (λ o. rw (series_on (step image n) k s p o)
      (on d o (series_calls k z.state (drop l p) (step_sound image n s g p b) (below_drop l p b))))
      (λ o. rw (series_last (step image n) k s p o) (last d o))

  -- a refused image ends the first call
  series_step : (k : ℕ) (s : State Tail) (p : List ℕ)
      → under_image (λ a. no_piece a ∷ []) image s (series (λ x q. piece tails image x n q) (suc k) s p) ≡ series (step image n) (suc k) s p
  unfolding series step
  series_step k s p =
      by_test (eqb (image_answer image) 0) (λ e. rw e)
      (λ e. rw e (sym (series_refused (image_answer image) k s p (image_refuses image e).stops)))

  batch_on_lem : (k : ℕ) (s : State Tail) (p : List ℕ) → Sound s → batch_on image (memory_of s) n p k ≡ stored (series (step image n) k s p)
  unfolding batch_on series
  batch_on_lem zero s p g = refl
  batch_on_lem (suc k) s p g =
      rw (eqb-suc-zero k)
      (on_image_lem s g (λ a. no_piece a ∷ []) (λ x. series (λ y q. piece tails image y n q) (suc k) x p) image ∙ ap stored (series_step k s p))

  -- and over memory that is not good, where the first call is refused and ends all
  bad_calls : (k : ℕ) (m p : List ℕ) → good m ≡ false → Calls image n (batch_on image m n p k).memory k m p (batch_on image m n p k).result
  unfolding batch_on piece_on
  bad_calls zero m p g = full
  bad_calls (suc k) m p g =
      let a = image_answer image in
      by_test (eqb a 0) (λ e. rw (eqb-suc-zero k, e, g) (last {m = m} {p = p} {t = no_piece 51} (record { result = rw (e, g); memory = rw (e, g) }) refl))
      (λ e. rw (eqb-suc-zero k, e) (last {m = m} {p = p} {t = no_piece a} (record { result = rw e; memory = rw e }) (rw (image_refuses image e).stops)))

  known_calls : {m p : List ℕ} → Known m → Below 256 p → (k : ℕ) → Calls image n (batch_on image m n p k).memory k m p (batch_on image m n p k).result
  known_calls {p = p} (known_sound s g q) b k = rw (q, batch_on_lem k s p g) (series_calls k s p g b)
  known_calls {m} {p} (known_bad g) b k = bad_calls k m p g

  pub batch_calls : {m d p : List ℕ} {k : ℕ} {ts : List Taken} → Known m → Below 256 p → Did (batch_on image m n p k) ts d → Calls image n d k m p ts
  batch_calls {k = k} h b d = rw (d.result, d.memory) (known_calls h b k)

  -- ---- such calls are a run

  calls_run : {e m p : List ℕ} {k : ℕ} {ts : List Taken} → Below 256 p → Calls image n e k m p ts → Run m (piece_calls image n p ts) (map taken ts) e
  calls_run b full = done
  calls_run b (last d o) = then (ran_piece b d) done
  calls_run b (on {p = p} {t = t} d o rest) = then (ran_piece b d) (calls_run (below_drop t.taken p b) rest)

  -- a batch is a run of the piece calls that it stands for, under any image and with any room
  pub batch_run : {m d : List ℕ} {ts : List Taken} (p : List ℕ) (k : ℕ) (s : State Tail) → Sound s → m ≡ memory_of s → Below 256 p
      → Did (batch_on image m n p k) ts d
      → Run m (piece_calls image n p ts) (map taken ts) d
  batch_run p k s g q b d = calls_run b (batch_calls (known_sound s g q) b d)

  -- ---- such calls are an offering, or the first part of one

  calls_offer : {d m e p : List ℕ} {k : ℕ} {ts : List Taken} {vs : List Judgement} → Calls image n d k m p ts → Behind image n d p ts e vs
      → Offers image n e m p (said_all ts ++ vs)
  unfolding taken_by
  calls_offer full (nothing_more q) = absurd (false≢true (sym q))
  calls_offer full (what_is_left q o) = o
  calls_offer (last {t = t} d o) (nothing_more q) = rw (append-nil (said t ++ []), append-nil (said t)) (ends d o)
  calls_offer (last d o) (what_is_left q r) = absurd (false≢true (rw o at q))
  calls_offer (on {p = p} {t = t} {ts = ts} d o rest) (nothing_more q) =
      rw (append_assoc (said t) (said_all ts) []) (again d o (calls_offer rest (nothing_more (rw o at q))))
  calls_offer (on {p = p} {t = t} {ts = ts} d o rest) (what_is_left {vs = vs} q r) =
      rw (append_assoc (said t) (said_all ts) vs)
      (again d o (calls_offer {vs = vs} rest (what_is_left (rw o at q) (rw (drop-drop (taken_by ts) t.taken p) r))))

  -- where all go on, all places are used
  calls_fill : {e m p : List ℕ} {k : ℕ} {ts : List Taken} → Calls image n e k m p ts → goes_on_all ts p ≡ true → length ts ≡ k
  calls_fill full q = refl
  calls_fill (last d o) q = absurd (false≢true (rw o at q))
  calls_fill (on d o rest) q = ap suc (calls_fill rest (rw o at q))

  -- over any memory, good or not, and under any image: a batch is an offering together with an offering of what it has left, or by itself where it ended
  pub batch_offers : {m d e p : List ℕ} {ts : List Taken} {vs : List Judgement} (k : ℕ) → Below 256 m → Below 256 p → Did (batch_on image m n p k) ts d
      → Behind image n d p ts e vs
      → Offers image n e m p (said_all ts ++ vs)
  batch_offers {m} k bm b d h = calls_offer (batch_calls (known m bm) b d) h

  -- so it did where it did not fill its list
  pub short_batch_offers : {m d p : List ℕ} {k : ℕ} {ts : List Taken} → Below 256 m → Below 256 p → Did (batch_on image m n p k) ts d → length ts < k
      → Offers image n d m p (said_all ts)
  short_batch_offers {m} {p = p} {k = k} {ts = ts} bm b d l =
      let stops = refute (goes_on_all ts p) (λ q. let f = calls_fill (batch_calls (known m bm) b d) q in omega arith) in
      rw append-nil at (batch_offers k bm b d (nothing_more stops))

  -- and then the split claim covers it: the bytes offered in parts in any way say the same verdicts and leave the same memory
  pub batch_split_claim : {m d e : List ℕ} {ps : List (List ℕ)} {k : ℕ} {ts : List Taken} {ws : List Judgement} → Below 256 m → Below 256 (joined_pieces ps)
      → Did (batch_on image m n (joined_pieces ps) k) ts e → length ts < k
      → OffersAll image n m d ps ws
      → (said_all ts ≡ ws) × (e ≡ d)
  batch_split_claim bm b d l os = split_claim image n bm b (short_batch_offers bm b d l) os

  -- ---- a batch's room

  -- a batch of one place is the single call
  pub batch_one : (m p : List ℕ) → batch_on image m n p 1 ≡ on_place 1 m (piece_on image m n p)
  unfolding batch_on piece_on on_place
  batch_one m p =
      rw (series_one (λ x q. piece tails image x n q) (state_of m) p)
      (by_test (eqb (image_answer image) 0) (λ e. rw e (by_test (good m) (λ g. rw g) (λ g. rw g))) (λ e. rw e))

  -- with fewer places it reports the first of what it does with more
  pub batch_prefix : (k j : ℕ) (m p : List ℕ) → (batch_on image m n p k).result ≡ take k (batch_on image m n p (k + j)).result
  unfolding batch_on
  batch_prefix zero j m p = refl
  batch_prefix (suc k) j m p =
      let x = series_prefix (λ x q. piece tails image x n q) (suc k) j (state_of m) p in
      let y : (a : ℕ) → no_piece a ∷ [] ≡ no_piece a ∷ take k [] = λ a. ap (◌∷◌ (no_piece a)) (sym (take_all k [] (omega arith))) in
      let a = image_answer image in
      rw (suc-add k j, eqb-suc-zero k, eqb-suc-zero (k + j))
      (by_test (eqb a 0) (λ e. rw e (by_test (good m) (λ g. rw g (rw (suc-add k j) at x)) (λ g. rw g (y 51)))) (λ e. rw e (y a)))

  -- ---- the model's reports

  -- a batch reports what the model does, and leaves the bytes of what the model holds
  pub batch_told : {m d : List ℕ} {ts : List Taken} (p : List ℕ) (k : ℕ) (b : State (List ℕ)) → Holds m b → Did (batch_on image m n p k) ts d
      → (ts ≡ (model_batch b image n p k).result) × (d ≡ memory_of (seen tail_view (model_batch b image n p k).state))
  batch_told p k b h d =
      let told : (s : State (List ℕ)) (q : List ℕ)
      → step image n (seen tail_view s) q ≡ seen_step tail_view (under_image no_piece image s (piece books image s n q))
      = λ s q. step_is image n (seen tail_view s) q
      ∙ chosen (seen_step tail_view) (eqb (image_answer image) 0) _ _ _ _ (piece_seen books tails tail_view simulates image s n q) refl in
      let w : batch_on image _ n p k ≡ stored (seen_step tail_view (model_batch b image n p k))
      = ap (λ (x : List ℕ). batch_on image x n p k) h.bytes ∙ batch_on_lem k (seen tail_view b) p h.sound
      ∙ ap stored (series_seen tail_view _ (step image n) told k b p) in
      (d.result ∙ ap (λ (x : MemoryStep (List Taken)). x.result) w, d.memory ∙ ap (λ (x : MemoryStep (List Taken)). x.memory) w)

-- ---- a host's doing is a run, so that what holds of every run holds of every host

pub hosted_run : {m e : List ℕ} {hs : List HostCall} {cs : List Call} {given : List Answer} (b : State (List ℕ)) → Holds m b → Hosted m hs cs given e
    → Run m cs given e
hosted_run b h rests = done
hosted_run b h (once {c = c} r rest) = then r (hosted_run (model_step b c).state (one b h r).holds rest)
hosted_run b h (many {image = image} {p = p} {n = n} {places = k} {ts = ts} w d rest) =
    let r = batch_run image n p k (seen tail_view b) h.sound h.bytes w d in
    run_append r (hosted_run (after b (piece_calls image n p ts)) (all b r h).holds rest)

-- and every run is a host's
pub run_hosted : {m e : List ℕ} {cs : List Call} {given : List Answer} → Run m cs given e → Hosted m (map single cs) cs given e
run_hosted done = rests
run_hosted (then r rs) = once r (run_hosted rs)

-- ---- the claims

from_start : {m d e : List ℕ} {r : ℕ} {hs : List HostCall} {cs : List Call} {given : List Answer} → length m ≡ memory_length → Did (start_on m) r d
    → Hosted d hs cs given e
    → Run m (starts ∷ cs) (plain r ∷ given) e
from_start {m} l d h = then (ran_start d) (hosted_run empty (start_holds m l d).1 h)

-- where a host has come to: from a start over any memory of the right length
pub start_reached : {m e : List ℕ} {hs : List HostCall} {cs : List Call} {given : List Answer} → length m ≡ memory_length
    → Hosted m (single starts ∷ hs) cs given e
    → Reached e cs
start_reached l (once (ran_start d) rest) = since_start l (from_start l d rest)

-- and from an empty guard
pub empty_reached : {e : List ℕ} {hs : List HostCall} {cs : List Call} {given : List Answer} → Hosted (memory_of empty) hs cs given e → Reached e cs
empty_reached h = since_empty (hosted_run empty empty_holds h)

-- THE CLAIM: what a host does from a start on, over any memory of the right length, and whatever the model held before
pub list_claim : {m e : List ℕ} {hs : List HostCall} {cs : List Call} {given : List Answer} (b : State (List ℕ)) → length m ≡ memory_length
    → Hosted m (single starts ∷ hs) cs given e
    → Agrees b cs given e
list_claim b l (once (ran_start d) rest) = run_claim b l (from_start l d rest)

-- the same of an empty guard
pub empty_host_claim : {e : List ℕ} {hs : List HostCall} {cs : List Call} {given : List Answer} → Hosted (memory_of empty) hs cs given e
    → Agrees empty cs given e
empty_host_claim h = empty_claim (hosted_run empty empty_holds h)

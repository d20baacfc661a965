-- Every list of calls (rule 12.1): calls made one after the other on a started guard, each as its contract says, answer what the model answers, and
-- leave the bytes of what the model holds.
use mathlib.Core.Path.{◌≡◌, refl, ap, ap₂, ◌∙◌, subst}
use mathlib.Core.List.{List, ◌∷◌}
use Prim.Native.Nat.{ℕ}
use lib.Dec.{eqb}
use lib.ListN.{length}
use borrow.Author.Tests.{eq-eqb}
use Rattle.image.specs.Good.{image_answer}
use Rattle.stream.specs.Tail.{Tail, tails}
use Rattle.rules.specs.State.{State}
use Rattle.rules.specs.Calls.{Step, empty, connect, own, release, piece, disconnect, tick, no_connect, no_own, no_piece, no_gone, no_tick}
use Rattle.wire.proofs.Tests.{choice}
use Rattle.rules.specs.View.{seen, seen_step}
use Rattle.rules.proofs.View.{chosen}
use Rattle.rules.proofs.Seen.{connect_seen, own_seen, release_seen, piece_seen, disconnect_seen, tick_seen}
use Rattle.memory.specs.Layout.{memory_length}
use Rattle.memory.specs.Encoding.{memory_of, state_of}
use Rattle.memory.specs.Sound.{Sound}
use Rattle.memory.specs.Calls.{MemoryStep, Did, stored, on_memory, on_image, start_on, connect_on, own_on, release_on, piece_on, disconnect_on, tick_on}
use Rattle.memory.proofs.Sound.{state_again, good_memory}
use Rattle.memory.proofs.Frame.{memory_length_lem}
use Rattle.memory.proofs.Octets.{every_below}
use Rattle.sound.proofs.Keep.{empty_sound, connect_sound, own_sound, release_sound, piece_sound, disconnect_sound, tick_sound}
use Rattle.book.specs.Book.{books, tail_view}
use Rattle.book.specs.Lists.{Call, starts, Answer, plain, connected, owned, taken, gone, ticked, under_image, ModelStep, told_step, model_step, answers, after}
use Rattle.book.specs.Lists.{Ran, ran_start, ran_connect, ran_own, ran_release, ran_piece, ran_leave, ran_tick, Run, done, then, Agrees}
use Rattle.book.proofs.Tails.{simulates}
use Rattle.book.proofs.Never.{nevers}

-- ---- a step over the bytes of a sound state

module _ {R : Type 0} (s : State Tail) (g : Sound s) (refuse : ℕ → R) (step : State Tail → Step Tail R) where
  pub on_memory_lem : on_memory refuse (memory_of s) (step (state_of (memory_of s))) ≡ stored (step s)
  on_memory_lem = rw (good_memory s g, state_again s g)

  pub on_image_lem : (image : List ℕ) → on_image refuse image (memory_of s) (step (state_of (memory_of s))) ≡ stored (under_image refuse image s (step s))
  on_image_lem image = rw on_memory_lem (chosen stored (eqb (image_answer image) 0) _ _ _ _ refl refl)

-- ---- memory that holds the model's state

pub record Holds (m : List ℕ) (b : State (List ℕ)) : Type 0 where
  pub bytes : m ≡ memory_of (seen tail_view b)
  pub sound : Sound (seen tail_view b)

-- what a call is shown to do: it answers as the model's step does, and memory holds the state after it
pub record Told (t : ModelStep) (a : Answer) (e : List ℕ) : Type 0 where
  pub answer : a ≡ t.answer
  pub holds : Holds e t.state

-- a call that stores what the model's step is seen as
met : {R : Type 0} (say : R → Answer) (z : Step (List ℕ) R) {o : MemoryStep R} {r : R} {e : List ℕ} → o ≡ stored (seen_step tail_view z)
    → Sound (seen tail_view z.state) → Did o r e → Told (told_step say z) (say r) e
met {R} say z q k d =
    record {
      answer = ap say (d.result ∙ ap (λ (x : MemoryStep R). x.result) q);
      holds = record { bytes = d.memory ∙ ap (λ (x : MemoryStep R). x.memory) q; sound = k };
    }

module _ {R : Type 0} (say : R → Answer) {m : List ℕ} {b : State (List ℕ)} (h : Holds m b) (refuse : ℕ → R) (step : State Tail → Step Tail R)
    (z : Step (List ℕ) R) (seen_is : step (seen tail_view b) ≡ seen_step tail_view z) (keeps : Sound (step (seen tail_view b)).state) where
  sound_after : Sound (seen tail_view z.state)
  sound_after = subst (λ (y : Step Tail R). Sound y.state) seen_is keeps

  meets_memory : {r : R} {e : List ℕ} → Did (on_memory refuse m (step (state_of m))) r e → Told (told_step say z) (say r) e
  meets_memory = met say z (rw (h.bytes, on_memory_lem (seen tail_view b) h.sound refuse step, seen_is)) sound_after

  meets_image : (image : List ℕ) {r : R} {e : List ℕ} → Did (on_image refuse image m (step (state_of m))) r e
      → Told (told_step say (under_image refuse image b z)) (say r) e
  meets_image image =
      met say (under_image refuse image b z)
      (rw (h.bytes, on_image_lem (seen tail_view b) h.sound refuse step image)
      (ap stored (chosen (seen_step tail_view) (eqb (image_answer image) 0) _ _ _ _ seen_is refl)))
      (choice (λ (y : Step (List ℕ) R). Sound (seen tail_view y.state)) (eqb (image_answer image) 0) _ _ (λ a. sound_after) (λ a. h.sound))

-- ---- start

pub empty_holds : Holds (memory_of empty) empty
empty_holds = record { bytes = refl; sound = empty_sound }

pub start_holds : (m : List ℕ) {e : List ℕ} {r : ℕ} → length m ≡ memory_length → Did (start_on m) r e → (r ≡ 0) × Holds e empty
unfolding start_on
start_holds m l d =
    let t = eq-eqb (length m) memory_length l in
    (rw t at d.result, record { bytes = rw t at d.memory; sound = empty_sound })

holds_length : {m : List ℕ} {b : State (List ℕ)} → Holds m b → length m ≡ memory_length
holds_length {b = b} h = ap length h.bytes ∙ memory_length_lem (seen tail_view b) h.sound.sixteen

-- ---- one call

module _ {m : List ℕ} (b : State (List ℕ)) (h : Holds m b) where
  abbrev v : State Tail
  v = seen tail_view b

  pub one : {e : List ℕ} {c : Call} {a : Answer} → Ran m e c a → Told (model_step b c) a e
  unfolding model_step connect_on own_on release_on piece_on disconnect_on tick_on
  one (ran_start d) = let s = start_holds m (holds_length h) d in record { answer = ap plain s.0; holds = s.1 }
  one (ran_connect {image} {uid} {gids} u w d) =
      meets_image connected h no_connect (λ s. connect tails image s uid gids) (connect books image b uid gids)
      (connect_seen books tails tail_view simulates image b uid gids) (connect_sound v uid gids h.sound u (every_below 4294967296 gids w) image) image d
  one (ran_own {image} {n} {name} d) =
      meets_image owned h no_own (λ s. own image s n name) (own image b n name) (own_seen tail_view b image n name)
      (own_sound v h.sound image n name) image d
  one (ran_release {n} {name} d) =
      meets_memory plain h (λ a. a) (λ s. release s n name) (release b n name) (release_seen tail_view b n name) (release_sound v h.sound n name) d
  one (ran_piece {image} {n} {bytes} w d) =
      meets_image taken h no_piece (λ s. piece tails image s n bytes) (piece books image b n bytes)
      (piece_seen books tails tail_view simulates image b n bytes) (piece_sound v h.sound bytes (every_below 256 bytes w) image n) image d
  one (ran_leave {n} d) =
      meets_memory gone h no_gone (λ s. disconnect tails s n) (disconnect books b n) (disconnect_seen books tails tail_view simulates b n)
      (disconnect_sound v h.sound n) d
  one (ran_tick {now} {limit} w d) =
      meets_memory ticked h no_tick (λ s. tick s now limit) (tick b now limit) (tick_seen tail_view b now limit) (tick_sound v h.sound now limit w) d

-- ---- the list

pub record All (b : State (List ℕ)) (cs : List Call) (given : List Answer) (e : List ℕ) : Type 0 where
  pub answered : given ≡ answers b cs
  pub holds : Holds e (after b cs)

pub all : {m e : List ℕ} {cs : List Call} {given : List Answer} (b : State (List ℕ)) → Run m cs given e → Holds m b → All b cs given e
unfolding answers after
all b done h = record { answered = refl; holds = h }
all b (then {c = c} r rs) h =
    let o = one b h r in
    let a = all (model_step b c).state rs o.holds in
    record { answered = ap₂ ◌∷◌ o.answer a.answered; holds = a.holds }

-- after a start
pub started : {m e : List ℕ} {cs : List Call} {given : List Answer} (b : State (List ℕ)) → length m ≡ memory_length → Run m (starts ∷ cs) given e
    → All b (starts ∷ cs) given e
unfolding model_step answers after
started {m} b l (then (ran_start d) rs) =
    let s = start_holds m l d in
    let a = all empty rs s.1 in
    record { answered = ap₂ (λ (x : ℕ) (y : List Answer). plain x ∷ y) s.0 a.answered; holds = a.holds }

all_agrees : {b : State (List ℕ)} {cs : List Call} {given : List Answer} {e : List ℕ} → All b cs given e → Agrees b cs given e
all_agrees {b} {cs} a = record { answered = a.answered; never51 = rw a.answered (nevers b cs); memory = a.holds.bytes }

-- the claim of a run: a list that begins with a start, over any memory of the right length, and whatever the model held before. `list_claim` in
-- Hosts.antt says it of all that a host does, batches too.
pub run_claim : {m e : List ℕ} {cs : List Call} {given : List Answer} (b : State (List ℕ)) → length m ≡ memory_length → Run m (starts ∷ cs) given e
    → Agrees b (starts ∷ cs) given e
run_claim b l r = all_agrees (started b l r)

-- the same of an empty guard
pub empty_claim : {e : List ℕ} {cs : List Call} {given : List Answer} → Run (memory_of empty) cs given e → Agrees empty cs given e
empty_claim r = all_agrees (all empty r empty_holds)

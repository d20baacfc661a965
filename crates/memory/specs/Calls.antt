-- The guard's calls on memory: what each leaves and gives, for all bytes. The image's answer comes first where one is lent, then 51 (rule 8.1).
use Rattle.std.specs.Prelude.{cond, List, [], ◌∷◌, ◌≡◌, ℕ, eqb, length}
use Rattle.image.specs.Good.{image_answer}
use Rattle.stream.specs.Tail.{Tail, tails}
use Rattle.rules.specs.Calls.{Step, empty, connect, own, release, piece, disconnect, tick, no_connect, no_own, no_piece, no_gone, no_tick}
use Rattle.rules.specs.Series.{series}
use Rattle.rules.specs.declared.Connected.{Connected}
use Rattle.rules.specs.declared.Owned.{Owned}
use Rattle.rules.specs.declared.Taken.{Taken}
use Rattle.rules.specs.declared.Gone.{Gone}
use Rattle.rules.specs.declared.Ticked.{Ticked}
use Rattle.memory.specs.Layout.{memory_length}
use Rattle.memory.specs.Encoding.{memory_of, state_of}
use Rattle.memory.specs.Good.{good}

-- bytes left, and a result
pub record MemoryStep (R : Type 0) : Type 0 where
  pub memory : List ℕ
  pub result : R

abbrev pub stored : {R : Type 0} → Step Tail R → MemoryStep R
stored s = record { memory = memory_of s.state; result = s.result }

-- a refusal leaves every byte as it was (rule 8.1)
abbrev pub unchanged : {R : Type 0} → List ℕ → R → MemoryStep R
unchanged m r = record { memory = m; result = r }

-- a step over good memory; else 51 (rules 8.1 and 10.6)
abbrev pub on_memory : {R : Type 0} → (ℕ → R) → List ℕ → Step Tail R → MemoryStep R
on_memory refuse m step = cond (good m) (stored step) (unchanged m (refuse 51))

-- the same under an image; where the image has an answer of its own, that one comes first (rule 8.1)
abbrev pub on_image : {R : Type 0} → (ℕ → R) → List ℕ → List ℕ → Step Tail R → MemoryStep R
on_image refuse image m step = cond (eqb (image_answer image) 0) (on_memory refuse m step) (unchanged m (refuse (image_answer image)))

-- memory of the right length becomes that of an empty guard, whatever it held; of another length it is 51 (rule 8.2)
unfoldable pub start_on : List ℕ → MemoryStep ℕ
start_on m = cond (eqb (length m) memory_length) (record { memory = memory_of empty; result = 0 }) (unchanged m 51)

-- connect over what memory says, under an image (rule 8.3)
unfoldable pub connect_on : List ℕ → List ℕ → ℕ → List ℕ → MemoryStep Connected
connect_on image m uid gids = on_image no_connect image m (connect tails image (state_of m) uid gids)

-- own, under an image (rule 8.4)
unfoldable pub own_on : List ℕ → List ℕ → ℕ → List ℕ → MemoryStep Owned
own_on image m n name = on_image no_own image m (own image (state_of m) n name)

-- release, which takes no image (rule 8.5)
unfoldable pub release_on : List ℕ → ℕ → List ℕ → MemoryStep ℕ
release_on m n name = on_memory (λ a. a) m (release (state_of m) n name)

-- piece, under an image (rule 8.6)
unfoldable pub piece_on : List ℕ → List ℕ → ℕ → List ℕ → MemoryStep Taken
piece_on image m n bytes = on_image no_piece image m (piece tails image (state_of m) n bytes)

-- disconnect, which takes no image (rule 8.7)
unfoldable pub disconnect_on : List ℕ → ℕ → MemoryStep Gone
disconnect_on m n = on_memory no_gone m (disconnect tails (state_of m) n)

-- tick, which takes no image (rule 8.12)
unfoldable pub tick_on : List ℕ → ℕ → ℕ → MemoryStep Ticked
tick_on m now limit = on_memory no_tick m (tick (state_of m) now limit)

-- what a call's `ensures` says: the result and every byte of memory are those of o (rule 8.9)
pub record Did {R : Type 0} (o : MemoryStep R) (r : R) (m : List ℕ) : Type 0 where
  pub result : r ≡ o.result
  pub memory : m ≡ o.memory

-- ---- calls that write their reports to places

-- a call that has a place for its report; without one it is not made (rule 8.11)
unfoldable pub on_place : {R : Type 0} → ℕ → List ℕ → MemoryStep R → MemoryStep (List R)
on_place places m o = cond (eqb places 0) (unchanged m []) (record { memory = o.memory; result = o.result ∷ [] })

-- the calls of a batch: what refuses the first is tested once for all of them, and without a place nothing is (rule 9.6)
unfoldable pub batch_on : List ℕ → List ℕ → ℕ → List ℕ → ℕ → MemoryStep (List Taken)
batch_on image m n bytes places =
    cond (eqb places 0) (unchanged m [])
    (on_image (λ a. no_piece a ∷ []) image m (series (λ s p. piece tails image s n p) places (state_of m) bytes))

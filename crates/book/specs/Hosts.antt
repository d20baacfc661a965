-- What a host does: single calls and batches, one after the other, and the list of calls that this stands for (rule 12.5).
use Rattle.std.specs.Prelude.{Bool, true, false, ◌&&◌, List, [], ◌∷◌, ◌++◌, map, ◌≡◌, ℕ, drop}
use Rattle.wire.specs.Bytes.{Below}
use Rattle.rules.specs.declared.Judgement.{Judgement}
use Rattle.rules.specs.declared.Taken.{Taken}
use Rattle.rules.specs.Places.{goes_on}
use Rattle.rules.specs.State.{State}
use Rattle.rules.specs.Calls.{Step, piece, no_piece}
use Rattle.rules.specs.Series.{series, taken_by}
use Rattle.memory.specs.Calls.{Did, batch_on}
use Rattle.book.specs.Book.{books}
use Rattle.book.specs.Lists.{Call, offers, Answer, taken, under_image, Ran}
use Rattle.book.specs.Split.{said, Offers}

-- a single call, or a batch: image, peer, bytes, and how many whole places it is lent (rule 12.5)
pub data HostCall : Type 0 where
  single : Call → HostCall
  batch : List ℕ → ℕ → List ℕ → ℕ → HostCall

-- the piece calls that a batch stands for, one for each report, each with what the last has left (rules 9.6 and 12.5)
abbrev pub piece_calls : List ℕ → ℕ → List ℕ → List Taken → List Call
piece_calls image n p [] = []
piece_calls image n p (t ∷ ts) = offers image n p ∷ piece_calls image n (drop t.taken p) ts

-- what a host did from memory m to memory e, each call and each batch as its `ensures` says, with the calls and the answers that it stands for (rule 12.5)
pub data Hosted : List ℕ → List HostCall → List Call → List Answer → List ℕ → Type 0 where
  rests : {m : List ℕ} → Hosted m [] [] [] m
  once : {m d e : List ℕ} {c : Call} {a : Answer} {hs : List HostCall} {cs : List Call} {given : List Answer}
      → Ran m d c a
      → Hosted d hs cs given e
      → Hosted m (single c ∷ hs) (c ∷ cs) (a ∷ given) e
  many : {m d e image p : List ℕ} {n places : ℕ} {ts : List Taken} {hs : List HostCall} {cs : List Call} {given : List Answer}
      → Below 256 p
      → Did (batch_on image m n p places) ts d
      → Hosted d hs cs given e
      → Hosted m (batch image n p places ∷ hs) (piece_calls image n p ts ++ cs) (map taken ts ++ given) e

-- what the model reports to a batch, and holds after it (rules 9.6 and 11.1)
abbrev pub model_batch : State (List ℕ) → List ℕ → ℕ → List ℕ → ℕ → Step (List ℕ) (List Taken)
model_batch b image n p places = series (λ s q. under_image no_piece image s (piece books image s n q)) places b p

-- the verdicts that a batch says, in order (rule 12.2)
abbrev pub said_all : List Taken → List Judgement
said_all [] = []
said_all (t ∷ ts) = said t ++ said_all ts

-- every report goes on: bytes are left behind the last, and no answer ended the offering (rule 9.5)
abbrev pub goes_on_all : List Taken → List ℕ → Bool
goes_on_all [] p = true
goes_on_all (t ∷ ts) p = goes_on t p && goes_on_all ts (drop t.taken p)

-- what a host offers behind a batch with these reports: what they have left of the piece, if all go on, and else nothing (rules 9.5 and 9.6)
pub data Behind (image : List ℕ) (n : ℕ) (d p : List ℕ) (ts : List Taken) : List ℕ → List Judgement → Type 0 where
  nothing_more : goes_on_all ts p ≡ false → Behind image n d p ts d []
  what_is_left : {e : List ℕ} {vs : List Judgement} → goes_on_all ts p ≡ true
      → Offers image n e d (drop (taken_by ts) p) vs
      → Behind image n d p ts e vs

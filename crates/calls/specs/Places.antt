-- What a script comes to: the model's answers, each in its place, and the bytes of what the model holds.
use Rattle.std.specs.Prelude.{cond, List, ◌≡◌, ℕ, eqb, ltb, length}
use Rattle.std.proofs.Math.Option.{Option, none, some}
use Rattle.rules.specs.Calls.{empty}
use Rattle.rules.specs.View.{seen}
use Rattle.rules.specs.Places.{plain_words, connected_words, owned_words, taken_words, gone_words, ticked_words}
use Rattle.memory.specs.Layout.{memory_length}
use Rattle.memory.specs.Encoding.{memory_of}
use Rattle.places.specs.Places.{places_in, filled}
use Rattle.book.specs.Book.{tail_view}
use Rattle.book.specs.Lists.{Call, Answer, plain, connected, owned, taken, gone, ticked, answers, after}
use Rattle.calls.specs.Script.{decode}

-- the seven words of an answer (rule 8.11)
abbrev pub words_of : Answer → List ℕ
words_of (plain a) = plain_words a
words_of (connected r) = connected_words r
words_of (owned r) = owned_words r
words_of (taken r) = taken_words r
words_of (gone r) = gone_words r
words_of (ticked r) = ticked_words r

-- an answer, memory and the room for answers
pub record RunEnd : Type 0 where
  pub answer : ℕ
  pub memory : List ℕ
  pub room : List ℕ

-- a refusal changes nothing
abbrev pub run_refused : ℕ → List ℕ → List ℕ → RunEnd
run_refused a m x = record { answer = a; memory = m; room = x }

-- the model's answers to the calls from an empty guard on, in front of what stood behind them
abbrev pub ran : List Call → List ℕ → RunEnd
ran cs x =
    record {
      answer = 0;
      memory = memory_of (seen tail_view (after empty cs));
      room = filled words_of (answers empty cs) x;
    }

-- 67 is a broken layout, 68 room for fewer answers than calls, 51 memory of another length (rule 12.3)
abbrev pub run_told : Option (List Call) → List ℕ → List ℕ → RunEnd
run_told none m x = run_refused 67 m x
run_told (some cs) m x =
    cond (ltb (places_in x) (length cs)) (run_refused 68 m x) (cond (eqb (length m) memory_length) (ran cs x) (run_refused 51 m x))

-- what the script in bytes s does to memory m and the room x (rule 12.3)
unfoldable pub outcome : List ℕ → List ℕ → List ℕ → List ℕ → RunEnd
outcome image s m x = run_told (decode image s) m x

-- the whole contract
pub record EndsAs (o : RunEnd) (r : ℕ) (m x : List ℕ) : Type 0 where
  pub answer : r ≡ o.answer
  pub memory : m ≡ o.memory
  pub room : x ≡ o.room

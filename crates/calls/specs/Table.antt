-- Worked scripts, as a table: the calls that stand in bytes, and the seven words of an answer (rules 8.11 and 12.3).
use Rattle.std.specs.Prelude.{List, [], ◌∷◌, ◌++◌, ℕ, length, take, Some, None}
use Rattle.std.proofs.Math.Option.{Option, none, some}
use Rattle.wire.specs.Bytes.{byte}
use Rattle.wire.specs.Words.{word_bytes, long_bytes}
use Rattle.image.specs.declared.Section.TheVariants as of
use Rattle.policy.specs.declared.Decider.TheVariants.{Nobody, Rule}
use Rattle.rules.specs.declared.Receiver.TheVariants as to
use Rattle.book.specs.Lists.{Call, starts, connects, claims, releases, offers, leaves, ticks, Answer, plain, connected, owned, taken, gone, ticked}
use Rattle.calls.specs.Script.{decode}
use Rattle.calls.specs.Places.{words_of}

-- an entry of a kind, with its argument
abbrev pub entry_of : ℕ → List ℕ → List ℕ
entry_of kind argument = word_bytes kind ++ (word_bytes (length argument) ++ argument)

-- a call's kind and arguments, before those of the next
abbrev pub numbers : Call → List ℕ → List ℕ
numbers starts l = 0 ∷ l
numbers (connects image uid gids) l = 1 ∷ uid ∷ (gids ++ l)
numbers (claims image n name) l = 2 ∷ n ∷ (name ++ l)
numbers (releases n name) l = 3 ∷ n ∷ (name ++ l)
numbers (offers image n bytes) l = 4 ∷ n ∷ (bytes ++ l)
numbers (leaves n) l = 5 ∷ n ∷ l
numbers (ticks now limit) l = 6 ∷ now ∷ limit ∷ l

abbrev pub call_numbers : List Call → List ℕ
call_numbers [] = []
call_numbers (c ∷ cs) = numbers c (call_numbers cs)

abbrev pub script_shown : Option (List Call) → List ℕ
script_shown none = 67 ∷ []
script_shown (some cs) = 0 ∷ call_numbers cs

pub data ScriptQuestion : Type 0 where
  -- which calls stand in these bytes
  script : List ℕ → ScriptQuestion
  -- the words of an answer
  report : Answer → ScriptQuestion

abbrev pub script_answer : ScriptQuestion → List ℕ
script_answer (script s) = script_shown (decode [] s)
script_answer (report a) = words_of a

abbrev pub ScriptRow : Type 0
ScriptRow = ScriptQuestion × List ℕ

abbrev pub script_table : List ScriptRow
script_table =
    (script [], 0 ∷ [])
    ∷ (script (entry_of 0 []), 0 ∷ 0 ∷ [])
    ∷ (script (entry_of 0 (0 ∷ [])), 67 ∷ [])  -- a start has no argument
    ∷ (script (entry_of 0 [] ++ (7 ∷ [])), 67 ∷ [])  -- the layout holds to the very end
    ∷ (script (entry_of 0 [] ++ entry_of 5 (word_bytes 9)), 0 ∷ 0 ∷ 5 ∷ 9 ∷ [])
    ∷ (script (entry_of 1 (word_bytes 7)), 0 ∷ 1 ∷ 7 ∷ [])
    ∷ (script (entry_of 1 (word_bytes 7 ++ word_bytes 20)), 0 ∷ 1 ∷ 7 ∷ 20 ∷ [])
    ∷ (script (entry_of 1 (word_bytes 7 ++ (20 ∷ []))), 67 ∷ [])  -- gids are whole words
    ∷ (script (entry_of 1 []), 67 ∷ [])
    ∷ (script (entry_of 2 (word_bytes 9 ++ (byte "a" ∷ []))), 0 ∷ 2 ∷ 9 ∷ byte "a" ∷ [])
    ∷ (script (entry_of 3 (word_bytes 9 ++ (byte "a" ∷ []))), 0 ∷ 3 ∷ 9 ∷ byte "a" ∷ [])
    ∷ (script (entry_of 4 (word_bytes 9)), 0 ∷ 4 ∷ 9 ∷ [])
    ∷ (script (entry_of 4 (9 ∷ 0 ∷ 0 ∷ [])), 67 ∷ [])  -- a peer's number is a whole word
    ∷ (script (entry_of 5 (word_bytes 9 ++ (0 ∷ []))), 67 ∷ [])  -- a disconnect has nothing behind it
    ∷ (script (entry_of 6 (long_bytes 9 ++ long_bytes 18446744073709551615)), 0 ∷ 6 ∷ 9 ∷ 18446744073709551615 ∷ [])
    ∷ (script (entry_of 6 (long_bytes 9)), 67 ∷ [])  -- a tick has its limit
    ∷ (script (entry_of 7 (word_bytes 9)), 67 ∷ [])
    ∷ (script (take 11 (entry_of 5 (word_bytes 9))), 67 ∷ [])  -- an argument is whole
    ∷ (report (plain 35), 35 ∷ 0 ∷ 0 ∷ 0 ∷ 0 ∷ 0 ∷ 0 ∷ [])
    ∷ (report (connected (record { answer = 0; number = 3; slot = 2; rule = Some (Rule of.Connect 4) })), 0 ∷ 0 ∷ 0 ∷ 3 ∷ 2 ∷ 1 ∷ 4 ∷ [])
    ∷ (report (connected (record { answer = 36; number = 0; slot = 0; rule = Some Nobody })), 36 ∷ 0 ∷ 0 ∷ 0 ∷ 0 ∷ 2 ∷ 0 ∷ [])
    ∷ (report (owned (record { answer = 34; rule = Some (Rule of.Own 7) })), 34 ∷ 0 ∷ 0 ∷ 0 ∷ 0 ∷ 1 ∷ 7 ∷ [])
    ∷ (report (taken (record { judgement = record { answer = 0; receiver = to.Slots 5 2; rule = None }; taken = 48 })), 0 ∷ 48 ∷ 3 ∷ 5 ∷ 2 ∷ 0 ∷ 0 ∷ [])
    ∷ (
      report (taken (record { judgement = record { answer = 23; receiver = to.Nobody; rule = Some (Rule of.Transaction 9) }; taken = 64 })),
      23 ∷ 64 ∷ 0 ∷ 0 ∷ 0 ∷ 1 ∷ 9 ∷ [],
    )
    ∷ (report (gone (record { answer = 0; bytes = 10 })), 0 ∷ 0 ∷ 0 ∷ 10 ∷ 0 ∷ 0 ∷ 0 ∷ [])
    ∷ (report (ticked (record { answer = 0; ended = 3 })), 0 ∷ 0 ∷ 0 ∷ 3 ∷ 0 ∷ 0 ∷ 0 ∷ [])
    ∷ []

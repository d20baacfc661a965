-- The parts of a run: one entry, its call and its place; the count of entries; all of them.
use Rattle.std.specs.Prelude.{true, List, ◌++◌, ◌≡◌, ℕ, ◌+◌, ◌-◌, ◌*◌, ◌/◌, ◌≤◌, min, length, take, drop, Option, Some, is_some}
use Rattle.rules.specs.Calls.{empty}
use Rattle.rules.specs.View.{seen}
use Rattle.memory.specs.Encoding.{memory_of}
use Rattle.places.specs.declared.Report.{Report}
use Rattle.places.specs.Places.{place_length, place_of, filled, Shows}
use Rattle.book.specs.Book.{tail_view}
use Rattle.book.specs.Lists.{Call, Answer, answers, after, Ran}
use Rattle.calls.specs.declared.Gids.{Gids}
use Rattle.calls.specs.declared.Kind.{Kind}
use Rattle.calls.specs.declared.Kind.TheVariants as kind
use Rattle.calls.specs.declared.Entry.{Entry}
use Rattle.calls.specs.Script.{entry_kind, size_of, argument_of, well_sized, words, layout, script_calls, call_of}
use Rattle.calls.specs.Places.{words_of}

-- the word of each kind (rule 12.3)
abbrev pub kind_word : Kind → ℕ
kind_word kind.Start = 0
kind_word kind.Connect = 1
kind_word kind.Own = 2
kind_word kind.Release = 3
kind_word kind.Piece = 4
kind_word kind.Disconnect = 5
kind_word kind.Tick = 6

-- the call was made as its contract says, and this is its report
pub record Reported (c : Call) (m : List ℕ) (r : Report) (e : List ℕ) : Type 0 where
  pub answer : Answer
  pub ran : Ran m e c answer
  pub shows : Shows (words_of answer) r

-- the same, of the entry in front of s, with the report in the room's first place
pub record Stepped (image s m room e y : List ℕ) : Type 0 where
  pub answer : Answer
  pub ran : Ran m e (call_of image (entry_kind s) (argument_of s)) answer
  pub written : y ≡ place_of (words_of answer) ++ drop place_length room

-- seventeen gids at most, as they stand behind the uid
pub record GidsIn (a : List ℕ) (r : Gids) : Type 0 where
  pub few : r.count ≤ 17
  pub count : r.count ≡ min ((length a - 4) / 4) 17
  pub are : take r.count r.list ≡ words r.count (drop 4 a)

-- a whole entry stands in front of s, with this kind and so many bytes behind its first two words
pub record FirstEntry (s : List ℕ) (e : Entry) : Type 0 where
  pub kind : kind_word e.kind ≡ entry_kind s
  pub argument : e.argument ≡ size_of s
  pub inside : 8 + e.argument ≤ length s
  pub sized : well_sized (kind_word e.kind) e.argument ≡ true

-- the layout holds, and so many calls stand there
pub record Counted (s : List ℕ) (r : Option ℕ) : Type 0 where
  pub whole : is_some r ≡ layout (length s) s
  pub many : (n : ℕ) → r ≡ Some n → (image : List ℕ) → length (script_calls image (length s) s) ≡ n

-- ---- all entries

pub record Ready (image s m x : List ℕ) : Type 0 where
  pub whole : layout (length s) s ≡ true
  pub started : m ≡ memory_of empty
  pub room : place_length * length (script_calls image (length s) s) ≤ length x

pub record Replayed (image s x e y : List ℕ) : Type 0 where
  pub memory : e ≡ memory_of (seen tail_view (after empty (script_calls image (length s) s)))
  pub room : y ≡ filled words_of (answers empty (script_calls image (length s) s)) x

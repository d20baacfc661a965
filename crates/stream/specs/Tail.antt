-- The guard's streams: of the unfinished or broken message, how many bytes were taken and those of them that are its head (rule 9.4).
use Rattle.std.specs.Prelude.{Bool, true, false, cond, ◌&&◌, List, [], ◌∷◌, ◌++◌, ℕ, ◌+◌, min, length, take, ltb, leb, eqb, Ok, Err}
use Rattle.header.specs.Fixed.{fixed_length, head_length}
use Rattle.header.specs.Faults.{fault_number}
use Rattle.header.specs.Header.{Reading, read_header}
use Rattle.header.specs.declared.Unread.TheVariants.{Short, Broken}
use Rattle.stream.specs.Stream.{Verdict, more, broken, whole, Streams}

pub record Tail : Type 0 where
  pub taken : ℕ
  pub head : List ℕ

-- a message whose head is h and of which n bytes have come: whole once they are as many as its head and its body
abbrev pub finished : ℕ → List ℕ → Reading → Verdict
finished n h (Err Short) = more
finished n h (Err (Broken f)) = broken (fault_number f)
finished n h (Ok x) = cond (ltb n (x.head + x.body)) more (whole (take x.head h) x)

-- the verdict on a message of which n bytes have come, among them h, its first: all of them, or its whole head and perhaps more
abbrev pub verdict : ℕ → List ℕ → Verdict
verdict n h = finished n h (read_header h)

-- a broken head closes the stream (rule 9.3)
abbrev pub is_broken : Verdict → Bool
is_broken more = false
is_broken (broken a) = true
is_broken (whole h x) = false

-- how long the head is: its fixed part until that has come, and then what the fixed part says (rule 9.4)
abbrev pub head_end : List ℕ → ℕ
head_end h = cond (ltb (length h) fixed_length) fixed_length (head_length h)

abbrev pub fresh : Tail
fresh = record { taken = 0; head = [] }

-- a byte of the body is counted and not kept (rule 9.4)
abbrev pub push : Tail → ℕ → Tail
push t b = record { taken = t.taken + 1; head = cond (ltb (length t.head) (head_end t.head)) (t.head ++ (b ∷ [])) t.head }

abbrev pub judge : Tail → Verdict
judge t = verdict t.taken t.head

-- nothing can join a closed stream, so it stays closed (rule 9.3)
abbrev pub closed : Tail → Bool
closed t = is_broken (judge t)

abbrev pub tails : Streams Tail
tails = record { fresh = fresh; push = push; judge = judge; next = λ t. fresh; closed = closed; count = λ t. t.taken }

-- ---- good streams (rule 10.4)

-- where a head is broken by an answer: 1 to 6 are found at byte 16, and 7 to 9 once the head is whole (rule 10.4)
abbrev pub broken_at : ℕ → List ℕ → ℕ
broken_at a h = cond (leb a 6) fixed_length (head_length h)

-- an open stream is not yet broken; a closed one has no byte behind the one that broke it (rule 10.4)
abbrev pub fitting : Verdict → ℕ → List ℕ → Bool
fitting more n h = true
fitting (broken a) n h = eqb n (broken_at a h)
fitting (whole x y) n h = false

-- the bytes kept are those of the head among the bytes taken (rule 10.4)
unfoldable pub good_tail : Tail → Bool
good_tail t = eqb (length t.head) (min t.taken (head_end t.head)) && fitting (judge t) t.taken t.head

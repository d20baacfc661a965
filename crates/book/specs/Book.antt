-- The model's streams: they keep every byte taken since connect, and are cut again from the first byte at every question (rules 11.1 and 11.2). The
-- rules of the calls are the same as the guard's.
use Rattle.std.specs.Prelude.{Bool, true, false, cond, ◌&&◌, List, [], ◌∷◌, ◌++◌, ℕ, zero, suc, ◌+◌, ltb, length, take, drop}
use Rattle.stream.specs.Stream.{Verdict, more, broken, whole, Streams}
use Rattle.stream.specs.Tail.{Tail, verdict, is_broken, head_end, fresh}

-- the verdict on the first message of xs, of which xs may have all bytes and more (rule 11.2)
abbrev pub first_verdict : List ℕ → Verdict
first_verdict xs = verdict (length xs) xs

abbrev pub is_whole : Verdict → Bool
is_whole more = false
is_whole (broken a) = false
is_whole (whole h x) = true

-- a whole message's length: its head and its body
abbrev pub size : Verdict → ℕ
size more = 0
size (broken a) = 0
size (whole h x) = x.head + x.body

-- xs goes on past its first message
abbrev pub past : List ℕ → Bool
past xs = is_whole (first_verdict xs) && ltb (size (first_verdict xs)) (length xs)

-- the bytes of the message that the last byte of xs is in: whole messages are cut off from the front, at most n of them (rule 11.2)
unfoldable pub cut_off : ℕ → List ℕ → List ℕ
cut_off zero xs = xs
cut_off (suc n) xs = elim (past xs) [ true ↦ cut_off n (drop (size (first_verdict xs)) xs) | false ↦ xs ]

-- there are no more messages than bytes, so that the cut is whole (rule 11.2)
abbrev pub current : List ℕ → List ℕ
current xs = cut_off (length xs) xs

-- nothing is forgotten: a message that is whole stays in the stream (rule 11.1)
abbrev pub books : Streams (List ℕ)
books =
    record {
      fresh = [];
      push = λ xs b. xs ++ (b ∷ []);
      judge = λ xs. first_verdict (current xs);
      next = λ xs. xs;
      closed = λ xs. is_broken (first_verdict (current xs));
      count = λ xs. cond (is_whole (first_verdict (current xs))) 0 (length (current xs));
    }

-- ---- the model's streams, as the guard keeps them

-- the unfinished or broken message: how many of its bytes have come, and those of its head
abbrev pub kept_tail : List ℕ → Tail
kept_tail c = record { taken = length c; head = take (head_end c) c }

-- nothing is kept of a message that is whole (rules 9.4 and 12.1)
abbrev pub tail_view : List ℕ → Tail
tail_view xs = cond (is_whole (first_verdict (current xs))) fresh (kept_tail (current xs))

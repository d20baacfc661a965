-- A stream's bytes: whole messages, cut by their own lengths, and then one that is not whole; and where a head breaks.
use mathlib.Core.Path.{◌≡◌, refl, sym, ap, ◌∙◌, subst}
use mathlib.Core.Bool.{true, false}
use mathlib.Core.List.{List, [], ◌∷◌, ◌++◌, append_assoc, append-nil}
use Prim.Native.Nat.{ℕ, zero, suc, ◌+◌, ◌≤◌, ◌<◌, min}
use native.Mathlib.Omega.{arith}
use lib.Dec.{eqb, ltb}
use lib.ListN.{length, take, drop, length-append, length-drop, take-append-drop}
use lib.Seq.{drop_at, length-take-le, take_all}
use borrow.Author.Tests.{eqb-true, lt-ltb, le-ltb, ltb-false}
use Rattle.wire.proofs.Texts.{both_first, both_second}
use Rattle.header.proofs.Readings.{read_front, whole_fits}
use Rattle.stream.specs.Stream.{Verdict, broken, whole}
use Rattle.stream.specs.Tail.{Tail, head_end, judge, fitting, good_tail, broken_at}
use Rattle.book.specs.Book.{first_verdict, is_whole, size, past, cut_off, current, kept_tail, tail_view}
use Rattle.book.specs.Split.{joined_pieces}
use Rattle.book.specs.Messages.{WholeMessage, Messages, Parted}
use Rattle.book.proofs.Cut.{begins_whole, whole_begins, whole_append, whole_some, whole_reached, past_few, front_none, cut_step, cut_stops, cut_enough}
use Rattle.book.proofs.Tails.{fresh_view}
use Rattle.wire.proofs.Tests.{by_test}

-- ---- messages one after the other

module _ (m : List ℕ) (w : WholeMessage m) where
  message_verdict : first_verdict m ≡ whole (take w.header.head m) w.header
  message_verdict = begins_whole m w.header (record { read = w.read; reached = omega (arith, w.sized) })

  message_whole : is_whole (first_verdict m) ≡ true
  message_whole = ap is_whole message_verdict

  message_size : size (first_verdict m) ≡ length m
  message_size = ap size message_verdict ∙ sym w.sized

  message_alone : past m ≡ false
  message_alone = rw (message_whole, message_size, le-ltb (length m) (length m) (omega arith))

  -- a whole message is followed by the next one
  pub message_then : (ys : List ℕ) → 0 < length ys → current (m ++ ys) ≡ current ys
  message_then ys l =
      let k = length (m ++ ys) in
      let n = length-append m ys in
      let a = whole_append m message_whole ys in
      let p : past (m ++ ys) ≡ true = rw (a, message_whole, message_size, lt-ltb (length m) k (omega arith)) in
      cut_enough k (suc k) (m ++ ys) (omega arith) (omega arith) ∙ cut_step k (m ++ ys) p
      ∙ ap (cut_off k) (drop_at m ys (size (first_verdict (m ++ ys))) (sym (ap size a ∙ message_size))) ∙ cut_enough k (length ys) ys (omega arith) (omega arith)

-- every stream is whole messages, and then the current one
pub record Cut (xs ys : List ℕ) : Type 0 where
  pub messages : List (List ℕ)
  pub are : Messages messages
  pub bytes : xs ≡ joined_pieces messages ++ ys

first_message : (xs : List ℕ) → is_whole (first_verdict xs) ≡ true → WholeMessage (take (size (first_verdict xs)) xs)
first_message xs e =
    let w = whole_begins xs e in
    let x = w.0 in
    let f = whole_fits xs x w.1.read in
    let s : size (first_verdict xs) ≡ x.head + x.body = ap size (begins_whole xs x w.1) in
    record {
      header = x;
      read = read_front (size (first_verdict xs)) xs (whole_some xs e) (omega (arith, f.head_is)) ∙ w.1.read;
      sized = length-take-le (size (first_verdict xs)) xs (whole_reached xs e) ∙ s;
    }

cut_is : (f : ℕ) (xs : List ℕ) → Cut xs (cut_off f xs)
unfolding cut_off
cut_is zero xs = record { messages = []; are = tt; bytes = refl }
cut_is (suc f) xs =
    let n = size (first_verdict xs) in
    let i = cut_is f (drop n xs) in
    by_test (past xs)
    (λ e. record {
      messages = take n xs ∷ i.messages;
      are = (first_message xs (both_first (is_whole (first_verdict xs)) (ltb n (length xs)) e), i.are);
      bytes =
          sym (take-append-drop n xs) ∙ ap (◌++◌ (take n xs)) i.bytes
          ∙ sym (append_assoc (take n xs) (joined_pieces i.messages) (cut_off f (drop n xs)))
          ∙ ap (◌++◌ (take n xs ++ joined_pieces i.messages)) (sym (cut_step f xs e));
    })
    (λ e. record { messages = []; are = tt; bytes = sym (cut_stops (suc f) xs e) })

pub current_cut : (xs : List ℕ) → Cut xs (current xs)
current_cut xs = cut_is (length xs) xs

-- bytes that are not past their first message are all of it
pub current_first : (ys : List ℕ) → past ys ≡ false → current ys ≡ ys
current_first ys p = cut_stops (length ys) ys p

-- ---- what the guard keeps of them

cut_done : (f : ℕ) (xs : List ℕ) → length xs ≤ f → past (cut_off f xs) ≡ false
unfolding cut_off
cut_done zero xs l = past_few xs (omega arith)
cut_done (suc f) xs l =
    let n = size (first_verdict xs) in
    by_test (past xs)
    (λ e. let w = whole_some xs (both_first (is_whole (first_verdict xs)) (ltb n (length xs)) e) in
    rw (cut_step f xs e) (cut_done f (drop n xs) (omega (arith, length-drop n xs))))
    (λ e. rw (cut_stops (suc f) xs e) e)

-- bytes that are whole and not past their first message are one message
only_message : (ys : List ℕ) → is_whole (first_verdict ys) ≡ true → past ys ≡ false → WholeMessage ys
only_message ys e p =
    let l = ltb-false (size (first_verdict ys)) (length ys) (rw e at p) in
    subst WholeMessage (take_all (size (first_verdict ys)) ys l) (first_message ys e)

messages_snoc : (ms : List (List ℕ)) (m : List ℕ) → Messages ms → WholeMessage m → Messages (ms ++ (m ∷ []))
messages_snoc [] m w v = (v, tt)
messages_snoc (k ∷ ms) m w v = (w.0, messages_snoc ms m w.1 v)

joined_snoc : (ms : List (List ℕ)) (m : List ℕ) → joined_pieces (ms ++ (m ∷ [])) ≡ joined_pieces ms ++ m
joined_snoc [] m = append-nil m
joined_snoc (k ∷ ms) m = ap (◌++◌ k) (joined_snoc ms m) ∙ sym (append_assoc k (joined_pieces ms) m)

-- every stream is whole messages, and then one that is not whole
pub parted : (xs : List ℕ) → Parted xs
parted xs =
    let c = current_cut xs in
    by_test (is_whole (first_verdict (current xs)))
    (λ e. record {
      messages = c.messages ++ (current xs ∷ []);
      present = [];
      are = messages_snoc c.messages (current xs) c.are (only_message (current xs) e (cut_done (length xs) xs (omega arith)));
      unfinished = ap is_whole front_none;
      bytes = c.bytes ∙ sym (joined_snoc c.messages (current xs)) ∙ sym (append-nil (joined_pieces (c.messages ++ (current xs ∷ []))));
    })
    (λ e. record { messages = c.messages; present = current xs; are = c.are; unfinished = e; bytes = c.bytes })

-- and of that one the guard has the count and the head, however the stream is parted so
pub tail_behind : (ms : List (List ℕ)) (ys : List ℕ) → Messages ms → is_whole (first_verdict ys) ≡ false → tail_view (joined_pieces ms ++ ys) ≡ kept_tail ys
tail_behind [] ys w u = let e = current_first ys (rw u) in rw (e, u)
tail_behind (m ∷ ms) ys w u =
    rw (append_assoc m (joined_pieces ms) ys)
    ((elim (joined_pieces ms ++ ys) as (λ (zs : List ℕ). tail_view zs ≡ kept_tail ys → tail_view (m ++ zs) ≡ kept_tail ys) [
      | [] ↦ λ i. rw (append-nil m, current_first m (message_alone m w.0), message_whole m w.0) (fresh_view ∙ i)
      | b ∷ zs ↦ λ i. rw (message_then m w.0 (b ∷ zs) (omega arith)) i
    ]) (tail_behind ms ys w.1 u))

-- ---- where a head breaks

-- a head in good memory is broken at its last byte
pub good_broken : (t : Tail) (a : ℕ) → good_tail t ≡ true → judge t ≡ broken a → t.taken ≡ broken_at a t.head
unfolding good_tail
good_broken t a g j =
    let f = both_second (eqb (length t.head) (min t.taken (head_end t.head))) (fitting (judge t) t.taken t.head) g in
    eqb-true t.taken (broken_at a t.head) (ap (λ (v : Verdict). fitting v t.taken t.head) (sym j) ∙ f)

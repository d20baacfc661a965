-- What the count decides, said by the calls alone (rules 7.8 and 12.4): a call is refused with 26 where its caller has sixteen that have not ended, and one
-- that is let wait where it has fewer.
use mathlib.Core.Path.{◌≡◌, refl, sym, ap, ◌∙◌, subst}
use mathlib.Core.Bool.{true}
use mathlib.Core.List.{List}
use Prim.Native.Nat.{ℕ, ◌+◌, ◌≤◌, ◌<◌}
use native.Mathlib.Omega.{arith}
use lib.ListN.{length}
use Rattle.header.specs.declared.Header.{Header}
use Rattle.rules.specs.State.{peer, Peer, State, is_peer, first_by, put_slot}
use Rattle.rules.specs.Judge.{expects_reply, judged}
use Rattle.rules.specs.Calls.{Step, empty}
use Rattle.rules.specs.declared.Judgement.{Judgement}
use Rattle.rules.specs.declared.Receiver.TheVariants as to
use Rattle.rules.specs.declared.Taken.{Taken}
use Rattle.rules.specs.View.{seen, seen_slot, seen_peer}
use Rattle.rules.proofs.View.{slot_seen}
use Rattle.rules.proofs.First.{number_found}
use Rattle.sound.proofs.Put.{peer_fine}
use Rattle.book.specs.Book.{books, tail_view}
use Rattle.book.specs.Lists.{Call, offers, taken, number_of, model_step, after, Ran, Reached}
use Rattle.book.specs.Messages.{EndsMessage}
use Rattle.book.specs.Tally.{receiver_of, since}
use Rattle.book.proofs.List.{one}
use Rattle.book.proofs.Runs.{reached_holds}
use Rattle.book.proofs.Pieces.{piece_under, consumed, ends_is}
use Rattle.book.proofs.Waiting.{full_judged, room_judged}
use Rattle.book.proofs.Counts.{Right}
use Rattle.book.proofs.Counted.{reached_counts}
use Rattle.book.proofs.Tally.{RightAt}
use Rattle.book.proofs.Consequences.{message_ended}

-- ---- a piece that ends a message

module _ {m : List ℕ} {cs : List Call} (run : Reached m cs) {image : List ℕ} {n : ℕ} {bytes : List ℕ} {r : Taken} {e : List ℕ}
    (ran : Ran m e (offers image n bytes) (taken r)) where
  abbrev now : State (List ℕ)
  now = after empty cs

  abbrev place : ℕ
  place = first_by (is_peer n) now.slots

  module _ (h : List ℕ) (x : Header) (ends : EndsMessage now image n bytes h x) where
    abbrev sender : Peer (List ℕ)
    sender = ends.takes.sender

    -- it is judged with its message consumed, and that is what is said
    abbrev done : Peer (List ℕ)
    done = consumed books (λ t. refl) image now n bytes sender

    abbrev verdict : Judgement
    verdict = (judged image (put_slot now place (peer done)) place done h x).judgement

    said : taken r ≡ taken (piece_under books (λ t. refl) image now n bytes).result
    unfolding model_step
    said = (one now (reached_holds run) ran).answer

    judged_is : (piece_under books (λ t. refl) image now n bytes).result.judgement ≡ verdict
    judged_is = ap (λ (z : Step (List ℕ) Taken). z.result.judgement) (ends_is books (λ t. refl) image now n bytes ends.takes h x ends.ended)

    sender_right : Right (since n cs) sender.pending
    sender_right = subst (RightAt n (since n cs)) ends.takes.sits (reached_counts n run place) (number_found now.slots n sender ends.takes.sits)

    sender_few : length sender.pending ≤ 16
    sender_few =
        (peer_fine (seen tail_view now) place (seen_peer tail_view sender) (reached_holds run).sound
        (slot_seen tail_view now place ∙ ap (seen_slot tail_view) ends.takes.sits)).few_pending

    full_ends : r.judgement.answer ≡ 26 → (since n cs).admitted ≡ 16 + ((since n cs).replied + (since n cs).otherwise)
    full_ends a =
        let l = full_judged image (put_slot now place (peer done)) place done h x
        (sym (ap number_of said ∙ ap (λ (j : Judgement). j.answer) judged_is) ∙ a) in
        omega (arith, l, sender_few, sender_right.sum)

    -- a call that is let wait
    pub room_calls : expects_reply x ≡ true → (k : ℕ) → r.judgement.receiver ≡ to.Peer k
        → (since n cs).admitted < 16 + ((since n cs).replied + (since n cs).otherwise)
    room_calls w k a =
        let l = room_judged image (put_slot now place (peer done)) place done h x w k
        (sym (ap receiver_of said ∙ ap (λ (j : Judgement). j.receiver) judged_is) ∙ a) in
        omega (arith, l, sender_right.sum)

  -- a call that is refused for want of room
  pub full_calls : r.judgement.answer ≡ 26 → (since n cs).admitted ≡ 16 + ((since n cs).replied + (since n cs).otherwise)
  full_calls a = let w = message_ended run ran (rw a refl) in full_ends w.0 w.1 w.2 a

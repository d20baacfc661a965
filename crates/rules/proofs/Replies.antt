-- What the rules come to for replies: one passes exactly where its call is pending, a second one does not, and nobody awaits a peer that is gone.
use mathlib.Core.Path.{◌≡◌, refl, sym, ap, ap₂, ◌∙◌}
use mathlib.Core.Logic.{inl, inr}
use mathlib.Core.Bool.{true, false, cond, false≢true}
use mathlib.Core.List.{List}
use mathlib.Core.Option.{Option, none, some}
use Prim.Native.Nat.{ℕ}
use native.Mathlib.Omega.{arith}
use lib.Dec.{eqb, ltb}
use lib.ListN.{get_or, set, length-set, get_or-map}
use lib.Seq.{get_or-set_same}
use borrow.Author.Tests.{eqb-true, le-ltb}
use Rattle.wire.specs.Bytes.{same}
use Rattle.header.specs.Codes.{return, error}
use Rattle.wire.proofs.Texts.{either}
use Rattle.header.specs.declared.Header.{Header}
use Rattle.policy.specs.Names.{bus_name}
use Rattle.policy.specs.Matching.{field_of}
use Rattle.stream.specs.Stream.{Streams}
use Rattle.rules.specs.State.{Slot, free, peer, Peer, Pending, State, is_peer, first_by, with_pending}
use Rattle.rules.specs.Addresses.{Address, undirected, bus, slot, unknown, answers_to, found, resolve}
use Rattle.rules.specs.Pending.{is_to, ended, remove_calls}
use Rattle.rules.specs.Awaited.{is_waiting, awaited}
use Rattle.rules.specs.Judge.{Judged, expects_reply, reply_to, reply, is_reply, judged}
use Rattle.rules.specs.Calls.{slot_at, disconnect_at, disconnect}
use Rattle.rules.proofs.First.{first_set, taken_below, number_found}
use Rattle.wire.proofs.Tests.{choice}
use Rattle.rules.proofs.View.{chosen}
use Rattle.rules.proofs.Waits.{ok_pending, ended_ends, ended_to_ends}

reply_low : (x : Header) → is_reply x ≡ true → ltb 4 x.kind ≡ false
reply_low x r =
    le-ltb 4 x.kind
    (elim (either (eqb x.kind return) (eqb x.kind error) r)
    [ inl e ↦ omega (arith, eqb-true x.kind return e) | inr e ↦ omega (arith, eqb-true x.kind error e) ])

-- a reply awaits none
pub reply_only : (x : Header) → is_reply x ≡ true → expects_reply x ≡ false
reply_only x r =
    elim (either (eqb x.kind return) (eqb x.kind error) r)
    [ inl e ↦ rw (eqb-true x.kind return e) | inr e ↦ rw (eqb-true x.kind error e) ]

module _ {S : Type 0} (image : List ℕ) (s : State S) (i : ℕ) (sender : Peer S) (h : List ℕ) (x : Header) (r : is_reply x ≡ true) where
  abbrev pub address : Address
  address = resolve s.slots (field_of h x.destination)

  judged_reply : judged image s i sender h x ≡ reply s sender address x
  unfolding judged
  judged_reply = rw (reply_low x r, r)

  -- it passes exactly where its call is pending (rule 7.9)
  to_answer : (j : ℕ) (y : Slot S) → cond (is_waiting sender.number x.reply_serial y) 0 24 ≡ (reply_to s j sender y x).judgement.answer
  to_answer j free = refl
  to_answer j (peer caller) = search (chosen (λ (z : Judged S). z.judgement.answer))

  reply_answer : (a : Address) → cond (awaited s.slots sender.number x.reply_serial a) 0 24 ≡ (reply s sender a x).judgement.answer
  reply_answer undirected = refl
  reply_answer bus = refl
  reply_answer unknown = refl
  reply_answer (slot j) = to_answer j (get_or s.slots j free)

  pub reply_exact : (judged image s i sender h x).judgement.answer ≡ cond (awaited s.slots sender.number x.reply_serial address) 0 24
  reply_exact = rw judged_reply (sym (reply_answer address))

  -- ---- it ends that call: a second reply is 24 (rule 7.9)

  -- whom an address means is not changed by it
  resolve_put : (j : ℕ) (p : Peer S) (ws : List Pending) (d : Option (List ℕ)) → get_or s.slots j free ≡ peer p
      → resolve (set s.slots j (peer (with_pending p ws))) d ≡ resolve s.slots d
  unfolding resolve answers_to
  resolve_put j p ws none e = refl
  resolve_put j p ws (some text) e =
      ap₂ (λ (n k : ℕ). cond (same text bus_name) bus (found n k)) (length-set s.slots j (peer (with_pending p ws)))
      (first_set (answers_to text) s.slots j (peer (with_pending p ws)) free (ap (answers_to text) (sym e)))

  resolve_to : (d : Option (List ℕ)) (j : ℕ) (y : Slot S) → get_or s.slots j free ≡ y → resolve (reply_to s j sender y x).state.slots d ≡ resolve s.slots d
  resolve_to d j free e = refl
  resolve_to d j (peer caller) e = search (choice (λ (z : Judged S). resolve z.state.slots d ≡ resolve s.slots d), resolve_put)

  resolve_after : (d : Option (List ℕ)) (a : Address) → resolve (reply s sender a x).state.slots d ≡ resolve s.slots d
  resolve_after d undirected = refl
  resolve_after d bus = refl
  resolve_after d unknown = refl
  resolve_after d (slot j) = resolve_to d j (get_or s.slots j free) refl

  module _ (ok : (j : ℕ) (p : Peer S) → get_or s.slots j free ≡ peer p → ok_pending p.pending ≡ true) where
    once_to : (j : ℕ) (y : Slot S) → get_or s.slots j free ≡ y → is_waiting sender.number x.reply_serial y ≡ true
        → is_waiting sender.number x.reply_serial (get_or (reply_to s j sender y x).state.slots j free) ≡ false
    once_to j free e w = absurd (false≢true w)
    once_to j (peer caller) e w =
        let ws = ended sender.number x.reply_serial caller.pending in
        rw (w, get_or-set_same s.slots j (peer (with_pending caller ws)) free (taken_below s.slots j caller e))
        (ended_ends sender.number x.reply_serial caller.pending (ok j caller e))

    once : (a : Address) → awaited s.slots sender.number x.reply_serial a ≡ true
        → awaited (reply s sender a x).state.slots sender.number x.reply_serial a ≡ false
    once undirected w = absurd (false≢true w)
    once bus w = absurd (false≢true w)
    once unknown w = absurd (false≢true w)
    once (slot j) w = once_to j (get_or s.slots j free) refl w

    -- over the state that a passed reply leaves, nobody awaits it
    pub reply_once : awaited s.slots sender.number x.reply_serial address ≡ true
        → awaited (judged image s i sender h x).state.slots sender.number x.reply_serial
        (resolve (judged image s i sender h x).state.slots (field_of h x.destination)) ≡ false
    reply_once w = rw (judged_reply, resolve_after (field_of h x.destination) address) (once address w)

-- the same reply again, by the peer with that number, is 24
pub second_reply : {S : Type 0} (image : List ℕ) (s : State S) (i : ℕ) (sender : Peer S) (h : List ℕ) (x : Header) → is_reply x ≡ true
    → ((j : ℕ) (p : Peer S) → get_or s.slots j free ≡ peer p → ok_pending p.pending ≡ true)
    → awaited s.slots sender.number x.reply_serial (resolve s.slots (field_of h x.destination)) ≡ true
    → (k : ℕ) (again : Peer S) → again.number ≡ sender.number → (judged image (judged image s i sender h x).state k again h x).judgement.answer ≡ 24
second_reply image s i sender h x r ok w k again e =
    let z = (judged image s i sender h x).state in
    reply_exact image z k again h x r ∙ rw (e, reply_once image s i sender h x r ok w)

-- ---- nobody awaits a peer that is gone (rule 8.7)

gone_slot : {S : Type 0} (n r : ℕ) (y : Slot S) → is_waiting n r (remove_calls (is_to n) y) ≡ false
gone_slot n r free = refl
gone_slot n r (peer p) = ended_to_ends n r p.pending

gone_at : {S : Type 0} (O : Streams S) (s : State S) (n i : ℕ) (y : Slot S) → ((p : Peer S) → y ≡ peer p → p.number ≡ n)
    → (disconnect_at O s i y).result.answer ≡ 0
    → (j r : ℕ) → is_waiting n r (get_or (disconnect_at O s i y).state.slots j free) ≡ false
gone_at O s n i free f a j r = absurd (omega arith)
gone_at O s n i (peer p) f a j r =
    rw (get_or-map (remove_calls (is_to p.number)) (set s.slots i free) j free, f p refl) (gone_slot n r (get_or (set s.slots i free) j free))

pub gone_unawaited : {S : Type 0} (O : Streams S) (s : State S) (n : ℕ) → (disconnect O s n).result.answer ≡ 0
    → (j r : ℕ) → is_waiting n r (get_or (disconnect O s n).state.slots j free) ≡ false
unfolding disconnect
gone_unawaited O s n a j r =
    let i = first_by (is_peer n) s.slots in
    gone_at O s n i (slot_at s i) (number_found s.slots n) a j r

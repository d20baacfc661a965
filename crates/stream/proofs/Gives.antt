-- What the functions on a stream give is what an offer comes to: the ways out that they share.
use mathlib.Core.Path.{◌≡◌, refl, sym, ap, ap₂, ◌∙◌, subst⁻¹}
use mathlib.Core.List.{List, ◌++◌}
use Prim.Native.Nat.{ℕ, ◌+◌, ◌-◌, ◌≤◌, ◌<◌}
use native.Mathlib.Omega.{arith}
use native.Mathlib.Nat.{add-zero}
use lib.ListN.{length, take, drop, length-drop, drop_of_length-le}
use lib.Seq.{length-take-le, drop-drop}
use borrow.Author.Tests.{le-ltb}
use native.Mathlib.Decide.{dec_lt}
use Rattle.wire.specs.Bytes.{pad}
use Rattle.wire.proofs.Texts.{impossible}
use Rattle.header.specs.declared.Header.{Header}
use Rattle.std.specs.Prelude.{Ok, Err}
use Rattle.header.specs.declared.Fault.{Fault}
use Rattle.header.specs.Faults.{fault_number}
use Rattle.header.specs.declared.Sizes.{Sizes}
use Rattle.header.specs.declared.Unread.TheVariants as unread
use Rattle.header.specs.Fixed.{fixed_length, head_limit, message_limit, fixed_part, measures}
use Rattle.header.specs.Header.{Reading, read_header}
use Rattle.stream.specs.declared.Stream.{Stream}
use Rattle.stream.specs.declared.Event.{Event}
use Rattle.stream.specs.declared.Event.TheVariants.{More, Broken, Whole}
use Rattle.stream.specs.declared.Advance.{Advance}
use Rattle.stream.specs.Stream.{more, broken, whole, verdict_answer, Offer, offer}
use Rattle.stream.specs.Tail.{Tail, judge, tails}
use Rattle.stream.specs.Promises.{tail_in, verdict_of, event_answer, Gives}
use Rattle.stream.specs.Steps.{Resumed, bump_by, continued, resumed, Started, all_taken, Room, Stored}
use Rattle.stream.proofs.Heads.{whole_head, not_short}
use Rattle.stream.proofs.Good.{kept}
use Rattle.stream.proofs.Phases.{bump_none, continued_more, counted, ended, continued_broken, continued_short}
use Rattle.stream.proofs.Regions.{started_length, fits, head_after, length_after, padded_after}

-- ---- what an offer comes to

-- an event has the number of the verdict that it is
event_answers : (region : List ℕ) (e : Event) → event_answer e ≡ verdict_answer (verdict_of region e)
event_answers region More = refl
event_answers region (Broken f) = refl
event_answers region (Whole x) = refl

-- r is what o comes to where o is the stream `next` with its event
pub gives : {o : Offer Tail} (n : ℕ) (region : List ℕ) (next : Stream) (k : ℕ) (e : Event)
    → o ≡ record { verdict = verdict_of region e; taken = k; stream = tail_in region next }
    → region ≡ pad head_limit (take next.stored region) → length region ≡ head_limit → next.stored ≤ head_limit → k ≤ n → next.taken ≤ message_limit
    → Gives o n (record { stream = next; taken = k; event = e }) region
gives n region next k e q p l s w f =
    subst⁻¹ (λ (o : Offer Tail). Gives o n (record { stream = next; taken = k; event = e }) region) q
    (record {
      taken = refl;
      verdict = refl;
      answer = event_answers region e;
      counted = refl;
      kept = sym (length-take-le next.stored region (omega arith));
      padded = p;
      within = w;
      few = f;
      small = s;
    })

pub same_offer : {o o' : Offer Tail} {n : ℕ} {r : Advance} {region : List ℕ} → o ≡ o' → Gives o' n r region → Gives o n r region
same_offer {o} {o'} {n} {r} {region} e g = subst⁻¹ (λ (x : Offer Tail). Gives x n r region) e g

pub bump_twice : (j k : ℕ) (o : Offer Tail) → bump_by j (bump_by k o) ≡ bump_by (j + k) o
bump_twice j k o = let e : j + (k + o.taken) ≡ j + k + o.taken = omega arith in λ i. record { verdict = o.verdict; taken = e i; stream = o.stream }

-- an open stream resumes at the piece's first byte
pub open_resumes : (t : Tail) (piece : List ℕ) → judge t ≡ more → offer tails t piece ≡ resumed t piece 0
open_resumes t piece e = sym (continued_more t piece e) ∙ bump_none (continued t piece)

-- ---- bytes stored

abbrev pub plus : Stream → ℕ → Stream
plus s k = record { taken = s.taken + k; stored = s.stored + k }

-- the piece is used up in the head
pub used_up : (region : List ℕ) (s : Stream) (piece : List ℕ) (used : ℕ) → length piece ≤ used → read_header (take s.stored region) ≡ Err unread.Short
    → resumed (tail_in region s) piece used ≡ record { verdict = more; taken = used; stream = tail_in region s }
used_up region s piece used l e =
    let z : used + 0 ≡ used = add-zero used in
    ap (λ (q : List ℕ). bump_by used (continued (tail_in region s) q)) (drop_of_length-le piece l)
    ∙ ap (bump_by used) (continued_short s.taken (take s.stored region) e)
    ∙ (λ i. record { verdict = more; taken = z i; stream = tail_in region s })

module _ (s : Stream) {region piece after : List ℕ} {limit used k : ℕ} (r : Room region s.stored limit piece used)
    (w : Stored region s.stored limit piece used k after) where
  -- the stream goes on behind them, where they are as many pushes
  pub moved : continued (tail_in region s) (drop used piece)
      ≡ bump_by k (continued (record { taken = s.taken + k; head = take s.stored region ++ take k (drop used piece) }) (drop k (drop used piece)))
      → resumed (tail_in region s) piece used ≡ resumed (tail_in after (plus s k)) piece (used + k)
  moved e =
      ap (bump_by used) e
      ∙ bump_twice used k (continued (record { taken = s.taken + k; head = take s.stored region ++ take k (drop used piece) }) (drop k (drop used piece)))
      ∙ ap₂ (λ (h q : List ℕ). bump_by (used + k) (continued (record { taken = s.taken + k; head = h }) q))
      (sym (head_after region s.stored limit piece used k after r w))
      (drop-drop k used piece)

  -- the piece ends among them
  pub more_stored : {o : Offer Tail} → o ≡ resumed (tail_in after (plus s k)) piece (used + k) → s.stored + k < limit
      → read_header (take (s.stored + k) after) ≡ Err unread.Short → region ≡ pad head_limit (take s.stored region) → s.taken + k ≤ message_limit
      → Gives o (length piece) (record { stream = plus s k; taken = used + k; event = More }) after
  more_stored e h q p f =
      gives (length piece) after (plus s k) (used + k) More (e ∙ used_up after (plus s k) piece (used + k) (omega (arith, w.many)) q)
      (padded_after region s.stored limit piece used k after r w p) (length_after region s.stored limit piece used k after r w)
      (omega (arith, r.inside)) (fits region s.stored limit piece used k after r w).1 f

-- ---- a piece's end in the body, and a broken head

pub broken_at_lem : {region : List ℕ} {s : Stream} {piece : List ℕ} {used : ℕ} {f : Fault} → Started region s piece used
    → read_header (take s.stored region) ≡ Err (unread.Broken f) → s.taken ≤ message_limit
    → Resumed region s piece used (record { stream = s; taken = used; event = Broken f }) region
broken_at_lem {region} {s} {piece} {used} {f} b e l =
    let z : used + 0 ≡ used = add-zero used in
    record {
      gives = gives (length piece) region s used (Broken f)
          (ap (bump_by used) (continued_broken s.taken (take s.stored region) (drop used piece) f e)
          ∙ (λ i. record { verdict = broken (fault_number f); taken = z i; stream = tail_in region s }))
          b.padded b.sized b.stored b.within l;
    }

-- a whole head says the lengths that its fixed part says
pub lengths : (h : List ℕ) (x : Header) (head message : ℕ) → read_header h ≡ Ok x → fixed_part h ≡ measures head message
    → (x.head ≡ head) × (x.head + x.body ≡ message)
lengths h x head message e f =
    let q : measures x.head (x.head + x.body) ≡ measures head message = sym (whole_head h e).sizes.sizes ∙ f in
    let z : ◌≡◌ {A = Sizes} (record { head = x.head; message = x.head + x.body }) (record { head = head; message = message }) = cc q in
    (ap (λ (y : Sizes). y.head) z, ap (λ (y : Sizes). y.message) z)

-- the piece ends in the body: all of it is taken
module _ {region : List ℕ} {s : Stream} {piece : List ℕ} {used : ℕ} (b : Started region s piece used) (x : Header)
    (e : read_header (take s.stored region) ≡ Ok x) (k : s.stored ≡ x.head) where
  head_length_lem : length (take s.stored region) ≡ x.head
  head_length_lem = started_length b ∙ k

  rest : length (drop used piece) ≡ length piece - used
  rest = length-drop used piece

  pub body_more : s.taken + (length piece - used) < x.head + x.body → Resumed region s piece used (all_taken s piece used s.stored) region
  body_more h =
      let n : used + length (drop used piece) ≡ length piece = omega (arith, rest, b.within) in
      record {
        gives = gives (length piece) region (record { taken = s.taken + (length piece - used); stored = s.stored }) (length piece) More
            (ap (bump_by used) (counted (take s.stored region) x e head_length_lem s.taken (drop used piece) (rw rest h))
            ∙ (λ i. record { verdict = more; taken = n i; stream = record { taken = s.taken + rest i; head = take s.stored region } }))
            b.padded b.sized b.stored (omega arith) (omega (arith, (whole_head (take s.stored region) e).sizes.fits));
      }

  pub body_whole : s.taken ≤ x.head + x.body → x.head + x.body ≤ s.taken + (length piece - used)
      → Resumed region s piece used
      (record { stream = record { taken = x.head + x.body; stored = s.stored }; taken = used + (x.head + x.body - s.taken); event = Whole x }) region
  body_whole h i =
      record {
        gives = gives (length piece) region (record { taken = x.head + x.body; stored = s.stored }) (used + (x.head + x.body - s.taken)) (Whole x)
            (ap (bump_by used) (ended (take s.stored region) x e head_length_lem s.taken (drop used piece) h (rw rest i))
            ∙ (λ j. record {
              verdict = whole (take (k j) region) x;
              taken = used + (x.head + x.body - s.taken);
              stream = record { taken = x.head + x.body; head = take s.stored region };
            }))
            b.padded b.sized b.stored (omega (arith, b.within)) (whole_head (take s.stored region) e).sizes.fits;
      }

-- an open stream whose head is whole is in the body
pub in_body_of : (n : ℕ) (h : List ℕ) (head message : ℕ) → fixed_length ≤ length h → fixed_part h ≡ measures head message → head ≤ length h
    → judge (record { taken = n; head = h }) ≡ more
    → (x : Header) × (read_header h ≡ Ok x) × (n < message)
in_body_of n h head message l f k o = go (read_header h) refl
  where
    last : (x : Header) → read_header h ≡ Ok x → Dec (n < x.head + x.body) → (x : Header) × (read_header h ≡ Ok x) × (n < message)
    last x e (yes d) = (x, e, rw (← (lengths h x head message e f).1) d)
    last x e (no d) = let z = rw (e, le-ltb n (x.head + x.body) (omega arith)) at o in impossible cc

    go : (r : Reading) → read_header h ≡ r → (x : Header) × (read_header h ≡ Ok x) × (n < message)
    go (Err unread.Short) e = absurd (not_short h l f k e)
    go (Err (unread.Broken a)) e = let z = rw e at o in impossible cc
    go (Ok x) e = last x e (dec_lt n (x.head + x.body))

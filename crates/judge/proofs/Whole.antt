-- A message by its destination, and the judgement of a whole message.
use mathlib.Core.Path.{◌≡◌, subst}
use mathlib.Core.Bool.{Bool, true, false, cond}
use mathlib.Core.List.{List, [], ◌∷◌}
use Prim.Native.Nat.{ℕ, ◌≤◌, ◌<◌}
use borrow.Author.Rules.{rules}
use borrow.Author.Tests.{lt-ltb, le-ltb, eq-eqb, ne_eqb}
use Rattle.wire.proofs.Words.{Octets}
use Rattle.header.specs.Codes.{call}
use Rattle.header.specs.declared.Header.{Header}
use Rattle.header.proofs.Readings.{Fitting, whole_fits}
use Rattle.policy.specs.Matching.{message_of}
use Rattle.decide.specs.Promises.{Asked}
use Rattle.policy.specs.Names.{bus_name}
use Rattle.policy.specs.declared.Decider.{Decider}
use Rattle.stream.specs.Tail.{Tail}
use Rattle.rules.specs.Judge.{Judged, refusal, refused, passed, judged_by, send_decision, to_bus, is_reply, reply, judged}
use Rattle.rules.specs.declared.Judgement.{Judgement}
use Rattle.rules.specs.declared.Receiver.TheVariants as to
use Rattle.memory.specs.Encoding.{state_of}
use Rattle.memory.proofs.Reading.{slot_peer}
use Rattle.slots.specs.Slots.{peer_at, Seated}
use Rattle.addresses.specs.declared.Destination.{Destination}
use Rattle.addresses.specs.declared.Destination.TheVariants.{Absent, Bus, At, Unknown}
use Rattle.waits.specs.Waits.{JudgementLeft}
use Rattle.judge.specs.Judging.{JudgedMessage, Judges}
use Rattle.addresses.specs.Destinations.{address_of, Stands, Seeks, Resolved}
use Rattle.waits.specs.Waits.{RepliesTo}
use Rattle.judge.specs.Steps.{ToBus, ToAll, ToPeer, Replies, Directs}
use Rattle.waits.proofs.Waits.{left_as_is}

-- the bus is told, and nothing waits
told : {image m : List ℕ} {i : ℕ} {head : List ℕ} {x : Header} → Seated m i → Octets m
    → {r : Judgement} → ToBus image m i head x r → JudgementLeft (to_bus image (state_of m) (peer_at m i) (message_of head x)) r m
told {image} {m} {i} {head} {x} a b {r} t =
    let d = send_decision image (peer_at m i) (bus_name ∷ []) (message_of head x) in
    go d.rule d.allow t.is
  where
    told_by : Decider → Bool → Judged Tail
    told_by d c = judged_by d (cond c (passed (state_of m) to.Bus) (refused (state_of m) 22))

    go : (d : Decider) (c : Bool) → r ≡ (told_by d c).judgement → JudgementLeft (told_by d c) r m
    go d true e = left_as_is a b e
    go d false e = left_as_is a b e

-- the peer that is addressed
pub stands_at : {m : List ℕ} {d : Destination} → Stands m d → {j : ℕ} → d ≡ At j → Seated m j
stands_at {m} s e = subst (Stands m) e s

-- ---- replies

module _ {m : List ℕ} {i : ℕ} {d : Destination} where
  pub replies_at : Stands m d → {j : ℕ} → d ≡ At j → {x : Header} {r : Judgement} {m' : List ℕ} → RepliesTo m i j x r m' → Replies m i d x r m'
  replies_at s {j} e w = let p = stands_at s e in record { left = rw (e, slot_peer m j p.below p.some) w.left }

  module _ (a : Seated m i) (b : Octets m) (x : Header) {r : Judgement} (q : r ≡ refusal 24) where
    -- nobody, the bus, or a name that nobody has
    pub replies_none : {k : Destination} → d ≡ k → reply (state_of m) (peer_at m i) (address_of k) x ≡ refused (state_of m) 24 → Replies m i d x r m
    replies_none e f = record { left = rw (e, f) (left_as_is a b q) }

pub ruleset replying = (stands_at, replies_at, replies_none, rules)

-- ---- calls and signals

module _ {image m : List ℕ} {i : ℕ} {d : Destination} {head : List ℕ} {x : Header} where
  pub directs_at : Stands m d → {j : ℕ} → d ≡ At j → {r : Judgement} {m' : List ℕ} → ToPeer image m i j head x r m' → Directs image m i d head x r m'
  directs_at s {j} e w = let p = stands_at s e in record { left = rw (e, slot_peer m j p.below p.some) w.left }

  module _ (a : Seated m i) (b : Octets m) where
    pub directs_unknown : d ≡ Unknown → {r : Judgement} → r ≡ refusal 21 → Directs image m i d head x r m
    directs_unknown e q = record { left = rw e (left_as_is a b q) }

    module _ {r : Judgement} (t : ToBus image m i head x r) where
      pub directs_bus : d ≡ Bus → Directs image m i d head x r m
      directs_bus e = record { left = rw e (told a b t) }

      pub directs_call : d ≡ Absent → x.kind ≡ call → Directs image m i d head x r m
      directs_call e k = record { left = rw (e, eq-eqb x.kind call k) (told a b t) }

    pub directs_signal : d ≡ Absent → (x.kind ≡ call → ⊥) → {r : Judgement} → ToAll image m i head x r → Directs image m i d head x r m
    directs_signal e k t = record { left = rw (e, ne_eqb x.kind call k) (left_as_is a b t.is) }

pub ruleset directing = (stands_at, directs_at, directs_unknown, directs_bus, directs_call, directs_signal, rules)

-- ---- the whole

module _ {image m : List ℕ} {i : ℕ} {head : List ℕ} {x : Header} (a : JudgedMessage image m i head x) where
  fits : Fitting head x
  fits = whole_fits head x a.read

  pub asked : Asked image head x
  asked =
      record {
        good = a.good;
        within =
            record {
              path = rw a.long fits.path_fits;
              interface = rw a.long fits.interface_fits_lem;
              member = rw a.long fits.member_fits;
            };
      }

  pub seeks_of : Seeks m head x.destination
  seeks_of = record { held = a.sender.held; inside = rw a.long fits.destination_fits }

  pub judge_other : Octets m → 4 < x.kind → {r : Judgement} → r ≡ refusal 20 → Judges image m i head x r m
  unfolding judged
  judge_other b h q = rw (lt-ltb 4 x.kind h) (left_as_is a.sender b q)

  module _ {d : Destination} (s : Resolved m head x.destination d) where
    module _ (h : x.kind ≤ 4) {r : Judgement} {m' : List ℕ} where
      pub judge_reply : is_reply x ≡ true → Replies m i d x r m' → Judges image m i head x r m'
      unfolding judged
      judge_reply t w = rw (le-ltb 4 x.kind h, t, ← s.is) w.left

      pub judge_direct : is_reply x ≡ false → Directs image m i d head x r m' → Judges image m i head x r m'
      unfolding judged
      judge_direct t w = rw (le-ltb 4 x.kind h, t, ← s.is) w.left

pub ruleset judging = (seeks_of, judge_other, asked, judge_reply, judge_direct, rules)

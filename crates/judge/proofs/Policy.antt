-- What policy says, asked of one slot about the names of another's or of the bus.
use Rattle.std.proofs.Common.{◌≡◌, sym, ◌∙◌, Bool, true, false, not, List, [], ◌∷◌, ℕ, ◌+◌, ◌-◌, ◌*◌, ◌<◌, arith, length, take, drop, rules, Some}
use borrow.Author.Tests.{not-true, not-false}
use Rattle.wire.specs.Words.{word_at}
use Rattle.wire.specs.declared.Order.TheVariants.{Little}
use Rattle.wire.proofs.Words.{Octets, cut_at}
use Rattle.header.specs.declared.Header.{Header}
use Rattle.policy.specs.Names.{names_in, cell_of, bus_name, name_width}
use Rattle.policy.specs.Matching.{message_of}
use Rattle.policy.specs.Decisions.{send, receive, transaction_decision}
use Rattle.policy.specs.declared.Decision.{Decision}
use Rattle.policy.proofs.Cells.{bus_names}
use Rattle.rules.specs.Judge.{refusal, judgement_by}
use Rattle.rules.specs.declared.Judgement.{Judgement}
use Rattle.rules.specs.declared.Receiver.TheVariants as to
use Rattle.memory.specs.Layout.{slot_start, first_name, uid_at}
use Rattle.memory.specs.Places.{number_at}
use Rattle.memory.proofs.Reading.{slot_free, slot_peer}
use Rattle.memory.proofs.Held.{held_counted}
use Rattle.memory.proofs.Names.{names_in_lem}
use Rattle.slots.specs.Slots.{peer_at, Seated}
use Rattle.judge.specs.Steps.{Asks, Says, ToBus, Reaches}

pub asks_peer : (image : List ℕ) (direction : ℕ) (m : List ℕ) (i : ℕ) (names head : List ℕ) (x : Header) {u : ℕ} {gids : List ℕ}
    → u ≡ word_at Little m (slot_start i + uid_at) → gids ≡ (peer_at m i).gids
    → {r : Decision} → r ≡ transaction_decision image direction (record { 0 = u }) gids (names_in names) (message_of head x)
    → Asks image direction m i names head x r
asks_peer image direction m i names head x e g q = record { is = q ∙ rw (e, g) }

pub ruleset asking_peer = (asks_peer, rules)

pub says_is : (image : List ℕ) (direction : ℕ) (m : List ℕ) (s o : ℕ) (head : List ℕ) (x : Header) → Seated m o → Octets m
    → {n : ℕ} → n ≡ length (peer_at m o).names
    → {end : ℕ} → end ≡ slot_start o + first_name + name_width * n
    → {r : Decision}
    → Asks image direction m s (take (end - (slot_start o + first_name)) (drop (slot_start o + first_name) m)) head x r
    → Says image direction m s o head x r
says_is image direction m s o head x p b {n} e t a =
    let c = held_counted m o p.held p.below p.some in
    let q : names_in (take (name_width * n) (drop (slot_start o + first_name) m)) ≡ (peer_at m o).names
    = names_in_lem m (slot_start o) n (λ j. (b j).fits) (omega arith) (e ∙ c.names) (omega (arith, c.names, c.few_names)) in
    record { is = a.is ∙ rw (t, cut_at (slot_start o + first_name) (name_width * n) m, q) }

-- the cells' length, whichever factor comes first
pub cells_end : (a n : ℕ) → a + n * name_width ≡ a + name_width * n
cells_end a n = omega arith

pub ruleset saying = (says_is, cells_end, rules)

-- ---- the bus

module _ (image m : List ℕ) (i : ℕ) (head : List ℕ) (x : Header) {cell : List ℕ} (e : cell ≡ cell_of bus_name) {d : Decision}
    (a : Asks image send m i cell head x d) where
  says : transaction_decision image send (record { 0 = (peer_at m i).uid }) (peer_at m i).gids (bus_name ∷ []) (message_of head x) ≡ d
  says = sym (a.is ∙ rw (e, bus_names))

  pub bus_denied : not d.allow ≡ true → {j k : Judgement} → k ≡ refusal 22 → j ≡ judgement_by d.rule k → ToBus image m i head x j
  bus_denied t p q = record { is = q ∙ rw (p, says, not-true d.allow t) }

  pub bus_passed : not d.allow ≡ false → ToBus image m i head x (record { answer = 0; receiver = to.Bus; rule = Some d.rule })
  bus_passed t = record { is = rw (says, not-false d.allow t) }

pub ruleset to_bus_lem = (bus_denied, bus_passed, rules)

-- ---- a slot that a signal may reach

module _ (image m : List ℕ) (i k : ℕ) (head : List ℕ) (x : Header) (h : k < 16) {n : ℕ} (e : n ≡ number_at m k) where
  pub reach_free : n ≡ 0 → Reaches image m i k head x false
  reach_free z = record { is = rw (slot_free m k h (sym e ∙ z)) }

  module _ (z : n ≡ 0 → ⊥) {s : Decision} (a : Says image send m i k head x s) where
    pub reach_denied : not s.allow ≡ true → Reaches image m i k head x false
    reach_denied t = record { is = rw (slot_peer m k h (λ y. z (e ∙ y)), ← a.is, not-true s.allow t) }

    pub reach_both : not s.allow ≡ false → {r : Decision} → Says image receive m k i head x r → Reaches image m i k head x r.allow
    reach_both t b = record { is = rw (slot_peer m k h (λ y. z (e ∙ y)), ← a.is, not-false s.allow t, ← b.is) }

pub ruleset reaching = (reach_free, reach_denied, reach_both, rules)

-- Good memory: its length is right, what it says keeps the rules, and no byte stands where none belongs (rules 10.3, 10.4 and 10.5). Any other is refused
-- with 51, and good memory stays good (rule 10.6).
use Rattle.std.specs.Prelude.{Bool, true, not, ◌&&◌, List, [], ◌∷◌, ℕ, leb, eqb, length, drop}
use Rattle.wire.specs.Bytes.{same}
use Rattle.wire.specs.Lists.{any, distinct}
use Rattle.tables.specs.Tables.{parts}
use Rattle.stream.specs.Tail.{Tail, good_tail}
use Rattle.rules.specs.State.{Pending, Peer, Slot, free, peer, is_peer}
use Rattle.rules.specs.Addresses.{ownable}
use Rattle.rules.specs.Pending.{same_call}
use Rattle.rules.specs.Calls.{is_owner}
use Rattle.memory.specs.Layout.{slot_length, memory_length, slots_at}
use Rattle.memory.specs.Encoding.{slot_bytes, slot_of, state_of}

-- none of the slots passes
abbrev pub nobody : (Slot Tail → Bool) → List (Slot Tail) → Bool
nobody t slots = not (any t slots)

-- each name can be owned, stands once among these, and in none of the slots after its own (rule 10.3)
unfoldable pub good_names : List (List ℕ) → List (Slot Tail) → Bool
good_names names later = distinct (λ x. ownable x && nobody (is_owner x) later) (λ x y. same y x) names

-- the callee of each pending call is connected, its serial is not 0, it is not newer than the last tick, and none stands twice with its caller (rule 10.3)
unfoldable pub good_pending : List (Slot Tail) → ℕ → List Pending → Bool
good_pending all tick ws = distinct (λ w. any (is_peer w.callee) all && leb 1 w.serial && leb w.tick tick) same_call ws

-- its number is 1 to the last one given and no later slot's; its counts are within the limits (rules 1.1 and 10.3); its stream is good (rule 10.4)
unfoldable pub good_peer : List (Slot Tail) → ℕ → ℕ → Peer Tail → List (Slot Tail) → Bool
good_peer all last tick p later =
    leb 1 p.number
    && leb p.number last
    && nobody (is_peer p.number) later
    && leb (length p.gids) 16
    && leb (length p.pending) 16
    && leb (length p.names) 4
    && good_pending all tick p.pending
    && good_names p.names later
    && good_tail p.stream

-- a free slot keeps the rules (rule 10.3)
abbrev pub good_slot : List (Slot Tail) → ℕ → ℕ → Slot Tail → List (Slot Tail) → Bool
good_slot all last tick free later = true
good_slot all last tick (peer p) later = good_peer all last tick p later

-- each slot, beside those after it, so that what may stand once is looked for once (rule 10.3)
unfoldable pub good_slots : List (Slot Tail) → ℕ → ℕ → List (Slot Tail) → Bool
good_slots all last tick [] = true
good_slots all last tick (x ∷ later) = good_slot all last tick x later && good_slots all last tick later

-- each part is the bytes of the slot that is read off it, so that unused places are zero (rule 10.5)
unfoldable pub plain_slots : List (List ℕ) → Bool
plain_slots [] = true
plain_slots (b ∷ r) = same (slot_bytes (slot_of b)) b && plain_slots r

-- the test that 51 is about (rules 10.3 and 10.6)
unfoldable pub good : List ℕ → Bool
good m =
    eqb (length m) memory_length
    && (good_slots (state_of m).slots (state_of m).last (state_of m).tick (state_of m).slots && plain_slots (parts slot_length 16 (drop slots_at m)))

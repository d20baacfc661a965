-- Who awaits a reply: what the laws about replies speak of (rule 7.9).
use Rattle.std.specs.Prelude.{Bool, false, not, ◌&&◌, List, ℕ, get_or}
use Rattle.wire.specs.Lists.{any}
use Rattle.header.specs.declared.Header.{Header}
use Rattle.policy.specs.Matching.{field_of}
use Rattle.rules.specs.State.{Slot, free, peer, State}
use Rattle.rules.specs.Addresses.{Address, undirected, bus, slot, unknown, resolve}
use Rattle.rules.specs.Pending.{is_call, awaits, expired}

-- the slot's peer awaits the reply of that callee to that serial
abbrev pub is_waiting : {S : Type 0} → ℕ → ℕ → Slot S → Bool
is_waiting callee serial free = false
is_waiting callee serial (peer p) = awaits callee serial p.pending

-- the same, with a call that is less than `limit` ticks old (rule 8.12)
abbrev pub waits_young : {S : Type 0} → ℕ → ℕ → ℕ → ℕ → Slot S → Bool
waits_young now limit callee serial free = false
waits_young now limit callee serial (peer p) = any (λ w. is_call callee serial w && not (expired now limit w)) p.pending

-- the peer whom the address means awaits it
abbrev pub awaited : {S : Type 0} → List (Slot S) → ℕ → ℕ → Address → Bool
awaited slots callee serial undirected = false
awaited slots callee serial bus = false
awaited slots callee serial unknown = false
awaited slots callee serial (slot j) = is_waiting callee serial (get_or slots j free)

-- a reply of peer n with head h, which reads as x, is awaited: by the peer that its destination means
abbrev pub is_awaited : {S : Type 0} → State S → ℕ → List ℕ → Header → Bool
is_awaited s n h x = awaited s.slots n x.reply_serial (resolve s.slots (field_of h x.destination))

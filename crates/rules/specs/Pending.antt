-- Calls that await their replies.
use Rattle.std.specs.Prelude.{Bool, cond, ◌&&◌, List, [], ◌∷◌, ℕ, ◌+◌, ◌-◌, eqb, leb, length}
use Rattle.wire.specs.Lists.{any}
use Rattle.rules.specs.State.{Pending, Slot, free, peer, drop_first, with_pending}

-- the call to that callee with that serial; the caller is who keeps it (rule 1.2)
abbrev pub is_call : ℕ → ℕ → Pending → Bool
is_call callee serial w = eqb w.callee callee && eqb w.serial serial

-- two calls of one caller are the same (rule 1.2)
abbrev pub same_call : Pending → Pending → Bool
same_call w = is_call w.callee w.serial

-- the call is pending, in its caller's list (rule 7.8)
unfoldable pub awaits : ℕ → ℕ → List Pending → Bool
awaits callee serial ws = any (is_call callee serial) ws

-- that call no longer pending (rule 7.9)
unfoldable pub ended : ℕ → ℕ → List Pending → List Pending
ended callee serial ws = drop_first (is_call callee serial) ws

-- ---- calls that end without a reply: by a test, which is the callee's for a disconnect and the age's for a tick

-- the call is to that callee (rule 8.7)
abbrev pub is_to : ℕ → Pending → Bool
is_to callee w = eqb w.callee callee

-- the call is at least so many ticks old (rule 8.12)
abbrev pub expired : ℕ → ℕ → Pending → Bool
expired now limit w = leb limit (now - w.tick)

-- every call that passes the test no longer pending (rules 8.7 and 8.12)
unfoldable pub ended_where : (Pending → Bool) → List Pending → List Pending
ended_where t [] = []
ended_where t (w ∷ ws) = cond (t w) (ended_where t ws) (w ∷ ended_where t ws)

-- how many of them pass it (rule 8.12)
unfoldable pub count_where : (Pending → Bool) → List Pending → ℕ
count_where t [] = 0
count_where t (w ∷ ws) = cond (t w) (1 + count_where t ws) (count_where t ws)

-- a slot whose calls that pass the test have ended (rules 8.7 and 8.12)
abbrev pub remove_calls : {S : Type 0} → (Pending → Bool) → Slot S → Slot S
remove_calls t free = free
remove_calls t (peer p) = peer (with_pending p (ended_where t p.pending))

-- how many of a slot's calls pass the test, and how many of all slots' (rule 8.12)
abbrev pub count_slot : {S : Type 0} → (Pending → Bool) → Slot S → ℕ
count_slot t free = 0
count_slot t (peer p) = count_where t p.pending

unfoldable pub count_in : {S : Type 0} → (Pending → Bool) → List (Slot S) → ℕ
count_in t [] = 0
count_in t (x ∷ l) = count_slot t x + count_in t l

-- how many calls are pending in a slot, and in all: what is reported is held to it (rule 8.12)
abbrev pub pending_in : {S : Type 0} → Slot S → ℕ
pending_in free = 0
pending_in (peer p) = length p.pending

unfoldable pub pending_all : {S : Type 0} → List (Slot S) → ℕ
pending_all [] = 0
pending_all (x ∷ l) = pending_in x + pending_all l

-- The state that the rules speak of. `S` is what a stream is made of.
use Rattle.std.specs.Prelude.{Bool, true, false, cond, List, [], ◌∷◌, ℕ, suc, eqb, set}

-- a call that awaits its reply: its caller keeps it, so that its callee and its serial say which it is; and the tick at which it passed (rule 1.2)
pub record Pending : Type 0 where
  pub callee : ℕ
  pub serial : ℕ
  pub tick : ℕ

-- a connected peer (rule 1.1)
pub record Peer (S : Type 0) : Type 0 where
  pub number : ℕ
  pub uid : ℕ
  pub gids : List ℕ
  pub pending : List Pending
  pub names : List (List ℕ)
  pub stream : S

-- a slot is free or has a peer (rule 1.1)
pub data Slot (S : Type 0) : Type 0 where
  free : Slot S
  peer : Peer S → Slot S

-- the last number that was given to a peer, the last tick, and the slots (rule 1.1)
pub record State (S : Type 0) : Type 0 where
  pub last : ℕ
  pub tick : ℕ
  pub slots : List (Slot S)

abbrev pub is_free : {S : Type 0} → Slot S → Bool
is_free free = true
is_free (peer p) = false

-- the slot's peer has that number (rule 8.8)
abbrev pub is_peer : {S : Type 0} → ℕ → Slot S → Bool
is_peer n free = false
is_peer n (peer p) = eqb p.number n

-- the place of the first that passes, or the length where none does
unfoldable pub first_by : {A : Type 0} → (A → Bool) → List A → ℕ
first_by t [] = 0
first_by t (x ∷ xs) = cond (t x) 0 (suc (first_by t xs))

-- the first that passes taken out: the later ones move down
unfoldable pub drop_first : {A : Type 0} → (A → Bool) → List A → List A
drop_first t [] = []
drop_first t (x ∷ xs) = cond (t x) xs (x ∷ drop_first t xs)

-- slot i put
abbrev pub put_slot : {S : Type 0} → State S → ℕ → Slot S → State S
put_slot s i x = record { last = s.last; tick = s.tick; slots = set s.slots i x }

-- a peer with other names, pending calls or stream
abbrev pub with_names : {S : Type 0} → Peer S → List (List ℕ) → Peer S
with_names p ns =
    record { number = p.number; uid = p.uid; gids = p.gids; pending = p.pending; names = ns; stream = p.stream }

abbrev pub with_pending : {S : Type 0} → Peer S → List Pending → Peer S
with_pending p ps =
    record { number = p.number; uid = p.uid; gids = p.gids; pending = ps; names = p.names; stream = p.stream }

abbrev pub with_stream : {S : Type 0} → Peer S → S → Peer S
with_stream p t =
    record { number = p.number; uid = p.uid; gids = p.gids; pending = p.pending; names = p.names; stream = t }

-- The bytes of a peer that has just connected: its number, its uid and its gids, and zeros.
use mathlib.Core.List.{List, [], ◌++◌, append_assoc}
use mathlib.Core.Path.{◌≡◌, refl, ap, ap₂, ◌∙◌}
use Prim.Native.Nat.{ℕ, ◌+◌, ◌-◌, ◌*◌, ◌≤◌}
use native.Mathlib.Omega.{arith}
use lib.ListN.{length, replicate, replicate-append-replicate}
use Rattle.wire.specs.Words.{word_bytes}
use Rattle.wire.proofs.Words.{word_length}
use Rattle.tables.specs.Tables.{cells, table_bytes}
use Rattle.tables.proofs.Table.{table_spread}
use Rattle.tables.proofs.Same.{pad_none}
use Rattle.policy.specs.Names.{cell_of, name_width}
use Rattle.stream.specs.Tail.{tails}
use Rattle.rules.specs.State.{peer}
use Rattle.rules.specs.Calls.{newcomer}
use Rattle.memory.specs.Layout.{slot_length, first_gid, gid_width, gid_room, pending_at, call_width, call_room, pending_length, names_at}
use Rattle.memory.specs.Layout.{name_room, names_length, taken_at, head_room, kept_length, stream_length, rest_length}
use Rattle.memory.specs.Encoding.{pending_bytes, head_bytes, rest_bytes, peer_bytes, slot_bytes}
use Rattle.memory.proofs.Frame.{word_zero}
use Rattle.memory.proofs.Heads.{single, head_table_lem}

-- an empty table is zero
pub table_none : {A : Type 0} (w k : ℕ) (enc : A → List ℕ) → table_bytes w k enc [] ≡ replicate (4 + w * k) 0
unfolding table_bytes cells
table_none w k enc = ap₂ ◌++◌ word_zero (pad_none (w * k)) ∙ replicate-append-replicate {A = ℕ} 4 (w * k) 0

zeros : (a b : ℕ) (p q : List ℕ) → p ≡ replicate a 0 → q ≡ replicate b 0 → p ++ q ≡ replicate (a + b) 0
zeros a b p q e f = ap₂ ◌++◌ e f ∙ replicate-append-replicate {A = ℕ} a b 0

pub newcomer_bytes : (n uid : ℕ) (gids : List ℕ)
    → slot_bytes (peer (newcomer tails n uid gids))
    ≡ word_bytes n ++ (word_bytes uid ++ (table_bytes gid_width gid_room word_bytes gids ++ replicate (slot_length - pending_at) 0))
unfolding slot_bytes peer_bytes rest_bytes
newcomer_bytes n uid gids =
    let P = table_bytes call_width call_room pending_bytes [] in
    let N = table_bytes name_width name_room cell_of [] in
    let H = head_bytes [] in
    let S = word_bytes 0 ++ H in
    let h : H ≡ replicate kept_length 0 = head_table_lem [] ∙ table_none 1 head_room single in
    let s = zeros 4 kept_length (word_bytes 0) H word_zero h in
    let t = zeros stream_length rest_length S rest_bytes s refl in
    let u = zeros names_length (slot_length - taken_at) N (S ++ rest_bytes) (table_none name_width name_room cell_of) t in
    let v = zeros pending_length (slot_length - names_at) P (N ++ (S ++ rest_bytes)) (table_none call_width call_room pending_bytes) u in
    ap (λ (z : List ℕ). word_bytes n ++ (word_bytes uid ++ (table_bytes gid_width gid_room word_bytes gids ++ z))) v

-- the gids' cells, and zeros
pub newcomer_spread : (n uid : ℕ) (gids : List ℕ) → length gids ≤ gid_room
    → slot_bytes (peer (newcomer tails n uid gids))
    ≡ word_bytes n ++ (word_bytes uid ++ (word_bytes (length gids) ++ (cells word_bytes gids ++ replicate ((slot_length - first_gid) - gid_width * length gids) 0)))
unfolding table_bytes
newcomer_spread n uid gids h =
    let x = gid_width * gid_room - gid_width * length gids in
    let e : x + (slot_length - pending_at) ≡ (slot_length - first_gid) - gid_width * length gids = omega arith in
    newcomer_bytes n uid gids
    ∙ rw (table_spread gid_width gid_room word_bytes word_length gids h, ← e, ← replicate-append-replicate {A = ℕ} x (slot_length - pending_at) 0)
    (simp append_assoc)

-- The bytes of a peer that connects, as they are written.
use mathlib.Core.Path.{◌≡◌, ap, ◌∙◌}
use mathlib.Core.List.{List, ◌++◌, append_assoc}
use Prim.Native.Nat.{ℕ, ◌+◌, ◌*◌, ◌≤◌}
use native.Mathlib.Omega.{arith}
use lib.ListN.{length, take, drop, length-append}
use borrow.Author.Rules.{rules}
use Rattle.wire.specs.Words.{word_bytes}
use Rattle.wire.proofs.Words.{word_length}
use Rattle.tables.specs.Tables.{cells}
use Rattle.wire.proofs.Parts.{put_joined}
use Rattle.memory.specs.Layout.{slot_start, gids_at, first_gid, gid_width, gid_room, uid_at}
use Rattle.slots.specs.Slots.{At}
use Rattle.peers.specs.Writes.{new_bytes}

-- number, uid, count of gids and gids, one behind the other
pub seat_written : (m m₁ m₂ m₃ m₄ gids : List ℕ) (i n u : ℕ) → At m i → length gids ≤ gid_room
    → m₁ ≡ take (slot_start i) m ++ (word_bytes n ++ drop (slot_start i + 4) m)
    → m₂ ≡ take (slot_start i + uid_at) m₁ ++ (word_bytes u ++ drop (slot_start i + uid_at + 4) m₁)
    → m₃ ≡ take (slot_start i + gids_at) m₂ ++ (word_bytes (length gids) ++ drop (slot_start i + gids_at + 4) m₂)
    → m₄ ≡ take (slot_start i + first_gid) m₃ ++ (cells word_bytes gids ++ drop (slot_start i + first_gid + gid_width * length gids) m₃)
    → m₄ ≡ take (slot_start i) m ++ (new_bytes n u gids ++ drop (slot_start i + (first_gid + gid_width * length gids)) m)
unfolding new_bytes
seat_written m m₁ m₂ m₃ m₄ gids i n u g f e₁ e₂ e₃ e₄ =
    let a = slot_start i in
    let x₁ = word_bytes n in
    let x₂ = word_bytes u in
    let x₃ = word_bytes (length gids) in
    let x₄ = cells word_bytes gids in
    let l₁ : length x₁ ≡ uid_at = word_length n in
    let l₂ : length (x₁ ++ x₂) ≡ gids_at = length-append x₁ x₂ ∙ omega (arith, word_length u) in
    let l₃ : length ((x₁ ++ x₂) ++ x₃) ≡ first_gid = length-append (x₁ ++ x₂) x₃ ∙ omega (arith, word_length (length gids)) in
    let q₂ : m₂ ≡ take a m ++ ((x₁ ++ x₂) ++ drop (a + gids_at) m)
    = e₂ ∙ ap (λ (z : List ℕ). take (a + uid_at) z ++ (x₂ ++ drop (a + uid_at + 4) z)) e₁ ∙ put_joined m x₁ x₂ a uid_at 4 (omega arith) l₁ in
    let q₃ : m₃ ≡ take a m ++ (((x₁ ++ x₂) ++ x₃) ++ drop (a + first_gid) m)
    = e₃ ∙ ap (λ (z : List ℕ). take (a + gids_at) z ++ (x₃ ++ drop (a + gids_at + 4) z)) q₂ ∙ put_joined m (x₁ ++ x₂) x₃ a gids_at 4 (omega arith) l₂ in
    let q₄ : m₄ ≡ take a m ++ ((((x₁ ++ x₂) ++ x₃) ++ x₄) ++ drop (a + (first_gid + gid_width * length gids)) m)
    = e₄
    ∙ ap (λ (z : List ℕ). take (a + first_gid) z ++ (x₄ ++ drop (a + first_gid + gid_width * length gids) z)) q₃
    ∙ put_joined m ((x₁ ++ x₂) ++ x₃) x₄ a first_gid (gid_width * length gids) (omega arith) l₃ in
    q₄ ∙ rw (append_assoc (x₁ ++ x₂) x₃ x₄, append_assoc x₁ x₂ (x₃ ++ x₄))

pub ruleset seating = (seat_written, rules)

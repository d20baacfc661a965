-- A peer of good memory changed: the bytes that a state with other names, pending calls or stream has, by the old bytes; and the writes that make
-- them.
use mathlib.Core.List.{List, [], ◌∷◌, ◌++◌}
use mathlib.Core.Path.{◌≡◌, sym, ap, ◌∙◌}
use Prim.Native.Nat.{ℕ, ◌+◌, ◌-◌, ◌*◌, ◌≤◌, ◌<◌}
use native.Mathlib.Omega.{arith}
use lib.ListN.{length, take, drop}
use lib.Seq.{drop-drop, take-take}
use Rattle.wire.specs.Bytes.{Below}
use Rattle.wire.specs.Words.{word_bytes}
use Rattle.tables.specs.Tables.{table_bytes}
use Rattle.wire.proofs.Parts.{drop_taken}
use Rattle.tables.proofs.Written.{append_written}
use Rattle.policy.specs.Names.{cell_of, name_width}
use Rattle.stream.specs.Tail.{Tail}
use Rattle.rules.specs.State.{Pending, Peer, peer, put_slot, with_names, with_pending, with_stream}
use Rattle.memory.specs.Layout.{slot_length, slot_start, pending_at, first_callee, call_width, call_room, pending_length, names_at, first_name}
use Rattle.memory.specs.Layout.{name_room, names_length, taken_at, stream_length}
use Rattle.memory.specs.Encoding.{pending_bytes, stream_bytes, slot_bytes, memory_of, state_of}
use Rattle.memory.specs.Sound.{Held}
use Rattle.memory.proofs.Frame.{pending_length_lem, cell_length}
use Rattle.memory.proofs.Fields.{put_field, put_names, put_pending, put_stream, table_part, names_in_lem, pending_in_lem}
use Rattle.memory.specs.Places.{number_at, peer_from}
use Rattle.memory.proofs.Reading.{sixteen, slot_peer}
use Rattle.memory.proofs.Good.{good_is}
use Rattle.memory.proofs.Held.{held_peer}

-- a part of a part
pub part_of : (m : List ℕ) (a b c : ℕ) → b + c ≤ slot_length → take c (drop b (take slot_length (drop a m))) ≡ take c (drop (a + b) m)
part_of m a b c h =
    rw (drop_taken b slot_length (drop a m), take-take c (slot_length - b) (drop b (drop a m)) (omega arith), drop-drop b a m)

module _ (m : List ℕ) (bytes : Below 256 m) (g : Held m) (i : ℕ) (h : i < 16) (some : number_at m i ≡ 0 → ⊥) where
  -- ---- the tables of slot i

  pub names_stand : take names_length (drop (slot_start i + names_at) m) ≡ table_bytes name_width name_room cell_of (peer_from m (slot_start i)).names
  names_stand =
      sym (part_of m (slot_start i) names_at names_length (omega arith))
      ∙ ap (λ (z : List ℕ). take names_length (drop names_at z)) (held_peer m i g h some)
      ∙ table_part (names_in_lem (peer_from m (slot_start i)))

  pub pending_stands : take pending_length (drop (slot_start i + pending_at) m) ≡ table_bytes call_width call_room pending_bytes (peer_from m (slot_start i)).pending
  pending_stands =
      sym (part_of m (slot_start i) pending_at pending_length (omega arith))
      ∙ ap (λ (z : List ℕ). take pending_length (drop pending_at z)) (held_peer m i g h some)
      ∙ table_part (pending_in_lem (peer_from m (slot_start i)))

  -- ---- a field put in slot i: `new` are the c bytes at b of it that differ

  pub field_put : (q : Peer Tail) (new : List ℕ) (b c : ℕ) → b + c ≤ slot_length
      → slot_bytes (peer q) ≡ take b (slot_bytes (peer (peer_from m (slot_start i)))) ++ (new ++ drop (b + c) (slot_bytes (peer (peer_from m (slot_start i)))))
      → memory_of (put_slot (state_of m) i (peer q)) ≡ take (slot_start i + b) m ++ (new ++ drop (slot_start i + b + c) m)
  field_put q new b c l e =
      rw (good_is m bytes g.held) at
      (put_field (state_of m) i (peer_from m (slot_start i)) q new b c (rw (sixteen m) h) (slot_peer m i h some) l e)

  pub names_put : (ns : List (List ℕ)) → memory_of (put_slot (state_of m) i (peer (with_names (peer_from m (slot_start i)) ns)))
      ≡ take (slot_start i + names_at) m ++ (table_bytes name_width name_room cell_of ns ++ drop (slot_start i + names_at + names_length) m)
  names_put ns =
      let p = peer_from m (slot_start i) in
      field_put (with_names p ns) (table_bytes name_width name_room cell_of ns) names_at names_length (omega arith) (put_names p ns)

  pub pending_put : (ws : List Pending) → memory_of (put_slot (state_of m) i (peer (with_pending (peer_from m (slot_start i)) ws)))
      ≡ take (slot_start i + pending_at) m ++ (table_bytes call_width call_room pending_bytes ws ++ drop (slot_start i + pending_at + pending_length) m)
  pending_put ws =
      let p = peer_from m (slot_start i) in
      field_put (with_pending p ws) (table_bytes call_width call_room pending_bytes ws) pending_at pending_length (omega arith) (put_pending p ws)

  pub stream_put : (t : Tail) → memory_of (put_slot (state_of m) i (peer (with_stream (peer_from m (slot_start i)) t)))
      ≡ take (slot_start i + taken_at) m ++ (stream_bytes t ++ drop (slot_start i + taken_at + stream_length) m)
  stream_put t =
      let p = peer_from m (slot_start i) in
      field_put (with_stream p t) (stream_bytes t) taken_at stream_length (omega arith) (put_stream p t)

  -- ---- the writes that make them; n is the count that the code read, c where the cell stands

  pub name_appended : (name m₁ m₂ : List ℕ) (n c : ℕ) → n ≡ length (peer_from m (slot_start i)).names → n < name_room
      → c ≡ slot_start i + first_name + name_width * n
      → m₁ ≡ take c m ++ (cell_of name ++ drop (c + name_width) m)
      → m₂ ≡ take (slot_start i + names_at) m₁ ++ (word_bytes (n + 1) ++ drop (slot_start i + names_at + 4) m₁)
      → m₂ ≡ memory_of (put_slot (state_of m) i (peer (with_names (peer_from m (slot_start i)) ((peer_from m (slot_start i)).names ++ (name ∷ [])))))
  name_appended name m₁ m₂ n c e l ec e₁ e₂ =
      append_written name_width name_room cell_of cell_length _ name m m₁ m₂ (slot_start i + names_at) c n (omega arith) names_stand e l (omega arith) e₁ e₂
      ∙ sym (names_put ((peer_from m (slot_start i)).names ++ (name ∷ [])))

  pub call_appended : (w : Pending) (m₁ m₂ : List ℕ) (n c : ℕ) → n ≡ length (peer_from m (slot_start i)).pending → n < call_room
      → c ≡ slot_start i + first_callee + call_width * n
      → m₁ ≡ take c m ++ (pending_bytes w ++ drop (c + call_width) m)
      → m₂ ≡ take (slot_start i + pending_at) m₁ ++ (word_bytes (n + 1) ++ drop (slot_start i + pending_at + 4) m₁)
      → m₂ ≡ memory_of (put_slot (state_of m) i (peer (with_pending (peer_from m (slot_start i)) ((peer_from m (slot_start i)).pending ++ (w ∷ [])))))
  call_appended w m₁ m₂ n c e l ec e₁ e₂ =
      append_written call_width call_room pending_bytes pending_length_lem _ w m m₁ m₂ (slot_start i + pending_at) c n (omega arith) pending_stands e l (omega arith)
      e₁ e₂
      ∙ sym (pending_put ((peer_from m (slot_start i)).pending ++ (w ∷ [])))

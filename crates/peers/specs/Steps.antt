-- The steps of the calls over memory: what each function is asked, and what it leaves.
use Rattle.std.specs.Prelude.{◌≡◌, List, map, ℕ, ◌≤◌, ◌<◌, length, take, drop, set}
use Rattle.stream.specs.Tail.{Tail, tails}
use Rattle.rules.specs.State.{free, peer, is_free, first_by}
use Rattle.rules.specs.Pending.{is_to, remove_calls}
use Rattle.rules.specs.Calls.{Step, newcomer, connect_at}
use Rattle.rules.specs.declared.Connected.{Connected}
use Rattle.memory.specs.Layout.{slot_start, memory_length, slot_length, gid_room}
use Rattle.memory.specs.Encoding.{slot_bytes, memory_of, state_of}
use Rattle.memory.specs.Sound.{Held}

-- ---- connect

-- slot i of good memory is free
pub record Free (m : List ℕ) (i : ℕ) (gids : List ℕ) : Type 0 where
  pub sized : length m ≡ memory_length
  pub held : Held m
  pub below : i < 16
  pub few : length gids ≤ gid_room
  pub zeros : take slot_length (drop (slot_start i) m) ≡ slot_bytes free

-- a peer in slot i, whose number is the last
unfoldable pub admitted : List ℕ → ℕ → ℕ → ℕ → List ℕ → List ℕ
admitted m i number uid gids =
    memory_of (record { last = number; tick = (state_of m).tick; slots = set (state_of m).slots i (peer (newcomer tails number uid gids)) })

-- connect's last two tests, and its change
unfoldable pub entered : List ℕ → ℕ → List ℕ → Step Tail Connected
entered m uid gids = connect_at tails (state_of m) (first_by is_free (state_of m).slots) uid gids

-- ---- disconnect

-- every call to the peer of slot i ended, which is gone
unfoldable pub slots_without : List ℕ → ℕ → ℕ → List ℕ
slots_without m i callee = memory_of (record { last = (state_of m).last; tick = (state_of m).tick; slots = map (remove_calls (is_to callee)) (set (state_of m).slots i free) })

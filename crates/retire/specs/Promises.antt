-- What a conversion comes to, and what it gathers before it writes.
use Rattle.std.specs.Prelude.{◌≡◌, List, ℕ, ◌≤◌, ◌<◌, length, take}
use Rattle.prefixes.specs.Copies.{added}
use Rattle.prefixes.specs.Converted.{joined, new_owns, retire_answer, retire_length, retire_room}
use Rattle.lists.specs.Promises.{NamesAt, names_at}
use Rattle.retire.specs.declared.Gathered.{Gathered}
use Rattle.retire.specs.declared.Retired.{Retired}

-- ---- gathering

-- there are at most 256 new own rules: so many; and the names that are added stand at the first starts, and have so many bytes
pub record Few (image list : List ℕ) (g : Gathered) (starts : List ℕ) : Type 0 where
  pub rules : g.rules ≡ length (new_owns image list)
  pub some : g.names ≤ 256
  pub names : names_at list (take g.names starts) ≡ added image list
  pub each : NamesAt list (take g.names starts)
  pub bytes : g.bytes ≡ length (joined (added image list))
  pub small : g.bytes ≤ length list

pub record Gathers (image list : List ℕ) (g : Gathered) (starts : List ℕ) : Type 0 where
  pub long : length starts ≡ 256
  pub many : 256 < g.rules → 256 < length (new_owns image list)
  pub few : g.rules ≤ 256 → Few image list g starts

-- ---- the conversion: its answer, the length that it reports, and every byte of the room, for all inputs (rules 14.1 and 14.5)

pub record Retires (image list room : List ℕ) (r : Retired) (after : List ℕ) : Type 0 where
  pub answered : r.answer ≡ retire_answer image list (length room)
  pub long : r.length ≡ retire_length image list (length room)
  pub left : after ≡ retire_room image list room

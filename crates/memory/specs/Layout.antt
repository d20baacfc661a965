-- Where things stand in the guard's memory: the last number, the last tick, then sixteen slots of one size. Every place is computed from what stands before it (rule 10.1).
use Rattle.std.specs.Prelude.{ℕ, ◌+◌, ◌*◌}
use Rattle.header.specs.Fixed.{head_limit}
use Rattle.policy.specs.Names.{name_width}

-- ---- how wide a thing is, and how many of it a slot has room for

abbrev pub gid_width : ℕ
gid_width = 4

abbrev pub gid_room : ℕ
gid_room = 16

-- a pending call: the callee's number, then the call's serial and its tick, at these places of it
abbrev pub serial_offset : ℕ
serial_offset = 4

abbrev pub tick_offset : ℕ
tick_offset = serial_offset + 4

abbrev pub call_width : ℕ
call_width = tick_offset + 8

abbrev pub call_room : ℕ
call_room = 16

-- a name stands in a cell, nameWidth wide
abbrev pub name_room : ℕ
name_room = 4

-- bytes of a head, the longest that passes
abbrev pub head_room : ℕ
head_room = head_limit

-- ---- tables: a count, and room for so many things

abbrev pub gids_length : ℕ
gids_length = 4 + gid_width * gid_room

abbrev pub pending_length : ℕ
pending_length = 4 + call_width * call_room

abbrev pub names_length : ℕ
names_length = 4 + name_width * name_room

abbrev pub kept_length : ℕ
kept_length = 4 + head_room

-- a stream: how many bytes were taken, how many of them are kept as its head, and those; the last two at these places of it
abbrev pub head_offset : ℕ
head_offset = 4

abbrev pub byte_offset : ℕ
byte_offset = head_offset + 4

abbrev pub stream_length : ℕ
stream_length = head_offset + kept_length

-- behind the stream: no byte yet; any that stand there are zero
abbrev pub rest_length : ℕ
rest_length = 0

-- ---- places in a slot, whose first word is the peer's number

abbrev pub uid_at : ℕ
uid_at = 4

abbrev pub gids_at : ℕ
gids_at = uid_at + 4

abbrev pub first_gid : ℕ
first_gid = gids_at + 4

abbrev pub pending_at : ℕ
pending_at = gids_at + gids_length

abbrev pub first_callee : ℕ
first_callee = pending_at + 4

abbrev pub first_serial : ℕ
first_serial = first_callee + serial_offset

abbrev pub first_tick : ℕ
first_tick = first_callee + tick_offset

abbrev pub names_at : ℕ
names_at = pending_at + pending_length

abbrev pub first_name : ℕ
first_name = names_at + 4

abbrev pub taken_at : ℕ
taken_at = names_at + names_length

abbrev pub head_at : ℕ
head_at = taken_at + head_offset

abbrev pub first_byte : ℕ
first_byte = head_at + 4

abbrev pub rest_at : ℕ
rest_at = taken_at + stream_length

abbrev pub slot_length : ℕ
slot_length = rest_at + rest_length

-- ---- slots in memory

-- the last tick, behind the last number
abbrev pub tick_at : ℕ
tick_at = 4

-- behind both
abbrev pub slots_at : ℕ
slots_at = tick_at + 8

-- where slot i stands
abbrev pub slot_start : ℕ → ℕ
slot_start i = slots_at + slot_length * i

abbrev pub memory_length : ℕ
memory_length = slots_at + slot_length * 16

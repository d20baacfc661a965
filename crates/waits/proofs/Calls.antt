-- Pending calls of a slot written: one more at the end, one taken out.
use mathlib.Core.Path.{◌≡◌, refl, sym, ap, ◌∙◌}
use mathlib.Core.List.{List, [], ◌∷◌, ◌++◌, append_assoc}
use Prim.Native.Nat.{ℕ, ◌+◌, ◌-◌, ◌*◌, ◌≤◌, ◌<◌}
use native.Mathlib.Omega.{arith}
use lib.ListN.{length, take, drop, length-append}
use borrow.Author.Rules.{rules}
use Rattle.wire.specs.Words.{word_bytes, long_bytes}
use Rattle.wire.proofs.Words.{Octets, word_length}
use Rattle.tables.specs.Cut.{cut_out, Cell, without}
use Rattle.tables.proofs.Written.{part_cell, remove_written}
use Rattle.wire.proofs.Parts.{put_joined}
use Rattle.rules.specs.State.{Pending, peer, put_slot, with_pending}
use Rattle.memory.specs.Layout.{slot_start, pending_at, first_callee, call_width, call_room, pending_length, serial_offset, tick_offset}
use Rattle.memory.specs.Encoding.{pending_bytes, memory_of, state_of}
use Rattle.memory.proofs.Frame.{pending_length_lem}
use Rattle.memory.proofs.Puts.{pending_stands, pending_put, call_appended}
use Rattle.slots.specs.Slots.{peer_at, Seated}
use Rattle.waits.specs.Waits.{Began, CallRemoved}

-- ---- one more

-- its three numbers, one behind the other
pub call_written : (m m₁ m₂ m₃ : List ℕ) (c callee serial tick : ℕ) → c + call_width ≤ length m
    → m₁ ≡ take c m ++ (word_bytes callee ++ drop (c + 4) m)
    → m₂ ≡ take (c + serial_offset) m₁ ++ (word_bytes serial ++ drop (c + serial_offset + 4) m₁)
    → m₃ ≡ take (c + tick_offset) m₂ ++ (long_bytes tick ++ drop (c + tick_offset + 8) m₂)
    → m₃ ≡ take c m ++ (pending_bytes (record { callee = callee; serial = serial; tick = tick }) ++ drop (c + call_width) m)
call_written m m₁ m₂ m₃ c callee serial tick h e₁ e₂ e₃ =
    let x = word_bytes callee in
    let y = word_bytes serial in
    let z = long_bytes tick in
    let l : length (x ++ y) ≡ tick_offset = length-append x y ∙ omega (arith, word_length callee, word_length serial) in
    let q : m₂ ≡ take c m ++ ((x ++ y) ++ drop (c + tick_offset) m)
    = e₂
    ∙ ap (λ (d : List ℕ). take (c + serial_offset) d ++ (y ++ drop (c + serial_offset + 4) d)) e₁
    ∙ put_joined m x y c serial_offset 4 (omega arith) (word_length callee) in
    e₃
    ∙ ap (λ (d : List ℕ). take (c + tick_offset) d ++ (z ++ drop (c + tick_offset + 8) d)) q
    ∙ put_joined m (x ++ y) z c tick_offset 8 (omega arith) l
    ∙ rw (append_assoc x y z)

pub ruleset writing = (call_written, rules)

pub call_began : (m m₁ m₂ : List ℕ) (i n callee serial tick : ℕ) → Seated m i → n ≡ length (peer_at m i).pending → n < call_room → Octets m
    → tick ≡ (state_of m).tick
    → m₁ ≡ take (slot_start i + first_callee + call_width * n) m
    ++ (pending_bytes (record { callee = callee; serial = serial; tick = tick }) ++ drop (slot_start i + first_callee + call_width * n + call_width) m)
    → m₂ ≡ take (slot_start i + pending_at) m₁ ++ (word_bytes (n + 1) ++ drop (slot_start i + pending_at + 4) m₁)
    → Began m i callee serial m₂
call_began m m₁ m₂ i n callee serial tick p q l b t e₁ e₂ =
    let c : ℕ = slot_start i + first_callee + call_width * n in
    let w : Pending = record { callee = callee; serial = serial; tick = tick } in
    let left : ℕ → List ℕ
    = λ k. memory_of (put_slot (state_of m) i
    (peer (with_pending (peer_at m i) ((peer_at m i).pending ++ (record { callee = callee; serial = serial; tick = k } ∷ []))))) in
    record {
      is = call_appended m (λ j. (b j).fits) p.held i p.below p.some w m₁ m₂ n c q l refl e₁ e₂ ∙ ap left t;
    }

pub ruleset beginning = (call_began, rules)

-- ---- one less

-- call k stands in the cells
pub call_cell : (m : List ℕ) (i n k : ℕ) → Seated m i → n ≤ call_room → k < n
    → Cell (take (slot_start i + pending_at + pending_length - (slot_start i + pending_at)) (drop (slot_start i + pending_at) m)) (4 + call_width * k) call_width
    (4 + call_width * n)
call_cell m i n k p f l = part_cell call_width call_room k n m (slot_start i + pending_at) (omega (arith, p.sized, p.below)) f l

pub call_ended : (m t : List ℕ) (i n k : ℕ) → Seated m i → n ≡ length (peer_at m i).pending → n ≤ call_room → k < n → Octets m
    → t
    ≡ word_bytes (n - 1)
    ++ cut_out call_width (call_width * n) (call_width * k)
    (drop 4 (take (slot_start i + pending_at + pending_length - (slot_start i + pending_at)) (drop (slot_start i + pending_at) m)))
    → CallRemoved m i k
    (take (slot_start i + pending_at) m ++ (t ++ drop (slot_start i + pending_at + pending_length - (slot_start i + pending_at)) (drop (slot_start i + pending_at) m)))
call_ended m t i n k p e f l b et =
    let ws = (peer_at m i).pending in
    record {
      is =
          remove_written call_width call_room pending_bytes pending_length_lem ws k m t (slot_start i + pending_at) n
          (pending_stands m (λ j. (b j).fits) p.held i p.below p.some) e f l et
          ∙ sym (pending_put m (λ j. (b j).fits) p.held i p.below p.some (without k ws));
    }

pub ruleset ending = (call_cell, call_ended, rules)

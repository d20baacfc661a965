-- Each way through a tick.
use mathlib.Core.List.{List, ◌++◌}
use mathlib.Core.Path.{◌≡◌, refl, sym, ap, ◌∙◌}
use Prim.Native.Nat.{ℕ, ◌+◌, ◌≤◌, ◌<◌}
use native.Mathlib.Omega.{arith}
use lib.ListN.{take, drop}
use borrow.Author.Rules.{rules}
use borrow.Author.Tests.{lt-ltb, le-ltb}
use Rattle.wire.specs.Words.{long_bytes}
use Rattle.wire.proofs.Words.{Octets, octets_below}
use Rattle.rules.specs.Pending.{expired, remove_calls}
use Rattle.rules.specs.Calls.{tick, no_tick}
use Rattle.rules.specs.declared.Ticked.{Ticked}
use Rattle.memory.specs.Layout.{tick_at}
use Rattle.memory.specs.Encoding.{memory_of, state_of}
use Rattle.memory.specs.Places.{mapped}
use Rattle.memory.specs.Sound.{Held}
use Rattle.memory.specs.Calls.{stored, Did}
use Rattle.memory.proofs.Frame.{put_tick}
use Rattle.memory.proofs.Good.{good_is}
use Rattle.slots.proofs.Found.{did_stay}
use Rattle.endings.specs.Endings.{Encoded, ended_for, EndedAll}

module _ (m : List ℕ) (f : Octets m) (g : Held m) where
  pub tick_encoded : Encoded m
  tick_encoded = record { sized = g.sized; is = good_is m (octets_below m f) g.held }

  module _ (k limit last : ℕ) (e : last ≡ (state_of m).tick) where
    pub tick_refused : k < last → (r : Ticked) → r ≡ no_tick 41 → Did (stored (tick (state_of m) k limit)) r m
    unfolding tick
    tick_refused h r d = did_stay m f g r (tick (state_of m) k limit) (rw (lt-ltb k (state_of m).tick (omega arith), d))

    pub tick_sets : last ≤ k → (r : ℕ) (m₁ m₂ : List ℕ) → EndedAll (expired k limit) m r m₁
        → m₂ ≡ take tick_at m₁ ++ (long_bytes k ++ drop (tick_at + 8) m₁)
        → Did (stored (tick (state_of m) k limit)) (record { answer = 0; ended = r }) m₂
    unfolding tick ended_for
    tick_sets h r m₁ m₂ a p =
        let s = mapped (remove_calls (expired k limit)) (state_of m) in
        let q : m₂ ≡ take tick_at (memory_of s) ++ (long_bytes k ++ drop (tick_at + 8) (memory_of s))
        = p ∙ ap (λ (z : List ℕ). take tick_at z ++ (long_bytes k ++ drop (tick_at + 8) z)) a.left in
        rw (le-ltb k (state_of m).tick (omega arith), ← a.count) (record { result = refl; memory = q ∙ sym (put_tick s k) })

pub ruleset ticking = (tick_encoded, tick_refused, tick_sets, rules)

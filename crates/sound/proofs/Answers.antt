-- What a call answers on good memory, over any streams whose faults are 1 to 9: at most 41; and from 30 on it leaves the state as it was and reports its
-- answer and who decided alone (rules 8.1 and 8.10).
use mathlib.Core.Path.{◌≡◌, ap}
use mathlib.Core.Bool.{cond}
use mathlib.Core.List.{List}
use Prim.Native.Nat.{ℕ, ◌≤◌, ◌<◌}
use native.Mathlib.Omega.{arith}
use lib.Dec.{ltb}
use lib.ListN.{length}
use borrow.Author.Tests.{leb-true}
use Rattle.policy.specs.Names.{owns}
use Rattle.policy.specs.Decisions.{connect_decision, own_decision}
use Rattle.stream.specs.Stream.{Streams}
use Rattle.rules.specs.State.{Slot, free, peer, State, is_free, is_peer, first_by}
use Rattle.rules.specs.Addresses.{ownable}
use Rattle.rules.specs.Calls.{Step, stays, no_connect, connect_by, connect_at, connect, own_by, own_new, own, own_at, slot_at, release, release_at}
use Rattle.rules.specs.Calls.{no_gone, disconnect, disconnect_at, no_tick, tick}
use Rattle.rules.specs.declared.Connected.{Connected}
use Rattle.rules.specs.declared.Owned.{Owned}
use Rattle.rules.specs.declared.Gone.{Gone}
use Rattle.rules.specs.declared.Ticked.{Ticked}
use Rattle.wire.proofs.Tests.{choice}

-- `say` is the answer of a report, `bare` what is left of it where nothing but its answer and who decided may stand in it
pub record Modest {S R : Type 0} (say : R → ℕ) (bare : R → R) (s : State S) (z : Step S R) : Type 0 where
  pub most : say z.result ≤ 41
  pub still : 30 ≤ say z.result → z ≡ stays s (bare z.result)

pub low : {S R : Type 0} {say : R → ℕ} {bare : R → R} {s : State S} (z : Step S R) → say z.result < 30 → Modest say bare s z
low z h = record { most = omega (arith, h); still = λ k. absurd (omega (arith, h, k)) }

-- ---- connect and disconnect

-- zeros where the number and the slot would stand
abbrev pub bare_connected : Connected → Connected
bare_connected r = record { answer = r.answer; number = 0; slot = 0; rule = r.rule }

abbrev pub bare_gone : Gone → Gone
bare_gone r = no_gone r.answer

module _ {S : Type 0} (O : Streams S) (s : State S) where
  abbrev Joins : Step S Connected → Type 0
  Joins = Modest (λ r. r.answer) bare_connected s

  connect_at_lem : (i uid : ℕ) (gids : List ℕ) → Joins (connect_at O s i uid gids)
  connect_at_lem i uid gids = search (choice Joins, low, leb-true)

  pub connect_modest : (image : List ℕ) (uid : ℕ) (gids : List ℕ) → Modest (λ (r : Connected). r.answer) bare_connected s (connect O image s uid gids)
  unfolding connect
  connect_modest image uid gids =
      let d = connect_decision image (record { 0 = uid }) gids in
      choice Joins (ltb 16 (length gids)) _ _ (λ e. search leb-true)
      (λ e. let z = connect_at O s (first_by is_free s.slots) uid gids in
      let h : Joins (cond d.allow z (stays s (no_connect 36))) = search (choice Joins, connect_at_lem, leb-true) in
      record { most = h.most; still = λ k. ap (connect_by d.rule) (h.still k) })

  disconnect_at_lem : (i : ℕ) (x : Slot S) → Modest (λ (r : Gone). r.answer) bare_gone s (disconnect_at O s i x)
  disconnect_at_lem i free = search leb-true
  disconnect_at_lem i (peer p) = low (disconnect_at O s i (peer p)) (omega arith)

  pub disconnect_modest : (n : ℕ) → Modest (λ (r : Gone). r.answer) bare_gone s (disconnect O s n)
  unfolding disconnect
  disconnect_modest n = let i = first_by (is_peer n) s.slots in disconnect_at_lem i (slot_at s i)

-- ---- tick

abbrev pub bare_ticked : Ticked → Ticked
bare_ticked r = no_tick r.answer

pub tick_modest : {S : Type 0} (s : State S) (now limit : ℕ) → Modest (λ (r : Ticked). r.answer) bare_ticked s (tick s now limit)
unfolding tick
tick_modest s now limit = search (choice (Modest (λ (r : Ticked). r.answer) bare_ticked s), low, leb-true)

-- ---- own and release

module _ {S : Type 0} (s : State S) where
  abbrev Names : Step S ℕ → Type 0
  Names = Modest (λ a. a) (λ a. a) s

  abbrev Owns : Step S Owned → Type 0
  Owns = Modest (λ r. r.answer) (λ r. r) s

  own_at_lem : (image : List ℕ) (i : ℕ) (x : Slot S) (name : List ℕ) → Owns (own_at image s i x name)
  own_at_lem image i free name = search leb-true
  own_at_lem image i (peer p) name =
      let d = own_decision image (record { 0 = p.uid }) p.gids name in
      choice Owns (ownable name) _ _
      (λ e. let z = cond (owns p.names name) (stays s 0) (own_new s i p name) in
      let h : Names (cond d.allow z (stays s 32)) = search (choice Names, low, leb-true) depth 8 in
      record { most = h.most; still = λ k. ap (own_by d.rule) (h.still k) })
      (λ e. search leb-true)

  pub own_modest : (image : List ℕ) (n : ℕ) (name : List ℕ) → Modest (λ (r : Owned). r.answer) (λ (r : Owned). r) s (own image s n name)
  unfolding own
  own_modest image n name = let i = first_by (is_peer n) s.slots in own_at_lem image i (slot_at s i) name

  release_at_lem : (i : ℕ) (x : Slot S) (name : List ℕ) → Names (release_at s i x name)
  release_at_lem i free name = search leb-true
  release_at_lem i (peer p) name = search (choice Names, low, leb-true)

  pub release_modest : (n : ℕ) (name : List ℕ) → Modest (λ (x : ℕ). x) (λ (x : ℕ). x) s (release s n name)
  unfolding release
  release_modest n name = let i = first_by (is_peer n) s.slots in release_at_lem i (slot_at s i) name

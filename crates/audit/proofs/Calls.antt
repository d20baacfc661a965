-- The pending calls of a slot, one after the other.
use mathlib.Core.Path.{◌≡◌, refl, sym, ◌∙◌}
use mathlib.Core.Bool.{Bool, true, false, not, ◌&&◌, and-false}
use mathlib.Core.List.{List, [], ◌∷◌}
use Prim.Native.Nat.{ℕ, min, zero, suc, ◌+◌, ◌-◌, ◌≤◌, ◌<◌}
use native.Mathlib.Omega.{arith}
use Rattle.std.proofs.Common.{Option, is_some, leb}
use lib.ListN.{length, drop, length-drop, drop_of_length-le}
use borrow.Author.Rules.{rules}
use borrow.Author.Tests.{le-leb, lt-leb, lt-ltb, le-ltb, leb-true, ne_eqb, not-true, not-false}
use Rattle.wire.specs.Lists.{every, distinct}
use Rattle.wire.proofs.Texts.{both_first, both_second}
use Rattle.memory.proofs.Octets.{every_each}
use Rattle.wire.proofs.Tests.{clash, refute}
use Rattle.rules.specs.State.{Pending, is_peer, first_by}
use Rattle.rules.specs.Pending.{is_call, same_call, awaits}
use Rattle.rules.proofs.Any.{rest_distinct}
use Rattle.rules.proofs.Waits.{awaits_first}
use Rattle.memory.specs.Encoding.{state_of}
use Rattle.memory.specs.Good.{good_pending}
use Rattle.memory.specs.Places.{FoundSlot}
use Rattle.slots.specs.Slots.{peer_at, FoundIn}
use Rattle.slots.proofs.Cells.{calls_next}
use Rattle.slots.proofs.Searches.{found_some}
use Rattle.audit.specs.Tests.{callee_at, serial_at, call_tick_at, Above, call_test}
use Rattle.audit.proofs.Found.{found_any, not_not}

-- a serial below all those of a list is none of them
below_all : (c s l : ℕ) (ws : List Pending) → s < l → every (λ w. leb l w.serial) ws ≡ true → awaits c s ws ≡ false
unfolding awaits
below_all c s l [] h e = refl
below_all c s l (w ∷ ws) h e =
    let k : l ≤ w.serial = leb-true l w.serial (both_first (leb l w.serial) (every (λ v. leb l v.serial) ws) e) in
    rw (ne_eqb w.serial s (λ q. absurd (omega arith)), and-false)
    (below_all c s l ws h (both_second (leb l w.serial) (every (λ v. leb l v.serial) ws) e))

-- ---- call j, whose callee is c, whose serial is s; the last tick is t

module _ (m : List ℕ) (i j c s t : ℕ) (p : c ≡ callee_at m i j) (q : s ≡ serial_at m i j) where
  pub call_zero : s ≡ 0 → false ≡ call_test m i j t
  unfolding call_test
  call_zero z = rw (← q, lt-leb 1 s (omega arith), and-false)

  pub call_newer : (n : ℕ) → n ≡ call_tick_at m i j → t < n → false ≡ call_test m i j t
  unfolding call_test
  call_newer n w h = rw (← w, lt-leb n t h, and-false)

  module _ (f : Option ℕ) (g : FoundSlot (is_peer c) m 0 f) where
    pub call_gone : {y : Bool} → is_some f ≡ not y → y ≡ true → false ≡ call_test m i j t
    unfolding call_test
    call_gone e h = rw (← p, found_any (is_peer c) m 0 f g, e, h)

    pub call_first : {y : Bool} → is_some f ≡ not y → y ≡ false → (s ≡ 0 → ⊥) → (n : ℕ) → n ≡ call_tick_at m i j → n ≤ t → (l : ℕ) → s < l → Above m i (j + 1) l → true ≡ call_test m i j t
    unfolding call_test
    call_first e h z n w o l k a =
        rw (
          ← p,
          ← q,
          found_any (is_peer c) m 0 f g,
          e,
          h,
          le-leb 1 s (omega arith),
          ← w,
          le-leb n t o,
          below_all c s l (drop (j + 1) (peer_at m i).pending) k a.are,
        )

    pub call_good : {y : Bool} → is_some f ≡ not y → y ≡ false → (s ≡ 0 → ⊥) → (n : ℕ) → n ≡ call_tick_at m i j → n ≤ t → (r : Option ℕ)
        → FoundIn (is_call c s) (peer_at m i).pending (j + 1) r
        → {x : Bool} → is_some r ≡ not x → x ≡ call_test m i j t
    unfolding call_test
    call_good e h z n w o r a {x} d =
        let ps = (peer_at m i).pending in
        rw (
          ← p,
          ← q,
          found_any (is_peer c) m 0 f g,
          e,
          h,
          le-leb 1 s (omega arith),
          ← w,
          le-leb n t o,
          awaits_first c s (drop (j + 1) ps),
          found_some (is_call c s) ps (j + 1) r a,
          d,
        )
        (not_not x)

pub ruleset call_tests = (call_gone, call_zero, call_newer, call_first, call_good, rules)

-- ---- the calls of a slot, of which those from j on are tested

distinct_drop : (t : Pending → Bool) (k : ℕ) (l : List Pending) → distinct t same_call l ≡ true → distinct t same_call (drop k l) ≡ true
distinct_drop t zero l e = e
distinct_drop t (suc k) [] e = e
distinct_drop t (suc k) (w ∷ l) e = distinct_drop t k l (rest_distinct t same_call w l e)

pub record Calling (m : List ℕ) (i tick least j : ℕ) : Type 0 where
  pub few : length (peer_at m i).pending ≤ 16
  pub inside : j ≤ length (peer_at m i).pending
  pub above : Above m i j least
  pub good : good_pending (state_of m).slots tick (drop j (peer_at m i).pending) ≡ true

pub calling_begins : {m : List ℕ} {i tick count : ℕ} → count ≡ length (peer_at m i).pending → count ≤ 16 → (least : ℕ) → Calling m i tick least count
unfolding good_pending distinct
calling_begins {m} {i} {tick} {count} e h least =
    let d : drop count (peer_at m i).pending ≡ [] = drop_of_length-le (peer_at m i).pending {i = count} (omega arith) in
    record { few = omega arith; inside = omega arith; above = record { are = rw d }; good = rw d }

module _ {m : List ℕ} {i tick least j : ℕ} (l : Calling m i tick least j) (h : 0 < j) where
  back : j - 1 + 1 ≡ j
  back = omega arith

  pub calling_inside : j - 1 < length (peer_at m i).pending
  calling_inside = omega (arith, l.inside)

  pub calling_above : Above m i (j - 1 + 1) least
  calling_above = rw back l.above

  module _ {r : Bool} (e : r ≡ call_test m i (j - 1) tick) where
    -- call j - 1, and those after it
    step : good_pending (state_of m).slots tick (drop (j - 1) (peer_at m i).pending)
        ≡ call_test m i (j - 1) tick && good_pending (state_of m).slots tick (drop (j - 1 + 1) (peer_at m i).pending)
    unfolding good_pending distinct awaits call_test
    step = rw (calls_next m i (j - 1) calling_inside)

    pub calling_more : not r ≡ false → (s : ℕ) → s ≡ serial_at m i (j - 1) → (n : ℕ) → n ≡ min least s → Calling m i tick n (j - 1)
    calling_more t s q n a =
        record {
          few = l.few;
          inside = omega (arith, l.inside);
          above = record { are = above_next n (omega arith) (omega arith) };
          good = step ∙ rw (← e, not-false r t, back) l.good;
        }
      where
        above_next : (n : ℕ) → n ≤ least → n ≤ serial_at m i (j - 1) → every (λ w. leb n w.serial) (drop (j - 1) (peer_at m i).pending) ≡ true
        above_next n a b =
            rw (calls_next m i (j - 1) calling_inside, back, le-leb n (serial_at m i (j - 1)) b)
            (every_each (λ w. leb least w.serial) (λ w. leb n w.serial)
            (λ w q. let k : least ≤ w.serial = leb-true least w.serial q in le-leb n w.serial (omega arith)) (drop j (peer_at m i).pending) l.above.are)

    pub calling_stops : not r ≡ true → false ≡ good_pending (state_of m).slots tick (peer_at m i).pending
    unfolding good_pending
    calling_stops t =
        let f : good_pending (state_of m).slots tick (drop (j - 1) (peer_at m i).pending) ≡ false = step ∙ rw (← e, not-true r t) in
        sym (refute (good_pending (state_of m).slots tick (peer_at m i).pending) (λ g. clash (distinct_drop _ (j - 1) (peer_at m i).pending g) f))

pub calling_ends : {m : List ℕ} {i tick least j : ℕ} → Calling m i tick least j → j ≤ 0 → true ≡ good_pending (state_of m).slots tick (peer_at m i).pending
calling_ends {m} {i} {tick} {least} {j} l h = let e : j ≡ 0 = omega arith in sym (rw e at l.good)

pub ruleset calling = (calling_begins, calling_inside, calling_above, calling_more, calling_stops, calling_ends, rules)

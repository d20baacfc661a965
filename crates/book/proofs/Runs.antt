-- Every list of calls has a run from every memory, so that what is said of all runs is said of something; runs are joined.
use mathlib.Core.Path.{◌≡◌, refl, ap, ◌∙◌}
use mathlib.Core.List.{List, [], ◌∷◌, ◌++◌}
use Prim.Native.Nat.{ℕ}
use lib.ListN.{length}
use Rattle.stream.specs.Tail.{Tail}
use Rattle.rules.specs.State.{State}
use Rattle.rules.specs.Calls.{empty, slot_at}
use Rattle.rules.specs.View.{seen_slot, seen}
use Rattle.rules.proofs.View.{slot_seen}
use Rattle.memory.specs.Layout.{memory_length}
use Rattle.memory.specs.Encoding.{state_of}
use Rattle.memory.proofs.Sound.{state_again}
use Rattle.memory.specs.Calls.{MemoryStep, Did, start_on, connect_on, own_on, release_on, piece_on, disconnect_on, tick_on}
use Rattle.book.specs.Book.{tail_view}
use Rattle.book.specs.Lists.{Call, starts, connects, claims, releases, offers, leaves, ticks, Answer, plain, connected, owned, taken, gone, ticked, after}
use Rattle.book.specs.Lists.{FitsTypes, AllFit}
use Rattle.book.specs.Lists.{Ran, ran_start, ran_connect, ran_own, ran_release, ran_piece, ran_leave, ran_tick, Run, done, then}
use Rattle.book.specs.Lists.{Reached, since_start, since_empty}
use Rattle.book.proofs.List.{Holds, empty_holds, all, started}

-- ---- there is a run

itself : {R : Type 0} (o : MemoryStep R) → Did o o.result o.memory
itself o = record { result = refl; memory = refl }

pub call_exists : (m : List ℕ) (c : Call) → FitsTypes c → (a : Answer) × (e : List ℕ) × Ran m e c a
call_exists m starts f = (plain (start_on m).result, (start_on m).memory, ran_start (itself (start_on m)))
call_exists m (connects image uid gids) f =
    let o = connect_on image m uid gids in
    (connected o.result, o.memory, ran_connect f.0 f.1 (itself o))
call_exists m (claims image n name) f = let o = own_on image m n name in (owned o.result, o.memory, ran_own (itself o))
call_exists m (releases n name) f = let o = release_on m n name in (plain o.result, o.memory, ran_release (itself o))
call_exists m (offers image n bytes) f = let o = piece_on image m n bytes in (taken o.result, o.memory, ran_piece f (itself o))
call_exists m (leaves n) f = let o = disconnect_on m n in (gone o.result, o.memory, ran_leave (itself o))
call_exists m (ticks now limit) f = let o = tick_on m now limit in (ticked o.result, o.memory, ran_tick f (itself o))

-- whatever the memory and the calls, if only their arguments are of their types
pub run_exists : (cs : List Call) → AllFit cs → (m : List ℕ) → (given : List Answer) × (e : List ℕ) × Run m cs given e
run_exists [] f m = ([], m, done)
run_exists (c ∷ cs) f m =
    let a = call_exists m c f.0 in
    let z = run_exists cs f.1 a.1 in
    (a.0 ∷ z.0, z.1, then a.2 z.2)

-- ---- one run behind another

pub run_append : {m d e : List ℕ} {cs ds : List Call} {xs ys : List Answer} → Run m cs xs d → Run d ds ys e → Run m (cs ++ ds) (xs ++ ys) e
run_append done t = t
run_append (then r rs) t = then r (run_append rs t)

-- ---- where a run has come to

-- memory holds what the model does
pub reached_holds : {m : List ℕ} {cs : List Call} → Reached m cs → Holds m (after empty cs)
reached_holds (since_start l r) = (started empty l r).holds
reached_holds (since_empty r) = (all empty r empty_holds).holds

-- memory says what the model holds
pub held_state : {m : List ℕ} {b : State (List ℕ)} → Holds m b → state_of m ≡ seen tail_view b
held_state {b = b} h = ap state_of h.bytes ∙ state_again (seen tail_view b) h.sound

pub held_slot : {m : List ℕ} {b : State (List ℕ)} → Holds m b → (i : ℕ) → slot_at (state_of m) i ≡ seen_slot tail_view (slot_at b i)
held_slot {b = b} h i = ap (λ (s : State Tail). slot_at s i) (held_state h) ∙ slot_seen tail_view b i

-- every list of calls reaches some memory from a start on
pub reached_exists : (cs : List Call) → AllFit cs → (m : List ℕ) → length m ≡ memory_length → (e : List ℕ) × Reached e (starts ∷ cs)
reached_exists cs f m l = let r = run_exists (starts ∷ cs) (tt, f) m in (r.1, since_start l r.2)

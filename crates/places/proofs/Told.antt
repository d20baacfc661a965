-- From bytes back to reports: what a call that wrote to places did is what the claims about lists of calls speak of (`Did`).
use mathlib.Core.Path.{◌≡◌, refl, ◌∙◌}
use mathlib.Core.Bool.{false}
use mathlib.Core.List.{List, ◌∷◌, [], ◌++◌}
use Prim.Native.Nat.{ℕ, ◌<◌}
use native.Mathlib.Omega.{arith}
use lib.Dec.{eqb}
use lib.ListN.{drop}
use borrow.Author.Tests.{ne_eqb}
use Rattle.rules.specs.declared.Batch.{Batch}
use Rattle.rules.specs.declared.Taken.{Taken}
use Rattle.memory.specs.Calls.{MemoryStep, Did, on_place}
use Rattle.places.specs.Places.{place_length, place_of, Wrote, Batched}
use Rattle.places.proofs.Rooms.{filled_one}

-- a batch's memory is that of the reports in its places
pub batch_did : {o : MemoryStep (List Taken)} {room e y : List ℕ} {r : Batch} → Batched o room r e y → Did o o.result e
batch_did b = record { result = refl; memory = b.wrote.memory }

-- with a whole place a call for C does what the guard's call does, and its report is in the first place
module _ {R : Type 0} (words : R → List ℕ) (places : ℕ) (o : MemoryStep R) (m room : List ℕ) where
  pub place_did : {k : ℕ} {e y : List ℕ} → 0 < places → Wrote words (on_place places m o) room k e y
      → (k ≡ 1) × Did o o.result e × (y ≡ place_of (words o.result) ++ drop place_length room)
  unfolding on_place
  place_did {k} {e} {y} h w =
      let z : eqb places 0 ≡ false = ne_eqb places 0 (λ q. omega arith) in
      let v : Wrote words (record { memory = o.memory; result = o.result ∷ [] }) room k e y = rw z at w in
      (v.written, record { result = refl; memory = v.memory }, v.room ∙ filled_one words room o.result)

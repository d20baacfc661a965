-- Each way through release.
use Rattle.std.proofs.Common.{Some, None, Fits, w64}
use mathlib.Core.Path.{◌≡◌, refl, sym, ap, ◌∙◌}
use mathlib.Core.Bool.{Bool, true, false, not}
use mathlib.Core.List.{List, ◌++◌}
use Prim.Native.Nat.{ℕ, ◌+◌, ◌-◌, ◌*◌, ◌≤◌, ◌<◌}
use native.Mathlib.Omega.{arith}
use native.Mathlib.Nat.{zero-add}
use lib.ListN.{length, take, drop}
use borrow.Author.Rules.{rules}
use borrow.Author.Tests.{not-true, not-false}
use Rattle.wire.proofs.Words.{Octets, octets_below}
use Rattle.wire.specs.Bytes.{same}
use Rattle.wire.specs.Words.{word_at, word_bytes}
use Rattle.wire.specs.declared.Order.TheVariants.{Little}
use Rattle.tables.specs.Cut.{cut_out, Cell, without}
use Rattle.tables.proofs.Written.{part_cell, remove_written}
use Rattle.policy.specs.Names.{cell_of, name_width}
use Rattle.rules.specs.State.{is_peer, first_by}
use Rattle.rules.specs.Addresses.{ownable}
use Rattle.rules.specs.Calls.{release, released}
use Rattle.memory.specs.Layout.{slot_start, names_at, name_room, names_length}
use Rattle.memory.specs.Encoding.{state_of}
use Rattle.memory.specs.Sound.{Held}
use Rattle.memory.specs.Calls.{stored, Did}
use Rattle.memory.specs.Places.{FoundSlot}
use Rattle.memory.proofs.Frame.{cell_length}
use Rattle.memory.proofs.Removal.{released_without}
use Rattle.memory.proofs.Puts.{names_stand, names_put}
use Rattle.slots.specs.Slots.{peer_at, Seated, FoundIn}
use Rattle.slots.proofs.Searches.{owns_found}
use Rattle.owners.specs.Steps.{given_up}
use Rattle.slots.proofs.Found.{did_stay, peer_none, peer_place, peer_some, peer_seated, counted}

-- ---- 35, and the name taken out: j is its place, n how many names there are

module _ (m : List ℕ) (f : Octets m) (i : ℕ) (g : Seated m i) (name : List ℕ) where
  pub give_none : FoundIn (λ x. same x name) (peer_at m i).names 0 None → Did (stored (given_up m i name)) 35 m
  unfolding given_up
  give_none a = did_stay m f g.held 35 (given_up m i name) (rw (← owns_found m i 0 name None a))

  pub give_fits : (j : ℕ) → FoundIn (λ x. same x name) (peer_at m i).names 0 (Some j) → Fits w64 (name_width * j)
  give_fits j a =
      let h : j < length (peer_at m i).names = a.inside in
      record { fits = omega (arith, (counted m i g).names, (counted m i g).few_names) }

  module _ (j : ℕ) (a : FoundIn (λ x. same x name) (peer_at m i).names 0 (Some j)) (n : ℕ) (en : n ≡ word_at Little m (slot_start i + names_at)) where
    many : length (peer_at m i).names ≡ n
    many = (counted m i g).names ∙ sym en

    place : j ≡ first_by (λ x. same x name) (peer_at m i).names
    place = a.is ∙ zero-add (first_by (λ x. same x name) (peer_at m i).names)

    pub give_few : n ≤ name_room
    give_few = omega (arith, (counted m i g).few_names)

    pub give_one : 1 ≤ n
    give_one = let h : j < length (peer_at m i).names = a.inside in omega (arith, many)

    pub give_at : j < n
    give_at = rw (← many) a.inside

    pub give_table : Cell (take (slot_start i + names_at + names_length - (slot_start i + names_at)) (drop (slot_start i + names_at) m)) (4 + name_width * j) name_width
        (4 + name_width * n)
    give_table = part_cell name_width name_room j n m (slot_start i + names_at) (omega (arith, g.sized, g.below)) give_few give_at

    pub give_done : (t : List ℕ)
        → t
        ≡ word_bytes (n - 1)
        ++ cut_out name_width (name_width * n) (name_width * j)
        (drop 4 (take (slot_start i + names_at + names_length - (slot_start i + names_at)) (drop (slot_start i + names_at) m)))
        → Did (stored (given_up m i name)) 0
        (take (slot_start i + names_at) m ++ (t ++ drop (slot_start i + names_at + names_length - (slot_start i + names_at)) (drop (slot_start i + names_at) m)))
    unfolding given_up
    give_done t et =
        let ns = (peer_at m i).names in
        let o : released name ns ≡ without j ns = released_without name ns ∙ ap (λ (k : ℕ). without k ns) (sym place) in
        let z = remove_written name_width name_room cell_of cell_length ns j m t (slot_start i + names_at) n
        (names_stand m (octets_below m f) g.held i g.below g.some) (sym many) give_few give_at et
        ∙ sym (names_put m (octets_below m f) g.held i g.below g.some (without j ns)) in
        rw (← owns_found m i 0 name (Some j) a, o) (record { result = refl; memory = z })

pub ruleset giving = (give_none, give_fits, give_few, give_one, give_at, give_table, give_done, rules)

-- ---- 30, 31

module _ (m : List ℕ) (f : Octets m) (g : Held m) (n : ℕ) (name : List ℕ) where
  pub release_none : FoundSlot (is_peer n) m 0 None → Did (stored (release (state_of m) n name)) 30 m
  unfolding release
  release_none e = did_stay m f g 30 (release (state_of m) n name) (rw (peer_none n m e))

  module _ (i : ℕ) (e : FoundSlot (is_peer n) m 0 (Some i)) (b : Bool) (eb : b ≡ ownable name) where
    pub release_bad : not b ≡ true → Did (stored (release (state_of m) n name)) 31 m
    unfolding release
    release_bad t =
        did_stay m f g 31 (release (state_of m) n name) (rw (peer_place n m i e, peer_some n m i e, ← eb, not-true b t))

    pub release_given : not b ≡ false → (r : ℕ) (m₁ : List ℕ) → Did (stored (given_up m i name)) r m₁ → Did (stored (release (state_of m) n name)) r m₁
    unfolding release given_up
    release_given t r m₁ x = rw (peer_place n m i e, peer_some n m i e, ← eb, not-false b t) x

pub ruleset releasing = (release_none, release_bad, release_given, peer_seated, rules)

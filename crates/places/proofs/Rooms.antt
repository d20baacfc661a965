-- A room and its places: how long they are, one written, and one more behind those that were.
use Rattle.std.proofs.Common.{◌≡◌, refl, sym, ap, ◌∙◌, true, false, List, [], ◌∷◌, ◌++◌, append_assoc, append-nil, ℕ, ◌+◌, ◌-◌, ◌*◌, ◌≤◌, ◌<◌, arith, eqb, length, take, drop, length-append, length-drop, drop_of_length-le, take_at, drop_at, drop-drop, eq-eqb, ne_eqb, Option, Some, None}
use Rattle.wire.specs.Words.{word_bytes}
use Rattle.wire.proofs.Words.{word_length, rest_at}
use Rattle.tables.specs.Tables.{cells}
use Rattle.tables.proofs.Cells.{cells_length, cells_snoc}
use Rattle.policy.specs.Decisions.{decider_words}
use Rattle.policy.specs.declared.Decider.{Decider}
use Rattle.policy.specs.declared.Decider.TheVariants.{Nobody, Rule}
use Rattle.rules.specs.Places.{receiver_words, shown_words, taken_words}
use Rattle.rules.specs.declared.Receiver.{Receiver}
use Rattle.rules.specs.declared.Receiver.TheVariants as to
use Rattle.rules.specs.declared.Taken.{Taken}
use Rattle.places.specs.Places.{place_length, place_of, places_in, filled}

-- ---- lengths

pub place_length_lem : (ws : List ℕ) → length ws ≡ 7 → length (place_of ws) ≡ place_length
unfolding place_of
place_length_lem ws e = cells_length 4 word_bytes word_length ws ∙ omega arith

by_two : (d : Decider) → length (decider_words d) ≡ 2
by_two Nobody = refl
by_two (Rule s i) = refl

pub shown_length : (x : Option Decider) → length (shown_words x) ≡ 2
shown_length None = refl
shown_length (Some d) = by_two d

receiver_length : (r : Receiver) → length (receiver_words r) ≡ 3
receiver_length to.Nobody = refl
receiver_length to.Bus = refl
receiver_length (to.Peer n) = refl
receiver_length (to.Slots mask n) = refl

pub taken_length : (t : Taken) → length (taken_words t) ≡ 7
taken_length t =
    omega (
      arith,
      length-append (receiver_words t.judgement.receiver) (shown_words t.judgement.rule),
      receiver_length t.judgement.receiver,
      shown_length t.judgement.rule,
    )

-- ---- whole places

pub no_places : (room : List ℕ) → length room < place_length → eqb (places_in room) 0 ≡ true
no_places room h = eq-eqb (places_in room) 0 (omega arith)

pub some_places : (room : List ℕ) → place_length ≤ length room → eqb (places_in room) 0 ≡ false
some_places room h = ne_eqb (places_in room) 0 (λ e. omega arith)

-- ---- the first place written

pub place_put : (room ws u : List ℕ) → length ws ≡ 7 → u ≡ take 0 room ++ (cells word_bytes ws ++ drop (0 + 4 * length ws) room)
    → u ≡ place_of ws ++ drop place_length room
unfolding place_of
place_put room ws u e q = let k : 0 + 4 * length ws ≡ place_length = omega arith in q ∙ rw k

-- ---- a room with reports in front

module _ {R : Type 0} (words : R → List ℕ) (room : List ℕ) where
  pub filled_none : filled words [] room ≡ room
  unfolding filled cells
  filled_none = refl

  pub filled_one : (r : R) → filled words (r ∷ []) room ≡ place_of (words r) ++ drop place_length room
  unfolding filled cells
  filled_one r = ap (λ (l : List ℕ). l ++ drop place_length room) (append-nil (place_of (words r)))

  module _ (seven : (r : R) → length (words r) ≡ 7) (rs : List R) where
    written : length (cells (λ r. place_of (words r)) rs) ≡ place_length * length rs
    written = cells_length place_length (λ r. place_of (words r)) (λ r. place_length_lem (words r) (seven r)) rs

    pub filled_length : place_length * length rs ≤ length room → length (filled words rs room) ≡ length room
    unfolding filled
    filled_length h =
        length-append (cells (λ r. place_of (words r)) rs) (drop (place_length * length rs) room)
        ∙ omega (arith, written, length-drop (place_length * length rs) room)

    -- one more, written behind those that were
    pub filled_next : (r : R) {y w : List ℕ} {at : ℕ} → y ≡ filled words rs room → at ≡ place_length * length rs
        → w ≡ place_of (words r) ++ drop place_length (take (length y - at) (drop at y))
        → take at y ++ (w ++ drop (length y - at) (drop at y)) ≡ filled words (rs ++ (r ∷ [])) room
    unfolding filled
    filled_next r {y} {w} {at} t a v =
        let o = cells (λ x. place_of (words x)) rs in
        let l : length o ≡ at = written ∙ sym a in
        let z : drop (length y - at) (drop at y) ≡ [] = drop_of_length-le (drop at y) {i = length y - at} (omega (arith, length-drop at y)) in
        let q : y ≡ o ++ drop at room = t ∙ rw a in
        let d : drop at y ≡ drop at room = ap (drop at) q ∙ drop_at o (drop at room) at l in
        let e : at + place_length ≡ place_length * length (rs ++ (r ∷ [])) = omega (arith, length-append rs (r ∷ [])) in
        rw (z, append-nil w, v, rest_at at y, d, drop-drop place_length at room, ap (take at) q ∙ take_at o (drop at room) at l)
        (rw (cells_snoc (λ x. place_of (words x)) rs r, ← e) (sym (append_assoc o (place_of (words r)) (drop (at + place_length) room))))

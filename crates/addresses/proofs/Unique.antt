-- The unique name of a number: its digits are written from the last.
use mathlib.Core.Path.{◌≡◌, refl, sym, ap, ◌∙◌}
use mathlib.Core.Bool.{true, false, not, ◌&&◌}
use mathlib.Core.List.{List, [], ◌∷◌, ◌++◌, append_assoc}
use Prim.Native.Nat.{ℕ, zero, suc, ◌+◌, ◌-◌, ◌/◌, ◌%◌, ◌≤◌, ◌<◌}
use native.Mathlib.Omega.{arith}
use native.Mathlib.Numerals.{add-one}
use lib.Dec.{ltb, eqb}
use lib.ListN.{length, take, drop, set, length-set, drop_of_length-le}
use lib.Seq.{sets-eq, drop-cons, drop_at, get_or-set_same, drop-set-lt, length-take-le}
use borrow.Author.Rules.{rules}
use borrow.Author.Tests.{ltb-true, lt-ltb, eqb-true, eq-eqb, ne_eqb, not-true, not-false}
use Rattle.wire.specs.Bytes.{byte, front, same}
use Rattle.wire.proofs.Texts.{both_first, both_second}
use Rattle.rules.specs.Addresses.{digits, unique_name}

-- ---- stores

-- one at i, as what stands from i on
put_here : (l : List ℕ) (i k v : ℕ) → k ≡ i + 1 → i < length l → drop i (set l i v) ≡ v ∷ drop k l
put_here l i k v e h =
    drop-cons (set l i v) i 0 (rw (length-set l i v) h)
    ∙ rw (get_or-set_same l i v 0 h, drop-set-lt (suc i) l i v (omega arith), e, add-one i)

-- the prefix in front of k
put_prefix : (l : List ℕ) (i k : ℕ) → k ≡ i + 3 → k ≤ length l
    → drop i (set (set (set l i (byte ":")) (i + 1) (byte "1")) (i + 2) (byte ".")) ≡ byte ":" ∷ byte "1" ∷ byte "." ∷ drop k l
put_prefix l i k e h =
    let vs : List ℕ = byte ":" ∷ byte "1" ∷ byte "." ∷ [] in
    let a : i + 1 ≡ suc i = omega arith in
    let b : i + 2 ≡ suc (suc i) = omega arith in
    let s : set (set (set l i (byte ":")) (i + 1) (byte "1")) (i + 2) (byte ".") ≡ take i l ++ (vs ++ drop (i + 3) l)
    = rw (a, b) (sets-eq vs l i (omega arith) ∙ append_assoc (take i l) vs (drop (i + 3) l)) in
    rw (s, e) (drop_at (take i l) (vs ++ drop (i + 3) l) i (length-take-le i l (omega arith)))

-- ---- the digits: those from k on are written, and n is left

pub record Spelling (number : ℕ) (bytes : List ℕ) (k n : ℕ) : Type 0 where
  pub low : 3 ≤ k
  pub high : k ≤ 13
  pub sized : length bytes ≡ 13
  pub left : digits 10 number [] ≡ digits (k - 3) n (drop k bytes)

pub spelling_begins : (number : ℕ) (bytes : List ℕ) → length bytes ≡ 13 → Spelling number bytes 13 number
spelling_begins number bytes l =
    record {
      low = omega arith;
      high = omega arith;
      sized = l;
      left = sym (ap (digits 10 number) (drop_of_length-le bytes {i = 13} (omega arith)));
    }

digits_end : (fuel n : ℕ) (after : List ℕ) → (0 < fuel → n ≡ 0) → digits fuel n after ≡ after
unfolding digits
digits_end zero n after h = refl
digits_end (suc fuel) n after h = rw (digits, eq-eqb n 0 (h (omega arith)))

digits_next : (fuel n : ℕ) (after : List ℕ) → eqb n 0 ≡ false → digits (suc fuel) n after ≡ digits fuel (n / 10) ((byte "0" + n % 10) ∷ after)
unfolding digits
digits_next fuel n after e = rw (digits, e)

module _ {number : ℕ} {bytes : List ℕ} {k n : ℕ} (s : Spelling number bytes k n) where
  pub spelling_more : ltb 3 k && not (eqb n 0) ≡ true → Spelling number (set bytes (k - 1) (byte "0" + n % 10)) (k - 1) (n / 10)
  spelling_more t =
      let a : 3 < k = ltb-true 3 k (both_first (ltb 3 k) (not (eqb n 0)) t) in
      let z : eqb n 0 ≡ false = not-true (eqb n 0) (both_second (ltb 3 k) (not (eqb n 0)) t) in
      let e : k - 3 ≡ suc (k - 1 - 3) = omega arith in
      let d : drop (k - 1) (set bytes (k - 1) (byte "0" + n % 10)) ≡ (byte "0" + n % 10) ∷ drop k bytes
      = put_here bytes (k - 1) k (byte "0" + n % 10) (omega arith) (omega arith) in
      record {
        low = omega arith;
        high = omega arith;
        sized = simp length-set s.sized;
        left = s.left ∙ rw (e, digits_next (k - 1 - 3) n (drop k bytes) z, d);
      }

  module _ (t : ltb 3 k && not (eqb n 0) ≡ false) where
    none_left : digits (k - 3) n (drop k bytes) ≡ drop k bytes
    none_left = digits_end (k - 3) n (drop k bytes) (λ h. eqb-true n 0 (not-false (eqb n 0) (rw (lt-ltb 3 k (omega arith)) at t)))

    pub spelled : drop (k - 3) (set (set (set bytes (k - 3) (byte ":")) (k - 3 + 1) (byte "1")) (k - 3 + 2) (byte ".")) ≡ unique_name number
    unfolding unique_name
    spelled = put_prefix bytes (k - 3) k (omega arith) (omega arith) ∙ rw (s.left ∙ none_left)

pub ruleset spelling = (spelling_begins, spelling_more, spelled, rules)

-- ---- a text compared with it

pub unique_not : (text : List ℕ) (number b : ℕ) → b ≡ front (drop 0 text) → (b ≡ byte ":" → ⊥) → false ≡ same text (unique_name number)
unfolding same unique_name
unique_not [] number b e h = refl
unique_not (x ∷ text) number b e h = rw (ne_eqb x (byte ":") (λ q. h (e ∙ q)))

pub ruleset uniques = (unique_not, rules)

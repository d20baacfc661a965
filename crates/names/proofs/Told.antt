-- The tests of a byte, by its kind: what the name rules ask of a byte they ask of its kind.
use Rattle.std.proofs.Common.{◌≡◌, refl, sym, ◌∙◌, ◌⊎◌, inl, inr, Bool, true, false, ◌&&◌, ◌||◌, ℕ, ◌≤◌, arith, leb, eqb, le-leb, leb-true, ne_eqb}
use Rattle.std.proofs.Common.{eqb-true}
use mathlib.Core.Bool.{and-false, false≢true}
use borrow.Author.Tests.{lt-leb, eqb-false}
use Rattle.wire.specs.Bytes.{byte}
use Rattle.wire.proofs.Tests.{refute, choice}
use Rattle.wire.proofs.Texts.{both_first, both_second, either}
use Rattle.names.specs.Names.{digit, alphabetic}
use Rattle.names.specs.Classes.{ByteKind, digits, letters, dash, dot, slash, others, byte_kind}

-- ---- the tests of a kind

abbrev rank : ByteKind → ℕ
rank digits = 0
rank letters = 1
rank dash = 2
rank dot = 3
rank slash = 4
rank others = 5

abbrev pub is : ByteKind → ByteKind → Bool
is k l = eqb (rank k) (rank l)

-- b is of kind k: each test of b is that of k. The last two are of a byte behind a separator
pub record Told (b : ℕ) (k : ByteKind) : Type 0 where
  pub is_digit : digit b ≡ is k digits
  pub is_letter : alphabetic b ≡ is k letters
  pub is_dash : eqb b (byte "-") ≡ is k dash
  pub is_dot : eqb b (byte ".") ≡ is k dot
  pub is_slash : eqb b (byte "/") ≡ is k slash
  pub to_nine : leb (byte ".") b && leb b (byte "9") ≡ is k digits || is k dot || is k slash
  pub to_slash : leb (byte ".") b && leb b (byte "/") ≡ is k dot || is k slash

-- ---- the kind of a byte tells

high_letter : (b : ℕ) → alphabetic b ≡ true → 65 ≤ b
high_letter b h = go (either (leb 65 b && leb b 90 || leb 97 b && leb b 122) (eqb b 95) h)
  where
    first : ((leb 65 b && leb b 90) ≡ true) ⊎ ((leb 97 b && leb b 122) ≡ true) → 65 ≤ b
    first (inl e) = leb-true 65 b (both_first (leb 65 b) (leb b 90) e)
    first (inr e) = let k : 97 ≤ b = leb-true 97 b (both_first (leb 97 b) (leb b 122) e) in omega arith

    go : ((leb 65 b && leb b 90 || leb 97 b && leb b 122) ≡ true) ⊎ (eqb b 95 ≡ true) → 65 ≤ b
    go (inl e) = first (either (leb 65 b && leb b 90) (leb 97 b && leb b 122) e)
    go (inr e) = let k : b ≡ 95 = eqb-true b 95 e in omega arith

module _ (b : ℕ) where
  told_digits : digit b ≡ true → Told b digits
  told_digits d =
      let low : 48 ≤ b = leb-true 48 b (both_first (leb 48 b) (leb b 57) d) in
      let high : b ≤ 57 = leb-true b 57 (both_second (leb 48 b) (leb b 57) d) in
      record {
        is_digit = d;
        is_letter = rw (lt-leb 65 b (omega arith), lt-leb 97 b (omega arith), ne_eqb b 95 (λ e. omega arith));
        is_dash = ne_eqb b 45 (λ e. omega arith);
        is_dot = ne_eqb b 46 (λ e. omega arith);
        is_slash = ne_eqb b 47 (λ e. omega arith);
        to_nine = rw (le-leb 46 b (omega arith), le-leb b 57 high);
        to_slash = rw (le-leb 46 b (omega arith), lt-leb b 47 (omega arith));
      }

  told_letters : digit b ≡ false → alphabetic b ≡ true → Told b letters
  told_letters d l =
      let low : 65 ≤ b = high_letter b l in
      record {
        is_digit = d;
        is_letter = l;
        is_dash = ne_eqb b 45 (λ e. omega arith);
        is_dot = ne_eqb b 46 (λ e. omega arith);
        is_slash = ne_eqb b 47 (λ e. omega arith);
        to_nine = rw (lt-leb b 57 (omega arith)) (and-false (leb 46 b));
        to_slash = rw (lt-leb b 47 (omega arith)) (and-false (leb 46 b));
      }

  told_dash : b ≡ byte "-" → Told b dash
  told_dash e = rw e (record { is_digit = refl; is_letter = refl; is_dash = refl; is_dot = refl; is_slash = refl; to_nine = refl; to_slash = refl })

  told_dot : b ≡ byte "." → Told b dot
  told_dot e = rw e (record { is_digit = refl; is_letter = refl; is_dash = refl; is_dot = refl; is_slash = refl; to_nine = refl; to_slash = refl })

  told_slash : b ≡ byte "/" → Told b slash
  told_slash e = rw e (record { is_digit = refl; is_letter = refl; is_dash = refl; is_dot = refl; is_slash = refl; to_nine = refl; to_slash = refl })

  -- no byte from `.` to `9` is of another kind
  told_others : digit b ≡ false → alphabetic b ≡ false → eqb b (byte "-") ≡ false → eqb b (byte ".") ≡ false → eqb b (byte "/") ≡ false → Told b others
  told_others d l h p q =
      record {
        is_digit = d;
        is_letter = l;
        is_dash = h;
        is_dot = p;
        is_slash = q;
        to_nine = within 57 (omega arith);
        to_slash = within 47 (omega arith);
      }
    where
      within : (top : ℕ) → top ≤ 57 → leb 46 b && leb b top ≡ false
      within top t = refute (leb 46 b && leb b top) (λ h.
          let low : 46 ≤ b = leb-true 46 b (both_first (leb 46 b) (leb b top) h) in
          let high : b ≤ top = leb-true b top (both_second (leb 46 b) (leb b top) h) in
          let not_dot : b ≡ 46 → ⊥ = eqb-false b 46 p in
          let not_slash : b ≡ 47 → ⊥ = eqb-false b 47 q in
          let from : 48 ≤ b = omega arith in
          false≢true (sym d ∙ rw (le-leb 48 b from, le-leb b 57 (omega arith))))

pub told : (b : ℕ) → Told b (byte_kind b)
unfolding byte_kind
told b =
    choice (Told b) (digit b) _ _ (told_digits b)
    (λ d. choice (Told b) (alphabetic b) _ _ (told_letters b d)
    (λ l. choice (Told b) (eqb b (byte "-")) _ _ (λ e. told_dash b (eqb-true b (byte "-") e))
    (λ h. choice (Told b) (eqb b (byte ".")) _ _ (λ e. told_dot b (eqb-true b (byte ".") e))
    (λ p. choice (Told b) (eqb b (byte "/")) _ _ (λ e. told_slash b (eqb-true b (byte "/") e)) (told_others b d l h p)))))

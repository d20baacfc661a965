-- What becomes of all own rules, written one behind the other.
use mathlib.Core.Path.{◌≡◌, refl, ◌∙◌}
use mathlib.Core.List.{List}
use Prim.Native.Nat.{ℕ, zero, suc, ◌+◌, ◌*◌, ◌≤◌, ◌<◌}
use native.Mathlib.Omega.{arith}
use native.Mathlib.Numerals.{add-one}
use native.Mathlib.Decide.{dec_le}
use lib.ListN.{length, length-append}
use borrow.Author.Rules.{rules}
use Rattle.image.specs.Image.{rule_count, rule_size}
use Rattle.image.specs.declared.Section.TheVariants.{Own}
use Rattle.prefixes.specs.Copies.{Copy}
use Rattle.prefixes.specs.Converted.{becomes, become_all}
use Rattle.exacts.specs.Promises.{Puts, copies_at, RuleAt, OwnsAt}
use Rattle.exacts.proofs.Rows.{puts_none, puts_long, puts_behind}

-- more own rules become no fewer
become_more : (image : List ℕ) (cs : List Copy) (n i : ℕ) → i ≤ n → length (become_all image cs i) ≤ length (become_all image cs n)
unfolding become_all
become_more image cs zero zero h = omega arith
become_more image cs zero (suc i) h = absurd (omega arith)
become_more image cs (suc n) i h = go (dec_le i n) (λ l. become_more image cs n i l)
  where
    go : Dec (i ≤ n) → (i ≤ n → length (become_all image cs i) ≤ length (become_all image cs n))
        → length (become_all image cs i) ≤ length (become_all image cs (suc n))
    go (yes l) r = omega (arith, r l, length-append (become_all image cs n) (becomes image cs n))
    go (no l) r = let e : i ≡ suc n = omega arith in rw e (omega arith)

-- those below i are written
pub record Owning (room₀ : List ℕ) (at₀ : ℕ) (image list starts room : List ℕ) (at i : ℕ) : Type 0 where
  pub given : OwnsAt room₀ at₀ image list starts
  pub inside : i ≤ rule_count Own image
  pub puts : Puts (become_all image (copies_at image list starts) i) at₀ room₀ at room
  pub sized : length room ≡ length room₀

pub owning_begins : (room : List ℕ) (at : ℕ) (image list starts : List ℕ) → OwnsAt room at image list starts → Owning room at image list starts room at 0
unfolding become_all
owning_begins room at image list starts g = record { given = g; inside = omega arith; puts = puts_none room at; sized = refl }

module _ {room₀ : List ℕ} {at₀ : ℕ} {image list starts room : List ℕ} {at i : ℕ} (z : Owning room₀ at₀ image list starts room at i) {count : ℕ}
    (e : count ≡ rule_count Own image) where
  pub owning_ends : count ≤ i → Puts (become_all image (copies_at image list starts) (rule_count Own image)) at₀ room₀ at room
  owning_ends h =
      let l : i ≡ rule_count Own image = omega (arith, z.inside) in
      rw l at z.puts

  module _ (h : i < count) where
    end_fits : at + rule_size Own * length (becomes image (copies_at image list starts) i) ≤ length room₀
    unfolding become_all
    end_fits =
        let cs = copies_at image list starts in
        omega (
          arith,
          z.puts.ends,
          z.given.fits,
          become_more image cs (rule_count Own image) (suc i) (omega arith),
          length-append (become_all image cs i) (becomes image cs i),
        )

    pub owning_room : RuleAt room at image i list starts
    owning_room =
        let g = z.given in
        record { good = g.good; inside = omega arith; fits = omega (arith, end_fits, z.sized); small = g.small; each = g.each }

    pub owning_more : {r : ℕ} {u : List ℕ} → Puts (becomes image (copies_at image list starts) i) at room r u
        → Owning room₀ at₀ image list starts u r (i + 1)
    unfolding become_all
    owning_more {r} {u} p =
        rw add-one
        (record {
          given = z.given;
          inside = omega arith;
          puts = puts_behind z.puts p (omega (arith, end_fits));
          sized = puts_long p (omega (arith, end_fits, z.sized, p.ends)) ∙ z.sized;
        })

pub ruleset owning = (owning_begins, owning_ends, owning_room, owning_more, rules)

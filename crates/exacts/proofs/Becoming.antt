-- What becomes of an own rule, written.
use mathlib.Core.Path.{◌≡◌, sym, ap, ◌∙◌}
use mathlib.Core.List.{List, [], ◌∷◌, ◌++◌}
use Prim.Native.Nat.{ℕ, ◌+◌, ◌-◌, ◌*◌, ◌≤◌}
use native.Mathlib.Omega.{arith}
use lib.ListN.{length, get_or, take, drop, length-drop}
use lib.Seq.{get_or-take, get_or-drop, length-take-le}
use borrow.Author.Rules.{rules}
use borrow.Author.Tests.{eq-eqb, ne_eqb}
use Rattle.wire.proofs.Words.{cut_at, put_at_lem}
use Rattle.image.specs.Image.{matcher_byte, name_span, rule_offset, rule_size, rule_place, string_offset}
use Rattle.image.specs.Rules.{span_at, text_of, policy_rule}
use Rattle.image.specs.Promises.{Cites}
use Rattle.image.specs.declared.Section.TheVariants.{Own}
use Rattle.image.proofs.RuleHolds.{OwnHolds, own_holds}
use Rattle.prefixes.specs.Copies.{Copy, own_text, copies_from}
use Rattle.prefixes.specs.Converted.{own_bytes, exacts, becomes}
use Rattle.lists.specs.Promises.{names_at}
use Rattle.exacts.specs.Promises.{Puts, copies_at, ExactsAt, RuleAt}
use Rattle.exacts.proofs.Rows.{puts_one}

module _ {room : List ℕ} {at : ℕ} {image : List ℕ} {i : ℕ} {list starts : List ℕ} (g : RuleAt room at image i list starts) {from : ℕ}
    (p : from ≡ rule_offset Own image) where
  -- the rule's bytes, as they are cut out
  abbrev rule : List ℕ
  rule = take (from + rule_size Own * i + rule_size Own - (from + rule_size Own * i)) (drop (from + rule_size Own * i) image)

  holds : OwnHolds image i
  holds = own_holds g.good i g.inside

  rule_is : rule ≡ own_bytes image i
  rule_is = rw p (cut_at (rule_place Own image i) (rule_size Own) image)

  rule_long : length rule ≡ rule_size Own
  rule_long =
      ap length rule_is
      ∙ length-take-le (rule_size Own) (drop (rule_place Own image i) image) (omega (arith, holds.place, length-drop (rule_place Own image i) image))

  matcher_is : get_or rule matcher_byte 0 ≡ (policy_rule Own image i).matcher
  matcher_is =
      ap (λ (z : List ℕ). get_or z matcher_byte 0) rule_is
      ∙ get_or-take (rule_size Own) (drop (rule_place Own image i) image) matcher_byte 0 (omega arith)
      ∙ get_or-drop (rule_place Own image i) image matcher_byte 0

  -- ---- a prefix

  module _ (t : get_or rule matcher_byte 0 ≡ 2) where
    prefix_becomes : (cs : List Copy) → becomes image cs i ≡ exacts (own_bytes image i) (own_text image i) cs
    unfolding becomes
    prefix_becomes cs = rw (eq-eqb (policy_rule Own image i).matcher 2 (sym matcher_is ∙ t))

    module _ {strings : ℕ} (s : strings ≡ string_offset image) where
      pub becoming_text : Cites image strings (from + rule_size Own * i + name_span)
      becoming_text = rw p (record { area = s; inside = omega (arith, holds.place); text = holds.name })

      module _ {prefix : List ℕ} (e : prefix ≡ text_of image (span_at image (from + rule_size Own * i + name_span))) where
        exacts_are : exacts rule prefix (copies_from (length image - strings) (names_at list starts)) ≡ becomes image (copies_at image list starts) i
        exacts_are = rw (prefix_becomes (copies_at image list starts), rule_is, e, s, p)

        pub becoming_room : ExactsAt room at rule prefix (length image - strings) list starts
        becoming_room =
            record {
              ruled = rule_long;
              fits = rw exacts_are g.fits;
              small = omega (arith, g.small);
              each = g.each;
            }

        pub becoming_exacts : {r : ℕ} {u : List ℕ}
            → Puts (exacts rule prefix (copies_from (length image - strings) (names_at list starts))) at room r u
            → Puts (becomes image (copies_at image list starts) i) at room r u
        becoming_exacts q = rw exacts_are at q

  -- ---- none

  module _ (t : get_or rule matcher_byte 0 ≡ 2 → ⊥) where
    itself_becomes : (cs : List Copy) → becomes image cs i ≡ own_bytes image i ∷ []
    unfolding becomes
    itself_becomes cs = rw (ne_eqb (policy_rule Own image i).matcher 2 (λ e. t (matcher_is ∙ e)))

    pub becoming_fits : at + rule_size Own ≤ length room
    becoming_fits = omega (arith, g.fits, ap length (itself_becomes (copies_at image list starts)))

    pub becoming_itself : {y : List ℕ} → y ≡ rule
        → Puts (becomes image (copies_at image list starts) i) at room (at + rule_size Own) (take at room ++ (y ++ drop (at + rule_size Own - at) (drop at room)))
    becoming_itself {y} e =
        let l : length (own_bytes image i) ≡ rule_size Own = ap length (sym rule_is) ∙ rule_long in
        rw (itself_becomes (copies_at image list starts), put_at_lem at (rule_size Own) room y, e, rule_is)
        (puts_one room (own_bytes image i) _ at l (rw l))

pub ruleset becoming = (becoming_text, becoming_room, becoming_exacts, becoming_fits, becoming_itself, rules)

-- The tables, from their ends on, and what they say of the whole signature.
use Rattle.std.proofs.Common.{◌≡◌, refl, sym, subst, ◌∙◌, Bool, true, false, cond, ◌&&◌, ◌||◌, List, [], ◌∷◌, ℕ, zero, suc, ◌+◌, ◌-◌, ◌*◌}
use Rattle.std.proofs.Common.{◌%◌, ◌≤◌, ◌<◌, arith, add-one, leb, eqb, length, drop, get_or, set, replicate, length-drop, length-set, get_or-set_same}
use Rattle.std.proofs.Common.{get_or-set_other, rules, le-leb, leb-true, eq-eqb, ne_eqb, eqb-true}
use mathlib.Core.Bool.{false≢true}
use mathlib.Core.Option.{Option, none, some}
use native.Mathlib.Decide.{dec_le}
use lib.ListN.{get_or-replicate}
use Rattle.wire.proofs.From.{past}
use Rattle.wire.proofs.Texts.{agree}
use Rattle.signature.specs.Signature.{Row, one_more, one, row}
use Rattle.types.specs.Letters.{opens, closes, letter}
use Rattle.types.specs.Types.{behind, alone, single}
use Rattle.types.specs.Promises.{EndAt, ClosedAt, EndsFrom, EndsOf}
use Rattle.types.specs.Nest.{kept, fits, Nested, NestAt, NestsFrom, NestsBehind}
use Rattle.types.proofs.Nesting.{begins, on, one_shut, row_shut, row_begins, fits_shut, nested_shut}
use Rattle.types.proofs.Rows.{walking_begin, walking_end}
use Rattle.types.proofs.Entries.{plain, other, closing_byte, read_end, array_last, run_past, bracket_unshut}

-- ---- one type alone

abbrev only_one : Option (List ℕ) → Bool
only_one none = false
only_one (some r) = eqb (length r) 0

-- behind the first type nothing may stand
alone_first : (f : ℕ) (r : List ℕ) → alone (one_more (row (suc f) 0 0 r)) ≡ eqb (length r) 0
alone_first f r = go r (begins r) refl
  where
    two : (o : Option Row) → alone (one_more (one_more o)) ≡ false
    two none = refl
    two (some x) = rw (ne_eqb (x.0 + 1 + 1) 1 (λ e. omega (arith, e)))

    more : (o : Option (List ℕ)) → alone (one_more (on (row f 0 0) o)) ≡ false
    more none = refl
    more (some r) = two (row f 0 0 r)

    go : (r : List ℕ) (x : Bool) → begins r ≡ x → alone (one_more (row (suc f) 0 0 r)) ≡ eqb (length r) 0
    go r false c = rw (row_shut f 0 0 r c)
    go [] true c = absurd (false≢true c)
    go (b ∷ r) true c =
        rw (row_begins f 0 0 (b ∷ r) c) (more (one f 0 0 (b ∷ r)) ∙ sym (ne_eqb (length (b ∷ r)) 0 (λ e. omega (arith, e))))

alone_one : (f : ℕ) (s : List ℕ) → 2 * length s ≤ f → alone (row (suc f) 0 0 s) ≡ only_one (one f 0 0 s)
alone_one f s l = go f s l (begins s) refl
  where
    more : (f : ℕ) (o : Option (List ℕ)) → alone (on (row (suc f) 0 0) o) ≡ only_one o
    more f none = refl
    more f (some r) = alone_first f r

    go : (f : ℕ) (s : List ℕ) → 2 * length s ≤ f → (x : Bool) → begins s ≡ x → alone (row (suc f) 0 0 s) ≡ only_one (one f 0 0 s)
    go f s l false c = rw (row_shut f 0 0 s c, one_shut f 0 0 s c)
    go f [] l true c = absurd (false≢true c)
    go zero (b ∷ s) l true c = absurd (omega arith)
    go (suc f) (b ∷ s) l true c = rw (row_begins (suc f) 0 0 (b ∷ s) c) (more f (one (suc f) 0 0 (b ∷ s)))

-- the code's test, of the first byte's entries
pub single_is : (s : List ℕ) (e n m : ℕ) → length s ≤ 255 → Nested s n m → (begins s ≡ true → drop e s ≡ behind 0 s)
    → (leb n 32 && leb m 32) && leb (length s) e ≡ single s
unfolding single fits
single_is s e n m few r h =
    rw (le-leb (length s) 255 few, add-one, alone_one (2 * length s) s (omega arith), r.is (2 * length s) 0 0 (omega arith))
    (only (leb n 32 && leb m 32) refl)
  where
    none_left : (n m : ℕ) → leb n m ≡ eqb (n - m) 0
    none_left n m = agree (leb n m) (eqb (n - m) 0) (omega (arith, leb-true, eq-eqb)) (omega (arith, eqb-true, le-leb))

    fits_begins : fits 0 0 n m ≡ true → (x : Bool) → begins s ≡ x → begins s ≡ true
    fits_begins q true c = c
    fits_begins q false c = absurd (false≢true (sym (fits_shut 0 0 c r) ∙ q))

    only : (x : Bool) → leb n 32 && leb m 32 ≡ x → x && leb (length s) e ≡ only_one (kept x (some (behind 0 s)))
    only false q = refl
    only true q = rw (← h (fits_begins q (begins s) refl), length-drop e s) (none_left (length s) e)

-- ---- the tables, from i on

-- what holds of each entry behind k, and of what is stored at k
stored : (P : ℕ → ℕ → Type 0) (xs : List ℕ) (k v : ℕ) → k < length xs → ((j : ℕ) → k + 1 ≤ j → P j (get_or xs j 0)) → P k v
    → (j : ℕ) → k ≤ j → P j (get_or (set xs k v) j 0)
stored P xs k v h others this j l = go (dec_le (k + 1) j)
  where
    go : Dec (k + 1 ≤ j) → P j (get_or (set xs k v) j 0)
    go (yes m) = rw (get_or-set_other xs k j v 0 (λ q. omega (arith, q))) (others j m)
    go (no m) = let q : k ≡ j = omega (arith, m) in rw (← q, get_or-set_same xs k v 0 h) this

pub record Filling (s ends arrays parens : List ℕ) (i : ℕ) : Type 0 where
  pub inside : i ≤ length s
  pub sized : length ends ≡ 256
  pub arrays_sized : length arrays ≡ 256
  pub parens_sized : length parens ≡ 256
  pub nests : NestsFrom s ends arrays parens i

pub filling_begin : {s ends : List ℕ} → length s ≤ 255 → length ends ≡ 256 → Filling s ends (replicate 256 33) (replicate 256 0) (length s)
filling_begin {s} {ends} f z =
    record {
      inside = omega arith;
      sized = z;
      arrays_sized = refl;
      parens_sized = refl;
      nests = record {
        few = f;
        table = record { few = f; sized = omega (arith, z); types = λ i l m. absurd (omega arith); rows = λ i l m. absurd (omega arith) };
        each = λ i l m. rw (past s i l, get_or-replicate {A = ℕ} 256 i 33 0 (omega arith)) (nested_shut refl);
      };
    }

module _ {s ends arrays parens : List ℕ} {i : ℕ} (p : Filling s ends arrays parens i) where
  module _ (l : 0 < i) where
    pub filling_behind : NestsBehind s ends arrays parens (i - 1)
    filling_behind =
        let z : i - 1 + 1 ≡ i = omega arith in
        record { here = omega (arith, p.inside); nests = rw z p.nests }

    pub filling_more : {e n m : ℕ} → NestAt s (i - 1) e n m
        → Filling s (set ends (i - 1) (e % 256)) (set arrays (i - 1) n) (set parens (i - 1) m) (i - 1)
    filling_more {e} {n} {m} t =
        let y : length ends ≡ 256 = p.sized in
        let z : length s ≤ 255 = p.nests.few in
        record {
          inside = omega (arith, p.inside);
          sized = length-set ends (i - 1) (e % 256) ∙ p.sized;
          arrays_sized = length-set arrays (i - 1) n ∙ p.arrays_sized;
          parens_sized = length-set parens (i - 1) m ∙ p.parens_sized;
          nests = record {
            few = z;
            table = record {
              few = z;
              sized = omega (arith, length-set ends (i - 1) (e % 256));
              types = stored (λ j x. j < length s → closes (get_or s j 0) ≡ false → EndAt s j x) ends (i - 1) (e % 256) (omega (arith, p.inside))
                  (λ j l. p.nests.table.types j (omega arith)) (λ h c. rw (mod_small (t.type c).high) (t.type c));
              rows = stored (λ j x. j < length s → closes (get_or s j 0) ≡ true → ClosedAt s j x) ends (i - 1) (e % 256) (omega (arith, p.inside))
                  (λ j l. p.nests.table.rows j (omega arith)) (λ h c. rw (mod_small (t.run c).high) (t.run c));
            };
            each = stored (λ j x. j ≤ 255 → Nested (drop j s) x (get_or (set parens (i - 1) m) j 0)) arrays (i - 1) n (omega (arith, p.inside, p.arrays_sized))
                (λ j l h. rw (get_or-set_other parens (i - 1) j m 0 (λ q. omega (arith, q))) (p.nests.each j (omega arith) h))
                (λ h. rw (get_or-set_same parens (i - 1) m 0 (omega (arith, p.inside, p.parens_sized))) t.nest);
          };
        }
      where
        mod_small : e ≤ length s → e % 256 ≡ e
        mod_small h = omega (arith, p.nests.few)

  pub filling_end : i ≤ 0 → {e : ℕ} → e ≡ get_or ends 0 0 → EndsOf s ends ((leb (get_or arrays 0 0) 32 && leb (get_or parens 0 0) 32) && leb (length s) e)
  filling_end l {e} q =
      let t : NestsFrom s ends arrays parens 0 = subst (NestsFrom s ends arrays parens) (omega arith) p.nests in
      record {
        is =
            single_is s e (get_or arrays 0 0) (get_or parens 0 0) t.few (t.each 0 (omega arith) (omega arith))
            (λ o. rw q (read_end t.table 0 (omega arith) o));
        table = t.table;
      }

  pub filling_sized : length ends ≡ 256
  filling_sized = p.sized

-- ---- one letter

module _ (s : List ℕ) (l : length s ≡ 1) where
  letter_nest : (x : Bool) → letter (get_or s 0 0) ≡ x → NestAt s 0 1 (cond x 0 33) 0
  letter_nest true t = plain (omega arith) refl t
  letter_nest false t = go (eqb (get_or s 0 0) 97) refl (opens (get_or s 0 0)) refl (closes (get_or s 0 0)) refl
    where
      go : (x : Bool) → eqb (get_or s 0 0) 97 ≡ x → (y : Bool) → opens (get_or s 0 0) ≡ y → (z : Bool) → closes (get_or s 0 0) ≡ z → NestAt s 0 1 33 0
      go true a y o z c = array_last (omega arith) (eqb-true (get_or s 0 0) 97 a) (omega arith)
      go false a true o z c = bracket_unshut (omega arith) o (walking_end (walking_begin (omega arith)) (omega arith)) (omega arith)
      go false a false o true c = closing_byte (omega arith) c (run_past (omega arith))
      go false a false o false c = other (omega arith) refl t (λ e. false≢true (sym a ∙ eq-eqb (get_or s 0 0) 97 e)) o c

  -- its table is one byte
  pub one_letter : EndsOf s (1 ∷ []) (letter (get_or s 0 0))
  one_letter = record { is = is (letter (get_or s 0 0)) refl; table = table }
    where
      nest : NestAt s 0 1 (cond (letter (get_or s 0 0)) 0 33) 0
      nest = letter_nest (letter (get_or s 0 0)) refl

      table : EndsFrom s (1 ∷ []) 0
      table =
          record {
            few = omega arith;
            sized = omega arith;
            types = λ j m h. let z : j ≡ 0 = omega arith in rw z nest.type;
            rows = λ j m h. let z : j ≡ 0 = omega arith in rw z nest.run;
          }

      is : (x : Bool) → letter (get_or s 0 0) ≡ x → x ≡ single s
      is x t = code x ∙ single_is s 1 (cond x 0 33) 0 (omega arith) (letter_nest x t).nest (λ o. read_end table 0 (omega arith) o)
        where
          code : (x : Bool) → x ≡ (leb (cond x 0 33) 32 && leb 0 32) && leb (length s) 1
          code true = rw l
          code false = refl

pub ruleset filling = (filling_begin, filling_behind, filling_more, filling_end, filling_sized, rules)

-- Form by form, the tests that the code makes are those of the definition.
use Rattle.std.proofs.Common.{◌≡◌, refl, sym, ◌∙◌, Bool, true, false, not, ◌&&◌, List, [], ◌∷◌, ℕ, suc, ◌+◌, ◌-◌, ◌≤◌, ◌<◌, arith, eqb, bit_and}
use Rattle.std.proofs.Common.{bit_or, length, drop, get_or, rules, le-leb, eq-eqb, ne_eqb, eqb-true}
use mathlib.Core.Bool.{and-true, and-false, and_assoc, or-false, false≢true}
use borrow.Author.Tests.{lt-leb}
use Rattle.wire.specs.Lists.{every}
use Rattle.wire.specs.Bytes.{byte}
use Rattle.wire.proofs.Texts.{both_first}
use Rattle.names.specs.declared.Form.{Form}
use Rattle.names.specs.declared.Form.TheVariants.{Interface, WellKnown, Unique, BusName, Member, Path}
use Rattle.names.specs.Names.{digit, leads, separator, character, name_limit, short, elements, two_or_more, dotted, starts_with, well_known, unique, valid_name}
use Rattle.names.specs.Classes.{digit_bit, dot_bit, class_of, no_character, barred}
use Rattle.names.specs.Scan.{dotted_form, clear, spaced, Walks}
use Rattle.names.proofs.Follow.{many, high_of, cleared, cleared_is, begins}
use Rattle.names.proofs.Near.{listed, follow, last_of, listed_steps, steps_scan}
use Rattle.names.proofs.Scanned.{last_is, seen_is, opens, cleared_character, apart_character, listed_scan}
use Rattle.names.proofs.Several.{elements_listed, ends_badly, opens_badly, two_seen, behind_seen}

-- ---- the first byte

starts : (b : ℕ) (s : List ℕ) → (length s ≡ 0 → ⊥) → get_or s 0 0 ≡ b → starts_with b s ≡ true
unfolding starts_with
starts b [] n e = absurd (n refl)
starts b (x ∷ s) n e = eq-eqb x b e

starts_not : (b : ℕ) (s : List ℕ) → (get_or s 0 0 ≡ b → ⊥) → starts_with b s ≡ false
unfolding starts_with
starts_not b [] e = refl
starts_not b (x ∷ s) e = ne_eqb x b e

empty : (s : List ℕ) → length s ≡ 0 → s ≡ []
empty [] e = refl
empty (x ∷ s) e = absurd (omega arith)

-- ---- interfaces and well-known names

dotted_many : (d : Bool) → many (dotted_form d) ≡ true
dotted_many true = refl
dotted_many false = refl

dotted_dot : (d : Bool) → separator (dotted_form d) ≡ byte "."
dotted_dot true = refl
dotted_dot false = refl

dotted_high : (d : Bool) → high_of (dotted_form d) ≡ byte "9"
dotted_high true = refl
dotted_high false = refl

dotted_leads : (d : Bool) → leads (dotted_form d) ≡ false
dotted_leads true = refl
dotted_leads false = refl

-- the mask that the code makes
dotted_mask : (d : Bool) → bit_or (bit_or (barred (dotted_form d)) digit_bit) dot_bit ≡ no_character (dotted_form d) + digit_bit
dotted_mask true = refl
dotted_mask false = refl

-- the last byte
last_at : (x : ℕ) (s : List ℕ) → get_or (x ∷ s) (length (x ∷ s) - 1) 0 ≡ last_of x s
last_at x s = let e : length (x ∷ s) - 1 ≡ length s = omega arith in rw e (last_is x s)

module _ (d : Bool) where
  dotted_starts : (x : ℕ) {m k : ℕ} → m ≡ barred (dotted_form d) → k ≡ class_of x
      → eqb (bit_and k (bit_or (bit_or m digit_bit) dot_bit)) 0 ≡ character (dotted_form d) x && not (digit x)
  dotted_starts x f e = rw (f, e, dotted_mask d) (begins (dotted_form d) x)

  pub dotted_none : (s : List ℕ) → length s ≡ 0 → false ≡ dotted (dotted_form d) s
  dotted_none [] e = refl
  dotted_none (x ∷ s) e = absurd (omega arith)

  pub dotted_long : (s : List ℕ) → name_limit < length s → false ≡ dotted (dotted_form d) s
  dotted_long s h = rw (lt-leb (length s) name_limit h)

  pub dotted_ends : (s : List ℕ) → (length s ≡ 0 → ⊥) → get_or s (length s - 1) 0 ≡ byte "." → false ≡ dotted (dotted_form d) s
  dotted_ends [] n e = absurd (n refl)
  dotted_ends (x ∷ s) n e =
      rw (
        ends_badly (dotted_form d) x s (dotted_many d) (eq-eqb (last_of x s) (separator (dotted_form d)) (sym (last_at x s) ∙ e ∙ sym (dotted_dot d))),
        and-false (short (x ∷ s)),
      )

  pub dotted_opens : (s : List ℕ) → (length s ≡ 0 → ⊥) → {m : ℕ} → m ≡ barred (dotted_form d) → {k : ℕ} → k ≡ class_of (get_or s 0 0)
      → (bit_and k (bit_or (bit_or m digit_bit) dot_bit) ≡ 0 → ⊥) → false ≡ dotted (dotted_form d) s
  dotted_opens [] n f e t = absurd (n refl)
  dotted_opens (x ∷ s) n {m} f {k} e t =
      let o : opens (dotted_form d) x ≡ false =
      rw (dotted_leads d) (sym (dotted_starts x f e) ∙ ne_eqb (bit_and k (bit_or (bit_or m digit_bit) dot_bit)) 0 t) in
      rw (opens_badly (dotted_form d) x s (dotted_many d) o, and-false (short (x ∷ s)))

  pub dotted_is : (s : List ℕ) → (length s ≡ 0 → ⊥) → length s ≤ name_limit → (get_or s (length s - 1) 0 ≡ byte "." → ⊥)
      → {m : ℕ} → m ≡ barred (dotted_form d) → {k : ℕ} → k ≡ class_of (get_or s 0 0) → bit_and k (bit_or (bit_or m digit_bit) dot_bit) ≡ 0
      → {w : ℕ} → Walks (byte "9") s w → eqb (bit_and w m) 0 && not (eqb (bit_and w dot_bit) 0) ≡ dotted (dotted_form d) s
  dotted_is [] n h l f e t z = absurd (n refl)
  dotted_is (x ∷ s) n h l {m} f {k} e t z =
      let form = dotted_form d in
      let o = sym (dotted_starts x f e) ∙ eq-eqb (bit_and k (bit_or (bit_or m digit_bit) dot_bit)) 0 t in
      let end = ne_eqb (last_of x s) (separator form) (λ q. l (last_at x s ∙ q ∙ dotted_dot d)) in
      rw (le-leb (length (x ∷ s)) name_limit h, f) (two_seen form x s (dotted_many d) (dotted_dot d) end o (rw (← dotted_high d) at z))

-- ---- unique names: a colon, and elements behind it

module _ (s : List ℕ) where
  pub unique_few : length s < 2 → false ≡ valid_name Unique s
  unfolding valid_name unique starts_with
  unique_few h = few s h
    where
      few : (s : List ℕ) → length s < 2 → false ≡ short s && starts_with (byte ":") s && two_or_more Unique (drop 1 s)
      few [] h = refl
      few (x ∷ []) h = sym (and-false (short (x ∷ []) && eqb x (byte ":")))
      few (x ∷ y ∷ s) h = absurd (omega arith)

  pub unique_long : name_limit < length s → false ≡ valid_name Unique s
  unfolding valid_name unique
  unique_long h = rw (lt-leb (length s) name_limit h)

  pub unique_not : (get_or s 0 0 ≡ byte ":" → ⊥) → false ≡ valid_name Unique s
  unfolding valid_name unique
  unique_not e = rw (starts_not (byte ":") s e, and-false (short s))

module _ (a b : ℕ) (s : List ℕ) where
  colon_opens : b ≡ byte "." → false ≡ valid_name Unique (a ∷ b ∷ s)
  unfolding valid_name unique
  colon_opens e = rw (opens_badly Unique b s refl (rw e), and-false (short (a ∷ b ∷ s) && starts_with (byte ":") (a ∷ b ∷ s)))

  colon_ends : last_of b s ≡ byte "." → false ≡ valid_name Unique (a ∷ b ∷ s)
  unfolding valid_name unique
  colon_ends e = rw (ends_badly Unique b s refl (eq-eqb (last_of b s) (byte ".") e), and-false (short (a ∷ b ∷ s) && starts_with (byte ":") (a ∷ b ∷ s)))

  colon_is : a ≡ byte ":" → (b ≡ byte "." → ⊥) → (last_of b s ≡ byte "." → ⊥) → length (a ∷ b ∷ s) ≤ name_limit → {w : ℕ} → Walks (byte "/") (a ∷ b ∷ s) w
      → clear (barred Unique) w && not (clear dot_bit w) ≡ valid_name Unique (a ∷ b ∷ s)
  unfolding valid_name unique starts_with spaced
  colon_is e n l h z =
      rw (le-leb (length (a ∷ b ∷ s)) name_limit h, eq-eqb a (byte ":") e)
      (behind_seen Unique b s refl refl (ne_eqb (last_of b s) (byte ".") l) a (rw e) refl (ne_eqb b (byte ".") n) z)

pub unique_opens : (s : List ℕ) → 2 ≤ length s → get_or s 1 0 ≡ byte "." → false ≡ valid_name Unique s
unique_opens [] h e = absurd (omega arith)
unique_opens (a ∷ []) h e = absurd (omega arith)
unique_opens (a ∷ b ∷ s) h e = colon_opens a b s e

pub unique_ends : (s : List ℕ) → 2 ≤ length s → get_or s (length s - 1) 0 ≡ byte "." → false ≡ valid_name Unique s
unique_ends [] h e = absurd (omega arith)
unique_ends (a ∷ []) h e = absurd (omega arith)
unique_ends (a ∷ b ∷ s) h e = colon_ends a b s (sym (last_at a (b ∷ s)) ∙ e)

pub unique_is : (s : List ℕ) → 2 ≤ length s → length s ≤ name_limit → get_or s 0 0 ≡ byte ":" → (get_or s 1 0 ≡ byte "." → ⊥)
    → (get_or s (length s - 1) 0 ≡ byte "." → ⊥) → {w : ℕ} → Walks (byte "/") s w
    → eqb (bit_and w (barred Unique)) 0 && not (eqb (bit_and w dot_bit) 0) ≡ valid_name Unique s
unique_is [] h k e n l z = absurd (omega arith)
unique_is (a ∷ []) h k e n l z = absurd (omega arith)
unique_is (a ∷ b ∷ s) h k e n l z = colon_is a b s e n (λ q. l (last_at a (b ∷ s) ∙ q)) k z

-- ---- members: one element, which has no dot

-- a byte of a member is no dot, and so is the last
member_ends : (x : ℕ) (s : List ℕ) → cleared Member x ≡ true → every (cleared Member) s && not (eqb (last_of x s) (byte ".")) ≡ every (cleared Member) s
member_ends x [] h =
    rw (apart_character Member x (sym (cleared_is Member x ∙ or-false (character Member x)) ∙ h))
member_ends x (b ∷ s) h = go (cleared Member b) (every (cleared Member) s) (not (eqb (last_of b s) (byte "."))) (member_ends b s)
  where
    go : (c e l : Bool) → (c ≡ true → e && l ≡ e) → c && e && l ≡ c && e
    go true e l h = h refl
    go false e l h = refl

module _ (s : List ℕ) where
  pub member_none : length s ≡ 0 → false ≡ valid_name Member s
  unfolding valid_name
  member_none e = rw (empty s e)

  pub member_long : name_limit < length s → false ≡ valid_name Member s
  unfolding valid_name
  member_long h = rw (lt-leb (length s) name_limit h)

pub member_opens : (s : List ℕ) → (length s ≡ 0 → ⊥) → {k : ℕ} → k ≡ class_of (get_or s 0 0)
    → (bit_and k (no_character Member + digit_bit) ≡ 0 → ⊥) → false ≡ valid_name Member s
unfolding valid_name listed
member_opens [] n e t = absurd (n refl)
member_opens (x ∷ s) n {k} e t =
    let o : opens Member x ≡ false = sym (rw e (begins Member x)) ∙ ne_eqb (bit_and k (no_character Member + digit_bit)) 0 t in
    rw (listed_scan Member x s, o, and-false (short (x ∷ s)))

pub member_is : (s : List ℕ) → (length s ≡ 0 → ⊥) → length s ≤ name_limit → {k : ℕ} → k ≡ class_of (get_or s 0 0)
    → bit_and k (no_character Member + digit_bit) ≡ 0 → {w : ℕ} → Walks (byte "9") s w → eqb (bit_and w (barred Member)) 0 ≡ valid_name Member s
unfolding valid_name listed
member_is [] n h e t z = absurd (n refl)
member_is (x ∷ s) n h {k} e t z =
    let o : opens Member x ≡ true = sym (rw e (begins Member x)) ∙ eq-eqb (bit_and k (no_character Member + digit_bit)) 0 t in
    let f = follow (byte "9") x s in
    let g = every (cleared Member) s in
    let c = cleared_character Member x (both_first (character Member x) (not (digit x)) o) in
    rw (le-leb (length (x ∷ s)) name_limit h)
    (seen_is z (barred Member) refl ∙ sym (listed_scan Member x s ∙ rw (o, and_assoc f g (not (eqb (last_of x s) (byte "."))), member_ends x s c)))

-- ---- paths: a slash, and elements behind it

module _ (s : List ℕ) where
  pub path_none : length s ≡ 0 → false ≡ valid_name Path s
  unfolding valid_name starts_with
  path_none e = rw (empty s e)

  pub path_not : (get_or s 0 0 ≡ byte "/" → ⊥) → false ≡ valid_name Path s
  unfolding valid_name
  path_not e = rw (starts_not (byte "/") s e)

  pub path_root : (length s ≡ 0 → ⊥) → get_or s 0 0 ≡ byte "/" → length s ≡ 1 → true ≡ valid_name Path s
  unfolding valid_name
  path_root n e k = rw (starts (byte "/") s n e, k)

path_scan : (s : List ℕ) → elements Path s ≡ follow (byte "/") (byte "/") s && every (cleared Path) s && not (eqb (last_of (byte "/") s) (byte "/"))
path_scan s = elements_listed Path s refl ∙ listed_steps Path s ∙ steps_scan Path (byte "/") s (cleared_is Path (byte "/"))

pub path_ends : (s : List ℕ) → (length s ≡ 0 → ⊥) → get_or s 0 0 ≡ byte "/" → (length s ≡ 1 → ⊥) → get_or s (length s - 1) 0 ≡ byte "/" → false ≡ valid_name Path s
unfolding valid_name starts_with
path_ends [] n a k e = absurd (n refl)
path_ends (x ∷ s) n a k e =
    let f : last_of (byte "/") s ≡ byte "/" = rw a at (sym (last_at x s) ∙ e) in
    rw (a, ne_eqb (suc (length s)) 1 k, path_scan s, eq-eqb (last_of (byte "/") s) (byte "/") f)
    (sym (and-false (follow (byte "/") (byte "/") s && every (cleared Path) s)))

pub path_is : (s : List ℕ) → (length s ≡ 0 → ⊥) → get_or s 0 0 ≡ byte "/" → (length s ≡ 1 → ⊥) → (get_or s (length s - 1) 0 ≡ byte "/" → ⊥)
    → {w : ℕ} → Walks (byte "/") s w → eqb (bit_and w (barred Path)) 0 ≡ valid_name Path s
unfolding valid_name starts_with
path_is [] n a k e z = absurd (n refl)
path_is (x ∷ s) n a k e {w} z =
    let f : last_of (byte "/") s ≡ byte "/" → ⊥ = λ q. e (last_at x s ∙ rw a q) in
    let y : Walks (byte "/") (byte "/" ∷ s) w = rw a at z in
    rw (a, ne_eqb (suc (length s)) 1 k)
    (seen_is y (barred Path) refl
    ∙ sym (path_scan s ∙ rw (ne_eqb (last_of (byte "/") s) (byte "/") f, and-true (follow (byte "/") (byte "/") s && every (cleared Path) s))))

-- ---- a bus name: unique where it begins with a colon, which no well-known name does

coloned : (s : List ℕ) → starts_with (byte ":") s ≡ true → well_known s ≡ false
unfolding starts_with well_known
coloned [] e = absurd (false≢true e)
coloned (x ∷ s) e = let f : x ≡ byte ":" = eqb-true x (byte ":") e in rw (f, and-false)

module _ (s : List ℕ) where
  pub bus_none : length s ≡ 0 → false ≡ valid_name BusName s
  unfolding valid_name unique well_known starts_with
  bus_none e = rw (empty s e)

  pub bus_unique : (length s ≡ 0 → ⊥) → get_or s 0 0 ≡ byte ":" → {r : Bool} → r ≡ valid_name Unique s → r ≡ valid_name BusName s
  unfolding valid_name
  bus_unique n e h = rw (coloned s (starts (byte ":") s n e), or-false) h

  pub bus_well_known : (get_or s 0 0 ≡ byte ":" → ⊥) → {r : Bool} → r ≡ dotted WellKnown s → r ≡ valid_name BusName s
  unfolding valid_name unique well_known
  bus_well_known e h = rw (starts_not (byte ":") s e, and-false) h

-- ---- the form that is asked for

module _ (f : Form) (s : List ℕ) where
  pub asked : (g : Form) → f ≡ g → {r : Bool} → r ≡ valid_name g s → r ≡ valid_name f s
  asked g e h = rw e h

  pub asked_interface : f ≡ Interface → {r : Bool} → r ≡ dotted Interface s → r ≡ valid_name f s
  unfolding valid_name
  asked_interface e h = rw e h

  pub asked_well_known : f ≡ WellKnown → {r : Bool} → r ≡ dotted WellKnown s → r ≡ valid_name f s
  unfolding valid_name well_known
  asked_well_known e h = rw e h

pub ruleset dotted_laws = (dotted_none, dotted_long, dotted_ends, dotted_opens, dotted_is, rules)

pub ruleset unique_laws = (unique_few, unique_long, unique_not, unique_opens, unique_ends, unique_is, rules)

pub ruleset member_laws = (member_none, member_long, member_opens, member_is, rules)

pub ruleset path_laws = (path_none, path_not, path_root, path_ends, path_is, rules)

pub ruleset forms = (bus_none, bus_unique, bus_well_known, asked, asked_interface, asked_well_known, rules)

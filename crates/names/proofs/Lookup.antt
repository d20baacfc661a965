-- The table of classes, held to the name rules: a test that antt computes over every form and kind of byte, and the law that makes it a rule of every byte.
use Rattle.std.proofs.Common.{◌≡◌, refl, ◌∙◌, Bool, true, false, ◌&&◌, ◌||◌, List, [], ◌∷◌, ℕ, zero, suc, ◌+◌, ◌<◌, arith, add-zero, zero-add}
use Rattle.std.proofs.Common.{suc-add, add-suc, length, get_or}
use mathlib.Core.Bool.{beq, false≢true}
use Rattle.wire.specs.Lists.{every}
use Rattle.wire.proofs.Texts.{both_first, both_second}
use Rattle.names.specs.declared.Form.{Form}
use Rattle.names.specs.declared.Form.TheVariants.{Interface, WellKnown, Unique, BusName, Member, Path}
use Rattle.names.specs.Names.{dashed, character}
use Rattle.names.specs.Classes.{ByteKind, digits, letters, dash, dot, slash, others, byte_kind}
use Rattle.names.specs.Classes.{kind_class, class_of, tabled, class_table, no_character}
use Rattle.names.specs.Scan.{clear}
use Rattle.names.proofs.Told.{is, Told, told}

-- ---- a test of every form and of every kind

abbrev pub kinds : List ByteKind
kinds = digits ∷ letters ∷ dash ∷ dot ∷ slash ∷ others ∷ []

abbrev pub forms : List Form
forms = Interface ∷ WellKnown ∷ Unique ∷ BusName ∷ Member ∷ Path ∷ []

every_at : {A : Type 0} (p : A → Bool) (xs : List A) (d : A) → every p xs ≡ true → (i : ℕ) → i < length xs → p (get_or xs i d) ≡ true
every_at p [] d h i k = absurd (omega arith)
every_at p (x ∷ xs) d h zero k = both_first (p x) (every p xs) h
every_at p (x ∷ xs) d h (suc i) k = every_at p xs d (both_second (p x) (every p xs) h) i (omega arith)

pub at_kind : (p : ByteKind → Bool) → every p kinds ≡ true → (k : ByteKind) → p k ≡ true
at_kind p h digits = every_at p kinds others h 0 (omega arith)
at_kind p h letters = every_at p kinds others h 1 (omega arith)
at_kind p h dash = every_at p kinds others h 2 (omega arith)
at_kind p h dot = every_at p kinds others h 3 (omega arith)
at_kind p h slash = every_at p kinds others h 4 (omega arith)
at_kind p h others = every_at p kinds others h 5 (omega arith)

at_form : (p : Form → Bool) → every p forms ≡ true → (form : Form) → p form ≡ true
at_form p h Interface = every_at p forms Path h 0 (omega arith)
at_form p h WellKnown = every_at p forms Path h 1 (omega arith)
at_form p h Unique = every_at p forms Path h 2 (omega arith)
at_form p h BusName = every_at p forms Path h 3 (omega arith)
at_form p h Member = every_at p forms Path h 4 (omega arith)
at_form p h Path = every_at p forms Path h 5 (omega arith)

pub equal : (a b : Bool) → beq a b ≡ true → a ≡ b
equal true true h = refl
equal true false h = absurd (false≢true h)
equal false true h = absurd (false≢true h)
equal false false h = refl

-- two tests that agree on every form and kind
pub agreed : (p q : Form → ByteKind → Bool) → every (λ f. every (λ k. beq (p f k) (q f k)) kinds) forms ≡ true → (f : Form) (k : ByteKind) → p f k ≡ q f k
agreed p q h f k =
    equal (p f k) (q f k)
    (at_kind (λ k. beq (p f k) (q f k)) (at_form (λ f. every (λ k. beq (p f k) (q f k)) kinds) h f) k)

-- ---- the rules, by kinds

abbrev pub character_kind : Form → ByteKind → Bool
character_kind form k = is k letters || is k digits || dashed form && is k dash

pub character_told : (form : Form) {b : ℕ} {k : ByteKind} → Told b k → character form b ≡ character_kind form k
character_told form t = rw (t.is_letter, t.is_digit, t.is_dash)

-- ---- the theorem: for every byte and form, the table answers as the definition

tabled_at : (f : ℕ → ℕ) (a n i : ℕ) → i < n → get_or (tabled f a n) i 0 ≡ f (a + i)
tabled_at f a zero i h = absurd (omega arith)
tabled_at f a (suc n) zero h = rw (add-zero a)
tabled_at f a (suc n) (suc i) h = tabled_at f (suc a) n i (omega arith) ∙ rw (suc-add a i, add-suc a i)

pub looked : (b : ℕ) → b < 256 → get_or class_table b 0 ≡ class_of b
unfolding class_table
looked b h = tabled_at class_of 0 256 b h ∙ rw (zero-add b)

pub class_right : (form : Form) (b : ℕ) → b < 256 → clear (no_character form) (get_or class_table b 0) ≡ character form b
unfolding class_of
class_right form b h =
    rw (looked b h, character_told form (told b))
    (agreed (λ f k. clear (no_character f) (kind_class k)) character_kind refl form (byte_kind b))

-- what is looked up in a table of the classes
pub looked_up : (t : List ℕ) (b : ℕ) → t ≡ class_table → b < 256 → get_or t b 0 ≡ class_of b
looked_up t b e h = rw e (looked b h)

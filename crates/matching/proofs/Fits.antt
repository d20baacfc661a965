-- A rule against a peer, a name or a message: a law for each way through the tests.
use mathlib.Core.Path.{◌≡◌, refl, sym, ◌∙◌}
use mathlib.Core.Bool.{Bool, true, false, cond, not, ◌&&◌, ◌||◌, false≢true, not-not}
use mathlib.Core.Option.{none, some}
use mathlib.Core.List.{List}
use Prim.Native.Nat.{ℕ, ◌+◌, ◌-◌, ◌*◌}
use native.Mathlib.Omega.{arith}
use lib.Dec.{eqb}
use lib.ListN.{length, take, drop, get_or, length-drop}
use lib.Seq.{length-take-le}
use borrow.Author.Rules.{rules}
use borrow.Author.Tests.{ne_eqb, eqb-false, not-true, not-false}
use Rattle.wire.specs.Bytes.{same}
use Rattle.wire.proofs.Texts.{same_length}
use Rattle.wire.proofs.Words.{cut_at}
use Rattle.names.specs.Namespace.{in_namespace}
use Rattle.image.specs.Image.{string_offset}
use Rattle.image.specs.Rules.{span_at, text_of, PolicyRule, rule_from}
use Rattle.header.specs.Fields.{text_at}
use Rattle.header.specs.declared.Place.{Place}
use Rattle.header.specs.declared.Header.{Header}
use Rattle.policy.specs.Names.{name_width, name_of}
use Rattle.policy.specs.Subjects.{same_user, in_groups, subject_fits}
use Rattle.policy.specs.Matching.{connect_fits, owned_fits, own_fits, field_of, message_of, equals, part_fits, interface_fits, parts_fit, transaction_fits}
use Rattle.matching.specs.Promises.{Cited, PartAsked}
use Rattle.policy.specs.declared.Uid.{Uid}
use Rattle.policy.proofs.Cells.{cell_name}

-- ---- parts of slices, as the code cuts them

pub cell_same : (cells name : List ℕ) (n : ℕ) → n ≡ get_or cells 0 0 → {r : Bool} → r ≡ same (take (1 + n - 1) (drop 1 cells)) name
    → r ≡ same (name_of cells) name
cell_same cells name n e h = rw (← cell_name cells n e) h

pub ruleset cuts = (cell_same, cut_at, rules)

-- a test that fails where there is no value or its length differs
one_of : (a b : Bool) → a || b ≡ false → (a ≡ false) × (b ≡ false)
one_of true b h = absurd (false≢true (sym h))
one_of false b h = (refl, h)

-- the code's test of the type, as the rule has it
either_type : (a b : Bool) → a || b ≡ not (not a && not b)
either_type true b = refl
either_type false b = sym (not-not b)

-- ---- the rule at `at`

module _ (image : List ℕ) (at : ℕ) where
  abbrev rule : PolicyRule
  rule = rule_from image at

  -- ---- connect

  module _ (uid : Uid) (gids : List ℕ) where
    pub connect_any : rule.matcher ≡ 0 → true ≡ connect_fits rule uid gids
    unfolding connect_fits
    connect_any e = rw e

    module _ {id : ℕ} (g : id ≡ rule.id) (n : rule.matcher ≡ 0 → ⊥) where
      pub connect_user : rule.matcher ≡ 1 → {r : Bool} → r ≡ same_user uid (record { 0 = id }) → r ≡ connect_fits rule uid gids
      unfolding connect_fits
      connect_user e h = rw (e, ← g) h

      pub connect_group : (rule.matcher ≡ 1 → ⊥) → {r : Bool} → r ≡ in_groups gids (record { 0 = id }) → r ≡ connect_fits rule uid gids
      unfolding connect_fits
      connect_group m h = rw (ne_eqb rule.matcher 0 n, ne_eqb rule.matcher 1 m, ← g) h

  -- ---- own

  module _ (name : List ℕ) where
    pub owned_any : rule.matcher ≡ 0 → true ≡ owned_fits image rule name
    unfolding owned_fits
    owned_any e = rw e

    module _ {own : List ℕ} (g : own ≡ text_of image rule.name) (n : rule.matcher ≡ 0 → ⊥) where
      pub owned_same : rule.matcher ≡ 1 → {r : Bool} → r ≡ same own name → r ≡ owned_fits image rule name
      unfolding owned_fits
      owned_same e h = rw (e, ← g) h

      pub owned_under : (rule.matcher ≡ 1 → ⊥) → {r : Bool} → r ≡ in_namespace own name → r ≡ owned_fits image rule name
      unfolding owned_fits
      owned_under m h = rw (ne_eqb rule.matcher 0 n, ne_eqb rule.matcher 1 m, ← g) h

    module _ (uid : Uid) (gids : List ℕ) {subject : ℕ} (g : subject ≡ rule.subject) {s : Bool} (e : s ≡ subject_fits rule.context subject uid gids) where
      pub own_other : not s ≡ true → false ≡ own_fits image rule uid gids name
      unfolding own_fits
      own_other t = rw (← (rw g at e), not-true s t)

      pub own_fits_lem : not s ≡ false → {r : Bool} → r ≡ owned_fits image rule name → r ≡ own_fits image rule uid gids name
      unfolding own_fits
      own_fits_lem t h = rw (← (rw g at e), not-false s t) h

  -- ---- send and receive

  pub cited_length : Cited image at → length (text_of image (span_at image at)) ≡ (span_at image at).len
  cited_length k =
      length-take-le (span_at image at).len (drop (string_offset image + (span_at image at).offset) image)
      (rw length-drop (omega (arith, k.inside)))

  module _ (head : List ℕ) (p : Place) (k : PartAsked image at head p) {len : ℕ} (g : len ≡ (span_at image at).len) where
    pub part_any : len ≡ 0 → true ≡ part_fits image (span_at image at) (field_of head p)
    unfolding part_fits
    part_any z = rw (← g, z)

    module _ (n : len ≡ 0 → ⊥) where
      literal : eqb (span_at image at).len 0 ≡ false
      literal = ne_eqb (span_at image at).len 0 (λ e. n (g ∙ e))

      pub part_differs : eqb p.at 0 || not (eqb len p.len) ≡ true → false ≡ part_fits image (span_at image at) (field_of head p)
      unfolding part_fits
      part_differs t = rw literal (go (eqb p.at 0) t)
        where
          go : (b : Bool) → b || not (eqb len p.len) ≡ true → false ≡ equals (text_of image (span_at image at)) (cond (not b) (some (text_at head p)) none)
          go true h = refl
          go false h =
              sym
              (same_length (text_of image (span_at image at)) (text_at head p)
              (λ e. eqb-false len p.len (not-true (eqb len p.len) h)
              (g ∙ sym (cited_length k.cited) ∙ e ∙ length-take-le p.len (drop p.at head) (rw length-drop (omega (arith, k.inside))))))

      pub part_same : eqb p.at 0 || not (eqb len p.len) ≡ false → {t : List ℕ} → t ≡ text_of image (span_at image at) → {r : Bool}
          → r ≡ same t (take (p.at + p.len - p.at) (drop p.at head)) → r ≡ part_fits image (span_at image at) (field_of head p)
      unfolding part_fits
      part_same u e h =
          rw (literal, (one_of (eqb p.at 0) (not (eqb len p.len)) u).0, ← e) (rw (cut_at p.at p.len head) at h)

  module _ (head : List ℕ) where
    module _ (p : Place) where
      -- a message without an interface, by the rule's own interface and verdict
      pub interface_absent : p.at ≡ 0 → {len : ℕ} → len ≡ rule.interface.len
          → eqb len 0 || not (eqb rule.verdict 1) ≡ interface_fits image rule (field_of head p)
      unfolding interface_fits
      interface_absent e g = rw (e, ← g)

      pub interface_present : (p.at ≡ 0 → ⊥) → {r : Bool} → r ≡ part_fits image rule.interface (field_of head p) → r ≡ interface_fits image rule (field_of head p)
      unfolding interface_fits
      interface_present n h = rw (ne_eqb p.at 0 n) (rw (ne_eqb p.at 0 n) at h)

    module _ (m : Header) {a : Bool} (e : a ≡ part_fits image rule.path (field_of head m.path)) where
      pub path_differs : not a ≡ true → false ≡ parts_fit image rule (message_of head m)
      unfolding parts_fit message_of
      path_differs t = rw (← e, not-true a t)

      module _ (t : not a ≡ false) {b : Bool} (f : b ≡ interface_fits image rule (field_of head m.interface)) where
        pub interface_differs : not b ≡ true → false ≡ parts_fit image rule (message_of head m)
        unfolding parts_fit message_of
        interface_differs u = rw (← e, not-false a t, ← f, not-true b u)

        pub parts_fit_lem : not b ≡ false → {r : Bool} → r ≡ part_fits image rule.member (field_of head m.member) → r ≡ parts_fit image rule (message_of head m)
        unfolding parts_fit message_of
        parts_fit_lem u h = rw (← e, not-false a t, ← f, not-false b u) h

  module _ (uid : Uid) (gids head : List ℕ) (m : Header) where
    -- the code's tests of the type
    abbrev any : Bool
    any = eqb rule.type 0

    abbrev this : Bool
    this = eqb rule.type m.kind

    abbrev Fits : Bool
    Fits = transaction_fits image rule uid gids (message_of head m)

    pub rule_type : not any && not this ≡ true → false ≡ Fits
    unfolding transaction_fits message_of
    rule_type t = rw (either_type any this, t)

    module _ (t : not any && not this ≡ false) {subject : ℕ} (g : subject ≡ rule.subject) {s : Bool}
        (e : s ≡ subject_fits rule.context subject uid gids) where
      pub rule_other : not s ≡ true → false ≡ Fits
      unfolding transaction_fits message_of
      rule_other u = rw (either_type any this, t, ← (rw g at e), not-true s u)

      pub rule_parts : not s ≡ false → {r : Bool} → r ≡ parts_fit image rule (message_of head m) → r ≡ Fits
      unfolding transaction_fits message_of
      rule_parts u h = rw (either_type any this, t, ← (rw g at e), not-false s u) h

pub ruleset fits = (
  connect_any,
  connect_user,
  connect_group,
  owned_any,
  owned_same,
  owned_under,
  own_other,
  own_fits_lem,
  part_any,
  part_differs,
  part_same,
  interface_absent,
  interface_present,
  path_differs,
  interface_differs,
  parts_fit_lem,
  rule_type,
  rule_other,
  rule_parts,
  rules,
)

-- A rule made exact: what its writes leave.
use mathlib.Core.Path.{◌≡◌, sym, ap, ◌∙◌}
use mathlib.Core.List.{List, [], ◌∷◌, ◌++◌, append_assoc}
use Prim.Native.Nat.{ℕ, suc, ◌+◌, ◌-◌, ◌≤◌}
use native.Mathlib.Omega.{arith}
use lib.ListN.{length, take, drop, set, length-append, length-drop}
use lib.Seq.{set_split, take-take, take-append-le, drop-append-le, length-take-le}
use borrow.Author.Rules.{rules}
use Rattle.wire.specs.Words.{word_bytes}
use Rattle.wire.proofs.Words.{word_length, put_at_lem}
use Rattle.wire.proofs.Parts.{drop_taken, part_past, put_joined}
use Rattle.tables.proofs.Written.{put_sized}
use Rattle.image.specs.Image.{matcher_byte, reserved_byte, name_span, len_offset, span_width, rule_size}
use Rattle.image.specs.declared.Section.TheVariants.{Own}
use Rattle.prefixes.specs.Converted.{exact}
use Rattle.prefixes.proofs.Rows.{exact_long as exact-wide}
use Rattle.exacts.specs.Promises.{put}
use Rattle.exacts.proofs.Rows.{put_long}

-- ---- an offset and a length

span_long : (offset len : ℕ) → length (word_bytes offset ++ word_bytes len) ≡ span_width
span_long offset len = length-append (word_bytes offset) (word_bytes len) ∙ omega (arith, word_length offset, word_length len)

pub span_put : (m : List ℕ) (at : ℕ) → at + span_width ≤ length m → (u v : List ℕ) (offset len : ℕ)
    → u ≡ take at m ++ (word_bytes offset ++ drop (at + 4) m)
    → v ≡ take (at + len_offset) u ++ (word_bytes len ++ drop (at + len_offset + 4) u)
    → v ≡ put at (word_bytes offset ++ word_bytes len) m
span_put m at h u v offset len e f =
    f
    ∙ ap (λ (z : List ℕ). take (at + len_offset) z ++ (word_bytes len ++ drop (at + len_offset + 4) z)) e
    ∙ rw (span_long offset len) (put_joined m (word_bytes offset) (word_bytes len) at len_offset 4 (omega arith) (word_length offset))

pub ruleset spanning = (span_put, rules)

-- ---- the rule

module _ (rule : List ℕ) (r : length rule ≡ rule_size Own) where
  -- the first bytes of an exact rule
  abbrev start : List ℕ
  start = take matcher_byte rule ++ (1 ∷ take (name_span - reserved_byte) (drop reserved_byte rule))

  start_long : length start ≡ name_span
  start_long =
      length-append (take matcher_byte rule) (1 ∷ take (name_span - reserved_byte) (drop reserved_byte rule))
      ∙ omega (
        arith,
        length-take-le matcher_byte rule (omega arith),
        length-take-le (name_span - reserved_byte) (drop reserved_byte rule) (omega (arith, length-drop reserved_byte rule)),
        length-drop reserved_byte rule,
      )

  exact_is : (offset len : ℕ) → exact rule offset len ≡ start ++ (word_bytes offset ++ word_bytes len)
  unfolding exact
  exact_is offset len = simp append_assoc

  pub exact_long : (offset len : ℕ) → length (exact rule offset len) ≡ rule_size Own
  exact_long offset len = exact-wide rule offset len (omega arith)

  module _ (m : List ℕ) (at : ℕ) (h : at + rule_size Own ≤ length m) (y : List ℕ) (e : y ≡ take name_span rule) where
    -- the room behind the copy and the store of the matcher
    abbrev begun : List ℕ
    begun = set (take at m ++ (y ++ drop (at + name_span - at) (drop at m))) (at + matcher_byte) 1

    begun_is : begun ≡ take at m ++ (start ++ drop (at + name_span) m)
    begun_is =
        let p = take at m in
        let d = drop (at + name_span) m in
        let q = y ++ d in
        let lp : length p ≡ at = length-take-le at m (omega arith) in
        let ly : length y ≡ name_span = ap length e ∙ length-take-le name_span rule (omega arith) in
        let a : take matcher_byte q ≡ take matcher_byte rule
        = take-append-le matcher_byte y d (omega arith) ∙ ap (take matcher_byte) e ∙ take-take matcher_byte name_span rule (omega arith) in
        let b : drop reserved_byte q ≡ take (name_span - reserved_byte) (drop reserved_byte rule) ++ d
        = drop-append-le reserved_byte y d (omega arith) ∙ ap (λ (z : List ℕ). drop reserved_byte z ++ d) e
        ∙ ap (λ (z : List ℕ). z ++ d) (drop_taken reserved_byte name_span rule) in
        let one : suc (at + matcher_byte) ≡ at + matcher_byte + 1 = omega arith in
        ap (λ (z : List ℕ). set z (at + matcher_byte) 1) (put_at_lem at name_span m y)
        ∙ set_split (p ++ q) (at + matcher_byte) 1 (omega (arith, length-append p q, length-append y d))
        ∙ rw one (part_past p q (1 ∷ []) at matcher_byte 1 lp ∙ rw (a, b) (ap (λ (z : List ℕ). p ++ z) (sym (append_assoc (take matcher_byte rule) (1 ∷ take (name_span - reserved_byte) (drop reserved_byte rule)) d))))

    begun_long : length begun ≡ length m
    begun_long = ap length begun_is ∙ put_sized m start at name_span (omega arith) start_long

    pub span_room : at + name_span + span_width ≤ length begun
    span_room = omega (arith, begun_long)

    module _ {u : List ℕ} (offset len : ℕ) (eu : u ≡ put (at + name_span) (word_bytes offset ++ word_bytes len) begun) where
      pub exact_put : u ≡ put at (exact rule offset len) m
      exact_put =
          let x = word_bytes offset ++ word_bytes len in
          eu
          ∙ ap (put (at + name_span) x) begun_is
          ∙ rw (span_long offset len, exact_long offset len, exact_is offset len) (put_joined m start x at name_span span_width (omega arith) start_long)

      pub exact_kept : length u ≡ length m
      exact_kept = ap length exact_put ∙ put_long m (exact rule offset len) at (omega (arith, exact_long offset len))

pub ruleset exacting = (span_room, exact_put, exact_kept, rules)

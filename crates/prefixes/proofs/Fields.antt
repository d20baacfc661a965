-- Rules that have the same bytes say the same, wherever they stand: 8 bytes of a connect rule, 16 of an own rule, 40 of a transaction rule. What a record
-- says beyond a rule's bytes is left out.
use mathlib.Core.Path.{◌≡◌, sym, ap, ◌∙◌}
use mathlib.Core.List.{List}
use Prim.Native.Nat.{ℕ, ◌+◌, ◌≤◌, ◌<◌}
use native.Mathlib.Omega.{arith}
use native.Mathlib.Nat.{add-zero}
use lib.ListN.{length, get_or, take, drop}
use lib.Seq.{get_or-take, get_or-drop, take_all}
use Rattle.wire.specs.Words.{word_at, word_bytes}
use Rattle.wire.specs.declared.Order.TheVariants.{Little}
use Rattle.tables.proofs.Words.{word_part}
use Rattle.image.specs.Rules.{Span, span_at, PolicyRule, rule_from}
use Rattle.prefixes.specs.Converted.{exact}
use Rattle.prefixes.proofs.Rows.{exact_is, exact_long}

-- ---- the same bytes

module _ (s t : List ℕ) (a b w : ℕ) (e : take w (drop a s) ≡ take w (drop b t)) where
  byte_alike : (i : ℕ) → i < w → get_or s (a + i) 0 ≡ get_or t (b + i) 0
  byte_alike i l =
      sym (get_or-take w (drop a s) i 0 l ∙ get_or-drop a s i 0) ∙ ap (λ (x : List ℕ). get_or x i 0) e ∙ get_or-take w (drop b t) i 0 l ∙ get_or-drop b t i 0

  first_alike : 0 < w → get_or s a 0 ≡ get_or t b 0
  first_alike l = rw (add-zero a, add-zero b) at (byte_alike 0 l)

  word_alike : (i : ℕ) → i + 4 ≤ w → word_at Little s (a + i) ≡ word_at Little t (b + i)
  word_alike i l = sym (word_part s a w i l) ∙ ap (λ (x : List ℕ). word_at Little x i) e ∙ word_part t b w i l

  span_alike : (i : ℕ) → i + 8 ≤ w → span_at s (a + i) ≡ span_at t (b + i)
  span_alike i l =
      let f : a + i + 4 ≡ a + (i + 4) = omega arith in
      let g : b + i + 4 ≡ b + (i + 4) = omega arith in
      rw (f, g, word_alike i (omega arith), word_alike (i + 4) (omega arith))

-- ---- connect rules

-- what the eight bytes of a connect rule say
pub record ConnectAlike (r q : PolicyRule) : Type 0 where
  pub context : r.context ≡ q.context
  pub verdict : r.verdict ≡ q.verdict
  pub matcher : r.matcher ≡ q.matcher
  pub reserved : r.reserved ≡ q.reserved
  pub id : r.id ≡ q.id

pub connect_alike : (s t : List ℕ) (a b : ℕ) → take 8 (drop a s) ≡ take 8 (drop b t) → ConnectAlike (rule_from s a) (rule_from t b)
connect_alike s t a b e =
    record {
      context = first_alike s t a b 8 e (omega arith);
      verdict = byte_alike s t a b 8 e 1 (omega arith);
      matcher = byte_alike s t a b 8 e 2 (omega arith);
      reserved = byte_alike s t a b 8 e 3 (omega arith);
      id = word_alike s t a b 8 e 4 (omega arith);
    }

-- ---- own rules

-- what the sixteen bytes of an own rule say
pub record OwnAlike (r q : PolicyRule) : Type 0 where
  pub context : r.context ≡ q.context
  pub verdict : r.verdict ≡ q.verdict
  pub matcher : r.matcher ≡ q.matcher
  pub reserved : r.reserved ≡ q.reserved
  pub subject : r.subject ≡ q.subject
  pub name : r.name ≡ q.name

pub own_alike : (s t : List ℕ) (a b : ℕ) → take 16 (drop a s) ≡ take 16 (drop b t) → OwnAlike (rule_from s a) (rule_from t b)
own_alike s t a b e =
    record {
      context = first_alike s t a b 16 e (omega arith);
      verdict = byte_alike s t a b 16 e 1 (omega arith);
      matcher = byte_alike s t a b 16 e 2 (omega arith);
      reserved = byte_alike s t a b 16 e 3 (omega arith);
      subject = word_alike s t a b 16 e 4 (omega arith);
      name = span_alike s t a b 16 e 8 (omega arith);
    }

-- the rule made exact, about the name in this string
abbrev pub exact_rule : PolicyRule → Span → PolicyRule
exact_rule r name =
    record {
      context = r.context;
      verdict = r.verdict;
      matcher = 1;
      direction = 1;
      reserved = r.reserved;
      type = r.type;
      id = r.id;
      subject = r.subject;
      name = name;
      path = r.path;
      interface = r.interface;
      member = r.member;
    }

-- the bytes of an exact rule say so
module _ (r : List ℕ) (o l : ℕ) (h : length r ≡ 16) (ho : o < 4294967296) (hl : l < 4294967296) where
  exact_says : OwnAlike (rule_from (exact r o l) 0) (exact_rule (rule_from r 0) (record { offset = o; len = l }))
  unfolding word_at word_bytes
  exact_says =
      let e = exact_is r o l (omega arith) in
      let p : word_at Little (exact r o l) 8 ≡ o = rw e (omega arith) in
      let q : word_at Little (exact r o l) 12 ≡ l = rw e (omega arith) in
      record {
        context = rw e;
        verdict = rw e;
        matcher = rw e;
        reserved = rw e;
        subject = rw e;
        name = λ i. record { offset = p i; len = q i };
      }

  pub exact_alike : (s t : List ℕ) (a b : ℕ) → take 16 (drop a s) ≡ exact r o l → r ≡ take 16 (drop b t)
      → OwnAlike (rule_from s a) (exact_rule (rule_from t b) (record { offset = o; len = l }))
  exact_alike s t a b e q =
      let x = exact r o l in
      let k = own_alike s x a 0 (e ∙ sym (take_all 16 x (omega (arith, exact_long r o l (omega arith))))) in
      let m = own_alike r t 0 b (take_all 16 r (omega arith) ∙ q) in
      let n = exact_says in
      record {
        context = k.context ∙ n.context ∙ m.context;
        verdict = k.verdict ∙ n.verdict ∙ m.verdict;
        matcher = k.matcher ∙ n.matcher;
        reserved = k.reserved ∙ n.reserved ∙ m.reserved;
        subject = k.subject ∙ n.subject ∙ m.subject;
        name = k.name ∙ n.name;
      }

-- ---- transaction rules

-- the forty bytes of a transaction rule say all of it
pub transaction_alike : (s t : List ℕ) (a b : ℕ) → take 40 (drop a s) ≡ take 40 (drop b t) → rule_from s a ≡ rule_from t b
transaction_alike s t a b e =
    let byte = byte_alike s t a b 40 e in
    let word = word_alike s t a b 40 e in
    let span = span_alike s t a b 40 e in
    let context = first_alike s t a b 40 e (omega arith) in
    let verdict = byte 1 (omega arith) in
    let matcher = byte 2 (omega arith) in
    let reserved = byte 3 (omega arith) in
    let subject = word 4 (omega arith) in
    let name = span 8 (omega arith) in
    let path = span 16 (omega arith) in
    let interface = span 24 (omega arith) in
    let member = span 32 (omega arith) in
    λ i. record {
      context = context i;
      verdict = verdict i;
      matcher = matcher i;
      direction = matcher i;
      reserved = reserved i;
      type = reserved i;
      id = subject i;
      subject = subject i;
      name = name i;
      path = path i;
      interface = interface i;
      member = member i;
    }

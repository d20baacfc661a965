-- What the tables are to hold for a byte: a law for each way through the code.
use Rattle.std.proofs.Common.{◌≡◌, refl, sym, ◌∙◌, Bool, true, false, not, ◌&&◌, ◌||◌, List, ◌∷◌, ℕ, ◌+◌, ◌-◌, ◌*◌, ◌≤◌, ◌<◌, min, arith, eqb, ltb}
use Rattle.std.proofs.Common.{length, drop, get_or, rules, eq-eqb, ne_eqb, eqb-true, ltb-true, ltb-false}
use mathlib.Core.Bool.{false≢true}
use mathlib.Core.Option.{none, some}
use native.Mathlib.Decide.{dec_le}
use borrow.Author.Tests.{not-true, not-false}
use Rattle.wire.specs.Bytes.{front}
use Rattle.wire.proofs.From.{next, past, first}
use Rattle.wire.proofs.Texts.{both_first, both_second}
use Rattle.signature.specs.Signature.{basic, closed_by, tuple, row}
use Rattle.types.specs.Letters.{opens, closes}
use Rattle.types.specs.Types.{behind}
use Rattle.types.specs.Promises.{EndAt, ClosedAt, EndsFrom, Opens, OpenedAt, ShutAt}
use Rattle.types.specs.Nest.{kept, fits, Nested, RowAt, NestAt, NestsFrom}
use Rattle.types.proofs.Letters.{opens_only, plain_closes, plain_opens, plain_array}
use Rattle.types.proofs.Behind.{close_last, open_one, array_on, letter_on}
use Rattle.types.proofs.Nesting.{begins, nothing, closing, Shut, tuple_begins, tuple_shut, nested_shut, nested_plain, nested_other, nested_array}
use Rattle.types.proofs.Nesting.{nested_entry, nested_entry_bad, nested_key, nested_tuple, nested_tuple_bad}

-- a type at i that ends at `to`
typed : {s : List ℕ} {i to n m : ℕ} → closes (get_or s i 0) ≡ false → EndAt s i to → Nested (drop i s) n m → NestAt s i to n m
typed c e t = record { type = λ d. e; run = λ d. absurd (false≢true (sym c ∙ d)); nest = t }

module _ {s : List ℕ} {i : ℕ} (h : i < length s) where
  letter_end : closes (get_or s i 0) ≡ false → opens (get_or s i 0) ≡ false → (get_or s i 0 ≡ 97 → ⊥) → EndAt s i (i + 1)
  letter_end c o n = record { is = sym (rw (next s i h) (letter_on (get_or s i 0) (drop (i + 1) s) c o n)); on = omega arith; high = omega arith }

  module _ {k : Bool} (e : k ≡ basic (get_or s i 0)) where
    pub plain : k || eqb (get_or s i 0) 118 ≡ true → NestAt s i (i + 1) 0 0
    plain p =
        let t : basic (get_or s i 0) || eqb (get_or s i 0) 118 ≡ true = rw e at p in
        let c : closes (get_or s i 0) ≡ false = plain_closes (get_or s i 0) t in
        typed c (letter_end c (plain_opens (get_or s i 0) t) (plain_array (get_or s i 0) t)) (rw (next s i h) (nested_plain t))

    pub other : k || eqb (get_or s i 0) 118 ≡ false → (get_or s i 0 ≡ 97 → ⊥) → opens (get_or s i 0) ≡ false → closes (get_or s i 0) ≡ false
        → NestAt s i (i + 1) 33 0
    other p n o c = typed c (letter_end c o n) (rw (next s i h) (nested_other (rw e at p) n (λ z. false≢true (sym o ∙ rw z))))

  pub closing_byte : closes (get_or s i 0) ≡ true → {r : ℕ} → ShutAt s (i + 1) r → NestAt s i r 33 0
  closing_byte c {r} t =
      record {
        type = λ d. absurd (false≢true (sym d ∙ c));
        run = λ d. record { on = omega (arith, t.low); high = t.high (omega arith); all = all; end = t.end };
        nest = nested_shut (rw (next s i h, c));
      }
    where
      all : (j : ℕ) → i ≤ j → j < r → closes (get_or s j 0) ≡ true
      all j l m = go (dec_le (i + 1) j)
        where
          go : Dec (i + 1 ≤ j) → closes (get_or s j 0) ≡ true
          go (yes k) = t.all j k m
          go (no k) = let z : i ≡ j = omega (arith, k) in rw z at c

pub ruleset letters = (plain, other, closing_byte, rules)

-- ---- an array

-- the entry of a type's first byte
pub read_end : {s ends : List ℕ} {from : ℕ} → EndsFrom s ends from → (k : ℕ) → from ≤ k → begins (drop k s) ≡ true
    → drop (get_or ends k 0) s ≡ behind 0 (drop k s)
read_end {s} {ends} t k l o = go (dec_le (length s) k)
  where
    go : Dec (length s ≤ k) → drop (get_or ends k 0) s ≡ behind 0 (drop k s)
    go (yes n) = absurd (false≢true (rw (past s k n) at o))
    go (no n) = let h : k < length s = omega (arith, n) in (t.types k l h (not-true (closes (get_or s k 0)) (rw (next s k h) at o))).is

module _ {s : List ℕ} {i : ℕ} (h : i < length s) (a : get_or s i 0 ≡ 97) where
  -- the `a` at i ends where the type behind it does
  array_is : {e n m : ℕ} → drop e s ≡ behind 0 (drop (i + 1) s) → i < e → e ≤ length s → Nested (97 ∷ drop (i + 1) s) n m → NestAt s i e n m
  array_is t l m q =
      typed (rw a) (record { is = t ∙ sym (rw (next s i h, a) (array_on 97 (drop (i + 1) s) refl refl refl)); on = l; high = m }) (rw (next s i h, a) q)

  pub array_last : length s ≤ i + 1 → NestAt s i (i + 1) 33 0
  unfolding behind
  array_last l = array_is (rw (past s (i + 1) l)) (omega arith) (omega arith) (rw (past s (i + 1) l) (nested_array refl (nested_shut refl)))

  module _ (l : i + 1 < length s) where
    pub array_closed : closes (get_or s (i + 1) 0) ≡ true → NestAt s i (i + 1) 33 0
    unfolding behind
    array_closed c =
        array_is (rw (next s (i + 1) l, behind, c)) (omega arith) (omega arith)
        (rw (next s (i + 1) l) (nested_array (ne_eqb (get_or s (i + 1) 0) 123 (λ z. false≢true (rw z at c))) (nested_shut (rw c))))

    module _ {ends arrays parens : List ℕ} (t : NestsFrom s ends arrays parens (i + 1)) {e : ℕ} (p : e ≡ get_or ends (i + 1) 0) where
      pub array : closes (get_or s (i + 1) 0) ≡ false → (get_or s (i + 1) 0 ≡ 123 → ⊥) → {n : ℕ} → n ≡ min (get_or arrays (i + 1) 0 + 1) 33
          → NestAt s i e n (get_or parens (i + 1) 0)
      array c b {n} q =
          let end : EndAt s (i + 1) e = rw p (t.table.types (i + 1) (omega arith) l c) in
          array_is end.is (omega (arith, end.on)) end.high
          (rw q (nested_array (rw (first s (i + 1)) (ne_eqb (get_or s (i + 1) 0) 123 b)) (t.each (i + 1) (omega arith) (omega (arith, t.few)))))

      -- of dict entries
      module _ (b : get_or s (i + 1) 0 ≡ 123) where
        entry_is : {n m : ℕ} → Nested (97 ∷ 123 ∷ drop (i + 2) s) n m → NestAt s i e n m
        entry_is q =
            let end : EndAt s (i + 1) e = rw p (t.table.types (i + 1) (omega arith) l (rw b)) in
            let z : i + 1 + 1 ≡ i + 2 = omega arith in
            array_is end.is (omega (arith, end.on)) end.high (rw (next s (i + 1) l, b, z) q)

        module _ {k : ℕ} (f : k ≡ front (drop (i + 2) s)) {x : Bool} (g : x ≡ basic k) where
          pub entry_key : not x ≡ true → NestAt s i e 33 0
          entry_key u = entry_is (nested_key (rw f at (sym g ∙ not-true x u)))

          module _ (u : not x ≡ false) where
            -- the key stands in s
            key_in : i + 2 < length s
            key_in = go (dec_le (length s) (i + 2))
              where
                go : Dec (length s ≤ i + 2) → i + 2 < length s
                go (yes n) = absurd (false≢true (sym (rw (f, past s (i + 2) n) at g) ∙ not-false x u))
                go (no n) = omega (arith, n)

            pub value_in : i + 3 < 256
            value_in = omega (arith, key_in, t.few)

            key_basic : basic (get_or s (i + 2) 0) ≡ true
            key_basic = rw (f, first s (i + 2)) at (sym g ∙ not-false x u)

            module _ {y : ℕ} (q : y ≡ get_or ends (i + 3) 0) {w : ℕ} (r : w ≡ front (drop y s)) where
              value_shut : (v : Bool) → eqb w 125 ≡ v → Shut (drop (i + 3) s) v
              value_shut v d o = rw (← read_end t.table (i + 3) (omega arith) o, ← q, ← r) d

              value : Nested (drop (i + 3) s) (get_or arrays (i + 3) 0) (get_or parens (i + 3) 0)
              value = t.each (i + 3) (omega arith) (omega (arith, t.few, key_in))

              key_next : drop (i + 2) s ≡ get_or s (i + 2) 0 ∷ drop (i + 3) s
              key_next = let z : i + 2 + 1 ≡ i + 3 = omega arith in rw (next s (i + 2) key_in, z)

              pub entry_bad : (w ≡ 125 → ⊥) → NestAt s i e 33 0
              entry_bad d = entry_is (rw key_next (nested_entry_bad key_basic value (value_shut false (ne_eqb w 125 d))))

              pub entry_good : w ≡ 125 → {n : ℕ} → n ≡ min (get_or arrays (i + 3) 0 + 1) 33 → NestAt s i e n (get_or parens (i + 3) 0)
              entry_good d v = entry_is (rw (key_next, v) (nested_entry key_basic value (value_shut true (eq-eqb w 125 d))))

pub ruleset arrayed = (array_last, array_closed, array, entry_key, value_in, entry_bad, entry_good, rules)

-- ---- a run of closing bytes

module _ {s : List ℕ} {i : ℕ} where
  pub run_past : length s ≤ i → ShutAt s i i
  run_past h =
      record {
        low = omega arith;
        high = λ l. l;
        all = λ j l m. absurd (omega arith);
        end = rw (← first s i, past s i h);
      }

  pub run_none : closes (get_or s i 0) ≡ false → ShutAt s i i
  run_none c = record { low = omega arith; high = λ l. l; all = λ j l m. absurd (omega arith); end = c }

  pub run_is : i < length s → closes (get_or s i 0) ≡ true → {ends : List ℕ} → EndsFrom s ends i → {r : ℕ} → r ≡ get_or ends i 0 → ShutAt s i r
  run_is h c {ends} t {r} e =
      let k : ClosedAt s i r = rw e (t.rows i (omega arith) h c) in
      record { low = omega (arith, k.on); high = λ l. k.high; all = k.all; end = k.end }

pub ruleset runs = (run_past, run_none, run_is, rules)

-- ---- opening bytes in a row

-- a byte more
opens_more : (s : List ℕ) (i j : ℕ) → Opens s i j → get_or s j 0 ≡ 40 → Opens s i (j + 1)
opens_more s i j o e k l m = go (dec_le j k)
  where
    go : Dec (j ≤ k) → opens (get_or s k 0) ≡ true
    go (yes n) = let z : k ≡ j = omega arith in rw (z, e)
    go (no n) = o k l (omega (arith, n))

-- a block, of which k bytes have been looked at
module _ (s : List ℕ) (at : ℕ) where
  pub block_begin : true ≡ true → Opens s at (at + 0)
  block_begin t j m n = absurd (omega arith)

  pub block_more : (k : ℕ) {good : Bool} → (good ≡ true → Opens s at (at + k)) → good && eqb (get_or s (at + k) 0) 40 ≡ true → Opens s at (at + (k + 1))
  block_more k {good} p t =
      let e : at + k + 1 ≡ at + (k + 1) = omega arith in
      rw e at (opens_more s at (at + k) (p (both_first good _ t)) (eqb-true (get_or s (at + k) 0) 40 (both_second good _ t)))

module _ {s : List ℕ} {i : ℕ} where
  pub opened_begin : OpenedAt s i i
  opened_begin = record { low = omega arith; high = λ l. l; all = λ j l m. absurd (omega arith) }

  pub opened_here : {j : ℕ} → OpenedAt s i j → OpenedAt s i j
  opened_here o = o

  pub opened_more : {j : ℕ} → OpenedAt s i j → j < length s → get_or s j 0 ≡ 40 → OpenedAt s i (j + 1)
  opened_more {j} o h e = record { low = omega (arith, o.low); high = λ l. omega arith; all = opens_more s i j o.all e }

  pub opened_block : {j : ℕ} → OpenedAt s i j → 8 ≤ length s - j → {r : Bool} → (r ≡ true → Opens s j (j + 8)) → not r ≡ false → OpenedAt s i (j + 8)
  opened_block {j} o h {r} w t = record { low = omega (arith, o.low); high = λ l. omega arith; all = all }
    where
      all : Opens s i (j + 8)
      all k l m = go (dec_le j k)
        where
          go : Dec (j ≤ k) → opens (get_or s k 0) ≡ true
          go (yes n) = w (not-false r t) k n m
          go (no n) = o.all k l (omega (arith, n))

pub ruleset opened = (block_begin, block_more, opened_begin, opened_here, opened_more, opened_block, rules)

-- ---- the end of a type, and the table from a later byte on

pub later : {s ends : List ℕ} → EndsFrom s ends 0 → {i : ℕ} → EndsFrom s ends i
later t =
    record { few = t.few; sized = t.sized; types = λ k l h c. t.types k (omega arith) h c; rows = λ k l h c. t.rows k (omega arith) h c }

pub end_read : {s ends : List ℕ} → EndsFrom s ends 0 → {i : ℕ} → i < length s → closes (get_or s i 0) ≡ false → {r : ℕ} → r ≡ get_or ends i 0 → EndAt s i r
end_read t {i} h c e = rw e (t.types i (omega arith) h c)

pub ruleset reading = (later, end_read, rules)

-- ---- brackets

module _ {s : List ℕ} {i e n m : ℕ} (w : RowAt s i e n m) where
  -- a row with a type, and its closing byte
  row_tuple : i < e → (f a p : ℕ) → 2 * length (drop i s) + 1 ≤ f → tuple (row f a p (drop i s)) ≡ kept (fits a p n m) (closed_by 41 true (drop e s))
  row_tuple l f a p k =
      let h : i < length s = omega (arith, w.high) in
      rw (tuple_begins f a p (drop i s) (rw (next s i h, w.first l)), w.is f a p k) (go (fits a p n m))
    where
      go : (x : Bool) → closing (kept x (some (drop e s))) ≡ kept x (closed_by 41 true (drop e s))
      go true = refl
      go false = refl

  row_none : e ≤ i → begins (drop i s) ≡ false
  row_none l = let z : i ≡ e = omega (arith, w.low) in rw z (go (dec_le (length s) e))
    where
      go : Dec (length s ≤ e) → begins (drop e s) ≡ false
      go (yes n) = rw (past s e n)
      go (no n) = let h : e < length s = omega (arith, n) in rw (next s e h, w.end h)

  row_bad : eqb (get_or s e 0) 41 && ltb i e ≡ false → (f a p : ℕ) → 2 * length (drop i s) + 1 ≤ f → tuple (row f a p (drop i s)) ≡ none
  unfolding closed_by
  row_bad q f a p k = go (ltb i e) refl
    where
      shut : (b : Bool) → b && true ≡ false → b ≡ false
      shut true c = c
      shut false c = c

      none_left : eqb (get_or s e 0) 41 ≡ false → Dec (length s ≤ e) → closed_by 41 true (drop e s) ≡ none
      none_left c (yes n) = rw (past s e n)
      none_left c (no n) = let h : e < length s = omega (arith, n) in rw (next s e h, c)

      go : (x : Bool) → ltb i e ≡ x → tuple (row f a p (drop i s)) ≡ none
      go true l = rw (row_tuple (ltb-true i e l) f a p k, none_left (shut (eqb (get_or s e 0) 41) (rw l at q)) (dec_le (length s) e)) (nothing (fits a p n m))
      go false l = tuple_shut f a p (drop i s) (row_none (omega (arith, ltb-false)))

module _ {s : List ℕ} {i : ℕ} (h : i < length s) (o : opens (get_or s i 0) ≡ true) {e n m : ℕ} (w : RowAt s (i + 1) e n m) where
  bracket_is : {to k l : ℕ} → drop to s ≡ behind 1 (drop e s) → i < to → to ≤ length s → Nested (drop i s) k l → NestAt s i to k l
  bracket_is t l g q =
      let c : closes (get_or s i 0) ≡ false = opens_only (get_or s i 0) o in
      typed c (record { is = t ∙ sym w.left ∙ sym (rw (next s i h) (open_one (get_or s i 0) (drop (i + 1) s) c o 0)); on = l; high = g }) q

  no_type : (eqb (get_or s i 0) 40 && eqb (get_or s e 0) 41) && ltb (i + 1) e ≡ false → Nested (drop i s) 33 0
  no_type q = go (eqb (get_or s i 0) 40) refl
    where
      go : (x : Bool) → eqb (get_or s i 0) 40 ≡ x → Nested (drop i s) 33 0
      go true b = rw (next s i h, eqb-true (get_or s i 0) 40 b) (nested_tuple_bad (row_bad w (rw b at q)))
      go false b = rw (next s i h, eqb-true (get_or s i 0) 123 (rw b at o)) (nested_other refl (λ z. omega (arith, z)) (λ z. omega (arith, z)))

  pub bracket_unshut : length s ≤ e → NestAt s i e 33 0
  unfolding behind
  bracket_unshut l =
      bracket_is (rw (past s e l)) (omega (arith, w.low)) w.high (no_type (rw (← first s e, past s e l) (unshut (eqb (get_or s i 0) 40) (ltb (i + 1) e))))
    where
      unshut : (x y : Bool) → (x && false) && y ≡ false
      unshut true y = refl
      unshut false y = refl

  module _ (l : e < length s) where
    shut_end : drop (e + 1) s ≡ behind 1 (drop e s)
    shut_end = sym (rw (next s e l) (close_last (get_or s e 0) (drop (e + 1) s) (w.end l)))

    pub bracket_bad : (eqb (get_or s i 0) 40 && eqb (get_or s e 0) 41) && ltb (i + 1) e ≡ false → NestAt s i (e + 1) 33 0
    bracket_bad q = bracket_is shut_end (omega (arith, w.low)) (omega arith) (no_type q)

    pub bracket_good : (eqb (get_or s i 0) 40 && eqb (get_or s e 0) 41) && ltb (i + 1) e ≡ true → {k : ℕ} → k ≡ min (m + 1) 33 → NestAt s i (e + 1) n k
    unfolding closed_by
    bracket_good q {k} g =
        let b : eqb (get_or s i 0) 40 && eqb (get_or s e 0) 41 ≡ true = both_first (eqb (get_or s i 0) 40 && eqb (get_or s e 0) 41) (ltb (i + 1) e) q in
        bracket_is shut_end (omega (arith, w.low)) (omega arith)
        (rw (next s i h, eqb-true (get_or s i 0) 40 (both_first (eqb (get_or s i 0) 40) (eqb (get_or s e 0) 41) b), g)
        (nested_tuple n m
        (λ f a p y.
        rw (row_tuple w (ltb-true (i + 1) e (both_second (eqb (get_or s i 0) 40 && eqb (get_or s e 0) 41) (ltb (i + 1) e) q)) f a p y, w.left, ← shut_end)
        (rw (next s e l, both_second (eqb (get_or s i 0) 40) (eqb (get_or s e 0) 41) b)))))

pub ruleset brackets = (bracket_unshut, bracket_bad, bracket_good, rules)

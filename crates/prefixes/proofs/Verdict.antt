-- For each listed name and every peer the new image gives the own verdict that the old one gave (rule 14.6): what becomes of a rule is a block of rules with its
-- context and verdict, and one of them matches exactly where the rule did.
use mathlib.Core.Path.{◌≡◌, refl, sym, ◌∙◌, ap}
use mathlib.Core.Logic.{⊎_elim}
use mathlib.Core.Bool.{Bool, true, false, not, ◌&&◌}
use mathlib.Core.List.{List, [], ◌∷◌}
use Prim.Native.Nat.{ℕ, zero, suc, ◌+◌, ◌-◌, ◌≤◌, ◌<◌}
use native.Mathlib.Nat.{eq-or-lt_of_le}
use native.Mathlib.Omega.{arith}
use lib.Dec.{eqb}
use lib.ListN.{length, get_or, take, drop, length-append, get_or-append}
use lib.Seq.{get_or-append-add}
use borrow.Author.Tests.{eqb-true}
use Rattle.wire.specs.Bytes.{same}
use Rattle.wire.specs.Lists.{any}
use Rattle.wire.proofs.Texts.{same_eq, same_refl, both_first, both_second, both_true, agree}
use Rattle.wire.proofs.Tests.{by_test}
use Rattle.names.specs.Namespace.{in_namespace}
use Rattle.image.specs.Image.{rule_count, rule_place, string_offset}
use Rattle.image.specs.Rules.{text_of, PolicyRule, policy_rule}
use Rattle.image.specs.Good.{is_prefix_rule}
use Rattle.image.specs.Promises.{GoodImage}
use Rattle.image.specs.declared.Section.TheVariants.{Own}
use Rattle.image.proofs.RuleHolds.{Inside, own_holds}
use Rattle.policy.specs.Subjects.{subject_fits}
use Rattle.policy.specs.Matching.{owned_fits, own_fits}
use Rattle.policy.specs.Decisions.{context_in, allows_in, decides_in, own_hits, own_decision, may_own}
use Rattle.policy.specs.declared.Uid.{Uid}
use Rattle.policy.proofs.Blocks.{some_of, Block, blocks_verdict}
use Rattle.prefixes.specs.Names.{listed, good_list}
use Rattle.prefixes.specs.Copies.{own_text, covers, covered, Copy, added, copies}
use Rattle.prefixes.specs.Converted.{own_bytes, exact, exacts, becomes, become_all, converted}
use Rattle.prefixes.proofs.Members.{Member, each_member, member_at, Stands, stands, any_member, passes_in, passed_of, mapped, mapped_of, CopyOf, copy_of, some_of_at, some_where}
use Rattle.prefixes.proofs.Fields.{OwnAlike, own_alike, exact_rule, exact_alike}
use Rattle.prefixes.proofs.Laid.{Small, own_long, new_long, owns_are, own_row}
use Rattle.prefixes.proofs.Texts.{copy_span, Added, text_kept, texts_added}

-- ---- where the rules of a block stand

module _ (image : List ℕ) (cs : List Copy) where
  -- how many rules become of the first i
  abbrev pub start : ℕ → ℕ
  start i = length (become_all image cs i)

  abbrev size : ℕ → ℕ
  size i = length (becomes image cs i)

  start_next : (i : ℕ) → start (suc i) ≡ start i + size i
  unfolding become_all
  start_next i = length-append (become_all image cs i) (becomes image cs i)

  start_rises : (i n : ℕ) → i < n → start i + size i ≤ start n
  start_rises i zero l = absurd (omega arith)
  start_rises i (suc n) l =
      ⊎_elim (λ (e : i ≡ n). rw e (omega (arith, start_next n))) (λ (k : i < n). omega (arith, start_rises i n k, start_next n)) (eq-or-lt_of_le (omega arith))

  -- rule k of block i
  block_row : (n i k : ℕ) → i < n → k < size i → get_or (become_all image cs n) (start i + k) [] ≡ get_or (becomes image cs i) k []
  unfolding become_all
  block_row zero i k l m = absurd (omega arith)
  block_row (suc n) i k l m =
      ⊎_elim
      (λ (e : i ≡ n). rw e (get_or-append-add (become_all image cs n) (becomes image cs n) k []))
      (λ (j : i < n).
      get_or-append (become_all image cs n) (becomes image cs n) [] (start i + k) (omega (arith, start_rises i n j)) ∙ block_row n i k j m)
      (eq-or-lt_of_le (omega arith))

-- ---- the rules of the new image, by the rules that they come from

module _ (image list : List ℕ) (g : GoodImage image) (s : Small image list) where
  abbrev new : List ℕ
  new = converted image list

  abbrev cs : List Copy
  cs = copies image list

  -- rule k of the block of own rule i, as the new image has it
  abbrev put : ℕ → ℕ → PolicyRule
  put i k = policy_rule Own new (start image cs i + k)

  module _ (i : ℕ) (l : i < rule_count Own image) where
    abbrev old : PolicyRule
    old = policy_rule Own image i

    row_is : (k : ℕ) → k < size image cs i → {r : List ℕ} → get_or (becomes image cs i) k [] ≡ r
        → take 16 (drop (rule_place Own new (start image cs i + k)) new) ≡ r
    row_is k m e =
        own_row image list g.header s (start image cs i + k) (omega (arith, start_rises image cs i (rule_count Own image) l))
        ∙ block_row image cs (rule_count Own image) i k l m
        ∙ e

    -- the rule itself
    kept_says : (k : ℕ) → k < size image cs i → get_or (becomes image cs i) k [] ≡ own_bytes image i → OwnAlike (put i k) old
    kept_says k m e = own_alike new image (rule_place Own new (start image cs i + k)) (rule_place Own image i) (row_is k m e)

    -- the exact rule of a copy
    exact_says : (k : ℕ) → k < size image cs i → (c : Copy) → Added image list c
        → get_or (becomes image cs i) k [] ≡ exact (own_bytes image i) c.offset (length c.name) → OwnAlike (put i k) (exact_rule old (copy_span c))
    exact_says k m c a e =
        let small : string_offset new + c.offset + length c.name ≤ 65536 = omega (arith, a.inside, new_long image list g.header, s.total) in
        exact_alike (own_bytes image i) c.offset (length c.name) (own_long image list g.header i l) (omega arith) (omega arith) new image
        (rule_place Own new (start image cs i + k)) (rule_place Own image i) (row_is k m e) refl

  -- ---- which rules match

  module _ (uid : Uid) (gids name : List ℕ) where
    -- a rule that stays matches as it did, since its string has the same bytes
    fits_kept : {a b : PolicyRule} → OwnAlike a b → Inside image b.name → own_fits new a uid gids name ≡ own_fits image b uid gids name
    unfolding own_fits owned_fits
    fits_kept {a} {b} q i = rw (q.context, q.subject, q.matcher, q.name, text_kept image list g.header s b.name i)

    -- an exact rule matches the name of its copy
    fits_exact : {a : PolicyRule} (b : PolicyRule) (c : Copy) → OwnAlike a (exact_rule b (copy_span c)) → Added image list c
        → own_fits new a uid gids name ≡ subject_fits b.context b.subject uid gids && same c.name name
    unfolding own_fits owned_fits
    fits_exact b c q t = rw (q.context, q.subject, q.matcher, q.name, t.text)

    fits_prefix : (b : PolicyRule) → is_prefix_rule b ≡ true
        → own_fits image b uid gids name ≡ subject_fits b.context b.subject uid gids && in_namespace (text_of image b.name) name
    unfolding own_fits owned_fits
    fits_prefix b e = rw (eqb-true b.matcher 2 e)

    -- ---- blocks

    abbrev IsBlock : ℕ → Type 0
    IsBlock =
        Block (context_in Own image) (context_in Own new) (own_hits image uid gids name) (own_hits new uid gids name) (allows_in Own image) (allows_in Own new)
        (start image cs)

    module _ (i : ℕ) (l : i < rule_count Own image) where
      abbrev hit : ℕ → Bool
      hit k = own_hits new uid gids name (start image cs i + k)

      -- a rule about no prefix
      module _ (e : is_prefix_rule (policy_rule Own image i) ≡ false) where
        itself : becomes image cs i ≡ own_bytes image i ∷ []
        unfolding becomes
        itself = rw e

        stays : (k : ℕ) → k < 1 → OwnAlike (put i k) (policy_rule Own image i)
        stays zero h = kept_says i l 0 (rw itself (omega arith)) (rw itself)
        stays (suc k) h = absurd (omega arith)

        one_rule : some_of hit 1 ≡ hit 0
        one_rule = go (hit 0)
          where
            go : (b : Bool) → not (true && not b) ≡ b
            go true = refl
            go false = refl

        kept_block : IsBlock i
        kept_block =
            record {
              size = 1;
              next = start_next image cs i ∙ rw itself;
              context = λ k h. (stays k h).context;
              verdict = λ k h. ap (λ (v : ℕ). eqb v 1) (stays k h).verdict;
              hits = one_rule ∙ fits_kept (stays 0 (omega arith)) (own_holds g i l).name;
            }

      -- a rule about a prefix, where the name is listed
      module _ (e : is_prefix_rule (policy_rule Own image i) ≡ true) (good : good_list list ≡ true) (is : Member name (listed list)) where
        abbrev prefix : List ℕ
        prefix = own_text image i

        abbrev rows : List (List ℕ)
        rows = exacts (own_bytes image i) prefix cs

        become : becomes image cs i ≡ rows
        unfolding becomes
        become = rw e

        -- rule k cites the copy
        record Cited (k : ℕ) (c : Copy) : Type 0 where
          pub added : Added image list c
          pub under : in_namespace prefix c.name ≡ true
          pub says : OwnAlike (put i k) (exact_rule (policy_rule Own image i) (copy_span c))

        cited_by : (k : ℕ) → k < length rows → (c : Copy) → Member c cs → in_namespace prefix c.name ≡ true
            → get_or rows k [] ≡ exact (own_bytes image i) c.offset (length c.name) → Cited k c
        cited_by k h c m u q =
            let a = each_member (Added image list) (texts_added image list g.header s good) m in
            record { added = a; under = u; says = exact_says i l k (rw become h) c a (rw become q) }

        cited : (k : ℕ) → k < length rows → (c : Copy) × Cited k c
        unfolding exacts
        cited k h =
            let f = mapped_of _ _ (member_at [] rows k h) in
            let p = passed_of (λ c. in_namespace prefix c.name) cs f.of in
            (f.from, cited_by k h f.from p.of p.is f.is)

        abbrev fits : Bool
        fits = subject_fits (policy_rule Own image i).context (policy_rule Own image i).subject uid gids

        -- a rule of the block that matches is about the name, which the prefix covers
        hit_covered : some_of hit (length rows) ≡ true → own_hits image uid gids name i ≡ true
        hit_covered t =
            let w = some_where hit (length rows) t in
            let c = (cited w.at w.inside).0 in
            let q = (cited w.at w.inside).1 in
            let b = sym (fits_exact (policy_rule Own image i) c q.says q.added) ∙ w.is in
            let n : c.name ≡ name = same_eq c.name name (both_second fits (same c.name name) b) in
            fits_prefix (policy_rule Own image i) e
            ∙ both_true fits (in_namespace prefix name) (both_first fits (same c.name name) b) (ap (in_namespace prefix) (sym n) ∙ q.under)

        -- where the prefix covers the name, the block has the exact rule of its copy
        row_hit : (c : Copy) → Member c cs → c.name ≡ name → fits ≡ true → in_namespace prefix c.name ≡ true
            → Stands [] (exact (own_bytes image i) c.offset (length c.name)) rows → some_of hit (length rows) ≡ true
        row_hit c m n f u k =
            let q = cited_by k.at k.inside c m u k.is in
            some_of_at hit (length rows) k.at k.inside
            (fits_exact (policy_rule Own image i) c q.says q.added ∙ both_true fits (same c.name name) f (rw n (same_refl name)))

        copy_hit : CopyOf name cs → fits ≡ true → in_namespace prefix name ≡ true → some_of hit (length rows) ≡ true
        unfolding exacts
        copy_hit w f u =
            let c = w.copy in
            let v : in_namespace prefix c.name ≡ true = ap (in_namespace prefix) w.is ∙ u in
            row_hit c w.of w.is f v
            (stands [] (mapped (λ d. exact (own_bytes image i) d.offset (length d.name)) (passes_in (λ d. in_namespace prefix d.name) w.of v)))

        covered_hit : own_hits image uid gids name i ≡ true → some_of hit (length rows) ≡ true
        unfolding covered added
        covered_hit t =
            let b = sym (fits_prefix (policy_rule Own image i) e) ∙ t in
            let u = both_second fits (in_namespace prefix name) b in
            copy_hit
            (copy_of (length image - string_offset image)
            (passes_in (covered image) is (some_of_at (λ j. covers image j name) (rule_count Own image) i l (both_true _ _ e u))))
            (both_first fits (in_namespace prefix name) b) u

        exact_block : IsBlock i
        exact_block =
            record {
              size = length rows;
              next = start_next image cs i ∙ rw become;
              context = λ k h. (cited k h).1.says.context;
              verdict = λ k h. ap (λ (v : ℕ). eqb v 1) (cited k h).1.says.verdict;
              hits = agree _ _ hit_covered covered_hit;
            }

    -- for each listed name the verdict is what it was
    module _ (good : good_list list ≡ true) where
      pub own_same : any (same name) (listed list) ≡ true → may_own new uid gids name ≡ may_own image uid gids name
      unfolding own_decision decides_in become_all
      own_same is =
          let m = any_member name (listed list) is in
          rw (owns_are image list g.header s)
          (sym
          (blocks_verdict (context_in Own image) (context_in Own new) (own_hits image uid gids name) (own_hits new uid gids name) (allows_in Own image)
          (allows_in Own new) (start image cs) refl (rule_count Own image)
          (λ i l. by_test (is_prefix_rule (policy_rule Own image i)) (λ e. exact_block i l e good m) (λ e. kept_block i l e))))

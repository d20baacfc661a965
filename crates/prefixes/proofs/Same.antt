-- An image without prefix rules is converted to itself, whatever the list is.
use mathlib.Core.Path.{◌≡◌, refl, sym, ap, ◌∙◌}
use mathlib.Core.Bool.{Bool, true, false, cond, not, ◌&&◌}
use mathlib.Core.List.{List, [], ◌∷◌, ◌++◌, append_assoc, append-nil}
use Prim.Native.Nat.{ℕ, zero, suc, ◌+◌, ◌-◌, ◌*◌, ◌≤◌, ◌<◌}
use native.Mathlib.Omega.{arith}
use lib.ListN.{length, take, drop, length-append, length-drop, take-append-drop}
use lib.Seq.{drop-drop, take-add}
use borrow.Author.Tests.{not-true}
use Rattle.wire.specs.Bytes.{Below}
use Rattle.wire.specs.Words.{word_at, word_bytes}
use Rattle.wire.specs.declared.Order.TheVariants.{Little}
use Rattle.wire.proofs.Below.{below_at, below_all}
use Rattle.names.specs.Namespace.{in_namespace}
use Rattle.tables.specs.Tables.{cells}
use Rattle.tables.proofs.Cells.{cells_append}
use Rattle.tables.proofs.Words.{word_cut, word_front, bytes_drop}
use Rattle.image.specs.Image.{sections_at, total_length, rule_count, rule_offset, rule_size, string_offset}
use Rattle.image.specs.Rules.{policy_rule}
use Rattle.image.specs.Good.{is_prefix_rule, no_prefix, without_prefixes, good_image}
use Rattle.image.specs.Promises.{GoodImageHeader}
use Rattle.image.specs.declared.Section.TheVariants.{Connect, Own, Transaction}
use Rattle.image.proofs.Holds.{image_holds}
use Rattle.prefixes.specs.Names.{listed}
use Rattle.prefixes.specs.Copies.{passing, own_text, covers, covered, added, Copy, copies}
use Rattle.prefixes.specs.Converted.{own_bytes, exacts, becomes, become_all, new_owns, joined, new_transactions, new_strings, new_length, new_header}
use Rattle.prefixes.specs.Converted.{connect_bytes, behind_owns, converted}

-- nothing passes where each fails
passing_none : {A : Type 0} (t : A → Bool) → ((x : A) → t x ≡ false) → (xs : List A) → passing t xs ≡ []
unfolding passing
passing_none t f [] = refl
passing_none t f (x ∷ xs) = rw (f x) (passing_none t f xs)

-- bytes from a place on begin with the number there
next_word : (s : List ℕ) (a : ℕ) → Below 256 s → a + 4 ≤ length s → drop a s ≡ word_bytes (word_at Little s a) ++ drop (a + 4) s
next_word s a b h =
    word_cut (drop a s) (omega (arith, length-drop a s)) (bytes_drop a s b)
    ∙ rw (word_front s a, drop-drop 4 a s)

-- the n numbers from a on
words_from : List ℕ → ℕ → ℕ → List ℕ
words_from s a zero = []
words_from s a (suc n) = word_at Little s a ∷ words_from s (a + 4) n

words_cut : (s : List ℕ) → Below 256 s → (n a : ℕ) → a + 4 * n ≤ length s → cells word_bytes (words_from s a n) ++ drop (a + 4 * n) s ≡ drop a s
unfolding cells words_from
words_cut s b zero a h = let e : a + 4 * 0 ≡ a = omega arith in rw e
words_cut s b (suc n) a h =
    let e : a + 4 * suc n ≡ a + 4 + 4 * n = omega arith in
    let c = cells word_bytes (words_from s (a + 4) n) in
    rw (e, append_assoc (word_bytes (word_at Little s a)) c (drop (a + 4 + 4 * n) s), words_cut s b n (a + 4) (omega arith))
    (sym (next_word s a b (omega arith)))

module _ (image : List ℕ) (w : without_prefixes image ≡ true) where
  -- no own rule is about a prefix
  no_prefix_lem : (i : ℕ) → i < rule_count Own image → is_prefix_rule (policy_rule Own image i) ≡ false
  unfolding without_prefixes
  no_prefix_lem i l = not-true (is_prefix_rule (policy_rule Own image i)) (below_at (no_prefix image) (rule_count Own image) w i l)

  -- so no name is covered, and none is added
  uncovered : (name : List ℕ) → covered image name ≡ false
  unfolding covered
  uncovered name =
      ap not (below_all (λ i. not (covers image i name)) (rule_count Own image)
      (λ i l. ap (λ (b : Bool). not (b && in_namespace (own_text image i) name)) (no_prefix_lem i l)))

  none_added : (list : List ℕ) → joined (added image list) ≡ []
  unfolding added cells
  none_added list = ap joined (passing_none (covered image) uncovered (listed list))

  -- each own rule becomes itself
  module _ (cs : List Copy) where
    itself : (i : ℕ) → i < rule_count Own image → becomes image cs i ≡ own_bytes image i ∷ []
    unfolding becomes
    itself i l = ap (λ (b : Bool). cond b (exacts (own_bytes image i) (own_text image i) cs) (own_bytes image i ∷ [])) (no_prefix_lem i l)

    as_many : (n : ℕ) → n ≤ rule_count Own image → length (become_all image cs n) ≡ n
    unfolding become_all
    as_many zero h = refl
    as_many (suc n) h =
        length-append (become_all image cs n) (becomes image cs n) ∙ omega (arith, as_many n (omega arith), ap length (itself n (omega arith)))

    -- and they stand as they stood
    themselves : (n : ℕ) → n ≤ rule_count Own image → joined (become_all image cs n) ≡ take (rule_size Own * n) (drop (rule_offset Own image) image)
    unfolding become_all cells
    themselves zero h = refl
    themselves (suc n) h =
        let e : 16 * suc n ≡ 16 * n + 16 = omega arith in
        let d = drop (rule_offset Own image) image in
        cells_append (λ part. part) (become_all image cs n) (becomes image cs n)
        ∙ rw (
          themselves n (omega arith),
          itself n (omega arith),
          append-nil (own_bytes image n),
          e,
          take-add (16 * n) 16 d,
          drop-drop (16 * n) (rule_offset Own image) image,
        )

  module _ (list : List ℕ) (h : GoodImageHeader image) (b : Below 256 image) where
    same_owns : length (new_owns image list) ≡ rule_count Own image
    same_owns = as_many (copies image list) (rule_count Own image) (omega arith)

    same_transactions : new_transactions image list ≡ rule_offset Transaction image
    same_transactions = omega (arith, same_owns)

    same_strings : new_strings image list ≡ string_offset image
    same_strings = omega (arith, same_transactions)

    same_length : new_length image list ≡ total_length image
    same_length = omega (arith, same_strings, ap length (none_added list))

    -- the header is the old one
    same_header : cells word_bytes (new_header image list) ++ drop sections_at image ≡ image
    unfolding words_from
    same_header =
        let e : new_header image list ≡ words_from image 0 8
        = λ i. same_length i
        ∷ rule_count Connect image
        ∷ rule_offset Connect image
        ∷ same_owns i
        ∷ rule_offset Own image
        ∷ rule_count Transaction image
        ∷ same_transactions i
        ∷ same_strings i
        ∷ [] in
        ap (λ (ws : List ℕ). cells word_bytes ws ++ drop sections_at image) e ∙ words_cut image b 8 0 (omega arith)

    -- what stands from the own rules on
    same_rules : joined (new_owns image list) ++ (behind_owns image ++ joined (added image list)) ≡ drop (rule_offset Own image) image
    same_rules =
        let n = rule_size Own * rule_count Own image in
        let d = drop (rule_offset Own image) image in
        rw (none_added list, append-nil (behind_owns image), themselves (copies image list) (rule_count Own image) (omega arith), h.transactions_at)
        (ap (λ (x : List ℕ). take n d ++ x) (sym (drop-drop n (rule_offset Own image) image)) ∙ take-append-drop n d)

    same_image : converted image list ≡ image
    unfolding converted
    same_image =
        let n = rule_offset Own image - sections_at in
        let d = drop sections_at image in
        let e : sections_at + n ≡ rule_offset Own image = omega arith in
        let q : connect_bytes image ++ drop (rule_offset Own image) image ≡ d
        = ap (λ (x : List ℕ). connect_bytes image ++ x) (sym (drop-drop n sections_at image ∙ ap (λ (k : ℕ). drop k image) e)) ∙ take-append-drop n d in
        ap (λ (x : List ℕ). cells word_bytes (new_header image list) ++ (connect_bytes image ++ x)) same_rules
        ∙ ap (λ (x : List ℕ). cells word_bytes (new_header image list) ++ x) q
        ∙ same_header

-- ---- the claim

pub nothing_to_retire : (image list : List ℕ) → good_image image ≡ true → without_prefixes image ≡ true → Below 256 image → converted image list ≡ image
nothing_to_retire image list g w b = same_image image w list (image_holds image g).header b

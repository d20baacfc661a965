-- Words one behind the other, read off an argument.
use Rattle.std.proofs.Common.{◌≡◌, refl, ap, ◌∙◌, List, [], ◌∷◌, ◌++◌, ℕ, zero, suc, ◌+◌, ◌-◌, ◌*◌, ◌/◌, ◌≤◌, min, ◌<◌, arith, add-one, length, take, drop, set, length-set, take-suc-set, rules}
use Rattle.wire.specs.Bytes.{Below}
use Rattle.wire.specs.Words.{word_at}
use Rattle.wire.specs.declared.Order.TheVariants.{Little}
use Rattle.wire.proofs.Words.{word_drop}
use Rattle.tables.proofs.Words.{bytes_drop, word_fits}
use Rattle.calls.specs.Script.{words}
use Rattle.calls.specs.Steps.{GidsIn}

pub words_length : (n : ℕ) (s : List ℕ) → length (words n s) ≡ n
unfolding words
words_length zero s = refl
words_length (suc n) s = ap suc (words_length n (drop 4 s))

pub words_below : (n : ℕ) (s : List ℕ) → Below 256 s → Below 4294967296 (words n s)
unfolding words
words_below zero s f i = omega arith
words_below (suc n) s f zero = word_fits s 0 f
words_below (suc n) s f (suc i) = words_below n (drop 4 s) (bytes_drop 4 s f) i

-- one more
words_next : (k : ℕ) (s : List ℕ) → words (suc k) s ≡ words k s ++ (word_at Little s (4 * k) ∷ [])
unfolding words
words_next zero s = refl
words_next (suc k) s =
    let e : 4 + 4 * k ≡ 4 * suc k = omega arith in
    ap (λ (l : List ℕ). word_at Little s 0 ∷ l) (words_next k (drop 4 s) ∙ rw (word_drop Little s 4 (4 * k), e))

pub record Gathering (a : List ℕ) (count : ℕ) (list : List ℕ) (k : ℕ) : Type 0 where
  pub few : count ≤ 17
  pub sized : length list ≡ 17
  pub room : 4 + 4 * count ≤ length a
  pub inside : k ≤ count
  pub counted : count ≡ min ((length a - 4) / 4) 17
  pub left : take k list ≡ words k (drop 4 a)

pub gathering_begins : (a list : List ℕ) (count : ℕ) → 4 ≤ length a → count ≡ min ((length a - 4) / 4) 17 → length list ≡ 17 → Gathering a count list 0
unfolding words
gathering_begins a list count h c l =
    record { few = omega arith; sized = l; room = omega arith; inside = omega arith; counted = c; left = refl }

-- the two numbers may be asked for in either order
pub either_order : (c a b : ℕ) → c ≡ min b a → c ≡ min a b
either_order c a b e = omega arith

module _ {a : List ℕ} {count : ℕ} {list : List ℕ} {k : ℕ} (g : Gathering a count list k) where
  pub gathering_more : k < count → {x : ℕ} → x ≡ word_at Little a (4 + 4 * k) → Gathering a count (set list k x) (k + 1)
  gathering_more h {x} e =
      let s : length list ≡ 17 = g.sized in
      let f : count ≤ 17 = g.few in
      record {
        few = f;
        sized = length-set list k x ∙ s;
        room = g.room;
        inside = omega arith;
        counted = g.counted;
        left = rw (add-one, take-suc-set list k x (omega arith), words_next k (drop 4 a), word_drop Little a 4 (4 * k), ← e, g.left);
      }

  pub gathering_ends : count ≤ k → GidsIn a (record { list = list; count = count })
  gathering_ends h = let i : k ≤ count = g.inside in let e : k ≡ count = omega arith in record { few = g.few; count = g.counted; are = rw e at g.left }

pub ruleset gathering = (gathering_begins, either_order, gathering_more, gathering_ends, rules)

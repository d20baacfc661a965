-- The entries of a script: their lengths, and the layout to its end.
use Rattle.std.proofs.Common.{◌≡◌, refl, sym, ap, ◌∙◌, Bool, true, false, not, ◌&&◌, List, [], ◌∷◌, ℕ, zero, suc, ◌+◌, ◌-◌, ◌%◌, ◌≤◌, ◌<◌, arith, eqb, leb, ltb, length, take, drop, length-drop, rules, eq-eqb, ne_eqb, lt-ltb, le-ltb, eqb-true, ltb-true, ltb-false, leb-true, Option, Some, None, is_some, unwrap_or, ◌⊎◌, inl, inr}
use mathlib.Core.Bool.{false≢true}
use borrow.Author.Tests.{eqb-false, not-true, not-false}
use Rattle.wire.specs.Words.{word_at}
use Rattle.wire.specs.declared.Order.TheVariants.{Little}
use Rattle.wire.proofs.Texts.{both_first}
use Rattle.wire.proofs.Words.{rest_at}
use Rattle.wire.proofs.Tests.{by_test}
use Rattle.book.specs.Lists.{Call}
use Rattle.calls.specs.Script.{entry_kind, size_of, argument_of, well_sized, entry_size, layout, script_calls, call_of}
use Rattle.calls.specs.declared.Kind.{Kind}
use Rattle.calls.specs.declared.Kind.TheVariants as kind
use Rattle.calls.specs.declared.Entry.{Entry}
use Rattle.calls.specs.Steps.{kind_word, FirstEntry, Counted}

-- ---- the length that a kind may have

module _ (k : Kind) (n : ℕ) where
  pub sized_start : k ≡ kind.Start → eqb n 0 ≡ well_sized (kind_word k) n
  unfolding well_sized
  sized_start e = rw e refl

  pub sized_connect : k ≡ kind.Connect → leb 4 n && eqb (n % 4) 0 ≡ well_sized (kind_word k) n
  unfolding well_sized
  sized_connect e = rw e refl

  sized_own : k ≡ kind.Own → leb 4 n ≡ well_sized (kind_word k) n
  unfolding well_sized
  sized_own e = rw e refl

  sized_release : k ≡ kind.Release → leb 4 n ≡ well_sized (kind_word k) n
  unfolding well_sized
  sized_release e = rw e refl

  sized_piece : k ≡ kind.Piece → leb 4 n ≡ well_sized (kind_word k) n
  unfolding well_sized
  sized_piece e = rw e refl

  pub sized_peer : (k ≡ kind.Own) ⊎ ((k ≡ kind.Release) ⊎ (k ≡ kind.Piece)) → leb 4 n ≡ well_sized (kind_word k) n
  sized_peer (inl e) = sized_own e
  sized_peer (inr (inl e)) = sized_release e
  sized_peer (inr (inr e)) = sized_piece e

  pub sized_leave : k ≡ kind.Disconnect → eqb n 4 ≡ well_sized (kind_word k) n
  unfolding well_sized
  sized_leave e = rw e refl

  pub sized_tick : k ≡ kind.Tick → eqb n 16 ≡ well_sized (kind_word k) n
  unfolding well_sized
  sized_tick e = rw e refl

  -- all but a start begin with a word
  module _ (w : well_sized (kind_word k) n ≡ true) where
    pub connect_long : k ≡ kind.Connect → 4 ≤ n
    connect_long e = leb-true 4 n (both_first (leb 4 n) (eqb (n % 4) 0) (sized_connect e ∙ w))

    pub own_long : k ≡ kind.Own → 4 ≤ n
    own_long e = leb-true 4 n (sized_own e ∙ w)

    pub release_long : k ≡ kind.Release → 4 ≤ n
    release_long e = leb-true 4 n (sized_release e ∙ w)

    pub piece_long : k ≡ kind.Piece → 4 ≤ n
    piece_long e = leb-true 4 n (sized_piece e ∙ w)

    pub leave_long : k ≡ kind.Disconnect → 4 ≤ n
    leave_long e = let f = eqb-true n 4 (sized_leave e ∙ w) in omega arith

    pub tick_words : k ≡ kind.Tick → n ≡ 16
    tick_words e = eqb-true n 16 (sized_tick e ∙ w)

pub ruleset kinds = (sized_start, sized_connect, sized_peer, sized_leave, sized_tick, rules)

-- no kind has a word above 6
sized_above : (k n : ℕ) → 6 < k → well_sized k n ≡ false
unfolding well_sized
sized_above k n h =
    rw (
      ne_eqb k 0 (λ e. omega arith),
      ne_eqb k 1 (λ e. omega arith),
      ne_eqb k 6 (λ e. omega arith),
      ne_eqb k 5 (λ e. omega arith),
      le-ltb k 5 (omega arith),
    )

-- ---- the first entry

pub size_short : (s : List ℕ) → length s < 8 → entry_size s ≡ 0
unfolding entry_size
size_short s h = rw (lt-ltb (length s) 8 h)

module _ (s : List ℕ) (h : 8 ≤ length s) where
  pub size_bad : well_sized (entry_kind s) (size_of s) ≡ false → entry_size s ≡ 0
  unfolding entry_size
  size_bad w = rw (le-ltb (length s) 8 h, w)

  pub size_unknown : (w : ℕ) → w ≡ word_at Little s 0 → 6 < w → entry_size s ≡ 0
  size_unknown w e l = size_bad (rw e at (sized_above w (size_of s) l))

  module _ (k : Kind) (n w : ℕ) (p : w ≡ word_at Little s 0) (q : n ≡ word_at Little s 4) (o : kind_word k ≡ w) (b : Bool) (e : b ≡ well_sized (kind_word k) n) where
    pub size_untaken : not b ≡ true → entry_size s ≡ 0
    size_untaken t = size_bad (rw (← q, ← p, ← o) (sym e ∙ not-true b t))

    module _ (t : not b ≡ false) where
      well : well_sized (entry_kind s) (size_of s) ≡ true
      well = rw (← q, ← p, ← o) (sym e ∙ not-false b t)

      pub size_cut : length s - 8 < n → entry_size s ≡ 0
      unfolding entry_size
      size_cut l = let x : ltb (length s - 8) (size_of s) ≡ true = rw (← q) (lt-ltb (length s - 8) n l) in rw (le-ltb (length s) 8 h, well, x)

      pub size_good : n ≤ length s - 8 → FirstEntry s (record { kind = k; argument = n })
      size_good l = record { kind = o ∙ p; argument = q; inside = omega arith; sized = sym e ∙ not-false b t }

pub ruleset sizes = (size_short, size_unknown, size_untaken, size_cut, size_good, rules)

-- how many bytes the entry takes
module _ {s : List ℕ} {x : Entry} (f : FirstEntry s x) where
  pub size_is : 8 + x.argument ≡ entry_size s
  unfolding entry_size
  size_is =
      let i : 8 + x.argument ≤ length s = f.inside in
      let w : well_sized (entry_kind s) (size_of s) ≡ true = rw (f.kind, f.argument) at f.sized in
      let z : ltb (length s - 8) (size_of s) ≡ false = rw (← f.argument) (le-ltb (length s - 8) x.argument (omega arith)) in
      rw (le-ltb (length s) 8 (omega arith), w, z, ← f.argument) refl

  pub size_some : entry_size s ≡ 0 → ⊥
  size_some e = let g : 8 + x.argument ≡ 0 = size_is ∙ e in omega arith

  pub size_any : 0 < length s
  size_any = let i : 8 + x.argument ≤ length s = f.inside in omega arith

  -- what is left behind it, as the code cuts it
  pub behind : take (length s - (8 + x.argument)) (drop (8 + x.argument) s) ≡ drop (entry_size s) s
  behind = rest_at (8 + x.argument) s ∙ rw size_is

-- ---- one entry on

pub layout_step : (f : ℕ) (s : List ℕ) → 0 < length s → (entry_size s ≡ 0 → ⊥) → layout (suc f) s ≡ layout f (drop (entry_size s) s)
unfolding layout
layout_step f s h k = rw (layout, ne_eqb (length s) 0 (λ e. omega arith), ne_eqb (entry_size s) 0 k)

pub layout_stuck : (f : ℕ) (s : List ℕ) → 0 < length s → entry_size s ≡ 0 → layout f s ≡ false
unfolding layout
layout_stuck zero s h k = ne_eqb (length s) 0 (λ e. omega arith)
layout_stuck (suc f) s h k = rw (layout, ne_eqb (length s) 0 (λ e. omega arith), eq-eqb (entry_size s) 0 k)

pub layout_end : (f : ℕ) (s : List ℕ) → length s ≤ 0 → layout f s ≡ true
unfolding layout
layout_end zero s h = eq-eqb (length s) 0 (omega arith)
layout_end (suc f) s h = let e : length s ≡ 0 = omega arith in rw (layout, eq-eqb (length s) 0 e)

pub calls_step : (image : List ℕ) (f : ℕ) (s : List ℕ) → 0 < length s
    → script_calls image (suc f) s ≡ call_of image (entry_kind s) (argument_of s) ∷ script_calls image f (drop (entry_size s) s)
unfolding script_calls
calls_step image f s h = rw (script_calls, ne_eqb (length s) 0 (λ e. omega arith))

pub calls_end : (image : List ℕ) (f : ℕ) (s : List ℕ) → length s ≤ 0 → script_calls image f s ≡ []
unfolding script_calls
calls_end image zero s h = refl
calls_end image (suc f) s h = let e : length s ≡ 0 = omega arith in rw (script_calls, eq-eqb (length s) 0 e)

-- a layout that holds has an entry in front
pub front_entry : (f : ℕ) (s : List ℕ) → 0 < length s → layout f s ≡ true → entry_size s ≡ 0 → ⊥
front_entry f s h w e = false≢true (sym (layout_stuck f s h e) ∙ w)

-- ---- more than a script's length changes neither its layout nor its calls

pub layout_any : (f g : ℕ) (s : List ℕ) → length s ≤ f → length s ≤ g → layout f s ≡ layout g s
layout_any zero g s h k = layout_end zero s h ∙ sym (layout_end g s (omega arith))
layout_any (suc f) zero s h k = layout_end (suc f) s k ∙ sym (layout_end zero s k)
layout_any (suc f) (suc g) s h k =
    by_test (ltb 0 (length s))
    (λ p. let l = ltb-true 0 (length s) p in
    by_test (eqb (entry_size s) 0)
    (λ q. let z = eqb-true (entry_size s) 0 q in layout_stuck (suc f) s l z ∙ sym (layout_stuck (suc g) s l z))
    (λ q. let n = eqb-false (entry_size s) 0 q in
    let d : length (drop (entry_size s) s) ≡ length s - entry_size s = length-drop (entry_size s) s in
    layout_step f s l n ∙ layout_any f g (drop (entry_size s) s) (omega arith) (omega arith) ∙ sym (layout_step g s l n)))
    (λ p. let l = ltb-false 0 (length s) p in layout_end (suc f) s l ∙ sym (layout_end (suc g) s l))

pub calls_any : (image : List ℕ) (f g : ℕ) (s : List ℕ) → length s ≤ f → length s ≤ g → layout f s ≡ true → script_calls image f s ≡ script_calls image g s
calls_any image zero g s h k w = calls_end image zero s h ∙ sym (calls_end image g s (omega arith))
calls_any image (suc f) zero s h k w = calls_end image (suc f) s k ∙ sym (calls_end image zero s k)
calls_any image (suc f) (suc g) s h k w =
    by_test (ltb 0 (length s))
    (λ p. let l = ltb-true 0 (length s) p in
    let n = front_entry (suc f) s l w in
    let d : length (drop (entry_size s) s) ≡ length s - entry_size s = length-drop (entry_size s) s in
    calls_step image f s l
    ∙ ap (λ (v : List Call). call_of image (entry_kind s) (argument_of s) ∷ v)
    (calls_any image f g (drop (entry_size s) s) (omega arith) (omega arith) (sym (layout_step f s l n) ∙ w))
    ∙ sym (calls_step image g s l))
    (λ p. let l = ltb-false 0 (length s) p in calls_end image (suc f) s l ∙ sym (calls_end image (suc g) s l))

-- one entry on, each with its own length
module _ (s : List ℕ) (h : 0 < length s) where
  abbrev rest : List ℕ
  rest = drop (entry_size s) s

  pub layout_next : (entry_size s ≡ 0 → ⊥) → layout (length s) s ≡ layout (length rest) rest
  layout_next n =
      let d : length rest ≡ length s - entry_size s = length-drop (entry_size s) s in
      layout_any (length s) (suc (length s)) s (omega arith) (omega arith) ∙ layout_step (length s) s h n
      ∙ layout_any (length s) (length rest) rest (omega arith) (omega arith)

  pub calls_next : (image : List ℕ) → layout (length s) s ≡ true
      → script_calls image (length s) s ≡ call_of image (entry_kind s) (argument_of s) ∷ script_calls image (length rest) rest
  calls_next image w =
      let d : length rest ≡ length s - entry_size s = length-drop (entry_size s) s in
      let e = layout_any (length rest) (length s) rest (omega arith) (omega arith) in
      calls_any image (length s) (suc (length s)) s (omega arith) (omega arith) w ∙ calls_step image (length s) s h
      ∙ ap (◌∷◌ (call_of image (entry_kind s) (argument_of s)))
      (calls_any image (length s) (length rest) rest (omega arith) (omega arith) (sym e ∙ sym (layout_next (front_entry (length s) s h w)) ∙ w))

-- ---- the count

pub record Counting (s rest : List ℕ) (n : ℕ) : Type 0 where
  pub few : n + length rest ≤ length s
  pub same : layout (length s) s ≡ layout (length rest) rest
  pub many : layout (length rest) rest ≡ true → (image : List ℕ)
      → length (script_calls image (length s) s) ≡ n + length (script_calls image (length rest) rest)

pub counting_begins : (s : List ℕ) → Counting s s 0
counting_begins s = record { few = omega arith; same = refl; many = λ w image. omega arith }

module _ {s rest : List ℕ} {n : ℕ} (c : Counting s rest n) where
  pub counting_more : {x : Entry} → FirstEntry rest x → {k : ℕ} → k ≡ 8 + x.argument → Counting s (take (length rest - k) (drop k rest)) (n + 1)
  counting_more {x} z q =
      let h = size_any z in
      let l = layout_next rest h (size_some z) in
      let i : 8 + x.argument ≤ length rest = z.inside in
      rw (q, behind z)
      (record {
        few = omega (arith, c.few, size_is z, length-drop (entry_size rest) rest);
        same = c.same ∙ l;
        many = λ w image. c.many (l ∙ w) image ∙ omega (arith, ap length (calls_next rest h image (l ∙ w)));
      })

  pub counting_broken : entry_size rest ≡ 0 → 0 < length rest → Counted s None
  counting_broken e h =
      record { whole = sym (c.same ∙ layout_stuck (length rest) rest h e); many = λ k q. absurd (false≢true (ap is_some q)) }

  pub counting_ends : length rest ≡ 0 → Counted s (Some n)
  counting_ends h =
      let w = layout_end (length rest) rest (omega arith) in
      record {
        whole = sym (c.same ∙ w);
        many = λ k q image. c.many w image ∙ omega (arith, ap length (calls_end image (length rest) rest (omega arith)), ap (λ (o : Option ℕ). unwrap_or o 0) q);
      }

-- A piece offered whole or in parts: the same verdicts in the same order, the same bytes afterwards, and so the same answers to whatever calls follow; and
-- so with ticks between the parts (rule 12.2).
use mathlib.Core.Path.{◌≡◌, refl, sym, ap, ap₂, ◌∙◌, subst}
use mathlib.Core.Bool.{true, false, cond, false≢true}
use mathlib.Core.List.{List, [], ◌∷◌, ◌++◌, map, append-nil}
use Prim.Native.Nat.{ℕ, zero, suc, ◌+◌, ◌<◌}
use native.Mathlib.Omega.{arith}
use lib.Dec.{eqb}
use lib.ListN.{length, drop}
use lib.Seq.{get_or-drop}
use Rattle.wire.specs.Bytes.{Below}
use Rattle.image.specs.Good.{image_answer}
use Rattle.stream.specs.Tail.{Tail, tails}
use Rattle.rules.specs.State.{State}
use Rattle.rules.specs.Calls.{Step, stays, empty, piece, tick, no_piece, no_tick}
use Rattle.rules.specs.declared.Judgement.{Judgement}
use Rattle.rules.specs.declared.Taken.{Taken}
use Rattle.rules.specs.declared.Ticked.{Ticked}
use Rattle.wire.proofs.Tests.{choice, by_test}
use Rattle.rules.proofs.View.{chosen}
use Rattle.rules.specs.View.{seen}
use Rattle.memory.specs.Layout.{memory_length}
use Rattle.memory.specs.Encoding.{memory_of, state_of}
use Rattle.memory.specs.Good.{good}
use Rattle.memory.specs.Sound.{Sound}
use Rattle.memory.specs.Calls.{MemoryStep, Did, stored, unchanged, piece_on, tick_on}
use Rattle.memory.proofs.Good.{good_is, good_sound}
use Rattle.memory.proofs.Octets.{every_below}
use Rattle.sound.proofs.Keep.{piece_sound, tick_sound}
use Rattle.book.specs.Book.{tail_view}
use Rattle.book.specs.Lists.{Call, starts, offers, Answer, plain, connected, owned, taken, gone, ticked, under_image, after, Ran, ran_start, ran_connect}
use Rattle.book.specs.Lists.{ran_own, ran_release, ran_piece, ran_leave, ran_tick, Run, done, then}
use Rattle.rules.specs.Places.{is_stop}
use Rattle.book.specs.Split.{said, Offers, ends, again, OffersAll, nothing, next, joined_pieces}
use Rattle.book.specs.Split.{Cutting, Alike, same_bytes, same_tick, FitsCutting, Heard, verdict, report, OffersCut, all_offered, then_tick}
use Rattle.book.proofs.Images.{Refusal, image_refuses}
use Rattle.book.proofs.List.{on_memory_lem, on_image_lem, started}
use Rattle.book.proofs.Bytewise.{Offering, Refuses, Laws, idle_refuses, refuses, bytewise, bytewise_none, bytewise_append, call_first, call_last}
use Rattle.book.proofs.Ways.{step_of, piece_laws}

-- ---- bytes of parts

below_left : (p q : List ℕ) → Below 256 (p ++ q) → Below 256 p
below_left [] q h i = omega arith
below_left (x ∷ p) q h zero = h 0
below_left (x ∷ p) q h (suc i) = below_left p q (λ j. h (suc j)) i

below_right : (p q : List ℕ) → Below 256 (p ++ q) → Below 256 q
below_right [] q h = h
below_right (x ∷ p) q h = below_right p q (λ j. h (suc j))

pub below_drop : (k : ℕ) (p : List ℕ) → Below 256 p → Below 256 (drop k p)
below_drop k p h i = rw (get_or-drop k p i 0) (h (k + i))

-- ---- memory of which something is known: it is the bytes of a sound state, or it is not good; no bytes are neither

pub data Known (m : List ℕ) : Type 0 where
  known_sound : (s : State Tail) → Sound s → m ≡ memory_of s → Known m
  known_bad : good m ≡ false → Known m

pub known : (m : List ℕ) → Below 256 m → Known m
known m b = by_test (good m) (λ g. known_sound (state_of m) (good_sound m b g) (sym (good_is m b g))) known_bad

-- ---- the guard's step, under any image

module _ (image : List ℕ) (n : ℕ) where
  abbrev refused : State Tail → List ℕ → Step Tail Taken
  refused s p = stays s (no_piece (image_answer image))

  -- the image's answer before all else
  unfoldable pub step : State Tail → List ℕ → Step Tail Taken
  step = cond (eqb (image_answer image) 0) (step_of tails (λ t. refl) image n) refused

  no_verdict : {a : ℕ} → Refusal a → said (no_piece a) ≡ []
  no_verdict r = rw r.silent

  bad_refuses : eqb (image_answer image) 0 ≡ false → (s : State Tail) → Refuses refused s
  bad_refuses e s = record { answer = image_answer image; silent = no_verdict (image_refuses image e); refused = λ p. refl }

  bad_laws : eqb (image_answer image) 0 ≡ false → Laws refused
  bad_laws e = record { idle = λ s. idle_refuses (bad_refuses e s); way = λ s b p. refuses (bad_refuses e s) }

  laws : Laws step
  unfolding step
  laws = choice Laws (eqb (image_answer image) 0) _ _ (λ e. piece_laws tails (λ t. refl) image n) bad_laws

  pub step_is : (s : State Tail) (p : List ℕ) → step s p ≡ under_image no_piece image s (piece tails image s n p)
  unfolding step
  step_is s p = sym (chosen (λ (k : State Tail → List ℕ → Step Tail Taken). k s p) (eqb (image_answer image) 0) _ _ _ _ refl refl)

  module _ (s : State Tail) (g : Sound s) (p : List ℕ) where
    pub piece_on_lem : piece_on image (memory_of s) n p ≡ stored (step s p)
    unfolding piece_on
    piece_on_lem = on_image_lem s g no_piece (λ z. piece tails image z n p) image ∙ ap stored (sym (step_is s p))

    pub step_sound : Below 256 p → Sound (step s p).state
    step_sound b =
        rw (step_is s p)
        (choice (λ (z : Step Tail Taken). Sound z.state) (eqb (image_answer image) 0) _ _ (λ e. piece_sound s g p (every_below 256 p b) image n) (λ e. g))

    -- what a call with the bytes of s gives
    called : {m e : List ℕ} {r : Taken} → m ≡ memory_of s → Did (piece_on image m n p) r e → (r ≡ (step s p).result) × (e ≡ memory_of (step s p).state)
    called q d =
        let w = ap (λ (x : List ℕ). piece_on image x n p) q ∙ piece_on_lem in
        (d.result ∙ ap (λ (x : MemoryStep Taken). x.result) w, d.memory ∙ ap (λ (x : MemoryStep Taken). x.memory) w)

  -- ---- what the calls of an offering come to, from the bytes of a sound state

  record Comes (vs : List Judgement) (e : List ℕ) (a : Offering Tail) : Type 0 where
    said : vs ≡ a.said
    bytes : e ≡ memory_of a.state
    sound : Sound a.state

  comes : {e m p : List ℕ} {vs : List Judgement} (s : State Tail) → Sound s → Below 256 p → m ≡ memory_of s → Offers image n e m p vs
      → Comes vs e (bytewise step s p)
  comes s g b q (ends {p = p} d o) =
      let c = called s g p q d in
      rw (call_last step laws s p (rw c.0 at o)) (record { said = ap said c.0; bytes = c.1; sound = step_sound s g p b })
  comes s g b q (again {p = p} {r = r} {vs = vs} d o rest) =
      let c = called s g p q d in
      let i = comes (step s p).state (step_sound s g p b) (below_drop r.taken p b) c.1 rest in
      let j : Comes vs _ (bytewise step (step s p).state (drop (step s p).result.taken p)) = rw c.0 at i in
      rw (call_first step laws s p)
      (record { said = ap₂ (λ (x : Taken) (l : List Judgement). said x ++ l) c.0 j.said; bytes = j.bytes; sound = j.sound })

  comes_all : {m e : List ℕ} {ps : List (List ℕ)} {vs : List Judgement} (s : State Tail) → Sound s → Below 256 (joined_pieces ps) → m ≡ memory_of s
      → OffersAll image n m e ps vs
      → Comes vs e (bytewise step s (joined_pieces ps))
  comes_all s g b q nothing = rw (bytewise_none step s) (record { said = refl; bytes = q; sound = g })
  comes_all s g b q (next {p = p} {ps = ps} o os) =
      let a = comes s g (below_left p (joined_pieces ps) b) q o in
      let z = comes_all (bytewise step s p).state a.sound (below_right p (joined_pieces ps) b) a.bytes os in
      rw (bytewise_append step s p (joined_pieces ps)) (record { said = ap₂ ◌++◌ a.said z.said; bytes = z.bytes; sound = z.sound })

  -- ---- memory that is not good is refused, and left as it is

  piece_bad : (m p : List ℕ) → good m ≡ false → (a : ℕ) × (is_stop a ≡ true) × (said (no_piece a) ≡ []) × (piece_on image m n p ≡ unchanged m (no_piece a))
  unfolding piece_on
  piece_bad m p g =
      rw g
      (choice (λ (o : MemoryStep Taken). (a : ℕ) × (is_stop a ≡ true) × (said (no_piece a) ≡ []) × (o ≡ unchanged m (no_piece a))) (eqb (image_answer image) 0) _ _
      (λ e. (51, refl, refl, refl)) (λ e. let f = image_refuses image e in (image_answer image, f.stops, no_verdict f, refl)))

  bad : {e m p : List ℕ} {vs : List Judgement} → good m ≡ false → Offers image n e m p vs → (vs ≡ []) × (e ≡ m)
  bad g (ends {m = m} {p = p} d o) =
      let w = piece_bad m p g in
      (ap said (d.result ∙ ap (λ (x : MemoryStep Taken). x.result) w.3) ∙ w.2, d.memory ∙ ap (λ (x : MemoryStep Taken). x.memory) w.3)
  bad g (again {m = m} {p = p} {r = r} d o rest) =
      let w = piece_bad m p g in
      let c : r ≡ no_piece w.0 = d.result ∙ ap (λ (x : MemoryStep Taken). x.result) w.3 in
      absurd (false≢true (rw (c, w.1) at o))

  bad_all : {m e : List ℕ} {ps : List (List ℕ)} {vs : List Judgement} → good m ≡ false → OffersAll image n m e ps vs → (vs ≡ []) × (e ≡ m)
  bad_all g nothing = (refl, refl)
  bad_all g (next o os) =
      let a = bad g o in
      let z = bad_all (rw a.1 g) os in
      (ap₂ ◌++◌ a.0 z.0, z.1 ∙ a.1)

  -- from the bytes of a sound state
  sound_split : {m e d : List ℕ} {ps : List (List ℕ)} {vs ws : List Judgement} (s : State Tail) → Sound s → m ≡ memory_of s → Below 256 (joined_pieces ps)
      → Offers image n e m (joined_pieces ps) vs
      → OffersAll image n m d ps ws
      → (vs ≡ ws) × (e ≡ d)
  sound_split s g q b o os =
      let a = comes s g b q o in
      let z = comes_all s g b q os in
      (a.said ∙ sym z.said, a.bytes ∙ sym z.bytes)

  -- the same bytes in parts, cut in two ways, over memory of which something is known; and so much is known of what they leave
  parts_alike : {m e d : List ℕ} {ps qs : List (List ℕ)} {vs ws : List Judgement} → Known m → Below 256 (joined_pieces ps) → joined_pieces ps ≡ joined_pieces qs
      → OffersAll image n m e ps vs
      → OffersAll image n m d qs ws
      → (vs ≡ ws) × (e ≡ d) × Known e
  parts_alike {ps = ps} (known_sound s g q) b j o os =
      let a = comes_all s g b q o in
      let z = rw (← j) at (comes_all s g (rw (← j) b) q os) in
      (a.said ∙ sym z.said, a.bytes ∙ sym z.bytes, known_sound (bytewise step s (joined_pieces ps)).state a.sound a.bytes)
  parts_alike (known_bad g) b j o os =
      let a = bad_all g o in
      let z = bad_all g os in
      (a.0 ∙ sym z.0, a.1 ∙ sym z.1, known_bad (rw a.1 g))

  -- THE CLAIM: over any memory, good or not, and any image
  pub split_claim : {m e d : List ℕ} {ps : List (List ℕ)} {vs ws : List Judgement} → Below 256 m → Below 256 (joined_pieces ps)
      → Offers image n e m (joined_pieces ps) vs
      → OffersAll image n m d ps ws
      → (vs ≡ ws) × (e ≡ d)
  split_claim {m} bm b o os =
      by_test (good m) (λ g. sound_split (state_of m) (good_sound m bm g) (sym (good_is m bm g)) b o os)
      (λ g. let a = bad g o in let z = bad_all g os in (a.0 ∙ sym z.0, a.1 ∙ sym z.1))

-- ---- ticks between the parts

known_tick : {m e : List ℕ} {r : Ticked} (now limit : ℕ) → Known m → now < 18446744073709551616 → Did (tick_on m now limit) r e → Known e
unfolding tick_on
known_tick now limit (known_sound s g q) h d =
    let w = ap (λ (x : List ℕ). tick_on x now limit) q ∙ on_memory_lem s g no_tick (λ z. tick z now limit) in
    known_sound (tick s now limit).state (tick_sound s g now limit h) (d.memory ∙ ap (λ (x : MemoryStep Ticked). x.memory) w)
known_tick now limit (known_bad g) h d = known_bad (rw (rw g at d.memory) g)

cuttings : {m e d : List ℕ} {b c : Cutting} {xs ys : List Heard} (image : List ℕ) (n : ℕ) → Known m → FitsCutting b → Alike b c
    → OffersCut image n m e b xs
    → OffersCut image n m d c ys
    → (xs ≡ ys) × (e ≡ d)
cuttings image n k f (same_bytes j) (all_offered o) (all_offered os) =
    let a = parts_alike image n k f j o os in
    (ap (map verdict) a.0, a.1)
cuttings {d = e₂} image n k f (same_tick {now = now} {limit = limit} {d = c} j l) (then_tick o t rest) (then_tick {k = k₂} {r = r₂} {hs = ys} os u more) =
    let a = parts_alike image n k f.0 j o os in
    let v : Did (tick_on _ now limit) r₂ k₂ = rw (← a.1) at u in
    let z = cuttings image n (known_tick now limit a.2 f.1 t) f.2 l rest
    (subst (λ (x : List ℕ). OffersCut image n x e₂ c ys) (v.memory ∙ sym t.memory) more) in
    (ap₂ ◌++◌ (ap (map verdict) a.0) (ap₂ (λ (x : Ticked) (y : List Heard). report x ∷ y) (t.result ∙ sym v.result) z.0), z.1)

-- THE CLAIM with ticks: over any memory of bytes and any image. Where only the cuts differ, what is heard is the same in the same order, ticks' reports too,
-- and the same bytes are left.
pub ticks_alike : {m e d : List ℕ} {b c : Cutting} {xs ys : List Heard} (image : List ℕ) (n : ℕ) → Below 256 m → FitsCutting b → Alike b c
    → OffersCut image n m e b xs
    → OffersCut image n m d c ys
    → (xs ≡ ys) × (e ≡ d)
ticks_alike {m} image n bm f l o os = cuttings image n (known m bm) f l o os

-- ---- the same calls from the same memory give the same

same_ran : {m d e : List ℕ} {c : Call} {x y : Answer} → Ran m d c x → Ran m e c y → (x ≡ y) × (d ≡ e)
same_ran (ran_start d) (ran_start e) = (ap plain (d.result ∙ sym e.result), d.memory ∙ sym e.memory)
same_ran (ran_connect u w d) (ran_connect v z e) = (ap connected (d.result ∙ sym e.result), d.memory ∙ sym e.memory)
same_ran (ran_own d) (ran_own e) = (ap owned (d.result ∙ sym e.result), d.memory ∙ sym e.memory)
same_ran (ran_release d) (ran_release e) = (ap plain (d.result ∙ sym e.result), d.memory ∙ sym e.memory)
same_ran (ran_piece w d) (ran_piece z e) = (ap taken (d.result ∙ sym e.result), d.memory ∙ sym e.memory)
same_ran (ran_leave d) (ran_leave e) = (ap gone (d.result ∙ sym e.result), d.memory ∙ sym e.memory)
same_ran (ran_tick u d) (ran_tick v e) = (ap ticked (d.result ∙ sym e.result), d.memory ∙ sym e.memory)

pub same_run : {m d e : List ℕ} {cs : List Call} {xs ys : List Answer} → Run m cs xs d → Run m cs ys e → (xs ≡ ys) × (d ≡ e)
same_run done done = (refl, refl)
same_run (then {cs = cs} r rs) (then {e = e} {rest = ys} t ts) =
    let a = same_ran r t in
    let z = same_run rs (subst (λ (x : List ℕ). Run x cs ys e) (sym a.1) ts) in
    (ap₂ ◌∷◌ a.0 z.0, z.1)

-- THE CLAIM over lists: two lists alike but for one piece, offered whole in one and in consecutive parts in the other, over any two memories. All calls
-- answer alike, the verdicts are the same in the same order, and the same bytes are left.
pub lists_alike : {m k d₁ d₂ e₁ e₂ f₁ f₂ : List ℕ} {before later : List Call} {as₁ as₂ bs₁ bs₂ : List Answer} {ps : List (List ℕ)} {vs ws : List Judgement}
    (image : List ℕ) (n : ℕ) → Below 256 (joined_pieces ps) → length m ≡ memory_length → length k ≡ memory_length
    → Run m (starts ∷ before) as₁ d₁ → Offers image n e₁ d₁ (joined_pieces ps) vs → Run e₁ later bs₁ f₁
    → Run k (starts ∷ before) as₂ d₂ → OffersAll image n d₂ e₂ ps ws → Run e₂ later bs₂ f₂
    → (as₁ ≡ as₂) × (vs ≡ ws) × (bs₁ ≡ bs₂) × (f₁ ≡ f₂)
lists_alike {e₂ = e₂} {f₂ = f₂} {later = later} {bs₂ = bs₂} {ps = ps} {ws = ws} image n w l₁ l₂ r₁ o t₁ r₂ os t₂ =
    let a = started empty l₁ r₁ in
    let z = started empty l₂ r₂ in
    let q = z.holds.bytes ∙ sym a.holds.bytes in
    let h = a.holds in
    let s = sound_split image n (seen tail_view (after empty (starts ∷ _))) h.sound h.bytes w o
    (subst (λ (x : List ℕ). OffersAll image n x e₂ ps ws) q os) in
    let u = same_run t₁ (subst (λ (x : List ℕ). Run x later bs₂ f₂) (sym s.1) t₂) in
    (a.answered ∙ sym z.answered, s.0, u.0, u.1)

-- ---- an offering is a list of calls

-- the verdicts among answers
abbrev pub verdicts : List Answer → List Judgement
verdicts [] = []
verdicts (plain a ∷ l) = verdicts l
verdicts (connected r ∷ l) = verdicts l
verdicts (owned r ∷ l) = verdicts l
verdicts (taken r ∷ l) = said r ++ verdicts l
verdicts (gone r ∷ l) = verdicts l
verdicts (ticked r ∷ l) = verdicts l

pub record Listed (image : List ℕ) (n : ℕ) (e m : List ℕ) (vs : List Judgement) : Type 0 where
  pub pieces : List (List ℕ)
  pub given : List Answer
  pub ran : Run m (map (offers image n) pieces) given e
  pub heard : verdicts given ≡ vs

pub offering_listed : {image : List ℕ} {n : ℕ} {e m p : List ℕ} {vs : List Judgement} → Below 256 p → Offers image n e m p vs → Listed image n e m vs
offering_listed b (ends {p = p} {r = r} d o) =
    record { pieces = p ∷ []; given = taken r ∷ []; ran = then (ran_piece b d) done; heard = append-nil (said r) }
offering_listed b (again {p = p} {r = r} d o rest) =
    let i = offering_listed (below_drop r.taken p b) rest in
    record { pieces = p ∷ i.pieces; given = taken r ∷ i.given; ran = then (ran_piece b d) i.ran; heard = ap (◌++◌ (said r)) i.heard }

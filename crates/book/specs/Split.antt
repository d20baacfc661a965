-- A piece offered to a peer: call after call, each with what the last has left; and pieces with ticks between them (rules 9.5 and 12.2).
use Rattle.std.specs.Prelude.{Bool, true, false, cond, ◌&&◌, ◌||◌, List, [], ◌∷◌, ◌++◌, map, ◌≡◌, ℕ, ◌<◌, leb, drop}
use Rattle.wire.specs.Bytes.{Below}
use Rattle.rules.specs.declared.Judgement.{Judgement}
use Rattle.rules.specs.declared.Taken.{Taken}
use Rattle.rules.specs.declared.Ticked.{Ticked}
use Rattle.rules.specs.Places.{goes_on}
use Rattle.memory.specs.Calls.{Did, piece_on, tick_on}

-- an answer that is a verdict on a message; 10 says that none is due yet, and 30 to 51 refuse the call (rule 12.2)
abbrev pub is_verdict : ℕ → Bool
is_verdict a = leb a 9 || (leb 20 a && leb a 26)

-- the verdict that a call says, if it says one: its number and its receiver (rule 12.2)
abbrev pub said : Taken → List Judgement
said r = cond (is_verdict r.judgement.answer) (r.judgement ∷ []) []

-- the calls of an offering of a piece from memory m to memory e, with the verdicts in order; each call is as its `ensures` says (rules 9.5 and 12.2)
pub data Offers (image : List ℕ) (n : ℕ) (e : List ℕ) : List ℕ → List ℕ → List Judgement → Type 0 where
  ends : {m p : List ℕ} {r : Taken} → Did (piece_on image m n p) r e → goes_on r p ≡ false → Offers image n e m p (said r)
  again : {m d p : List ℕ} {r : Taken} {vs : List Judgement}
      → Did (piece_on image m n p) r d
      → goes_on r p ≡ true
      → Offers image n e d (drop r.taken p) vs
      → Offers image n e m p (said r ++ vs)

-- several pieces offered one after the other, with no other call between (rule 12.2)
pub data OffersAll (image : List ℕ) (n : ℕ) : List ℕ → List ℕ → List (List ℕ) → List Judgement → Type 0 where
  nothing : {m : List ℕ} → OffersAll image n m m [] []
  next : {m d e p : List ℕ} {ps : List (List ℕ)} {vs ws : List Judgement}
      → Offers image n d m p vs
      → OffersAll image n d e ps ws
      → OffersAll image n m e (p ∷ ps) (vs ++ ws)

-- the pieces as one
abbrev pub joined_pieces : List (List ℕ) → List ℕ
joined_pieces [] = []
joined_pieces (p ∷ ps) = p ++ joined_pieces ps

-- ---- with ticks between pieces (rule 12.2)

-- pieces one after the other; or some, then a tick with its limit, and what comes behind it
pub data Cutting : Type 0 where
  pieces : List (List ℕ) → Cutting
  ticking : List (List ℕ) → ℕ → ℕ → Cutting → Cutting

-- the same bytes up to each tick and behind the last, and the same ticks: only the cuts differ
pub data Alike : Cutting → Cutting → Type 0 where
  same_bytes : {ps qs : List (List ℕ)} → joined_pieces ps ≡ joined_pieces qs → Alike (pieces ps) (pieces qs)
  same_tick : {ps qs : List (List ℕ)} {now limit : ℕ} {c d : Cutting} → joined_pieces ps ≡ joined_pieces qs
      → Alike c d
      → Alike (ticking ps now limit c) (ticking qs now limit d)

-- bytes are bytes, and ticks are of 64 bits
abbrev pub FitsCutting : Cutting → Type 0
FitsCutting (pieces ps) = Below 256 (joined_pieces ps)
FitsCutting (ticking ps now limit c) = Below 256 (joined_pieces ps) × (now < 18446744073709551616) × FitsCutting c

-- what is heard: the verdict on a message, or a tick's report
pub data Heard : Type 0 where
  verdict : Judgement → Heard
  report : Ticked → Heard

-- pieces offered and ticks made one after the other, with no other call between, from memory m to memory e, and what is heard in order; each call is as its
-- `ensures` says
pub data OffersCut (image : List ℕ) (n : ℕ) : List ℕ → List ℕ → Cutting → List Heard → Type 0 where
  all_offered : {m e : List ℕ} {ps : List (List ℕ)} {vs : List Judgement} → OffersAll image n m e ps vs → OffersCut image n m e (pieces ps) (map verdict vs)
  then_tick : {m d k e : List ℕ} {ps : List (List ℕ)} {vs : List Judgement} {now limit : ℕ} {r : Ticked} {c : Cutting} {hs : List Heard}
      → OffersAll image n m d ps vs
      → Did (tick_on d now limit) r k
      → OffersCut image n k e c hs
      → OffersCut image n m e (ticking ps now limit c) (map verdict vs ++ (report r ∷ hs))

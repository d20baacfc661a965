-- A script: calls in order, each a kind and a length, little-endian words, and that many bytes. 0 starts; 1 connects with a uid and gids; 2 owns and 3
-- releases, 4 offers a piece, each with a peer's number and the name or the bytes; 5 disconnects a peer; 6 is a tick with its limit, two numbers of eight bytes
-- (rule 12.3).
use Rattle.std.specs.Prelude.{Bool, true, false, cond, ◌&&◌, List, [], ◌∷◌, ℕ, zero, suc, ◌+◌, ◌-◌, ◌/◌, ◌%◌, eqb, leb, ltb, length, take, drop}
use Rattle.std.proofs.Math.Option.{Option, none, some}
use Rattle.wire.specs.Words.{word_at, long_at}
use Rattle.wire.specs.declared.Order.TheVariants.{Little}
use Rattle.book.specs.Lists.{Call, starts, connects, claims, releases, offers, leaves, ticks}

-- ---- the first entry

abbrev pub entry_kind : List ℕ → ℕ
entry_kind s = word_at Little s 0

abbrev pub size_of : List ℕ → ℕ
size_of s = word_at Little s 4

abbrev pub argument_of : List ℕ → List ℕ
argument_of s = take (size_of s) (drop 8 s)

-- the lengths that a kind may have: a start nothing, a connect whole words and one at least, a tick four words, a disconnect one, the others begin with one
-- (rule 12.3)
unfoldable pub well_sized : ℕ → ℕ → Bool
well_sized kind n =
    cond (eqb kind 0) (eqb n 0)
    (cond (eqb kind 1) (leb 4 n && eqb (n % 4) 0)
    (cond (eqb kind 6) (eqb n 16)
    (cond (eqb kind 5) (eqb n 4) (ltb kind 5 && leb 4 n))))

-- how many bytes the entry takes; 0 where it is none (rule 12.3)
unfoldable pub entry_size : List ℕ → ℕ
entry_size s =
    cond (ltb (length s) 8) 0 (cond (well_sized (entry_kind s) (size_of s)) (cond (ltb (length s - 8) (size_of s)) 0 (8 + size_of s)) 0)

-- ---- its call

-- the first n words
unfoldable pub words : ℕ → List ℕ → List ℕ
words zero s = []
words (suc n) s = word_at Little s 0 ∷ words n (drop 4 s)

-- the words behind the first
abbrev pub gids_of : List ℕ → List ℕ
gids_of a = words ((length a - 4) / 4) (drop 4 a)

-- what follows a peer's number
unfoldable pub peer_call : List ℕ → ℕ → ℕ → List ℕ → Call
peer_call image kind n rest =
    cond (eqb kind 2) (claims image n rest) (cond (eqb kind 3) (releases n rest) (offers image n rest))

-- the call of a kind and an argument (rule 12.3)
unfoldable pub call_of : List ℕ → ℕ → List ℕ → Call
call_of image kind a =
    cond (eqb kind 0) starts
    (cond (eqb kind 1) (connects image (word_at Little a 0) (gids_of a))
    (cond (eqb kind 6) (ticks (long_at a 0) (long_at a 8))
    (cond (eqb kind 5) (leaves (word_at Little a 0)) (peer_call image kind (word_at Little a 0) (drop 4 a)))))

-- ---- all entries; n is the script's length, or more

-- one entry stands behind the other up to the very end
unfoldable pub layout : ℕ → List ℕ → Bool
layout zero s = eqb (length s) 0
layout (suc n) s =
    elim (eqb (length s) 0) [ true ↦ true | false ↦ elim (eqb (entry_size s) 0) [ true ↦ false | false ↦ layout n (drop (entry_size s) s) ] ]

unfoldable pub script_calls : List ℕ → ℕ → List ℕ → List Call
script_calls image zero s = []
script_calls image (suc n) s =
    elim (eqb (length s) 0) [ true ↦ [] | false ↦ call_of image (entry_kind s) (argument_of s) ∷ script_calls image n (drop (entry_size s) s) ]

-- the calls of a script under one image; none where its layout is broken (rule 12.3)
unfoldable pub decode : List ℕ → List ℕ → Option (List Call)
decode image s = cond (layout (length s) s) (some (script_calls image (length s) s)) none

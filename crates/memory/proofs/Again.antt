-- What the tables of a good slot hold is read back from their bytes.
use mathlib.Core.Bool.{Bool, true, not, ◌&&◌}
use mathlib.Core.List.{List, [], ◌∷◌, ◌++◌, map, append-nil}
use mathlib.Core.Path.{◌≡◌, refl, sym, ap, ap₂, ◌∙◌}
use Prim.Native.Nat.{ℕ, ◌≤◌, ◌<◌}
use native.Mathlib.Omega.{arith}
use lib.Dec.{leb}
use lib.ListN.{length, drop}
use lib.Seq.{take_at, drop_at, drop-drop}
use borrow.Author.Tests.{ltb-true, leb-true}
use Rattle.wire.specs.Lists.{every, any}
use Rattle.wire.specs.Bytes.{same}
use Rattle.wire.specs.Words.{word_at, long_at, word_bytes, long_bytes}
use Rattle.wire.specs.declared.Order.TheVariants.{Little}
use Rattle.wire.proofs.Words.{word_length, word_again}
use Rattle.wire.proofs.Longs.{long_front, long_again}
use Rattle.tables.proofs.Words.{word_front}
use Rattle.wire.proofs.Texts.{both, both_first, both_second}
use Rattle.wire.proofs.Parts.{pad_fits}
use Rattle.names.specs.Names.{well_known, name_limit}
use Rattle.policy.specs.Names.{cell_of, name_of, bus_name}
use Rattle.stream.specs.Tail.{Tail}
use Rattle.rules.specs.State.{Pending, Slot, is_peer}
use Rattle.rules.specs.Addresses.{ownable}
use Rattle.rules.specs.Pending.{same_call}
use Rattle.rules.specs.Calls.{is_owner}
use Rattle.memory.specs.Encoding.{pending_bytes, pending_of, word_of}
use Rattle.memory.specs.Good.{nobody, good_names, good_pending, good_slots}
use Rattle.memory.specs.Layout.{serial_offset, tick_offset}
use Rattle.memory.specs.Sound.{word32}
use Rattle.memory.proofs.Octets.{every_both, distinct_every}
use Rattle.memory.proofs.Peers.{connected_within}

-- ---- one thing

pub word_back : (n : ℕ) → n < 4294967296 → word_of (word_bytes n) ≡ n
unfolding word_at word_bytes
word_back n h = omega arith

pub pending_back : (w : Pending) → w.callee < 4294967296 → w.serial < 4294967296 → w.tick < 18446744073709551616 → pending_of (pending_bytes w) ≡ w
pending_back w h k l =
    let c = word_bytes w.callee in
    let s = word_bytes w.serial in
    let t = long_bytes w.tick in
    let e : drop serial_offset (c ++ (s ++ t)) ≡ s ++ t = drop_at c (s ++ t) serial_offset (word_length w.callee) in
    let f : drop tick_offset (c ++ (s ++ t)) ≡ t
    = sym (drop-drop 4 serial_offset (c ++ (s ++ t))) ∙ ap (drop 4) e ∙ drop_at s t 4 (word_length w.serial) in
    let x : word_at Little (c ++ (s ++ t)) 0 ≡ w.callee = word_again w.callee (s ++ t) h in
    let y : word_at Little (c ++ (s ++ t)) serial_offset ≡ w.serial
    = sym (word_front (c ++ (s ++ t)) serial_offset) ∙ ap (λ (z : List ℕ). word_at Little z 0) e ∙ word_again w.serial t k in
    let z : long_at (c ++ (s ++ t)) tick_offset ≡ w.tick
    = sym (long_front (c ++ (s ++ t)) tick_offset) ∙ ap (λ (z : List ℕ). long_at z 0) (f ∙ sym (append-nil t)) ∙ long_again w.tick [] l in
    λ j. record { callee = x j; serial = y j; tick = z j }

pub name_back : (name : List ℕ) → length name ≤ name_limit → name_of (cell_of name) ≡ name
unfolding cell_of
name_back name h = rw (pad_fits name_limit name h) (take_at name _ (length name) refl)

-- ---- lists

-- what each gives back, all give back
maps_back : {A : Type 0} (t : A → Bool) (enc : A → List ℕ) (dec : List ℕ → A) → ((x : A) → t x ≡ true → dec (enc x) ≡ x)
    → (xs : List A) → every t xs ≡ true → map dec (map enc xs) ≡ xs
maps_back t enc dec f [] e = refl
maps_back t enc dec f (x ∷ xs) e = ap₂ ◌∷◌ (f x (both_first (t x) (every t xs) e)) (maps_back t enc dec f xs (both_second (t x) (every t xs) e))

pub words_back : (xs : List ℕ) → every word32 xs ≡ true → map word_of (map word_bytes xs) ≡ xs
words_back xs e = maps_back word32 word_bytes word_of (λ x h. word_back x (ltb-true x 4294967296 h)) xs e

pub ownable_short : (name : List ℕ) → ownable name ≡ true → length name ≤ name_limit
unfolding well_known
ownable_short name e = leb-true (length name) name_limit (both_first (leb (length name) name_limit) _ (both_first (well_known name) (not (same name bus_name)) e))

pub names_back_lem : (xs : List (List ℕ)) (later : List (Slot Tail)) → good_names xs later ≡ true → map name_of (map cell_of xs) ≡ xs
unfolding good_names
names_back_lem xs later e =
    let t : List ℕ → Bool = λ x. ownable x && nobody (is_owner x) later in
    maps_back t cell_of name_of (λ x h. name_back x (ownable_short x (both_first (ownable x) (nobody (is_owner x) later) h))) xs
    (distinct_every t (λ x y. same y x) xs e)

pub pendings_back : (all : List (Slot Tail)) (last tick : ℕ) (ws : List Pending) → good_slots all last tick all ≡ true → last < 4294967296
    → tick < 18446744073709551616
    → good_pending all tick ws ≡ true → every (λ w. word32 w.serial) ws ≡ true → map pending_of (map pending_bytes ws) ≡ ws
unfolding good_pending
pendings_back all last tick ws g l k e n =
    let t : Pending → Bool = λ w. any (is_peer w.callee) all && leb 1 w.serial && leb w.tick tick in
    let u : Pending → Bool = λ w. word32 w.serial in
    maps_back (λ w. t w && u w) pending_bytes pending_of
    (λ w h. let c : any (is_peer w.callee) all ≡ true = search both in
    let x : w.callee ≤ last = connected_within all last tick w.callee all g c in
    let d : leb w.tick tick ≡ true = search both in
    let y : w.tick ≤ tick = leb-true w.tick tick d in
    pending_back w (omega arith) (ltb-true w.serial 4294967296 (both_second (t w) (u w) h)) (omega arith))
    ws (every_both t u ws (distinct_every t same_call ws e) n)

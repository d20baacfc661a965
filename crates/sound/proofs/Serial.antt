-- What the rules keep of messages: the serial of a whole head of bytes is a number of 32 bits and not 0, and an offer leaves an open stream good.
use mathlib.Core.Bool.{true, false}
use mathlib.Core.List.{List}
use mathlib.Core.Path.{◌≡◌}
use Prim.Native.Nat.{ℕ, ◌≤◌, ◌<◌}
use native.Mathlib.Omega.{arith}
use borrow.Author.Tests.{eqb-false}
use Rattle.wire.specs.Bytes.{Below}
use Rattle.wire.proofs.Words.{word_below}
use Rattle.header.specs.declared.Header.{Header}
use Rattle.std.specs.Prelude.{Ok}
use Rattle.header.specs.Fixed.{order_of, serial_of}
use Rattle.header.specs.Header.{read_header}
use Rattle.stream.specs.Stream.{offer, settled}
use Rattle.stream.specs.Tail.{Tail, tails, closed, good_tail}
use Rattle.stream.proofs.Good.{open_more}
use Rattle.stream.proofs.Pushes.{offer_good}
use Rattle.header.proofs.Front.{fixed_good}
use Rattle.header.proofs.Readings.{whole_fits}

pub header_serial : (h : List ℕ) (x : Header) → Below 256 h → read_header h ≡ Ok x → (1 ≤ x.serial) × (x.serial < 4294967296)
header_serial h x b e =
    let f = whole_fits h x e in
    let g = fixed_good h f.sizes in
    let n = eqb-false (serial_of h) 0 g.serial in
    let w = word_below (order_of h) h 8 b in
    let s = f.serial_is in
    (omega arith, omega arith)

pub offer_keeps : (t : Tail) (p : List ℕ) → good_tail t ≡ true → closed t ≡ false
    → good_tail (settled tails (offer tails t p).verdict (offer tails t p).stream) ≡ true
offer_keeps t p g c = offer_good t p g (open_more t g c)

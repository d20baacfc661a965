-- What the scanner's functions say of a text: which bytes follow which, and the classes of many bytes at once.
use Rattle.std.specs.Prelude.{◌≡◌, Bool, true, false, not, ◌&&◌, ◌||◌, List, ℕ, zero, suc, ◌-◌, leb, eqb, length, get_or}
use Rattle.std.specs.Int.Bits.{bit_and}
use Rattle.wire.specs.Bytes.{byte}
use Rattle.names.specs.Classes.{class_of}
use Rattle.names.specs.declared.Form.{Form}
use Rattle.names.specs.declared.Form.TheVariants.{Interface, WellKnown}

-- a name with dots: an interface, or where there may be dashes a well-known name
abbrev pub dotted_form : Bool → Form
dotted_form true = WellKnown
dotted_form false = Interface

-- none of the bits of m is among those of x
abbrev pub clear : ℕ → ℕ → Bool
clear m x = eqb (bit_and x m) 0

-- the test holds of each of the n indexes from a on
unfoldable pub ranged : (ℕ → Bool) → ℕ → ℕ → Bool
ranged test a zero = true
ranged test a (suc n) = test a && ranged test (suc a) n

-- b may follow p where both stand in names: a separator is not followed by one of the bytes from `.` to `high`, which is `/`, the other separator, or `9`
-- where no digit begins an element
unfoldable pub spaced : ℕ → ℕ → ℕ → Bool
spaced high p b = not ((eqb p (byte ".") || eqb p (byte "/")) && (leb (byte ".") b && leb b high))

-- each of the n bytes behind the one at a may follow the one before it
abbrev pub spaced_run : ℕ → List ℕ → ℕ → ℕ → Bool
spaced_run high s a n = ranged (λ i. spaced high (get_or s i 0) (get_or s (suc i) 0)) a n

-- none of the n bytes from a on has a class with a bit of m
abbrev pub clear_run : ℕ → List ℕ → ℕ → ℕ → Bool
clear_run m s a n = ranged (λ i. clear m (class_of (get_or s i 0))) a n

-- r is the classes of the n bytes from a on, together: whatever bits are asked for, none is in r where no byte has one
pub record Gathers (s : List ℕ) (a n r : ℕ) : Type 0 where
  pub none : (m : ℕ) → clear m r ≡ clear_run m s a n

-- all bits: what a scan gives where a byte may not follow another
abbrev pub all_bits : ℕ
all_bits = 255

-- r is the classes of all bytes but the first, together, or all bits
pub record Walks (high : ℕ) (s : List ℕ) (r : ℕ) : Type 0 where
  pub none : (m : ℕ) → clear m all_bits ≡ false → clear m r ≡ spaced_run high s 0 (length s - 1) && clear_run m s 1 (length s - 1)

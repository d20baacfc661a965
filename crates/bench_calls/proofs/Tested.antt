-- An image that was tested, and a message inside its head, may be asked about; and the number of each reading.
use mathlib.Core.Path.{◌≡◌, sym, ap, ◌∙◌}
use mathlib.Core.List.{List}
use Prim.Native.Nat.{ℕ}
use borrow.Author.Rules.{rules}
use Rattle.image.specs.Good.{outcome_of}
use Rattle.image.specs.declared.Outcome.{Outcome}
use Rattle.image.specs.declared.Outcome.TheVariants.{Good}
use Rattle.image.proofs.Holds.{outcome_holds}
use Rattle.header.specs.declared.Header.{Header}
use Rattle.std.specs.Prelude.{Ok, Err}
use Rattle.header.specs.declared.Fault.{Fault}
use Rattle.header.specs.Faults.{fault_number}
use Rattle.header.specs.declared.Unread.{Unread}
use Rattle.header.specs.declared.Unread.TheVariants.{Short, Broken}
use Rattle.header.specs.Header.{Reading, read_header, reading_answer}
use Rattle.matching.specs.Promises.{Within}
use Rattle.decide.specs.Promises.{Asked}

pub asked : (image head : List ℕ) (m : Header) {r : Outcome} → r ≡ outcome_of image → r ≡ Good → Within head m → Asked image head m
asked image head m e h w = record { good = outcome_holds image (sym e ∙ h); within = w }

pub ruleset testing = (asked, rules)

module _ (s : List ℕ) {r : Reading} (e : r ≡ read_header s) where
  pub short_is : {u : Unread} → r ≡ Err u → u ≡ Short → 10 ≡ reading_answer (read_header s)
  short_is h g = ap reading_answer (ap (λ (v : Unread). Err v) (sym g) ∙ sym h ∙ e)

  pub broken_is : {u : Unread} {f : Fault} → r ≡ Err u → u ≡ Broken f → {n : ℕ} → n ≡ fault_number f → n ≡ reading_answer (read_header s)
  broken_is h g k = k ∙ ap reading_answer (ap (λ (v : Unread). Err v) (sym g) ∙ sym h ∙ e)

  pub whole_is : {x : Header} → r ≡ Ok x → 0 ≡ reading_answer (read_header s)
  whole_is h = ap reading_answer (sym h ∙ e)

pub ruleset reading = (short_is, broken_is, whole_is, rules)

-- The tests that come before a call: the image's answer where one is lent, then 51 for memory (rule 8.1).
use Rattle.std.specs.Prelude.{cond, List, ℕ, eqb, Result, Ok, Err}
use Rattle.image.specs.Good.{image_answer}
use Rattle.memory.specs.Good.{good}

-- 51 for bad memory (rule 10.6)
abbrev pub memory_test : List ℕ → Result (Unit {0}) ℕ
memory_test m = cond (good m) (Ok tt) (Err 51)

-- the image's own answer, and behind it that of memory (rules 5.9 and 8.1)
abbrev pub tests_before : List ℕ → List ℕ → Result (Unit {0}) ℕ
tests_before image m = cond (eqb (image_answer image) 0) (memory_test m) (Err (image_answer image))

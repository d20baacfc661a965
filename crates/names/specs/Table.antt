-- Worked examples of the name rules, as a table, with T9.
use Rattle.std.specs.Prelude.{Bool, true, false, List, [], ◌∷◌, ◌++◌, ℕ, replicate}
use Rattle.wire.specs.Bytes.{byte, bytes}
use Rattle.names.specs.Names.{valid_name}
use Rattle.names.specs.Namespace.{in_namespace}
use Rattle.names.specs.declared.Form.{Form}
use Rattle.names.specs.declared.Form.TheVariants.{Interface, WellKnown, Unique, Member, Path}

-- is the text a name of the form; is the second text under the first, a prefix
pub data NameQuestion : Type 0 where
  named : Form → List ℕ → NameQuestion
  under : List ℕ → List ℕ → NameQuestion

abbrev pub name_answer : NameQuestion → Bool
name_answer (named f s) = valid_name f s
name_answer (under p s) = in_namespace p s

-- a question, and its answer
abbrev pub NameRow : Type 0
NameRow = NameQuestion × Bool

abbrev pub name_table : List NameRow
name_table =
    (named Interface (bytes "org.freedesktop.DBus"), true)
    ∷ (named Interface (bytes "org"), false)
    ∷ (named Interface (bytes "org.7zip"), false)
    ∷ (named Interface (bytes "org.a-b"), false)
    ∷ (named Interface (bytes "org.a@b"), false)
    ∷ (named WellKnown (bytes "org.a-b"), true)
    ∷ (named WellKnown (bytes "org/a.b"), false)
    ∷ (named WellKnown (bytes "org..b"), false)
    ∷ (named WellKnown (bytes "a." ++ replicate 253 (byte "b")), true)
    ∷ (named WellKnown (bytes "a." ++ replicate 254 (byte "b")), false)
    ∷ (named Unique (bytes ":1.7"), true)
    ∷ (named Unique (bytes ":a.-7"), true)
    ∷ (named Unique (bytes "1.7"), false)
    ∷ (named Unique (bytes ":1"), false)
    ∷ (named Member (bytes "Get"), true)
    ∷ (named Member (bytes "7Get"), false)
    ∷ (named Member (bytes "Get.All"), false)
    ∷ (named Member (bytes "Get-All"), false)
    ∷ (named Member (bytes ""), false)
    ∷ (named Path (bytes "/"), true)
    ∷ (named Path (bytes "/a/7"), true)
    ∷ (named Path (bytes "/a-b"), false)
    ∷ (named Path (bytes "/a/"), false)
    ∷ (named Path (bytes ""), false)
    ∷ (under (bytes "org.foo") (bytes "org.foo"), true)
    ∷ (under (bytes "org.foo") (bytes "org.foo.bar"), true)
    ∷ (under (bytes "org.foo") (bytes "org.foobar"), false)
    ∷ []

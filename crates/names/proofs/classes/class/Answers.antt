-- `names::classes::class` meets its contract: antt computes the class of each byte.
use Rattle.std.proofs.Common.{◌≡◌, refl}
use Rattle.names.specs.declared.classes.TheConstants.{CLASSES}
use Rattle.names.specs.Classes.{byte_kind, class_of, class_table}
use Rattle.names.proofs.Lookup.{looked_up}
use Rattle.names.proofs.classes.class.Goals as goal

stated : CLASSES ≡ class_table
unfolding byte_kind class_of class_table
stated = refl

pub returns : goal.returns
returns c = search (looked_up, stated)

-- `retire::retire` meets its contract.
use Rattle.retire.proofs.Deciding.{retiring}
use Rattle.retire.proofs.retire.Goals as goal

pub check-requires : goal.check-requires
check-requires c = search retiring

pub enum_told-1 : goal.enum_told-1
enum_told-1 c = search retiring

pub is_list-requires : goal.is_list-requires
is_list-requires c = search retiring

pub convert-requires : goal.convert-requires
convert-requires c = search retiring

pub refused-requires : goal.refused-requires
refused-requires c = search retiring

pub enum_told-in-Bad : goal.enum_told-in-Bad
enum_told-in-Bad c = search retiring

pub refused-requires-in-Bad : goal.refused-requires-in-Bad
refused-requires-in-Bad c = search retiring

pub shape_of-room : goal.shape_of-room
shape_of-room c = search retiring

pub returns-then-is_list : goal.returns-then-is_list
returns-then-is_list c = search retiring

pub returns-else-is_list : goal.returns-else-is_list
returns-else-is_list c = search retiring

pub returns-in-Bad : goal.returns-in-Bad
returns-in-Bad c = search retiring

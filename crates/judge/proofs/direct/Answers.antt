-- `judge::direct` meets its contract.
use Rattle.judge.proofs.Whole.{directing}
use Rattle.judge.proofs.direct.Goals as goal

pub enum_known-to : goal.enum_known-to
enum_known-to c = search directing

pub to_peer-requires : goal.to_peer-requires
to_peer-requires c = search directing

pub enum_told-1 : goal.enum_told-1
enum_told-1 c = search directing

pub to_bus-requires : goal.to_bus-requires
to_bus-requires c = search directing

pub enum_told-in-Unknown : goal.enum_told-in-Unknown
enum_told-in-Unknown c = search directing

pub refused-requires : goal.refused-requires
refused-requires c = search directing

pub enum_told-in-Absent : goal.enum_told-in-Absent
enum_told-in-Absent c = search directing

pub to_bus-requires-then-header-eq-CALL : goal.to_bus-requires-then-header-eq-CALL
to_bus-requires-then-header-eq-CALL c = search directing

pub shape_of-memory-then-header-eq-CALL : goal.shape_of-memory-then-header-eq-CALL
shape_of-memory-then-header-eq-CALL c = search directing

pub returns-then-header-eq-CALL : goal.returns-then-header-eq-CALL
returns-then-header-eq-CALL c = search directing

pub to_all-requires : goal.to_all-requires
to_all-requires c = search directing

pub shape_of-memory-in-At : goal.shape_of-memory-in-At
shape_of-memory-in-At c = search directing

pub returns-in-At : goal.returns-in-At
returns-in-At c = search directing

pub shape_of-memory-in-Bus : goal.shape_of-memory-in-Bus
shape_of-memory-in-Bus c = search directing

pub returns-in-Bus : goal.returns-in-Bus
returns-in-Bus c = search directing

pub returns-in-Unknown : goal.returns-in-Unknown
returns-in-Unknown c = search directing

pub shape_of-memory-else-header-eq-CALL : goal.shape_of-memory-else-header-eq-CALL
shape_of-memory-else-header-eq-CALL c = search directing

pub returns-else-header-eq-CALL : goal.returns-else-header-eq-CALL
returns-else-header-eq-CALL c = search directing

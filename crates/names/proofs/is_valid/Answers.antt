-- `names::is_valid` meets its contract.
use Rattle.names.proofs.Forms.{forms}
use Rattle.names.proofs.is_valid.Goals as goal

pub returns-in-Interface : goal.returns-in-Interface
returns-in-Interface c = search forms

pub returns-in-WellKnown : goal.returns-in-WellKnown
returns-in-WellKnown c = search forms

pub returns-in-Unique : goal.returns-in-Unique
returns-in-Unique c = search forms

pub returns-in-BusName : goal.returns-in-BusName
returns-in-BusName c = search forms

pub returns-in-Member : goal.returns-in-Member
returns-in-Member c = search forms

pub returns-in-Path : goal.returns-in-Path
returns-in-Path c = search forms

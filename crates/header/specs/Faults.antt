-- The faults of a head and their answer numbers (rules 2.4 and 2.11).
use Rattle.std.specs.Prelude.{ℕ}
use Rattle.header.specs.declared.Fault.{Fault}
use Rattle.header.specs.declared.Fault.TheVariants.{ByteOrder, Version, MessageType, Serial, ArrayLength, MessageLength, Fields, Values, RequiredFields}

abbrev pub fault_number : Fault → ℕ
fault_number ByteOrder = 1
fault_number Version = 2
fault_number MessageType = 3
fault_number Serial = 4
fault_number ArrayLength = 5
fault_number MessageLength = 6
fault_number Fields = 7
fault_number Values = 8
fault_number RequiredFields = 9

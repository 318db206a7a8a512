-- The number that each refusal is known by.
use Rattle.std.specs.Prelude.{ℕ}
use Rattle.base.specs.declared.fault.Fault.{Fault}
use Rattle.base.specs.declared.fault.Fault.TheVariants.{LaneWidth, ControlBound, Lane, Address, NotLaneWord, Value, Closed, NotControlWord, ImageTooLong, ImageBytes, NoSuchInstruction, TrialOpen, NoSuchTrial}

abbrev pub number : Fault → ℕ
number LaneWidth = 1
number ControlBound = 2
number Lane = 3
number Address = 4
number NotLaneWord = 5
number Value = 6
number Closed = 7
number NotControlWord = 8
number ImageTooLong = 9
number ImageBytes = 10
number NoSuchInstruction = 11
number TrialOpen = 12
number NoSuchTrial = 13

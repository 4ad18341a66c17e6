-- What holds of all that a row comes to: a name lies in the names, and a loop's count fits its field.
use Rattle.std.specs.Prelude.{ℕ, ◌+◌, ◌≤◌, ◌<◌, Ok, Err}
use Rattle.items.specs.declared.LoopCount.{LoopCount}
use Rattle.items.specs.declared.LoopCount.TheVariants.{Immediate, Register}
use Rattle.coded.specs.Coded.{Coded}
use Rattle.items.specs.declared.Item.TheVariants.{Instruction, Label, Jump, LoopBegin, LoopEnd}

abbrev pub CountFine : LoopCount → Type 0
CountFine (Immediate count) = count < 65536
CountFine (Register register) = register.0 < 256

-- over `names` bytes of names
abbrev pub CodedFine : ℕ → Coded → Type 0
CodedFine names (Ok (Instruction x)) = Unit {0}
CodedFine names (Ok (Label start length)) = start + length ≤ names
CodedFine names (Ok (Jump condition start length)) = start + length ≤ names
CodedFine names (Ok (LoopBegin count mode)) = CountFine count
CodedFine names (Ok LoopEnd) = Unit {0}
CodedFine names (Err refusal) = Unit {0}

use Rattle.std.specs.Prelude.{ℕ}
use Rattle.second.specs.declared.fault.Fault.{Fault}
use Rattle.second.specs.declared.fault.Fault.TheVariants.{NoInstruction, DataShort, ReturnShort, DataFull, ReturnFull, Denied}
use Rattle.second.specs.declared.fault.Stop.{Stop}
use Rattle.second.specs.declared.fault.Stop.TheVariants.{Refused, NoMemory}

-- the number of a question
abbrev pub number_of : Fault → ℕ
number_of NoInstruction = 70
number_of DataShort = 71
number_of ReturnShort = 72
number_of DataFull = 73
number_of ReturnFull = 74
number_of Denied = 75

-- a fact of the question that was answered no, if one was
abbrev pub IfRefused : Stop → (Fault → Type 0) → Type 0
IfRefused (Refused fault) P = P fault
IfRefused NoMemory P = Unit {0}

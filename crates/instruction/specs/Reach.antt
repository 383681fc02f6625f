-- The memory operand of an instruction: read off its row and its operand.
use Rattle.std.specs.Prelude.{ℕ}
use Rattle.instruction.specs.declared.table.Place.{Place}
use Rattle.instruction.specs.declared.table.Place.TheVariants as place
use Rattle.instruction.specs.declared.table.Memory.{Memory}
use Rattle.instruction.specs.declared.table.Memory.TheVariants as memory
use Rattle.instruction.specs.declared.decoding.Operand.{Operand}
use Rattle.instruction.specs.declared.decoding.Instruction.{Instruction}
use Rattle.instruction.specs.declared.reach.Target.{Target}
use Rattle.instruction.specs.declared.reach.Target.TheVariants.{Fixed, Offset, Indexed}
use Rattle.instruction.specs.declared.reach.MemoryOperand.{MemoryOperand}
use Rattle.instruction.specs.declared.reach.MemoryOperand.TheVariants.{Nothing, Read, Write}
use Rattle.instruction.specs.Decode.{operand_byte, operand_word}

abbrev pub target : Place → ℕ → Operand → Target
target place.Absolute number x = Fixed (operand_word x)
target place.Relative number x = Offset number (operand_byte x)
target place.Indexed number x = Indexed number

abbrev pub reached : Memory → ℕ → Operand → MemoryOperand
reached memory.Nowhere number x = Nothing
reached (memory.Read p) number x = Read (target p number x)
reached (memory.Write p) number x = Write (target p number x)

-- what an instruction reads or writes
abbrev pub reach : Instruction → MemoryOperand
reach i = reached i.family.memory i.number i.operand

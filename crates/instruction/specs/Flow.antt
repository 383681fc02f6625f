-- Where control may go on from an instruction: read off its row, its operand and its address, whatever the machine holds.
use Rattle.std.specs.Prelude.{ℕ, ◌+◌, ◌-◌, ◌%◌, Bool, true, cond, not, ◌==◌, nat_lt}
use Rattle.instruction.specs.declared.table.Distance.{Distance}
use Rattle.instruction.specs.declared.table.Distance.TheVariants.{Long, Short}
use Rattle.instruction.specs.declared.table.Turn.{Turn}
use Rattle.instruction.specs.declared.table.Turn.TheVariants.{On, Jump, IfZero, IfNonzero, Call, Return}
use Rattle.instruction.specs.declared.decoding.Operand.{Operand}
use Rattle.instruction.specs.declared.decoding.Instruction.{Instruction}
use Rattle.instruction.specs.declared.control.Flow.{Flow}
use Rattle.instruction.specs.declared.control.Flow.TheVariants.{Goes, Calls, Returns}
use Rattle.instruction.specs.Decode.{operand_size, operand_byte, operand_word}

-- the address after an instruction that stands at an address
abbrev pub ends : Instruction → ℕ → ℕ
ends i at = (at + operand_size i.operand) % 65536

-- the byte as a signed number, modulo 65,536
abbrev pub sign_extended : ℕ → ℕ
sign_extended byte = cond (nat_lt byte 128) byte (0xFF00 + byte)

-- where a jump goes, from the address after the instruction
abbrev pub jump : Distance → ℕ → Operand → ℕ → ℕ
jump Long number x end = (end + sign_extended (operand_byte x)) % 65536
jump Short number x end = (end + number) % 65536

abbrev pub turned : Turn → ℕ → Operand → ℕ → Flow
turned On number x end = Goes end end
turned (Jump d) number x end = Goes (jump d number x end) (jump d number x end)
turned (IfZero d) number x end = Goes (jump d number x end) end
turned (IfNonzero d) number x end = Goes (jump d number x end) end
turned Call number x end = Calls (operand_word x)
turned Return number x end = Returns

abbrev pub flow : Instruction → ℕ → Flow
flow i at = turned i.family.turn i.number i.operand (ends i at)

-- whether the first of the two ways is taken, of the byte on top of the data stack
abbrev pub taken : Turn → ℕ → Bool
taken On top = true
taken (Jump d) top = true
taken (IfZero d) top = top == 0
taken (IfNonzero d) top = not (top == 0)
taken Call top = true
taken Return top = true

-- the bytes of a return address, among those that an instruction needs on the return stack and those that it leaves there
abbrev pub address_taken : Turn → ℕ
address_taken On = 0
address_taken (Jump d) = 0
address_taken (IfZero d) = 0
address_taken (IfNonzero d) = 0
address_taken Call = 0
address_taken Return = 2

abbrev pub address_left : Turn → ℕ
address_left On = 0
address_left (Jump d) = 0
address_left (IfZero d) = 0
address_left (IfNonzero d) = 0
address_left Call = 2
address_left Return = 0

-- the other bytes needed and left there
abbrev pub own_takes : Instruction → ℕ
own_takes i = i.family.takes - address_taken i.family.turn

abbrev pub own_gives : Instruction → ℕ
own_gives i = i.family.gives - address_left i.family.turn

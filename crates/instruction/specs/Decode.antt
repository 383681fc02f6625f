-- What stands at the start of a code.
use Rattle.std.specs.Prelude.{◌≡◌, ℕ, ◌+◌, ◌-◌, ◌*◌, ◌%◌, cond, List, [], ◌∷◌, Some, None, Option, ◌==◌}
use Rattle.instruction.specs.declared.table.Family.{Family}
use Rattle.instruction.specs.declared.decoding.Operand.{Operand}
use Rattle.instruction.specs.declared.decoding.Operand.TheVariants.{Empty, Byte, Word}
use Rattle.instruction.specs.declared.decoding.Instruction.{Instruction}
use Rattle.instruction.specs.Table.{families, found}

-- the bytes of an instruction with this operand, its opcode among them
abbrev pub operand_size : Operand → ℕ
operand_size Empty = 1
operand_size (Byte n) = 2
operand_size (Word w) = 3

-- the operand as one byte, and as two; a missing one is 0
abbrev pub operand_byte : Operand → ℕ
operand_byte Empty = 0
operand_byte (Byte n) = n
operand_byte (Word w) = w % 256

abbrev pub operand_word : Operand → ℕ
operand_word Empty = 0
operand_word (Byte n) = n
operand_word (Word w) = w

abbrev pub one_byte : List ℕ → Option Operand
one_byte [] = None
one_byte (n ∷ rest) = Some (Byte n)

-- the high byte first
abbrev pub two_bytes : List ℕ → Option Operand
two_bytes [] = None
two_bytes (high ∷ []) = None
two_bytes (high ∷ (low ∷ rest)) = Some (Word (high * 256 + low))

-- the operand of an instruction of a size, from the bytes after its opcode
abbrev pub operand_of : ℕ → List ℕ → Option Operand
operand_of size after = cond (size == 1) (Some Empty) (cond (size == 2) (one_byte after) (cond (size == 3) (two_bytes after) None))

abbrev pub with_operand : Family → ℕ → Option Operand → Option Instruction
with_operand f opcode None = None
with_operand f opcode (Some x) = Some (record { family = f; number = opcode - f.first; operand = x })

abbrev pub with_family : Option Family → ℕ → List ℕ → Option Instruction
with_family None opcode after = None
with_family (Some f) opcode after = with_operand f opcode (operand_of f.size after)

-- the instruction at the start of a code, if all its bytes are there
abbrev pub decoded : List ℕ → Option Instruction
decoded [] = None
decoded (opcode ∷ after) = with_family (found families opcode) opcode after

-- an instruction that the table has: its family and its number are those of an opcode, and its operand has the family's size
pub record Listed (i : Instruction) : Type 0 where
  pub opcode : ℕ
  pub family : found families opcode ≡ Some i.family
  pub number : i.number ≡ opcode - i.family.first
  pub sized : operand_size i.operand ≡ i.family.size

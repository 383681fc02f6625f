-- What is known where an instruction stands, the addresses that its memory operand may then have, and what is known after it.
use Rattle.std.specs.Prelude.{ℕ, ◌+◌, cond, Some, None, Option, ◌==◌, nat_le}
use Rattle.instruction.specs.declared.table.Transfer.{Transfer}
use Rattle.instruction.specs.declared.table.Transfer.TheVariants.{Other, PutsWord, LoadsPointer}
use Rattle.instruction.specs.declared.decoding.Instruction.{Instruction}
use Rattle.instruction.specs.declared.reach.Target.{Target}
use Rattle.instruction.specs.declared.reach.Target.TheVariants.{Fixed, Offset, Indexed}
use Rattle.instruction.specs.declared.reach.MemoryOperand.{MemoryOperand}
use Rattle.instruction.specs.declared.reach.MemoryOperand.TheVariants.{Nothing, Read, Write}
use Rattle.instruction.specs.Decode.{operand_word}
use Rattle.instruction.specs.Reach.{reach}

-- each of the pointers 0 to 3, where it is known, and the word on top of the data stack, where it is known
pub record Knows : Type 0 where
  pub pointer : ℕ → Option ℕ
  pub top : Option ℕ

-- addresses from a first to a last, or not known which
pub data Span : Type 0 where
  unsure : Span
  from_to : ℕ → ℕ → Span

-- from a known pointer on, if none of them is past 65,535
abbrev pub past : Option ℕ → ℕ → ℕ → Span
past None first last = unsure
past (Some p) first last = cond (nat_le (p + last) 65535) (from_to (p + first) (p + last)) unsure

abbrev pub span : Target → Knows → Span
span (Fixed a) k = from_to a a
span (Offset p n) k = past (k.pointer p) n n
span (Indexed p) k = past (k.pointer p) 0 255

pub data Claim : Type 0 where
  nothing : Claim
  reading : Span → Claim
  writing : Span → Claim

abbrev pub claimed : MemoryOperand → Knows → Claim
claimed Nothing k = nothing
claimed (Read x) k = reading (span x k)
claimed (Write x) k = writing (span x k)

-- the access that an instruction may make
abbrev pub claim : Instruction → Knows → Claim
claim i k = claimed (reach i) k

-- what is known after it: PUSHD #w puts w on top, POPD [p] makes p known as the word on top, if that is known
abbrev pub learned : Transfer → Instruction → Knows → Knows
learned Other i k = record { pointer = k.pointer; top = None }
learned PutsWord i k = record { pointer = k.pointer; top = Some (operand_word i.operand) }
learned LoadsPointer i k = record { pointer = λ q. cond (q == i.number) k.top (k.pointer q); top = None }

abbrev pub learns : Instruction → Knows → Knows
learns i k = learned i.family.transfer i k

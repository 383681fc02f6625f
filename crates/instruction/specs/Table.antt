-- The table of instruction families, as the code has it too, and the family of an opcode.
use Rattle.std.specs.Prelude.{ℕ, ◌+◌, ◌-◌, Bool, cond, ◌&&◌, List, [], ◌∷◌, Some, None, Option, nat_le}
use Rattle.std.specs.List.{slice_get}
use Rattle.instruction.specs.declared.table.Op.{Op}
use Rattle.instruction.specs.declared.table.Op.TheVariants.{Add, And, Or, Xor}
use Rattle.instruction.specs.declared.table.Kind.{Kind}
use Rattle.instruction.specs.declared.table.Kind.TheVariants.{Not, Increment, Decrement, Binary, AddCarry, Immediate, BinaryReturn, PushShort, PushByte, PushWord, PushTop, PushNext, PushDeep, PopDeep, PushRegister, PopRegister, PushPointer, PopPointer, PushAbsolute, PopAbsolute, PushRelative, PopRelative, PushIndexed, PopIndexed, PushReturn, PushPop, PopPush, Exchange, DropTop, DropNext, Allocate, Deallocate, Branch, BranchNonzero, BranchZero, ShortBranch, ShortBranchZero, ShortBranchNonzero, CallFar, Ret}
use Rattle.instruction.specs.declared.table.Place.TheVariants.{Absolute, Relative, Indexed}
use Rattle.instruction.specs.declared.table.Memory.{Memory}
use Rattle.instruction.specs.declared.table.Memory.TheVariants.{Nowhere, Read, Write}
use Rattle.instruction.specs.declared.table.Distance.TheVariants.{Long, Short}
use Rattle.instruction.specs.declared.table.Turn.{Turn}
use Rattle.instruction.specs.declared.table.Turn.TheVariants.{On, Jump, IfZero, IfNonzero, Call, Return}
use Rattle.instruction.specs.declared.table.Transfer.{Transfer}
use Rattle.instruction.specs.declared.table.Transfer.TheVariants.{Other, PutsWord, LoadsPointer}
use Rattle.instruction.specs.declared.table.Family.{Family}

-- How a row is written down.

-- one opcode, its size, its cycles, and the data bytes that it needs and leaves; the next instruction follows
abbrev one : Kind → ℕ → ℕ → ℕ → ℕ → ℕ → Family
one kind opcode size cycles needs leaves = record {
  kind = kind;
  first = opcode;
  last = opcode;
  size = size;
  cycles = cycles;
  needs = needs;
  leaves = leaves;
  takes = 0;
  gives = 0;
  memory = Nowhere;
  turn = On;
  transfer = Other;
}

-- up to another opcode
abbrev upto : ℕ → Family → Family
upto last f = record f { last = last }

-- the bytes that it needs and leaves on the return stack
abbrev on_return_stack : ℕ → ℕ → Family → Family
on_return_stack takes gives f = record f { takes = takes; gives = gives }

abbrev in_memory : Memory → Family → Family
in_memory memory f = record f { memory = memory }

abbrev turning : Turn → Family → Family
turning turn f = record f { turn = turn }

abbrev moving : Transfer → Family → Family
moving transfer f = record f { transfer = transfer }

-- the order in which the operations' opcodes stand
abbrev rank : Op → ℕ
rank Add = 0
rank And = 1
rank Or = 2
rank Xor = 3

-- each kind's row: its opcode, size, cycles, data bytes needed and left, and what else there is
abbrev pub row_of : Kind → Family
row_of Not = one Not 0x3D 1 2 1 1
row_of Increment = one Increment 0x3E 1 2 1 1
row_of Decrement = one Decrement 0x3F 1 2 1 1
row_of (Binary o) = one (Binary o) (0x50 + rank o) 1 4 2 1
row_of AddCarry = one AddCarry 0x54 1 4 2 1
row_of (Immediate o) = one (Immediate o) (0x58 + rank o) 2 3 1 1
row_of (BinaryReturn o) = turning Return (on_return_stack 2 0 (one (BinaryReturn o) (0x5C + rank o) 1 7 2 1))
row_of PushShort = upto 0x87 (one PushShort 0x80 1 4 0 1)
row_of PushByte = one PushByte 0xB4 2 4 0 1
row_of PushWord = moving PutsWord (one PushWord 0xB5 3 6 0 2)
row_of PushTop = one PushTop 0xA4 1 3 1 2
row_of PushNext = one PushNext 0xA5 1 4 2 3
row_of (PushDeep k) = one (PushDeep k) (0xC0 - k) 1 5 (k + 2) (k + 3)
row_of (PopDeep k) = one (PopDeep k) (0x100 - k) 1 5 (k + 2) (k + 1)
row_of PushRegister = upto 0x97 (one PushRegister 0x88 1 4 0 1)
row_of PopRegister = upto 0xD7 (one PopRegister 0xC8 1 4 1 0)
row_of PushPointer = upto 0xB3 (one PushPointer 0xB0 1 6 0 2)
row_of PopPointer = moving LoadsPointer (upto 0xF3 (one PopPointer 0xF0 1 6 2 0))
row_of PushAbsolute = in_memory (Read Absolute) (one PushAbsolute 0xB7 3 7 0 1)
row_of PopAbsolute = in_memory (Write Absolute) (one PopAbsolute 0xF7 3 7 1 0)
row_of PushRelative = in_memory (Read Relative) (upto 0x9B (one PushRelative 0x98 2 7 0 1))
row_of PopRelative = in_memory (Write Relative) (upto 0xDB (one PopRelative 0xD8 2 7 1 0))
row_of PushIndexed = in_memory (Read Indexed) (upto 0x9F (one PushIndexed 0x9C 1 6 1 2))
row_of PopIndexed = in_memory (Write Indexed) (upto 0xDF (one PopIndexed 0xDC 1 6 2 1))
row_of PushReturn = on_return_stack 1 1 (one PushReturn 0xA1 1 4 0 1)
row_of PushPop = on_return_stack 1 0 (one PushPop 0xA7 1 5 0 1)
row_of PopPush = on_return_stack 0 1 (one PopPush 0xE7 1 5 1 0)
row_of Exchange = one Exchange 0xB6 1 4 2 2
row_of DropTop = one DropTop 0xE4 1 3 1 0
row_of DropNext = one DropNext 0xE5 1 2 2 1
row_of (Allocate k) = one (Allocate k) (0xBF + k) 1 3 0 k
row_of (Deallocate k) = turning Return (on_return_stack 2 0 (one (Deallocate k) (0x80 - k) 1 6 k 0))
row_of Branch = turning (Jump Long) (one Branch 0x71 2 2 0 0)
row_of BranchNonzero = turning (IfNonzero Long) (one BranchNonzero 0x72 2 4 1 0)
row_of BranchZero = turning (IfZero Long) (one BranchZero 0x73 2 4 1 0)
row_of ShortBranch = turning (Jump Short) (upto 0x2F (one ShortBranch 0x20 1 1 0 0))
row_of ShortBranchZero = turning (IfZero Short) (upto 0x4F (one ShortBranchZero 0x40 1 3 1 0))
row_of ShortBranchNonzero = turning (IfNonzero Short) (upto 0x6F (one ShortBranchNonzero 0x60 1 3 1 0))
row_of CallFar = turning Call (on_return_stack 0 2 (one CallFar 0x77 3 7 0 0))
row_of Ret = turning Return (on_return_stack 2 0 (one Ret 0x31 1 4 0 0))

unfoldable pub families : List Family
families =
    row_of Not
    ∷ row_of Increment
    ∷ row_of Decrement
    ∷ row_of (Binary Add)
    ∷ row_of (Binary And)
    ∷ row_of (Binary Or)
    ∷ row_of (Binary Xor)
    ∷ row_of AddCarry
    ∷ row_of (Immediate Add)
    ∷ row_of (Immediate And)
    ∷ row_of (Immediate Or)
    ∷ row_of (Immediate Xor)
    ∷ row_of (BinaryReturn Add)
    ∷ row_of (BinaryReturn And)
    ∷ row_of (BinaryReturn Or)
    ∷ row_of (BinaryReturn Xor)
    ∷ row_of PushShort
    ∷ row_of PushByte
    ∷ row_of PushWord
    ∷ row_of PushTop
    ∷ row_of PushNext
    ∷ row_of (PushDeep 8)
    ∷ row_of (PushDeep 7)
    ∷ row_of (PushDeep 6)
    ∷ row_of (PushDeep 5)
    ∷ row_of (PushDeep 4)
    ∷ row_of (PushDeep 3)
    ∷ row_of (PushDeep 2)
    ∷ row_of (PushDeep 1)
    ∷ row_of (PopDeep 8)
    ∷ row_of (PopDeep 7)
    ∷ row_of (PopDeep 6)
    ∷ row_of (PopDeep 5)
    ∷ row_of (PopDeep 4)
    ∷ row_of (PopDeep 3)
    ∷ row_of (PopDeep 2)
    ∷ row_of (PopDeep 1)
    ∷ row_of PushRegister
    ∷ row_of PopRegister
    ∷ row_of PushPointer
    ∷ row_of PopPointer
    ∷ row_of PushAbsolute
    ∷ row_of PopAbsolute
    ∷ row_of PushRelative
    ∷ row_of PopRelative
    ∷ row_of PushIndexed
    ∷ row_of PopIndexed
    ∷ row_of PushReturn
    ∷ row_of PushPop
    ∷ row_of PopPush
    ∷ row_of Exchange
    ∷ row_of DropTop
    ∷ row_of DropNext
    ∷ row_of (Allocate 1)
    ∷ row_of (Allocate 2)
    ∷ row_of (Allocate 3)
    ∷ row_of (Allocate 4)
    ∷ row_of (Allocate 5)
    ∷ row_of (Allocate 6)
    ∷ row_of (Allocate 7)
    ∷ row_of (Allocate 8)
    ∷ row_of (Deallocate 8)
    ∷ row_of (Deallocate 7)
    ∷ row_of (Deallocate 6)
    ∷ row_of (Deallocate 5)
    ∷ row_of (Deallocate 4)
    ∷ row_of (Deallocate 3)
    ∷ row_of (Deallocate 2)
    ∷ row_of (Deallocate 1)
    ∷ row_of Branch
    ∷ row_of BranchNonzero
    ∷ row_of BranchZero
    ∷ row_of ShortBranch
    ∷ row_of ShortBranchZero
    ∷ row_of ShortBranchNonzero
    ∷ row_of CallFar
    ∷ row_of Ret
    ∷ []

-- the opcode is one of the family's
abbrev pub holds : Family → ℕ → Bool
holds f opcode = nat_le f.first opcode && nat_le opcode f.last

-- the first family that has the opcode
abbrev pub found : List Family → ℕ → Option Family
found [] opcode = None
found (f ∷ fs) opcode = cond (holds f opcode) (Some f) (found fs opcode)

-- the family whose place stands at the opcode in a list of places
abbrev pub at_place : List Family → Option ℕ → Option Family
at_place fs None = None
at_place fs (Some place) = slice_get fs place

unfoldable pub placed : List Family → List ℕ → ℕ → Option Family
placed fs places opcode = at_place fs (slice_get places opcode)

-- What each kind of instruction does to the machine.
use Rattle.std.specs.Prelude.{ℕ, ◌+◌, ◌-◌, ◌*◌, ◌/◌, ◌%◌, Bool, true, false, cond, List, ◌∷◌, ◌++◌, drop, replicate, ◌==◌, bit_and, bit_or, bit_xor, nat_le, slice_index, slice_set}
use Rattle.instruction.specs.declared.table.Op.{Op}
use Rattle.instruction.specs.declared.table.Op.TheVariants.{Add, And, Or, Xor}
use Rattle.instruction.specs.declared.table.Kind.{Kind}
use Rattle.instruction.specs.declared.table.Kind.TheVariants.{Not, Increment, Decrement, Binary, AddCarry, Immediate, BinaryReturn, PushShort, PushByte, PushWord, PushTop, PushNext, PushDeep, PopDeep, PushRegister, PopRegister, PushPointer, PopPointer, PushAbsolute, PopAbsolute, PushRelative, PopRelative, PushIndexed, PopIndexed, PushReturn, PushPop, PopPush, Exchange, DropTop, DropNext, Allocate, Deallocate, Branch, BranchNonzero, BranchZero, ShortBranch, ShortBranchZero, ShortBranchNonzero, CallFar, Ret}
use Rattle.instruction.specs.declared.decoding.Operand.{Operand}
use Rattle.instruction.specs.declared.control.Flow.{Flow}
use Rattle.instruction.specs.declared.control.Flow.TheVariants.{Goes, Calls, Returns}
use Rattle.instruction.specs.Decode.{operand_byte, operand_word}
use Rattle.machine.specs.Bytes.{top, rest}
use Rattle.machine.specs.State.{State, with_stack, with_returns, with_registers, with_pointers, with_carry, at, tos, next, popped, pushed}

abbrev pub bit : Bool → ℕ
bit true = 1
bit false = 0

abbrev pub value : Op → ℕ → ℕ → ℕ
value Add a b = (a + b) % 256
value And a b = bit_and a b
value Or a b = bit_or a b
value Xor a b = bit_xor a b

-- the carry flag after the operation: the logical ones clear it
abbrev pub overflow : Op → ℕ → ℕ → Bool
overflow Add a b = nat_le 256 (a + b)
overflow And a b = false
overflow Or a b = false
overflow Xor a b = false

-- TOS and NEXT make one byte
abbrev pub joined : Op → State → State
joined o s = with_carry (overflow o (tos s) (next s)) (pushed (value o (tos s) (next s)) (popped (popped s)))

-- a word on the data stack, its low byte on top
abbrev pub pushed_word : ℕ → State → State
pushed_word w s = pushed (w % 256) (pushed (w / 256) s)

-- What each kind does to the stacks, the registers, the pointers and the carry, of the number n of its opcode, its operand x, the
-- byte b that the board answered and the fill byte f. The return address of a call and a return, the instruction address and
-- the cycle count are left to `moved`.
abbrev pub effect : Kind → ℕ → Operand → ℕ → ℕ → State → State
effect Not n x b f s = with_carry false (pushed (255 - tos s) (popped s))
effect Increment n x b f s = with_carry (tos s == 255) (pushed ((tos s + 1) % 256) (popped s))
effect Decrement n x b f s = with_carry (tos s == 0) (pushed ((tos s + 255) % 256) (popped s))
effect (Binary o) n x b f s = joined o s
effect AddCarry n x b f s = with_carry (nat_le 256 (tos s + next s + bit s.carry)) (pushed ((tos s + next s + bit s.carry) % 256) (popped (popped s)))
effect (Immediate o) n x b f s = with_carry (overflow o (tos s) (operand_byte x)) (pushed (value o (tos s) (operand_byte x)) (popped s))
effect (BinaryReturn o) n x b f s = joined o s
effect PushShort n x b f s = pushed n s
effect PushByte n x b f s = pushed (operand_byte x) s
effect PushWord n x b f s = pushed_word (operand_word x) s
effect PushTop n x b f s = pushed (tos s) s
effect PushNext n x b f s = pushed (next s) s
effect (PushDeep k) n x b f s = pushed (slice_index s.stack (k + 1)) s
effect (PopDeep k) n x b f s = with_stack (slice_set (rest s.stack) k (tos s)) s
effect PushRegister n x b f s = pushed (slice_index s.registers n) s
effect PopRegister n x b f s = with_registers (slice_set s.registers n (tos s)) (popped s)
effect PushPointer n x b f s = pushed_word (slice_index s.pointers n) s
effect PopPointer n x b f s = with_pointers (slice_set s.pointers n (next s * 256 + tos s)) (popped (popped s))
effect PushAbsolute n x b f s = pushed b s
effect PopAbsolute n x b f s = popped s
effect PushRelative n x b f s = pushed b s
effect PopRelative n x b f s = popped s
effect PushIndexed n x b f s = pushed (tos s) (pushed b (popped s))
effect PopIndexed n x b f s = pushed (tos s) (popped (popped s))
effect PushReturn n x b f s = pushed (top s.returns) s
effect PushPop n x b f s = with_returns (rest s.returns) (pushed (top s.returns) s)
effect PopPush n x b f s = with_returns (tos s ∷ s.returns) (popped s)
effect Exchange n x b f s = pushed (next s) (pushed (tos s) (popped (popped s)))
effect DropTop n x b f s = popped s
effect DropNext n x b f s = pushed (tos s) (popped (popped s))
effect (Allocate k) n x b f s = with_stack (replicate k f ++ s.stack) s
effect (Deallocate k) n x b f s = with_stack (drop k s.stack) s
effect Branch n x b f s = s
effect BranchNonzero n x b f s = popped s
effect BranchZero n x b f s = popped s
effect ShortBranch n x b f s = s
effect ShortBranchZero n x b f s = popped s
effect ShortBranchNonzero n x b f s = popped s
effect CallFar n x b f s = s
effect Ret n x b f s = s

-- the address that control goes on at: the first way or the second, the called routine, or the return address
abbrev pub goes_to : Flow → Bool → List ℕ → ℕ
goes_to (Goes v w) first rs = cond first v w
goes_to (Calls t) first rs = t
goes_to Returns first rs = top (rest rs) * 256 + top rs

-- the return stack: a call leaves the address after it there, the low byte on top, and a return takes it
abbrev pub returns_after : Flow → ℕ → List ℕ → List ℕ
returns_after (Goes v w) back rs = rs
returns_after (Calls t) back rs = (back % 256) ∷ ((back / 256) ∷ rs)
returns_after Returns back rs = rest (rest rs)

-- control goes on, and the cycles are counted
abbrev pub moved : Flow → Bool → ℕ → ℕ → State → State
moved w first back cycles e =
    at (goes_to w first e.returns) ((e.cycles + cycles) % 4294967296) (with_returns (returns_after w back e.returns) e)

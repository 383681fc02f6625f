-- The machine without its board: stacks with the top byte first, registers, pointers, carry, instruction address, cycle count.
use Rattle.std.specs.Prelude.{ℕ, Bool, false, List, [], ◌∷◌, replicate}
use Rattle.machine.specs.declared.state.Machine.{Machine}
use Rattle.machine.specs.Bytes.{bytes, top, rest}

pub record State : Type 0 where
  pub stack : List ℕ
  pub returns : List ℕ
  pub registers : List ℕ
  pub pointers : List ℕ
  pub carry : Bool
  pub ip : ℕ
  pub cycles : ℕ

abbrev pub view : Machine → State
view m = record {
  stack = bytes m.stack;
  returns = bytes m.returns;
  registers = m.registers;
  pointers = m.pointers;
  carry = m.carry;
  ip = m.ip;
  cycles = m.cycles;
}

-- a machine as it is made: at an address, and all else empty or zero
abbrev pub fresh : ℕ → State
fresh ip = record { stack = []; returns = []; registers = replicate 16 0; pointers = replicate 4 0; carry = false; ip = ip; cycles = 0 }

abbrev pub with_stack : List ℕ → State → State
with_stack xs s = record s { stack = xs }

abbrev pub with_returns : List ℕ → State → State
with_returns xs s = record s { returns = xs }

abbrev pub with_registers : List ℕ → State → State
with_registers xs s = record s { registers = xs }

abbrev pub with_pointers : List ℕ → State → State
with_pointers xs s = record s { pointers = xs }

abbrev pub with_carry : Bool → State → State
with_carry b s = record s { carry = b }

-- at another address, with another cycle count
abbrev pub at : ℕ → ℕ → State → State
at ip cycles s = record s { ip = ip; cycles = cycles }

-- TOS and NEXT
abbrev pub tos : State → ℕ
tos s = top s.stack

abbrev pub next : State → ℕ
next s = top (rest s.stack)

abbrev pub popped : State → State
popped s = with_stack (rest s.stack) s

abbrev pub pushed : ℕ → State → State
pushed x s = with_stack (x ∷ s.stack) s

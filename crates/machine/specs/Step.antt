-- One step: its questions in their order, and what is then there.
use Rattle.std.specs.Prelude.{ℕ, ◌+◌, ◌-◌, ◌%◌, Bool, true, false, List, [], ◌∷◌, ◌++◌, length, drop, Some, None, Option, nat_le, slice_index}
use Rattle.refusal.specs.Questions.{Asked, ask, Verdict, accepted, refused, first_no}
use Rattle.board.specs.Meaning.{Meaning, answer}
use Rattle.instruction.specs.declared.decoding.Instruction.{Instruction}
use Rattle.instruction.specs.declared.control.Flow.{Flow}
use Rattle.instruction.specs.declared.reach.Target.{Target}
use Rattle.instruction.specs.declared.reach.Target.TheVariants.{Fixed, Offset, Indexed}
use Rattle.instruction.specs.declared.reach.MemoryOperand.{MemoryOperand}
use Rattle.instruction.specs.declared.reach.MemoryOperand.TheVariants as operand
use Rattle.instruction.specs.Decode.{decoded}
use Rattle.instruction.specs.Flow.{flow, ends, taken}
use Rattle.instruction.specs.Reach.{reach}
use Rattle.machine.specs.declared.settings.Settings.{Settings}
use Rattle.machine.specs.declared.access.Access.{Access}
use Rattle.machine.specs.declared.access.Access.TheVariants.{Nothing, Read, Write}
use Rattle.machine.specs.State.{State, tos, next}
use Rattle.machine.specs.Effect.{effect, moved}

-- The place of an address in a code that begins at its first address. Addresses go round, so a code may run past the last of them.
abbrev pub offset : ℕ → ℕ → ℕ
offset first ip = (ip + (65536 - first)) % 65536

-- the instruction at an address
abbrev pub fetched : List ℕ → ℕ → ℕ → Option Instruction
fetched code first ip = decoded (drop (offset first ip) code)

-- the access that an instruction asks of the board

-- the address of a memory operand (TOS is a byte, so its remainder is itself), and the byte that is written there
abbrev pub address : Target → State → ℕ
address (Fixed a) s = a
address (Offset p n) s = (slice_index s.pointers p + n) % 65536
address (Indexed p) s = (slice_index s.pointers p + tos s % 256) % 65536

abbrev pub written : Target → State → ℕ
written (Fixed a) s = tos s
written (Offset p n) s = tos s
written (Indexed p) s = next s

abbrev pub asked : MemoryOperand → State → Access
asked operand.Nothing s = Nothing
asked (operand.Read x) s = Read (address x s)
asked (operand.Write x) s = Write (address x s) (written x s)

abbrev pub wants : Instruction → State → Access
wants i s = asked (reach i) s

module _ {B : Type 0} (m : Meaning B) where
  -- does the board accept it
  abbrev pub accepts : Access → B → Bool
  accepts Nothing b = true
  accepts (Read a) b = m.readable b a
  accepts (Write a v) b = m.writable b a

  -- the byte that it answers, 0 where none is asked for, and the board after it
  abbrev pub answered : Access → B → ℕ
  answered Nothing b = 0
  answered (Read a) b = answer m b a
  answered (Write a v) b = 0

  abbrev pub changed : Access → B → B
  changed Nothing b = b
  changed (Read a) b = m.after_read b a
  changed (Write a v) b = m.after_write b a v

-- the machine after an instruction

-- what it does, of the byte that the board answered and the fill byte
abbrev pub does : Instruction → ℕ → ℕ → State → State
does i byte fill s = effect i.family.kind i.number i.operand byte fill s

-- and where it goes on, which is this way
abbrev pub goes : Instruction → Flow → ℕ → ℕ → State → State
goes i w byte fill s = moved w (taken i.family.turn (tos s)) (ends i s.ip) i.family.cycles (does i byte fill s)

abbrev pub done : Instruction → ℕ → ℕ → State → State
done i byte fill s = goes i (flow i s.ip) byte fill s

-- the step

-- what is asked of the stacks
abbrev pub stack_asks : Settings → Instruction → State → List Asked
stack_asks limits i s =
    ask 71 s.ip (nat_le i.family.needs (length s.stack))
    ∷ (ask 72 s.ip (nat_le i.family.takes (length s.returns))
    ∷ (ask 73 s.ip (nat_le (length s.stack - i.family.needs + i.family.leaves) limits.stack)
    ∷ (ask 74 s.ip (nat_le (length s.returns - i.family.takes + i.family.gives) limits.returns)
    ∷ [])))

pub record Outcome (B : Type 0) : Type 0 where
  pub verdict : Verdict
  pub machine : State
  pub board : B

-- a step that is accepted leaves t and c, and one that is refused leaves all as it was
abbrev pub settled : {B : Type 0} → Verdict → State → B → State → B → Outcome B
settled accepted s b t c = record { verdict = accepted; machine = t; board = c }
settled (refused n p) s b t c = record { verdict = refused n p; machine = s; board = b }

module _ {B : Type 0} (m : Meaning B) (limits : Settings) where
  -- all that a step asks, of the instruction that stands there, if one does
  abbrev pub step_asks : Option Instruction → State → B → List Asked
  step_asks None s b = ask 70 s.ip false ∷ []
  step_asks (Some i) s b = ask 70 s.ip true ∷ (stack_asks limits i s ++ (ask 75 s.ip (accepts m (wants i s) b) ∷ []))

  unfoldable pub after : Option Instruction → State → B → Outcome B
  after None s b = settled (first_no (step_asks None s b)) s b s b
  after (Some i) s b =
      settled (first_no (step_asks (Some i) s b)) s b
      (done i (answered m (wants i s) b) limits.fill s) (changed m (wants i s) b)

  -- one step over a code that begins at its first address
  unfoldable pub stepped : List ℕ → ℕ → State → B → Outcome B
  stepped code first s b = after (fetched code first s.ip) s b

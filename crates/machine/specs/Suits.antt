-- What the code's inner functions lean on. Each follows from the questions asked before them; no rule speaks of these.
use Rattle.std.specs.Prelude.{ℕ, ◌+◌, ◌-◌, ◌<◌, ◌≤◌}
use Rattle.instruction.specs.declared.table.Family.{Family}
use Rattle.instruction.specs.declared.table.Kind.{Kind}
use Rattle.instruction.specs.declared.reach.Target.{Target}
use Rattle.instruction.specs.declared.reach.Target.TheVariants.{Fixed, Offset, Indexed}
use Rattle.instruction.specs.declared.reach.MemoryOperand.{MemoryOperand}
use Rattle.instruction.specs.declared.reach.MemoryOperand.TheVariants.{Nothing, Read, Write}
use Rattle.instruction.specs.Table.{row_of}

-- what a row and the questions promise of an instruction's number and of the depths d and r of the data and the return stack
pub record Suited (f : Family) (number d r : ℕ) : Type 0 where
  pub low : number ≤ f.last - f.first
  pub enough : f.needs ≤ d
  pub within : d - f.needs + f.leaves ≤ 255
  pub enough_returns : f.takes ≤ r
  pub within_returns : r - f.takes + f.gives ≤ 255

abbrev pub Suits : Kind → ℕ → ℕ → ℕ → Type 0
Suits k number d r = Suited (row_of k) number d r

-- the pointer is one of four, and the bytes that the access needs are there
abbrev pub Found : Target → ℕ → Type 0
Found (Fixed a) d = Unit {0}
Found (Offset p n) d = p < 4
Found (Indexed p) d = (p < 4) × (0 < d)

abbrev pub Stored : Target → ℕ → Type 0
Stored (Fixed a) d = 0 < d
Stored (Offset p n) d = 0 < d
Stored (Indexed p) d = 1 < d

abbrev pub Reaches : MemoryOperand → ℕ → Type 0
Reaches Nothing d = Unit {0}
Reaches (Read x) d = Found x d
Reaches (Write x) d = Found x d × Stored x d

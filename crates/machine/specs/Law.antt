-- Two laws of every instruction of the table: the row says how deep it leaves both stacks, and what it may touch.
use Rattle.std.specs.Prelude.{◌≡◌, ℕ, ◌+◌, ◌-◌, ◌*◌, ◌<◌, ◌≤◌, List, ◌++◌, length, Some, None, Option, slice_index, slice_set}
use Rattle.instruction.specs.declared.table.Transfer.{Transfer}
use Rattle.instruction.specs.declared.table.Transfer.TheVariants.{Other, PutsWord, LoadsPointer}
use Rattle.instruction.specs.declared.decoding.Instruction.{Instruction}
use Rattle.instruction.specs.Decode.{Listed}
use Rattle.instruction.specs.Flow.{own_takes, own_gives}
use Rattle.instruction.specs.Claim.{Knows, Span, unsure, from_to, Claim, nothing, reading, writing, claim, learns}
use Rattle.machine.specs.declared.access.Access.{Access}
use Rattle.machine.specs.declared.access.Access.TheVariants.{Nothing, Read, Write}
use Rattle.machine.specs.State.{State, tos, next}
use Rattle.machine.specs.Step.{does, wants, done}

-- The depth law: both stacks are as deep after an instruction as they were before it, less the bytes needed, plus those left.
pub record Deep (i : Instruction) (s e : State) : Type 0 where
  pub stack : i.family.needs ≤ length s.stack → length e.stack ≡ length s.stack - i.family.needs + i.family.leaves
  pub returns : i.family.takes ≤ length s.returns → length e.returns ≡ length s.returns - i.family.takes + i.family.gives

abbrev pub DepthLaw : Type 0
DepthLaw = (i : Instruction) (byte fill : ℕ) (s : State) → Listed i → Deep i s (done i byte fill s)

-- The frame law.

-- a stack with d bytes of its own on top of what lies under them
pub record On (d : ℕ) (under xs : List ℕ) : Type 0 where
  pub own : List ℕ
  pub many : length own ≡ d
  pub is : xs ≡ own ++ under

-- what is known of a number holds of it
abbrev pub Is : Option ℕ → ℕ → Type 0
Is None a = Unit {0}
Is (Some w) a = a ≡ w

-- what is known holds of the machine: of its pointers, and of the word on top of its data stack
pub record Agrees (k : Knows) (s : State) : Type 0 where
  pub pointer : (p : ℕ) → p < 4 → Is (k.pointer p) (slice_index s.pointers p)
  pub top : Is k.top (next s * 256 + tos s)

abbrev pub Spans : Span → ℕ → Type 0
Spans unsure a = Unit {0}
Spans (from_to first last) a = (first ≤ a) × (a ≤ last)

-- the access is the claimed one
abbrev pub Covered : Claim → Access → Type 0
Covered nothing Nothing = Unit {0}
Covered nothing (Read a) = ⊥
Covered nothing (Write a v) = ⊥
Covered (reading x) Nothing = ⊥
Covered (reading x) (Read a) = Spans x a
Covered (reading x) (Write a v) = ⊥
Covered (writing x) Nothing = ⊥
Covered (writing x) (Read a) = ⊥
Covered (writing x) (Write a v) = Spans x a

-- the pointers that an instruction leaves: POPD [p] loads the word on top into p, and nothing else changes one
abbrev pub pointers_after : Transfer → Instruction → State → List ℕ
pointers_after Other i s = s.pointers
pointers_after PutsWord i s = s.pointers
pointers_after LoadsPointer i s = slice_set s.pointers i.number (next s * 256 + tos s)

-- an instruction that takes the machine s to e, before control goes on, keeps to its row
pub record Framed (i : Instruction) (s e : State) : Type 0 where
  -- the bytes needed are replaced by those left, and no byte beneath them changes
  pub stack : (under : List ℕ) → On i.family.needs under s.stack → On i.family.leaves under e.stack
  -- the same of the return stack, a return address apart
  pub returns : (under : List ℕ) → On (own_takes i) under s.returns → On (own_gives i) under e.returns
  -- its one access is the claimed one
  pub access : (k : Knows) → Agrees k s → Covered (claim i k) (wants i s)
  pub pointers : e.pointers ≡ pointers_after i.family.transfer i s
  -- what is known after it holds, of a machine with four pointers
  pub learned : (k : Knows) → length s.pointers ≡ 4 → Agrees k s → Agrees (learns i k) e
  pub ip : e.ip ≡ s.ip
  pub cycles : e.cycles ≡ s.cycles

-- and once control has gone on, so do both stacks, with the return address that a call leaves and a return takes
pub record Replaced (i : Instruction) (s e : State) : Type 0 where
  pub stack : (under : List ℕ) → On i.family.needs under s.stack → On i.family.leaves under e.stack
  pub returns : (under : List ℕ) → On i.family.takes under s.returns → On i.family.gives under e.returns

abbrev pub FrameLaw : Type 0
FrameLaw = (i : Instruction) (byte fill : ℕ) (s : State) → Listed i → Framed i s (does i byte fill s) × Replaced i s (done i byte fill s)

-- A routine: a code with all that its sheet claims. A digest is what the sheets of others may know of it.
use Rattle.std.specs.Prelude.{ℕ, ◌+◌, List, [], ◌∷◌, map, Some, None, Option}
use Rattle.std.proofs.Math.ListN as lists
use Rattle.instruction.specs.declared.decoding.Instruction.{Instruction}
use Rattle.instruction.specs.Decode.{decoded, operand_size}
use Rattle.records.specs.declared.head.Head.{Head}
use Rattle.records.specs.declared.window.Window.{Window}
use Rattle.records.specs.declared.row.Row.{Row}
use Rattle.records.specs.declared.entry.Entry.{Entry}
use Rattle.records.specs.declared.scene.Candidate.{Candidate}
use Rattle.records.specs.Records.{chain, records}
use Rattle.records.specs.Read.{read_head, read_row, read_window}

pub record Routine : Type 0 where
  pub origin : ℕ
  pub length : ℕ
  pub arguments : ℕ
  pub results : ℕ
  -- the greatest depths of the data stack, arguments included, and of the return stack, the own return address not included
  pub peak : ℕ
  pub returns : ℕ
  pub worst : ℕ
  pub windows : List Window
  pub rows : List Row
  pub code : List ℕ

pub record Digest : Type 0 where
  pub origin : ℕ
  pub length : ℕ
  pub arguments : ℕ
  pub results : ℕ
  pub peak : ℕ
  pub returns : ℕ
  pub worst : ℕ
  pub windows : List Window

abbrev pub routine_from : Head → List ℕ → List ℕ → Routine
routine_from h code sheet = record {
  origin = h.origin;
  length = h.length;
  arguments = h.arguments;
  results = h.results;
  peak = h.peak;
  returns = h.returns;
  worst = h.worst;
  windows = records read_window sheet (chain sheet h.windows);
  rows = records read_row sheet (chain sheet h.rows);
  code = code;
}

-- the routine that a code and a sheet describe
abbrev pub routine_of : List ℕ → List ℕ → Routine
routine_of code sheet = routine_from (read_head sheet) code sheet

-- the same of a candidate, whose head has been read
abbrev pub routine : Candidate → Routine
routine c = routine_from c.head c.code.now c.sheet.now

abbrev pub digest : Routine → Digest
digest R = record {
  origin = R.origin;
  length = R.length;
  arguments = R.arguments;
  results = R.results;
  peak = R.peak;
  returns = R.returns;
  worst = R.worst;
  windows = R.windows;
}

-- the windows, or the origins, that stand in an entry's places
abbrev pub present : {A : Type 0} → List (Option A) → List A
present [] = []
present (None ∷ os) = present os
present (Some a ∷ os) = a ∷ present os

abbrev pub digest_of : Entry → Digest
digest_of e = record {
  origin = e.origin;
  length = e.length;
  arguments = e.arguments;
  results = e.results;
  peak = e.peak;
  returns = e.returns;
  worst = e.worst;
  windows = present e.windows;
}

abbrev pub digests_of : List Entry → List Digest
digests_of = map digest_of

-- the instruction at a row
abbrev pub instruction_at : Routine → Row → Option Instruction
instruction_at R r = decoded (lists.drop r.offset R.code)

-- the address of a row
abbrev pub address_of : Routine → Row → ℕ
address_of R r = R.origin + r.offset

-- the bytes of the instruction; where there is none, one
abbrev pub size_of : Option Instruction → ℕ
size_of None = 1
size_of (Some i) = operand_size i.operand

-- where the instruction of a row ends in the code
abbrev pub end_of : Routine → Row → ℕ
end_of R r = r.offset + size_of (instruction_at R r)

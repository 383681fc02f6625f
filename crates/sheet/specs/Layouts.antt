-- The rows of a candidate by their offsets.
use Rattle.std.specs.Prelude.{◌≡◌, ℕ, ◌<◌, cond, List, [], ◌∷◌, Some, None, Option, ◌==◌, slice_index}
use Rattle.std.specs.List.{AllByRecursion, AllByRecursion-prop}
use Rattle.std.specs.Coded.{×_prop, Unit-prop, le_prop}
use Rattle.records.specs.declared.chain.Link.{Link}
use Rattle.records.specs.declared.row.Row.{Row}
use Rattle.records.specs.declared.scene.Candidate.{Candidate}
use Rattle.records.specs.Records.{record_at, chain}
use Rattle.records.specs.Reader.{Rising}
use Rattle.records.specs.Routine.{routine}
use Rattle.records.specs.Read.{read_row}

-- the index of the record of the first row at an offset, or zero where there is none
abbrev pub index_at : List ℕ → List Link → ℕ → ℕ
index_at sheet [] o = 0
index_at sheet (l ∷ ls) o = cond ((read_row (record_at sheet l.index)).offset == o) l.index (index_at sheet ls o)

-- a table has at each offset the index of the row that stands there
abbrev pub Locates : List ℕ → List ℕ → List Link → Type 0
Locates table sheet ls = (o : ℕ) → o < 1024 → slice_index table o ≡ index_at sheet ls o

-- each row stands below 1,024
abbrev pub Low : List Row → Type 0
Low rows = AllByRecursion (λ r. r.offset < 1024) rows

-- The rows of a candidate have been judged one by one: their offsets rise and are low.
pub record Read (c : Candidate) : Type 0 where
  pub rising : Rising (λ (r : Row). r.offset) None (routine c).rows
  pub low : Low (routine c).rows

-- and a table finds them
pub record Laid (c : Candidate) (table : List ℕ) : Type 0 where
  pub rising : Rising (λ (r : Row). r.offset) None (routine c).rows
  pub low : Low (routine c).rows
  pub located : Locates table c.sheet.now (chain c.sheet.now c.head.rows)

-- Both facts can be so in one way only.

pub rising-prop : (before : Option Row) (rows : List Row) → IsProp (Rising (λ (r : Row). r.offset) before rows)
rising-prop before [] = Unit-prop
rising-prop before (r ∷ rs) = ×_prop le_prop (rising-prop (Some r) rs)

pub low-prop : (rows : List Row) → IsProp (Low rows)
low-prop = AllByRecursion-prop _ (λ r. le_prop)

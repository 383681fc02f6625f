-- What a reader of a chain has yet to give.
use Rattle.std.specs.Prelude.{ℕ, suc, ◌≤◌, List, [], ◌∷◌, Some, None, Option}
use Rattle.records.specs.declared.chain.Link.{Link}
use Rattle.records.specs.declared.chain.Chain.{Chain}
use Rattle.records.specs.Records.{links}

-- the links that are left
abbrev pub ahead : Chain → List Link
ahead c = links c.sheet.now c.left c.next.holder c.next.index

module _ {R : Type 0} (key : R → ℕ) where
  -- the least key that may come after a record
  abbrev pub low : Option R → ℕ
  low None = 0
  low (Some b) = suc (key b)

  -- each key is past the one before
  abbrev pub Rising : Option R → List R → Type 0
  Rising before [] = Unit {0}
  Rising before (r ∷ rs) = (low before ≤ key r) × Rising (Some r) rs

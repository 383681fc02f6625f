-- A sheet is a row of records of 18 bytes. Records are chained by their next index, and zero ends a chain.
use Rattle.std.specs.Prelude.{ℕ, zero, suc, ◌+◌, ◌*◌, ◌/◌, cond, List, [], ◌∷◌, ◌++◌, length, take, drop, Some, Option, ◌==◌, nat_lt, slice_index}
use Rattle.refusal.specs.Questions.{Asked, ask}
use Rattle.records.specs.declared.chain.Link.{Link}

-- how many whole records stand in these bytes
abbrev pub record_count : List ℕ → ℕ
record_count sheet = length sheet / 18

abbrev pub record_at : List ℕ → ℕ → List ℕ
record_at sheet i = take 18 (drop (18 * i) sheet)

-- two bytes of a record, and four, the high ones first
abbrev pub word : List ℕ → ℕ → ℕ
word r k = 256 * slice_index r k + slice_index r (k + 1)

abbrev pub long : List ℕ → ℕ → ℕ
long r k = 65536 * word r k + word r (k + 2)

abbrev pub next_of : List ℕ → ℕ
next_of r = slice_index r 9

-- The chain from an index on: each link has the index of its record, and of the record that holds this index. No more than
-- `most` links of it are taken.
unfoldable pub links : List ℕ → ℕ → ℕ → ℕ → List Link
links sheet zero holder index = []
links sheet (suc most) holder index =
    cond
    (index == 0)
    []
    (record { holder = holder; index = index } ∷ links sheet most index (next_of (record_at sheet index)))

-- The whole chain: keys are 16-bit numbers that rise, so a chain that is accepted has no more links.
abbrev pub chain : List ℕ → ℕ → List Link
chain sheet first = links sheet 65537 0 first

-- the records along a chain
module _ {R : Type 0} (read : List ℕ → R) (sheet : List ℕ) where
  abbrev pub records : List Link → List R
  records [] = []
  records (l ∷ ls) = read (record_at sheet l.index) ∷ records ls

-- What is asked along a chain: for each link whether its index is below the number of records, at the record that holds the
-- index, and then the kind's own questions, of the record's number in the chain, its index, the record before and itself.
module _
    {R : Type 0}
    (number : ℕ)
    (read : List ℕ → R)
    (asks : ℕ → ℕ → Option R → R → List Asked)
    (sheet : List ℕ)
  where
    unfoldable pub along : ℕ → Option R → List Link → List Asked
    along nth before [] = []
    along nth before (l ∷ ls) =
        ask number l.holder (nat_lt l.index (record_count sheet))
        ∷ (asks nth l.index before (read (record_at sheet l.index))
        ++ along (nth + 1) (Some (read (record_at sheet l.index))) ls)

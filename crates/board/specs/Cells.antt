-- Cells: addresses from a first one, all readable, writable and held.
use Rattle.std.specs.Prelude.{◌≡◌, ℕ, ◌+◌, ◌-◌, Bool, ◌&&◌, ◌||◌, List, length, replicate, nat_le, nat_lt, slice_index, slice_set}
use Rattle.board.specs.Meaning.{Meaning}

-- the first address, and the bytes from there on
pub record Cells : Type 0 where
  pub first : ℕ
  pub bytes : List ℕ

abbrev pub owns : Cells → ℕ → Bool
owns c a = nat_le c.first a && nat_lt a (c.first + length c.bytes)

-- both ends are, where there is an address between them
abbrev pub owns_ends : Cells → ℕ → ℕ → Bool
owns_ends c first last = nat_lt last first || (owns c first && owns c last)

abbrev pub with_byte : Cells → ℕ → ℕ → Cells
with_byte c i v = record { first = c.first; bytes = slice_set c.bytes i v }

abbrev pub cells_meaning : Meaning Cells
cells_meaning = record {
  readable = owns;
  writable = owns;
  held = owns;
  byte = λ c a. slice_index c.bytes (a - c.first);
  -- no address is live
  live = λ c a. 0;
  after_read = λ c a. c;
  after_write = λ c a v. with_byte c (a - c.first) v;
}

-- at most 512, and none past the last address
abbrev pub cells_fit : ℕ → ℕ → Bool
cells_fit first count = nat_le count 512 && nat_le (first + count) 65536

-- cells as they are made: all zeros
pub record NewCells (first count : ℕ) (c : Cells) : Type 0 where
  pub start : c.first ≡ first
  pub zeros : c.bytes ≡ replicate count 0

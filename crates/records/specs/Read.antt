-- The head, a window and a row, as they stand in a record.
use Rattle.std.specs.Prelude.{ℕ, ◌+◌, ◌*◌, ◌/◌, ◌%◌, ◌^◌, cond, List, [], ◌∷◌, map, Some, None, Option, ◌==◌, slice_index}
use Rattle.board.specs.declared.Right.{Right}
use Rattle.board.specs.declared.Right.TheVariants.{Read, Write, Both}
use Rattle.records.specs.declared.head.Head.{Head}
use Rattle.records.specs.declared.window.Window.{Window}
use Rattle.records.specs.declared.row.Row.{Row}
use Rattle.records.specs.Records.{word, long}

abbrev pub read_head : List ℕ → Head
read_head r = record {
  origin = word r 0;
  length = word r 2;
  arguments = slice_index r 4;
  results = slice_index r 5;
  peak = slice_index r 6;
  returns = slice_index r 7;
  worst = long r 8;
  rows = slice_index r 12;
  windows = slice_index r 13;
}

-- the right that a number names: 1 to read, 2 to write, 3 both
abbrev pub right_of : ℕ → Option Right
right_of n = cond (n == 1) (Some Read) (cond (n == 2) (Some Write) (cond (n == 3) (Some Both) None))

abbrev pub read_window : List ℕ → Window
read_window r = record { first = word r 0; last = word r 2; right = slice_index r 4 }

-- the value of a pointer whose bit is set in the marks; the value of another is not looked at
abbrev pub marked : ℕ → ℕ → ℕ → Option ℕ
marked marks p value = cond ((marks / 2 ^ p) % 2 == 1) (Some value) None

abbrev pub claim_at : List ℕ → ℕ → Option ℕ
claim_at r p = marked (slice_index r 8) p (word r (10 + 2 * p))

abbrev pub read_row : List ℕ → Row
read_row r = record {
  offset = word r 0;
  depth = slice_index r 2;
  returns = slice_index r 3;
  cycles = long r 4;
  marks = slice_index r 8;
  pointers = map (claim_at r) (0 ∷ (1 ∷ (2 ∷ (3 ∷ []))));
}

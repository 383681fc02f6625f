-- The planner's node, and what it answers to an input.
use Rattle.std.specs.Prelude.{◌≡◌, ℕ, List, [], IfOk, Result}
use Rattle.refusal.specs.declared.Refusal.{Refusal}
use Rattle.refusal.specs.Questions.{verdict_of, first_no}
use Rattle.board.specs.declared.cells.Cells.{Cells}
use Rattle.board.specs.Cells.{NewCells, cells_meaning}
use Rattle.machine.specs.declared.settings.Settings.{Settings}
use Rattle.machine.specs.Settings.{SetTo}
use Rattle.records.specs.declared.entry.Entry.{Entry}
use Rattle.records.specs.Routine.{routine_of}
use Rattle.records.specs.Ground.{may}
use Rattle.sheet.specs.Questions.{questions}
use Rattle.sheet.specs.Kept.{entry_of}
use Rattle.fitting.specs.Input.{code_in, sheet_in}

-- the base page at h'E000, the code area from h'4000 to h'4FFF, limits 64 and 32, the fill byte 0, cells from h'5000 to
-- h'51FF, and nothing fitted
pub record Planned (input : List ℕ) (r : Result Entry Refusal) : Type 0 where
  pub settings : Settings
  pub set_to : SetTo 0xE000 0x4000 0x4FFF 64 32 0 settings
  pub board : Cells
  pub new : NewCells 0x5000 512 board
  pub verdict : verdict_of r ≡ first_no (questions settings (may cells_meaning board) [] (code_in input) (sheet_in input))
  pub kept : IfOk r (λ e. e ≡ entry_of (routine_of (code_in input) (sheet_in input)))

-- What a sheet is judged against: settings, what the board may do, the fitted routines, and the routine that it describes.
use Rattle.std.specs.Prelude.{Bool, List, unwrap_or}
use Rattle.board.specs.Meaning.{Meaning, spans}
use Rattle.board.specs.declared.Right.TheVariants.{Both}
use Rattle.machine.specs.declared.settings.Settings.{Settings}
use Rattle.records.specs.declared.window.Window.{Window}
use Rattle.records.specs.declared.scene.Scene.{Scene}
use Rattle.records.specs.Read.{right_of}
use Rattle.records.specs.Routine.{Routine, Digest, digests_of, routine}

pub record Ground : Type 0 where
  pub settings : Settings
  -- whether the board may do what a window is for
  pub may : Window → Bool
  pub fitted : List Digest
  pub routine : Routine

-- the board has the window's right at each of its addresses; where the window names no right, both
abbrev pub may : {B : Type 0} → Meaning B → B → Window → Bool
may m board w = spans m board (unwrap_or (right_of w.right) Both) w.first w.last

abbrev pub ground : {B : Type 0} → Meaning B → Scene B → Ground
ground m s = record {
  settings = s.settings.now;
  may = may m s.board.now;
  fitted = digests_of s.fitted.now;
  routine = routine s.candidate;
}

-- All that is asked of a code and a sheet, in order. The verdict is the first no.
use Rattle.std.specs.Prelude.{ℕ, Bool, not, List, ◌∷◌, ◌++◌, None, ◌==◌}
use Rattle.refusal.specs.Questions.{Asked, ask}
use Rattle.machine.specs.declared.settings.Settings.{Settings}
use Rattle.records.specs.declared.head.Head.{Head}
use Rattle.records.specs.declared.window.Window.{Window}
use Rattle.records.specs.declared.chain.Link.{Link}
use Rattle.records.specs.Lists.{each}
use Rattle.records.specs.Records.{record_at, chain, along}
use Rattle.records.specs.Read.{read_head, read_row, read_window}
use Rattle.records.specs.Routine.{Routine, Digest, routine_from}
use Rattle.records.specs.Ground.{Ground}
use Rattle.records.specs.Heads.{whole_records, head_asks}
use Rattle.records.specs.Windows.{window_asks}
use Rattle.records.specs.Rows.{row_asks, starts_well}
use Rattle.sheet.specs.Steps.{step_asks}

-- of each window before the next
unfoldable pub windows_asked : Ground → Head → List ℕ → List Asked
windows_asked g h sheet = along 20 read_window (window_asks g) sheet 0 None (chain sheet h.windows)

-- of the row at a link, with what follows it
abbrev pub step_at : Routine → List Digest → List ℕ → Link → List Asked
step_at R fitted sheet l = step_asks R fitted l.index (read_row (record_at sheet l.index))

-- of each row by itself before the next, then of the first row, then of each row with what follows it
unfoldable pub rows_asked : Ground → Head → List ℕ → List Asked
rows_asked g h sheet =
    ask 30 0 (not (h.rows == 0))
    ∷ (along 30 read_row (row_asks g) sheet 0 None (chain sheet h.rows)
    ++ (ask 34 h.rows (starts_well g.routine (read_row (record_at sheet h.rows)))
    ∷ each (step_at g.routine g.fitted sheet) (chain sheet h.rows)))

-- what a code and a sheet are judged against, whose head has been read
abbrev pub ground_of : Settings → (Window → Bool) → List Digest → Head → List ℕ → List ℕ → Ground
ground_of s may fitted h code sheet = record { settings = s; may = may; fitted = fitted; routine = routine_from h code sheet }

abbrev pub asked : Ground → Head → List ℕ → List Asked
asked g h sheet = ask 10 0 (whole_records sheet) ∷ (head_asks g ++ (windows_asked g h sheet ++ rows_asked g h sheet))

-- all that is asked, under settings, of what the board may do, the fitted routines, a code and a sheet
abbrev pub questions : Settings → (Window → Bool) → List Digest → List ℕ → List ℕ → List Asked
questions s may fitted code sheet = asked (ground_of s may fitted (read_head sheet) code sheet) (read_head sheet) sheet

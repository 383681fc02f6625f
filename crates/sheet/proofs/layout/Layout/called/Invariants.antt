use Rattle.std.proofs.Common.{◌≡◌, length, replicate, None}
use Rattle.records.specs.Routine.{routine}
use Rattle.sheet.specs.Kept.{calls_of}
use Rattle.sheet.proofs.layout.Layout.called.Given as goal

abbrev pub invariant-loop-row : goal.invariant-loop-row
invariant-loop-row l =
    (goal.iterator-loop-row).can_next l.row-iterator
    × (goal.iterator-loop-row).is_finite l.row-iterator
    × (calls_of (routine l.self.candidate) (replicate 32 None) (routine l.self.candidate).rows
    ≡ calls_of (routine l.self.candidate) l.called l.row-iterator)
    × (length l.called ≡ 32)

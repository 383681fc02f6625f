use Rattle.std.proofs.Common.{◌≡◌}
use Rattle.std.specs.Iterator.Adapters.{zip_first, zip_second}
use Rattle.refusal.specs.Questions.{first_no}
use Rattle.records.specs.Lists.{each}
use Rattle.records.specs.Records.{chain, records}
use Rattle.records.specs.Read.{read_row}
use Rattle.records.specs.Reader.{ahead, Rising}
use Rattle.records.specs.Routine.{routine, digests_of}
use Rattle.sheet.specs.Questions.{step_at}
use Rattle.sheet.proofs.Before.{offset_key, Tracks}
use Rattle.sheet.proofs.layout.Layout.judge_rows.Given as goal

abbrev pub invariant-loop-link : goal.invariant-loop-link
invariant-loop-link l = let R = routine l.self.candidate in let sheet = l.self.candidate.sheet.now in let left = ahead (zip_first l.link-iterator) in record {
  can_next : (goal.iterator-loop-link).can_next l.link-iterator;
  is_finite : (goal.iterator-loop-link).is_finite l.link-iterator;
  verdict : first_no (each (step_at R (digests_of l.fitted) sheet) (chain sheet l.self.candidate.head.rows)) ≡ first_no (each (step_at R (digests_of l.fitted) sheet) left);
  rows : records read_row sheet left ≡ zip_second l.link-iterator;
  rising : Rising offset_key l.before (records read_row sheet left);
  tracks : Tracks R.rows l.before (records read_row sheet left);
}

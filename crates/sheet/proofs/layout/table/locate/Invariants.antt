use Rattle.std.proofs.Common.{◌≡◌, ◌<◌, length}
use Rattle.std.specs.List.{AllByRecursion}
use Rattle.std.specs.Iterator.Adapters.{zip_first, zip_second}
use Rattle.records.specs.Records.{records, chain}
use Rattle.records.specs.Read.{read_row}
use Rattle.records.specs.Reader.{ahead}
use Rattle.sheet.specs.Layouts.{Low}
use Rattle.sheet.proofs.Tables.{Filling, Fresh}
use Rattle.sheet.proofs.layout.table.locate.Given as goal

abbrev pub invariant-loop-link : goal.invariant-loop-link
invariant-loop-link l = let sheet = l.candidate.sheet.now in let left = ahead (zip_first l.link-iterator) in record {
  can_next : (goal.iterator-loop-link).can_next l.link-iterator;
  is_finite : (goal.iterator-loop-link).is_finite l.link-iterator;
  sized : length l.table ≡ 1024;
  indices : AllByRecursion (λ m. 0 < m.index) left;
  rows : records read_row sheet left ≡ zip_second l.link-iterator;
  low : Low (records read_row sheet left);
  filling : Filling l.table sheet (chain sheet l.candidate.head.rows) left;
  fresh : Fresh l.table sheet left;
}

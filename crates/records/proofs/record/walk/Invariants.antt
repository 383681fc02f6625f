use Rattle.std.proofs.Common.{◌≡◌, ◌+◌, ◌≤◌, length, None}
use Rattle.std.specs.Iterator.Adapters.{enumerate_source, enumerate_count}
use Rattle.refusal.specs.Questions.{number, first_no}
use Rattle.records.specs.Records.{chain, records, along}
use Rattle.records.specs.Reader.{ahead, low, Rising}
use Rattle.records.specs.Ground.{ground}
use Rattle.records.proofs.record.walk.Given as goal

-- the verdict so far, how many links have come, that no key is skipped, and that the keys rise if those ahead do
abbrev pub invariant-loop-nth : goal.invariant-loop-nth
invariant-loop-nth g l = let left = ahead (enumerate_source l.nth-iterator) in record {
  can_next : (goal.iterator-loop-nth g).can_next l.nth-iterator;
  is_finite : (goal.iterator-loop-nth g).is_finite l.nth-iterator;
  verdict : first_no (along (number g.K.Record.INDEX_QUESTION) g.K.Record.reads (g.K.Record.asks (ground g.B.Board.meaning l.scene)) l.sheet 0 None (chain l.sheet l.first))
      ≡ first_no (along (number g.K.Record.INDEX_QUESTION) g.K.Record.reads (g.K.Record.asks (ground g.B.Board.meaning l.scene)) l.sheet (enumerate_count l.nth-iterator) l.before left);
  count : enumerate_count l.nth-iterator + length left ≡ length (chain l.sheet l.first);
  least : enumerate_count l.nth-iterator ≤ low g.K.Record.key l.before;
  most : low g.K.Record.key l.before ≤ 65536;
  rising : Rising g.K.Record.key l.before (records g.K.Record.reads l.sheet left)
      → Rising g.K.Record.key None (records g.K.Record.reads l.sheet (chain l.sheet l.first));
}

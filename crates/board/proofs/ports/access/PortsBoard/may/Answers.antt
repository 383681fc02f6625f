use Rattle.std.proofs.Common.{◌∙◌, rules, tests}
use Rattle.std.proofs.lemmas.Iterator.Search.{all_from_yields_List}
use Rattle.board.specs.Meaning.{allowed}
use Rattle.board.specs.Ports.{ports_meaning}
use Rattle.board.proofs.Ranges.{yields_all, shown_between}
use Rattle.board.proofs.ports.access.PortsBoard.may.Goals as goal

pub returns : goal.returns
returns c =
    all_from_yields_List (allowed ports_meaning c.args.self.now c.args.right) _ _ _ c.all.ensures.ran (yields_all c.new.result) (λ x b q k. search (rules, tests))
    ∙ shown_between (allowed ports_meaning c.args.self.now c.args.right) c.new.result c.args.first c.args.last c.new.ensures.start c.new.ensures.end c.new.ensures.exhausted

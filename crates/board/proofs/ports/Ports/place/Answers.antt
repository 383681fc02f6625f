use Rattle.std.proofs.Common.{◌≡◌, rules, tests}
use Rattle.std.specs.List.{position}
use Rattle.std.proofs.lemmas.Iterator.{YieldsList-from_slice}
use Rattle.std.proofs.lemmas.Iterator.Search.{position_from_yields_List}
use Rattle.board.specs.Ports.{is_at}
use Rattle.board.proofs.Outputs.{found_at}
use Rattle.board.proofs.ports.Ports.place.Goals as goal

pub returns : goal.returns
returns c =
    let e : c.position.result ≡ position (is_at c.args.at) c.args.self.now.outputs = position_from_yields_List (is_at c.args.at) _ _ c.position.result c.position.ensures.ran (YieldsList-from_slice c.args.self.now.outputs cc) (λ x b q k. search (rules, tests)) in
    rw e (found_at (is_at c.args.at) c.args.self.now.outputs)

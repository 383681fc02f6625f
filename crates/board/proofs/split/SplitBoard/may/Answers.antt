use Rattle.std.proofs.Common.{◌&&◌, sym, refl, ap, ◌∙◌, arith}
use Rattle.board.specs.Meaning.{spans}
use Rattle.board.proofs.Parted.{both_span}
use Rattle.board.proofs.split.SplitBoard.may.Goals as goal

pub returns-then-may : goal.returns-then-may
returns-then-may g c =
    ap (λ z. z && c.may-then-may.result) (sym c.if-may.true)
    ∙ both_span g.L.Board.meaning g.U.Board.meaning c.args.self.now c.args.right c.args.first c.args.last c.may-else-not-is_below.result c.may-then-may.result (grind arith) (grind arith) c.may-else-not-is_below.ensures c.may-then-may.ensures

pub returns-else-may : goal.returns-else-may
returns-else-may g c =
    let y = spans g.U.Board.meaning c.args.self.now.upper c.args.right c.args.self.now.boundary c.args.last in
    c.if-may.false ∙ ap (λ z. z && y) (sym c.if-may.false)
    ∙ both_span g.L.Board.meaning g.U.Board.meaning c.args.self.now c.args.right c.args.first c.args.last c.may-else-not-is_below.result y (grind arith) (grind arith) c.may-else-not-is_below.ensures refl

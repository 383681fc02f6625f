use Rattle.std.proofs.Common.{refl}
use Rattle.board.proofs.Cut.{zeros_cut}
use Rattle.board.proofs.cells.Cells.blank.Goals as goal

pub returns : goal.returns
returns c = record { start = refl; zeros = zeros_cut c.args.count 512 c.requires.few }

use Rattle.std.proofs.Common.{◌≡◌, ℕ, ◌<◌, ◌≤◌, List, length, sym, ap, arith}
use Rattle.std.proofs.lemmas.List.{length-take-le}
use Rattle.board.proofs.Cut.{byte_cut}
use Rattle.board.proofs.cells.Cells.set.Goals as goal

pub returns : goal.returns
returns c =
    let few : c.self.inside.count ≤ length c.self.inside.bytes = omega (arith, c.self.invariant) in
    let known = rw (sym c.self.view_is) at c.requires in
    let below : c.args.place < c.self.inside.count = rw (length-take-le c.self.inside.count c.self.inside.bytes few) at known in
    rw (sym c.self.view_is) (ap (λ (xs : List ℕ). record { first = c.self.inside.first; bytes = xs }) (byte_cut c.self.inside.count c.self.inside.bytes c.args.place c.args.byte below))

use Rattle.std.proofs.Common.{◌≡◌, ◌≤◌, map, take}
use Rattle.board.specs.Ports.{silent}
use Rattle.board.proofs.ports.Ports.new.Given as goal

abbrev pub invariant-loop-at : goal.invariant-loop-at
invariant-loop-at l = record { made : l.silent.items ≡ map silent (take l.at-index l.outputs); few : l.at-index ≤ 16 }

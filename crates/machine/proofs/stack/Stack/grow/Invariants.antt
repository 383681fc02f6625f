use Rattle.std.proofs.Common.{◌≡◌, ◌+◌, ◌++◌, replicate}
use Rattle.machine.specs.Bytes.{bytes}
use Rattle.machine.proofs.stack.Stack.grow.Given as goal

abbrev pub invariant-loop : goal.invariant-loop
invariant-loop l = (bytes l.self ≡ replicate l.counter l.fill ++ bytes l.initial.self) × (l.self.depth ≡ l.initial.self.depth + l.counter)

use Rattle.std.specs.Prelude.{◌≡◌, ◌≢◌, ◌≤◌, vec_len}
use Rattle.second.specs.declared.fault.Fault.{Fault}
use Rattle.second.specs.declared.fault.Fault.TheVariants.{Denied}
use Rattle.second.specs.declared.model.Limits.{Limits}
use Rattle.second.specs.declared.model.Model.{Model}

-- both stacks are within their limits
abbrev pub IsWithin : Limits → Model → Type 0
IsWithin limits model = (vec_len model.stack ≤ limits.stack) × (vec_len model.returns ≤ limits.returns)

-- a step that was refused before it reached the board: nothing has changed
abbrev pub IsUntouched : Model → Model → Fault → Type 0
IsUntouched old new fault = (fault ≢ Denied) × (new ≡ old)

-- a stack found no memory to grow: all that the processor holds is what it was
abbrev pub HoldsSame : Model → Model → Type 0
HoldsSame old new =
    (new ≡ record old { stack = new.stack; returns = new.returns })
    × (new.stack.items ≡ old.stack.items)
    × (new.returns.items ≡ old.returns.items)

-- Tests over lists, and questions asked of each element.
use Rattle.std.specs.Prelude.{Bool, true, false, List, [], ◌∷◌, ◌++◌}
use Rattle.std.specs.List.{list_any}
use Rattle.refusal.specs.Questions.{Asked}

-- some element passes a test; `list_all` of the standard library says it of each
abbrev pub any_pass : {P : Type 0} → (P → Bool) → List P → Bool
any_pass = list_any

abbrev pub implies : Bool → Bool → Bool
implies true b = b
implies false b = true

-- what is asked of each, one after another
module _ {P : Type 0} (asks : P → List Asked) where
  unfoldable pub each : List P → List Asked
  each [] = []
  each (p ∷ ps) = asks p ++ each ps

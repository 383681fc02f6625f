-- A stack's bytes as a list, the top byte first.
use Rattle.std.specs.Prelude.{ℕ, zero, suc, List, [], ◌∷◌, slice_index}
use Rattle.machine.specs.declared.stack.Stack.{Stack}

-- the first n cells, the last of them first
unfoldable pub heaped : List ℕ → ℕ → List ℕ
heaped cells zero = []
heaped cells (suc n) = slice_index cells n ∷ heaped cells n

unfoldable pub bytes : Stack → List ℕ
bytes s = heaped s.cells s.depth

-- the top byte, and those under it
abbrev pub top : List ℕ → ℕ
top [] = 0
top (x ∷ xs) = x

abbrev pub rest : List ℕ → List ℕ
rest [] = []
rest (x ∷ xs) = xs

-- A code and its sheet as one input.
use Rattle.std.specs.Prelude.{ℕ, List, take, drop}
use Rattle.records.specs.Records.{word}

-- no more than 5,634 bytes are looked at
abbrev pub looked_at : List ℕ → List ℕ
looked_at input = take 5634 input

-- two bytes say how long the code is, and it follows them
abbrev pub code_of : List ℕ → List ℕ
code_of input = take (word input 0) (drop 2 input)

-- then comes the sheet; where the length is missing, or less code stands there than it says, nothing is left for it
abbrev pub sheet_of : List ℕ → List ℕ
sheet_of input = drop (word input 0) (drop 2 input)

abbrev pub code_in : List ℕ → List ℕ
code_in input = code_of (looked_at input)

abbrev pub sheet_in : List ℕ → List ℕ
sheet_in input = sheet_of (looked_at input)

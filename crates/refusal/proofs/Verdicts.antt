-- The verdict of lists of questions that are asked one after another.
use Rattle.std.proofs.Common.{◌≡◌, List, [], ◌∷◌, ◌++◌, refl, arith}
use Rattle.refusal.specs.Questions.{Asked, Verdict, accepted, refused, first_no}

-- the second verdict where the first accepts
abbrev pub then : Verdict → Verdict → Verdict
then accepted w = w
then (refused n p) w = refused n p

pub first_no-++ : (xs ys : List Asked) → first_no (xs ++ ys) ≡ then (first_no xs) (first_no ys)
first_no-++ [] ys = refl
first_no-++ (q ∷ qs) ys = grind (arith, first_no-++ qs ys)

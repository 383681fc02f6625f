-- A call asks its questions in a fixed order. Its verdict is the first that is answered no, by number and place.
use Rattle.std.specs.Prelude.{◌≡◌, ℕ, Bool, true, cond, List, [], ◌∷◌, ◌++◌, Ok, Err, codes, decimal, Result}
use Rattle.refusal.specs.declared.Question.{Question}
use Rattle.refusal.specs.declared.Question.TheVariants.{BasePage, CodeArea, StackLimits, BoardShape, SheetSize, CodeSize, ParameterBytes, OutsideArea, Overlap, TooMany, WindowIndex, WindowShape, WindowCount, WindowReserved, WindowDenied, RowIndex, RowOffset, RowInstruction, RowBounds, FirstRow, RowShort, OutsideWindows, CalleeMissing, CalleeMisfit, ReturnMisfit, FollowerMissing, FollowerDepths, FollowerCycles, FollowerPointers, NoInstruction, DataShort, ReturnShort, DataFull, ReturnFull, AccessDenied}
use Rattle.refusal.specs.declared.Refusal.{Refusal}

abbrev pub number : Question → ℕ
number BasePage = 1
number CodeArea = 2
number StackLimits = 3
number BoardShape = 4
number SheetSize = 10
number CodeSize = 11
number ParameterBytes = 12
number OutsideArea = 13
number Overlap = 14
number TooMany = 15
number WindowIndex = 20
number WindowShape = 21
number WindowCount = 22
number WindowReserved = 23
number WindowDenied = 24
number RowIndex = 30
number RowOffset = 31
number RowInstruction = 32
number RowBounds = 33
number FirstRow = 34
number RowShort = 40
number OutsideWindows = 41
number CalleeMissing = 42
number CalleeMisfit = 43
number ReturnMisfit = 44
number FollowerMissing = 45
number FollowerDepths = 46
number FollowerCycles = 47
number FollowerPointers = 48
number NoInstruction = 70
number DataShort = 71
number ReturnShort = 72
number DataFull = 73
number ReturnFull = 74
number AccessDenied = 75

-- a question that was put: its number, the place that a no names, and the answer
pub record Asked : Type 0 where
  pub number : ℕ
  pub place : ℕ
  pub answer : Bool

abbrev pub ask : ℕ → ℕ → Bool → Asked
ask n p b = record { number = n; place = p; answer = b }

pub data Verdict : Type 0 where
  accepted : Verdict
  refused : ℕ → ℕ → Verdict

abbrev pub first_no : List Asked → Verdict
first_no [] = accepted
first_no (q ∷ qs) = cond q.answer (first_no qs) (refused q.number q.place)

-- every question is answered yes
abbrev pub AllYes : List Asked → Type 0
AllYes [] = Unit {0}
AllYes (q ∷ qs) = (q.answer ≡ true) × AllYes qs

-- what an answer of the code says
abbrev pub verdict_of : {X : Type 0} → Result X Refusal → Verdict
verdict_of (Ok x) = accepted
verdict_of (Err e) = refused (number e.question) e.place

-- a refusal as text
abbrev pub spelt : Refusal → List ℕ
spelt e = codes "NO " ++ (decimal (number e.question) ++ (codes " AT " ++ decimal e.place))

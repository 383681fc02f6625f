-- What an acceptance says.
use Rattle.std.proofs.Common.{◌≡◌, ℕ, suc, ◌+◌, ◌<◌, ◌≤◌, true, false, eqb, ltb, leb, List, [], ◌∷◌, length, drop, is_some, IfOk, Some, None, Ok, Err, Option, Result, refl, ap, ⊎_elim, arith}
use Rattle.std.proofs.lemmas.List.{drop_all}
use Rattle.std.proofs.lemmas.Bool.{ltb-true, leb-true, eqb-true, and_parts, cases_lt}
use Rattle.std.specs.List.{AllByRecursion, list_all}
use Rattle.refusal.specs.Questions.{Asked, accepted, first_no}
use Rattle.refusal.proofs.Verdicts.{first_no-++}
use Rattle.instruction.specs.Decode.{decoded}
use Rattle.records.specs.declared.chain.Link.{Link}
use Rattle.records.specs.declared.window.Window.{Window}
use Rattle.records.specs.Records.{record_at, records, along, chain}
use Rattle.records.specs.Read.{read_row, read_window}
use Rattle.records.specs.Routine.{Routine, digest, digest_of, instruction_at, present}
use Rattle.records.specs.Ground.{Ground}
use Rattle.records.specs.Heads.{sized_as, few_parameters, in_area, apart, head_asks}
use Rattle.records.specs.Windows.{shaped, window_asks}
use Rattle.records.specs.Rows.{placed, row_asks}
use Rattle.records.proofs.Along.{then-rest, then_first, yes_then, along-passed}
use Rattle.sheet.specs.Layouts.{Low}
use Rattle.sheet.specs.Kept.{eight_places, entry_of}

-- one list of questions after another
pub ruleset in_order = first_no-++

-- what a kind's questions say of a record holds of each record of an accepted chain
module _ {R : Type 0} (number : ℕ) (read : List ℕ → R) (asks : ℕ → ℕ → Option R → R → List Asked) (sheet : List ℕ) (P : R → Type 0)
    (says : (nth i : ℕ) (before : Option R) (r : R) → accepted ≡ first_no (asks nth i before r) → P r) where
  pub along-all : (nth : ℕ) (before : Option R) (ls : List Link) → accepted ≡ first_no (along number read asks sheet nth before ls) → AllByRecursion P (records read sheet ls)
  along-all nth before [] pass = tt
  along-all nth before (l ∷ ls) pass =
      let turn = along-passed number read asks sheet nth before ls l pass in
      (says nth l.index before (read (record_at sheet l.index)) (then_first _ _ turn), along-all (nth + 1) (Some (read (record_at sheet l.index))) ls (then-rest _ _ turn))

-- an instruction stands only inside the code
stands_inside : (code : List ℕ) (o : ℕ) → is_some (decoded (drop o code)) ≡ true → o < length code
stands_inside code o some =
    ⊎_elim (λ lt. lt)
    (λ (past : length code ≤ o).
    let none : is_some (decoded (drop o code)) ≡ false = ap (λ (z : List ℕ). is_some (decoded z)) (drop_all o code past) in
    let z : ◌≡◌ {A = ℕ} 0 1 = cc in absurd (omega arith))
    (cases_lt o (length code))

short : (R : Routine) → sized_as R ≡ true → length R.code ≤ 1024
unfolding sized_as
short R e =
    let p = and_parts (eqb R.length (length R.code)) _ e in
    let q = and_parts (leb 1 R.length) _ p.1 in
    let same = eqb-true R.length (length R.code) p.0 in
    let most = leb-true R.length 1024 q.1 in
    omega (arith, same, most)

pub rows-low : (g : Ground) (sheet : List ℕ) (ls : List Link) → sized_as g.routine ≡ true → accepted ≡ first_no (along 30 read_row (row_asks g) sheet 0 None ls) → Low (records read_row sheet ls)
rows-low g sheet ls sized pass =
    along-all 30 read_row (row_asks g) sheet (λ r. r.offset < 1024)
    (λ nth i before r e.
    let q1 = yes_then (placed g.routine before r) _ 31 i e in
    let q2 = yes_then (is_some (instruction_at g.routine r)) _ 32 i q1.1 in
    let inside = stands_inside g.routine.code r.offset q2.0 in
    let most = short g.routine sized in
    omega (arith, inside, most))
    0 None ls pass

-- the code is as long as the head says, and there is room for one more routine
pub head_passed : (g : Ground) → accepted ≡ first_no (head_asks g) → (sized_as g.routine ≡ true) × (length g.fitted < 32)
unfolding head_asks
head_passed g e =
    let q1 = yes_then (sized_as g.routine) _ 11 0 e in
    let q2 = yes_then (few_parameters g.routine) _ 12 0 q1.1 in
    let q3 = yes_then (in_area g.settings g.routine) _ 13 0 q2.1 in
    let q4 = yes_then (list_all (apart g.routine) g.fitted) _ 14 0 q3.1 in
    let q5 = yes_then (ltb (length g.fitted) 32) _ 15 0 q4.1 in
    (q1.0, ltb-true (length g.fitted) 32 q5.0)

-- windows are at most eight

few : (g : Ground) (sheet : List ℕ) (nth : ℕ) (before : Option Window) (ls : List Link) → nth ≤ 8
    → accepted ≡ first_no (along 20 read_window (window_asks g) sheet nth before ls) → nth + length ls ≤ 8
few g sheet nth before [] h pass = omega arith
few g sheet nth before (l ∷ ls) h pass =
    let w : Window = read_window (record_at sheet l.index) in
    let turn = along-passed 20 read_window (window_asks g) sheet nth before ls l pass in
    let q1 = yes_then (shaped before w) _ 21 l.index (then_first _ _ turn) in
    let q2 = yes_then (ltb nth 8) _ 22 l.index q1.1 in
    let here : nth < 8 = ltb-true nth 8 q2.0 in
    let rest : nth + 1 + length ls ≤ 8 = few g sheet (nth + 1) (Some w) ls (omega arith) (then-rest _ _ turn) in
    omega (arith, rest)

records-length : (sheet : List ℕ) (ls : List Link) → length (records read_window sheet ls) ≡ length ls
records-length sheet [] = refl
records-length sheet (l ∷ ls) = ap suc (records-length sheet ls)

all-present : (ws : List Window) → length ws ≤ 8 → present (eight_places ws) ≡ ws
all-present [] h = refl
all-present (a ∷ []) h = refl
all-present (a ∷ b ∷ []) h = refl
all-present (a ∷ b ∷ c ∷ []) h = refl
all-present (a ∷ b ∷ c ∷ d ∷ []) h = refl
all-present (a ∷ b ∷ c ∷ d ∷ e ∷ []) h = refl
all-present (a ∷ b ∷ c ∷ d ∷ e ∷ f ∷ []) h = refl
all-present (a ∷ b ∷ c ∷ d ∷ e ∷ f ∷ g ∷ []) h = refl
all-present (a ∷ b ∷ c ∷ d ∷ e ∷ f ∷ g ∷ i ∷ []) h = refl
all-present (a ∷ b ∷ c ∷ d ∷ e ∷ f ∷ g ∷ i ∷ j ∷ ws) h = absurd (omega arith)

-- the places of an entry lose no window of an accepted sheet
pub none_lost : (g : Ground) (sheet : List ℕ) (first : ℕ) → accepted ≡ first_no (along 20 read_window (window_asks g) sheet 0 None (chain sheet first))
    → present (eight_places (records read_window sheet (chain sheet first))) ≡ records read_window sheet (chain sheet first)
none_lost g sheet first pass =
    let n = few g sheet 0 None (chain sheet first) (omega arith) pass in
    let e = records-length sheet (chain sheet first) in
    all-present (records read_window sheet (chain sheet first)) (omega (arith, n, e))

-- so the entry tells what the sheet says
pub told_by_entry : (R : Routine) → present (eight_places R.windows) ≡ R.windows → digest_of (entry_of R) ≡ digest R
unfolding entry_of
told_by_entry R e = ap (λ (ws : List Window). record {
  origin = R.origin;
  length = R.length;
  arguments = R.arguments;
  results = R.results;
  peak = R.peak;
  returns = R.returns;
  worst = R.worst;
  windows = ws;
}) e

pub made_so : {X E : Type 0} {P Q : X → Type 0} (r : Result X E) → ((x : X) → P x → Q x) → IfOk r P → IfOk r Q
made_so (Ok x) f p = f x p
made_so (Err e) f p = tt

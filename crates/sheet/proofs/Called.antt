-- The origins that an accepted entry keeps as called: there is a place for each, since each is a fitted routine's.
use Rattle.std.proofs.Common.{◌≡◌, ℕ, zero, suc, ◌<◌, Bool, true, false, not, ◌||◌, eqb, List, [], ◌∷◌, length, map, filter, replicate, is_some, Some, None, Option, sym, refl, ap, ◌∙◌, subst, arith}
use Rattle.std.proofs.Math.Bool.{or_assoc, or_comm, or-false}
use Rattle.std.proofs.lemmas.Bool.Decides.{nat_tests}
use Rattle.std.proofs.lemmas.Bool.{eqb-true, ne_eqb, false≢true}
use Rattle.std.proofs.lemmas.List.{length-map}
use Rattle.std.proofs.lemmas.List.Filters.{length-filter_both}
use Rattle.std.proofs.lemmas.Map.Views.{any-filter_same}
use Rattle.std.specs.List.{AllByRecursion, list_any}
use Rattle.refusal.specs.Questions.{accepted, first_no}
use Rattle.refusal.proofs.Verdicts.{first_no-++}
use Rattle.instruction.specs.declared.decoding.Instruction.{Instruction}
use Rattle.instruction.specs.declared.control.Flow.{Flow}
use Rattle.instruction.specs.declared.control.Flow.TheVariants.{Goes, Calls, Returns}
use Rattle.instruction.specs.Flow.{flow, ends}
use Rattle.instruction.specs.Claim.{claim}
use Rattle.records.specs.declared.chain.Link.{Link}
use Rattle.records.specs.declared.row.Row.{Row}
use Rattle.records.specs.Lists.{any_pass, each}
use Rattle.records.specs.Records.{record_at, records}
use Rattle.records.specs.Read.{read_row}
use Rattle.records.specs.Routine.{Routine, Digest, instruction_at, address_of}
use Rattle.records.proofs.Along.{not_refused, then_first, then-rest, yes_then}
use Rattle.sheet.specs.declared.follow.After.{After}
use Rattle.sheet.specs.Known.{allowed}
use Rattle.sheet.specs.Leads.{knows}
use Rattle.sheet.specs.Steps.{finds, enough, afterwards, call_asks, flow_asks, instruction_asks, step_asks}
use Rattle.sheet.specs.Questions.{step_at}
use Rattle.sheet.specs.Kept.{call_by, call_in, call_of, noted, noted_call, calls_of, entry_of}
use Rattle.sheet.specs.Laws.{is_origin, KeepsCalls}

or_again : (a b : Bool) → (a || b) ≡ ((a || b) || a)
or_again true b = refl
or_again false true = refl
or_again false false = refl

-- Numbers in a list, and the list without one of them.

abbrev is_in : ℕ → List ℕ → Bool
is_in t os = list_any (λ o. eqb o t) os

abbrev without : ℕ → List ℕ → List ℕ
without u os = filter (λ o. not (eqb o u)) os

some : (os : List ℕ) (u : ℕ) → is_in u os ≡ true → 0 < length os
some [] u e = absurd (false≢true e)
some (o ∷ os) u e = omega arith

without_lt : (u : ℕ) (os : List ℕ) → is_in u os ≡ true → length (without u os) < length os
without_lt u os e =
    let same = some (filter (λ o. eqb o u) os) u (any-filter_same (λ o. eqb o u) (λ o. eqb o u) true (λ k s. s) os ∙ e) in
    omega (arith, same, length-filter_both (λ o. eqb o u) (λ o. not (eqb o u)) (λ o. refl) os)

in_without : (t u : ℕ) (os : List ℕ) → (t ≡ u → ⊥) → is_in t os ≡ true → is_in t (without u os) ≡ true
in_without t u os n e = any-filter_same (λ o. eqb o t) (λ o. not (eqb o u)) true (λ k s. ap not (ne_eqb k u (λ z. n (sym (eqb-true k t s) ∙ z)))) os ∙ e

-- Places that hold different numbers of a list, and then nothing. Each place that is taken leaves fewer to come.

abbrev Empty : List (Option ℕ) → Type 0
Empty [] = Unit {0}
Empty (None ∷ ps) = Empty ps
Empty (Some u ∷ ps) = ⊥

abbrev Fits : List ℕ → List (Option ℕ) → Type 0
Fits os [] = Unit {0}
Fits os (None ∷ ps) = Empty ps
Fits os (Some u ∷ ps) = (is_in u os ≡ true) × Fits (without u os) ps

fits-empty : (os : List ℕ) (ps : List (Option ℕ)) → Empty ps → Fits os ps
fits-empty os [] e = tt
fits-empty os (None ∷ ps) e = e
fits-empty os (Some u ∷ ps) e = absurd e

there : (u t : ℕ) (ps : List (Option ℕ)) → u ≡ t → noted (Some u ∷ ps) t ≡ Some u ∷ ps
there u t ps e = grind (arith, nat_tests)

fits-noted : (os : List ℕ) (ps : List (Option ℕ)) (t : ℕ) → is_in t os ≡ true → Fits os ps → Fits os (noted ps t)
fits-noted os [] t i f = tt
fits-noted os (None ∷ ps) t i f = (i, fits-empty (without t os) ps f)
fits-noted os (Some u ∷ ps) t i f = let rest = fits-noted (without u os) ps t in let still = in_without t u os in grind (arith, nat_tests)

length-noted : (ps : List (Option ℕ)) (t : ℕ) → length (noted ps t) ≡ length ps
length-noted [] t = refl
length-noted (None ∷ ps) t = refl
length-noted (Some u ∷ ps) t = let rest = length-noted ps t in grind (arith, nat_tests)

abbrev lists : ℕ → List (Option ℕ) → Bool
lists s ps = any_pass (is_origin s) ps

-- where there are more places than numbers, one that is noted is there afterwards
lists-noted : (os : List ℕ) (ps : List (Option ℕ)) (t s : ℕ) → length os < length ps → is_in t os ≡ true → Fits os ps → lists s (noted ps t) ≡ (lists s ps || eqb t s)
lists-noted os [] t s h i f = absurd (omega arith)
lists-noted os (None ∷ ps) t s h i f = or_comm (eqb t s) (lists s ps)
lists-noted os (Some u ∷ ps) t s h i f =
    let fewer = without_lt u os f.0 in
    let rest = lists-noted (without u os) ps t s in
    let still = in_without t u os in
    grind (arith, nat_tests, or_again, or_assoc)

-- The origins that rows call.

abbrev KnownCall : List ℕ → Option ℕ → Type 0
KnownCall os None = Unit {0}
KnownCall os (Some t) = is_in t os ≡ true

module _ (R : Routine) (os : List ℕ) where
  calls_law : (rows : List Row) (ps : List (Option ℕ)) (s : ℕ) → length os < length ps → Fits os ps → AllByRecursion (λ r. KnownCall os (call_of R r)) rows
      → lists s (calls_of R ps rows) ≡ (lists s ps || any_pass (λ r. is_origin s (call_of R r)) rows)
  calls_law [] ps s h f all = sym (or-false (lists s ps))
  calls_law (r ∷ rs) ps s h f all = go (call_of R r) all.0 (λ qs h2 f2. calls_law rs qs s h2 f2 all.1)
    where
      go : (o : Option ℕ) → KnownCall os o → ((qs : List (Option ℕ)) → length os < length qs → Fits os qs → lists s (calls_of R qs rs) ≡ (lists s qs || any_pass (λ q. is_origin s (call_of R q)) rs))
          → lists s (calls_of R (noted_call ps o) rs) ≡ (lists s ps || (is_origin s o || any_pass (λ q. is_origin s (call_of R q)) rs))
      go None k more = more ps h f
      go (Some t) k more =
          more (noted ps t) (subst (λ (n : ℕ). length os < n) (sym (length-noted ps t)) h) (fits-noted os ps t k f)
          ∙ ap (λ (z : Bool). z || any_pass (λ q. is_origin s (call_of R q)) rs) (lists-noted os ps t s h k f)
          ∙ or_assoc (lists s ps) (eqb t s) (any_pass (λ q. is_origin s (call_of R q)) rs)

-- What was asked of the rows: each call is of a fitted routine.

abbrev origins : List Digest → List ℕ
origins Ds = map (λ D. D.origin) Ds

found_in : (Ds : List Digest) (t : ℕ) → is_some (finds Ds t) ≡ true → is_in t (origins Ds) ≡ true
found_in [] t e = e
found_in (D ∷ Ds) t e = let rest = found_in Ds t in grind (arith, nat_tests)

module _ (R : Routine) (Ds : List Digest) (i : ℕ) (r : Row) where
  by_call : (a : After) (back : ℕ) (d : Option Digest) → accepted ≡ first_no (call_asks R i r a back d) → is_some d ≡ true
  unfolding call_asks
  by_call a back None e = absurd (not_refused 42 i e)
  by_call a back (Some D) e = refl

  by_flow : (a : After) (back : ℕ) (f : Flow) → accepted ≡ first_no (flow_asks R Ds i r a back f) → KnownCall (origins Ds) (call_by f)
  unfolding flow_asks
  by_flow a back (Goes v w) e = tt
  by_flow a back (Calls t) e = found_in Ds t (by_call a back (finds Ds t) e)
  by_flow a back Returns e = tt

  by_instruction : (o : Option Instruction) → accepted ≡ first_no (instruction_asks R Ds i r o) → KnownCall (origins Ds) (call_in o (address_of R r))
  by_instruction None e = tt
  by_instruction (Some x) e =
      let q1 = yes_then (enough r x) _ 40 i e in
      let q2 = yes_then (allowed R.windows (claim x (knows R r))) _ 41 i q1.1 in
      by_flow (afterwards R r x) (ends x (address_of R r)) (flow x (address_of R r)) q2.1

  by_row : accepted ≡ first_no (step_asks R Ds i r) → KnownCall (origins Ds) (call_of R r)
  unfolding step_asks
  by_row e = by_instruction (instruction_at R r) e

by_rows : (R : Routine) (Ds : List Digest) (sheet : List ℕ) (ls : List Link) → accepted ≡ first_no (each (step_at R Ds sheet) ls) → AllByRecursion (λ r. KnownCall (origins Ds) (call_of R r)) (records read_row sheet ls)
unfolding each
by_rows R Ds sheet [] e = tt
by_rows R Ds sheet (l ∷ ls) e =
    let both = e ∙ first_no-++ (step_at R Ds sheet l) (each (step_at R Ds sheet) ls) in
    (by_row R Ds l.index (read_row (record_at sheet l.index)) (then_first _ _ both), by_rows R Ds sheet ls (then-rest _ _ both))

abbrev no_origin : Option ℕ
no_origin = None

all-empty : (n : ℕ) → Empty (replicate n None)
all-empty zero = tt
all-empty (suc n) = all-empty n

pub keeps_calls : (R : Routine) (Ds : List Digest) (sheet : List ℕ) (ls : List Link) → R.rows ≡ records read_row sheet ls → length Ds < 32
    → accepted ≡ first_no (each (step_at R Ds sheet) ls) → KeepsCalls R (entry_of R)
unfolding entry_of
keeps_calls R Ds sheet ls rows few pass t =
    let start : length (origins Ds) < length (replicate 32 no_origin) = subst (λ (n : ℕ). n < 32) (sym (length-map Ds (λ D. D.origin))) few in
    calls_law R (origins Ds) R.rows (replicate 32 None) t start (fits-empty (origins Ds) (replicate 32 None) (all-empty 32))
    (subst (λ (z : List Row). AllByRecursion (λ r. KnownCall (origins Ds) (call_of R r)) z) (sym rows) (by_rows R Ds sheet ls pass))

-- The row before, along a chain whose offsets rise.
use Rattle.std.proofs.Common.{◌≡◌, ℕ, ◌≤◌, List, [], ◌∷◌, ◌++◌, Some, None, Option, sym, refl, ap, ◌∙◌, arith}
use Rattle.std.proofs.lemmas.Bool.Decides.{nat_tests}
use Rattle.records.specs.declared.chain.Link.{Link}
use Rattle.records.specs.declared.row.Row.{Row}
use Rattle.records.specs.Records.{record_at, records}
use Rattle.records.specs.Read.{read_row}
use Rattle.records.specs.Reader.{Rising, low}
use Rattle.records.specs.Routine.{Routine}
use Rattle.sheet.specs.Leads.{row_before, word_from, primed}
use Rattle.sheet.specs.Laws.{PrimedByTheRowBefore}

abbrev pub offset_key : Row → ℕ
offset_key r = r.offset

-- the row before, of each row that is yet to come, is found among those that are yet to come
abbrev pub Tracks : List Row → Option Row → List Row → Type 0
Tracks rows before rest = (f : Row) → low offset_key before ≤ f.offset → row_before None rows f ≡ row_before before rest f

pub tracks-start : (rows : List Row) → Tracks rows None rows
tracks-start rows f h = refl

-- of the row at hand it is the last that has come
pub tracks_here : (rows : List Row) (before : Option Row) (r : Row) (rest : List Row) → Tracks rows before (r ∷ rest) → low offset_key before ≤ r.offset → row_before None rows r ≡ before
tracks_here rows before r rest t h = let found = t r h in grind (arith, nat_tests)

pub tracks-more : (rows : List Row) (before : Option Row) (r : Row) (rest : List Row) → Tracks rows before (r ∷ rest) → low offset_key before ≤ r.offset → Tracks rows (Some r) rest
tracks-more rows before r rest t at f h = let found = t f (omega arith) in grind (arith, nat_tests)

-- links beside their records

pub beside : (sheet : List ℕ) (ls rest : List Link) (l : Link) (rs more : List Row) (r : Row) → ls ≡ l ∷ rest → rs ≡ r ∷ more → records read_row sheet ls ≡ rs
    → (r ≡ read_row (record_at sheet l.index)) × (records read_row sheet rest ≡ more)
beside sheet ls rest l rs more r first second same = let both = rw (first, second) at same in (cc, cc)

pub no_links : (sheet : List ℕ) (ls : List Link) → records read_row sheet ls ≡ [] → ls ≡ []
no_links sheet [] e = refl
no_links sheet (l ∷ ls) e = cc

-- over a chain of records
module _ (rows : List Row) (sheet : List ℕ) (before : Option Row) (ls rest : List Link) (l : Link) (r : Row) (here : ls ≡ l ∷ rest) (row : r ≡ read_row (record_at sheet l.index)) where
  turn : records read_row sheet ls ≡ r ∷ records read_row sheet rest
  turn = ap (λ (z : List Link). records read_row sheet z) here ∙ ap (λ (z : Row). z ∷ records read_row sheet rest) (sym row)

  pub rising_here : Rising offset_key before (records read_row sheet ls) → (low offset_key before ≤ r.offset) × Rising offset_key (Some r) (records read_row sheet rest)
  rising_here up = rw turn at up

  pub before_here : (R : Routine) → R.rows ≡ rows → Rising offset_key before (records read_row sheet ls) → Tracks rows before (records read_row sheet ls) → primed R r ≡ word_from R r before
  unfolding primed
  before_here R same up t =
      let last = tracks_here rows before r (records read_row sheet rest) (rw turn at t) (rising_here up).0 in
      ap (word_from R r) (ap (λ (z : List Row). row_before None z r) same ∙ last)

  pub tracks_on : Rising offset_key before (records read_row sheet ls) → Tracks rows before (records read_row sheet ls) → Tracks rows (Some r) (records read_row sheet rest)
  tracks_on up t = tracks-more rows before r (records read_row sheet rest) (rw turn at t) (rising_here up).0

-- The law: the row before in the list.

tracked : (rows : List Row) (before : Option Row) (earlier rest : List Row) (b : Row) → Rising offset_key before (earlier ++ (b ∷ rest)) → Tracks rows before (earlier ++ (b ∷ rest))
    → Rising offset_key (Some b) rest × Tracks rows (Some b) rest
tracked rows before [] rest b up t = (up.1, tracks-more rows before b rest t up.0)
tracked rows before (r ∷ rs) rest b up t = tracked rows (Some r) rs rest b up.1 (tracks-more rows before r (rs ++ (b ∷ rest)) t up.0)

pub primed_law : (R : Routine) → Rising offset_key None R.rows → PrimedByTheRowBefore R
unfolding primed
primed_law R up = record {
  at_first = λ f later e.
      let rising = rw e at up in
      let tracks = rw e at (tracks-start R.rows) in
      let first : row_before None R.rows f ≡ None = rw e (tracks_here (f ∷ later) None f later tracks rising.0) in
      ap (word_from R f) first;
  at_others = λ earlier later b f e.
      let rising = rw e at up in
      let tracks = rw e at (tracks-start R.rows) in
      let both = tracked (earlier ++ (b ∷ (f ∷ later))) None earlier (f ∷ later) b rising tracks in
      let next : row_before None R.rows f ≡ Some b = rw e (tracks_here (earlier ++ (b ∷ (f ∷ later))) (Some b) f later both.1 both.0.0) in
      ap (word_from R f) next;
}

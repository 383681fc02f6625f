-- The table of rows by their offsets, filled row by row, and the row that it finds.
use Rattle.std.proofs.Common.{◌≡◌, ℕ, ◌+◌, ◌<◌, ◌≤◌, cond, eqb, List, [], ◌∷◌, length, get_or, set, replicate, Some, None, Option, sym, refl, ap, ◌∙◌, subst, arith}
use Rattle.std.proofs.lemmas.List.{get_or-set_same, get_or-set_other, get_or-replicate, get_or_past}
use Rattle.std.proofs.lemmas.Bool.Decides.{nat_tests}
use Rattle.std.specs.List.{AllByRecursion}
use Rattle.records.proofs.Along.{links_past_head}
use Rattle.records.specs.declared.chain.Link.{Link}
use Rattle.records.specs.declared.row.Row.{Row}
use Rattle.records.specs.Records.{record_at, records, chain}
use Rattle.records.specs.Read.{read_row}
use Rattle.records.specs.Reader.{Rising, low}
use Rattle.sheet.specs.Layouts.{index_at, Locates, Low}
use Rattle.sheet.specs.Steps.{row_at}

-- the second where the first is zero
abbrev pub or_else : ℕ → ℕ → ℕ
or_else a b = cond (eqb a 0) b a

abbrev pub offset_key : Row → ℕ
offset_key r = r.offset

-- at each offset stands the row that has come, or else one that is ahead
abbrev pub Filling : List ℕ → List ℕ → List Link → List Link → Type 0
Filling table sheet all rest = (o : ℕ) → o < 1024 → or_else (get_or table o 0) (index_at sheet rest o) ≡ index_at sheet all o

-- the rows ahead rise from some row on, and none has come past that row
pub record Fresh (table sheet : List ℕ) (rest : List Link) : Type 0 where
  pub before : Option Row
  pub rising : Rising offset_key before (records read_row sheet rest)
  pub none : (o : ℕ) → low offset_key before ≤ o → o < 1024 → get_or table o 0 ≡ 0

or_zero : (a : ℕ) → or_else a 0 ≡ a
or_zero a = grind (arith, nat_tests)

or_second : (a b : ℕ) → a ≡ 0 → or_else a b ≡ b
or_second a b e = grind (arith, nat_tests)

pub filling-start : (sheet : List ℕ) (ls : List Link) → Filling (replicate 1024 0) sheet ls ls
filling-start sheet ls o h = or_second _ _ (get_or-replicate 1024 o 0 0 h)

pub fresh_start : (sheet : List ℕ) (ls : List Link) → Rising offset_key None (records read_row sheet ls) → Fresh (replicate 1024 0) sheet ls
fresh_start sheet ls up = record { before = None; rising = up; none = λ o l h. get_or-replicate 1024 o 0 0 h }

module _ (table sheet : List ℕ) (all ls rest : List Link) (l : Link) (r : Row) (here : ls ≡ l ∷ rest) (row : r ≡ read_row (record_at sheet l.index)) (sized : length table ≡ 1024) (small : r.offset < 1024) where
  rises : Fresh table sheet ls → (b : Option Row) × (low offset_key b ≤ r.offset) × (Rising offset_key (Some r) (records read_row sheet rest)) × ((o : ℕ) → low offset_key b ≤ o → o < 1024 → get_or table o 0 ≡ 0)
  rises f =
      let up : Rising offset_key f.before (records read_row sheet (l ∷ rest)) = subst (λ (z : List Link). Rising offset_key f.before (records read_row sheet z)) here f.rising in
      (f.before, subst (λ (z : Row). low offset_key f.before ≤ z.offset) (sym row) up.0, subst (λ (z : Row). Rising offset_key (Some z) (records read_row sheet rest)) (sym row) up.1, f.none)

  pub fresh-more : Fresh table sheet ls → Fresh (set table r.offset l.index) sheet rest
  fresh-more f =
      let (b, at, up, none) = rises f in
      record {
        before = Some r;
        rising = up;
        none = λ o past h. get_or-set_other table r.offset o l.index 0 (λ (e : o ≡ r.offset). omega arith) ∙ none o (omega arith) h;
      }

  index_here : (o : ℕ) → index_at sheet ls o ≡ cond (eqb r.offset o) l.index (index_at sheet rest o)
  index_here o = ap (λ (z : List Link). index_at sheet z o) here ∙ ap (λ (z : Row). cond (eqb z.offset o) l.index (index_at sheet rest o)) (sym row)

  pub filling-more : 0 < l.index → Fresh table sheet ls → Filling table sheet all ls → Filling (set table r.offset l.index) sheet all rest
  filling-more some f inv o h =
      let (b, at, up, none) = rises f in
      let here_is = index_here o in
      let before_is = inv o h in
      let fresh_is = none o in
      grind (arith, nat_tests, get_or-set_same, get_or-set_other)

-- the row at hand, and those after it

pub low_here : (sheet : List ℕ) (ls rest : List Link) (l : Link) (r : Row) → ls ≡ l ∷ rest → r ≡ read_row (record_at sheet l.index) → Low (records read_row sheet ls)
    → (r.offset < 1024) × Low (records read_row sheet rest)
low_here sheet ls rest l r here row all = let both = rw here at all in (rw row both.0, both.1)

pub filling_end : (table sheet : List ℕ) (all ls : List Link) → ls ≡ [] → Filling table sheet all ls → Locates table sheet all
filling_end table sheet all ls e inv o h =
    sym (or_zero (get_or table o 0)) ∙ subst (λ (z : List Link). or_else (get_or table o 0) (index_at sheet z o) ≡ index_at sheet all o) e (inv o h)

-- The row that is found.

-- the record that an index names, where it is not zero
abbrev pub named : List ℕ → ℕ → Option Row
named sheet i = cond (eqb i 0) None (Some (read_row (record_at sheet i)))

pub row_named : (sheet : List ℕ) (origin a o : ℕ) (ls : List Link) → a ≡ origin + o → AllByRecursion (λ l. 0 < l.index) ls → row_at origin (records read_row sheet ls) a ≡ named sheet (index_at sheet ls o)
row_named sheet origin a o [] e p = refl
row_named sheet origin a o (l ∷ ls) e p = let rest = row_named sheet origin a o ls e p.1 in let some = p.0 in grind (arith, nat_tests)

-- no row stands below the origin
pub none_below : (origin a : ℕ) (rows : List Row) → a < origin → None ≡ row_at origin rows a
none_below origin a [] h = refl
none_below origin a (r ∷ rs) h = let rest = none_below origin a rs h in grind (arith, nat_tests)

-- past the table there is no row
pub index-past : (sheet : List ℕ) (o : ℕ) (ls : List Link) → 1024 ≤ o → Low (records read_row sheet ls) → index_at sheet ls o ≡ 0
index-past sheet o [] h low = refl
index-past sheet o (l ∷ ls) h low = let rest = index-past sheet o ls h low.1 in let here = low.0 in grind (arith, nat_tests)

-- what the table has at an offset names the row that stands there
module _ (table sheet : List ℕ) (first origin a o i : ℕ) (sized : length table ≡ 1024) (low : Low (records read_row sheet (chain sheet first))) (located : Locates table sheet (chain sheet first)) (there : a ≡ origin + o) (is : i ≡ get_or table o 0) where
  index_is : i ≡ index_at sheet (chain sheet first) o
  index_is = let near = located o in let past = get_or_past table o 0 in let far = index-past sheet o (chain sheet first) in grind (arith, low)

  pub found_row : named sheet i ≡ row_at origin (records read_row sheet (chain sheet first)) a
  found_row = ap (λ (z : ℕ). named sheet z) index_is ∙ sym (row_named sheet origin a o (chain sheet first) there (links_past_head sheet 65537 0 first))

  pub found_none : i ≡ 0 → None ≡ row_at origin (records read_row sheet (chain sheet first)) a
  found_none e = grind (arith, nat_tests, found_row)

  pub found_some : (i ≡ 0 → ⊥) → Some (read_row (record_at sheet i)) ≡ row_at origin (records read_row sheet (chain sheet first)) a
  found_some n = grind (arith, nat_tests, found_row)

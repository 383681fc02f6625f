use Rattle.std.proofs.Common.{◌≡◌, ◌∙◌, sym, rules, tests}
use Rattle.std.specs.List.{position}
use Rattle.std.proofs.lemmas.Iterator.{YieldsList-from_slice}
use Rattle.std.proofs.lemmas.Iterator.Search.{position_from_yields_List}
use Rattle.sheet.proofs.Notes.{serves, noted_at, noted_nowhere}
use Rattle.sheet.proofs.keep.note.Goals.{After-position-at}
use Rattle.sheet.proofs.keep.note.Goals as goal

first : (c : After-position-at) → c.position-at.result ≡ position (serves c.args.origin) c.args.places.now
first c = position_from_yields_List (serves c.args.origin) _ _ c.position-at.result c.position-at.ensures.ran (YieldsList-from_slice c.args.places.now cc) (λ x b q k. search (rules, tests))

pub returns-in-Some : goal.returns-in-Some
returns-in-Some c = noted_at c.args.places.now c.args.origin c.in-Some.at (sym (first (goal.at.returns-in-Some c).After-position-at) ∙ c.in-Some.is)

pub returns-in_default : goal.returns-in_default
returns-in_default c = noted_nowhere c.args.places.now c.args.origin (sym (first (goal.at.returns-in_default c).After-position-at) ∙ c.in_default.is)

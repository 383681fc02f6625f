use Rattle.std.proofs.Common.{eqb, ap, ◌∙◌, rules, tests}
use Rattle.std.proofs.lemmas.Iterator.{YieldsList-from_slice}
use Rattle.std.proofs.lemmas.Iterator.Search.{find_from_yields_List}
use Rattle.sheet.specs.Calls.{told}
use Rattle.sheet.proofs.Entries.{told_find}
use Rattle.sheet.proofs.call.find.Goals as goal

pub returns : goal.returns
returns c =
    let found = find_from_yields_List (λ e. eqb e.origin c.args.origin) _ _ c.find.result c.find.ensures.ran (YieldsList-from_slice c.args.fitted.now cc) (λ x b q k. search (rules, tests)) in
    ap told (c.copied.ensures ∙ found) ∙ told_find c.args.fitted.now c.args.origin

use Rattle.std.proofs.Common.{◌∙◌, rules, tests}
use Rattle.std.proofs.lemmas.Iterator.{YieldsList-from_slice}
use Rattle.std.proofs.lemmas.Iterator.Search.{all_from_yields_List}
use Rattle.std.proofs.lemmas.Iterator.Consumers.{YieldsList-from_filter_map}
use Rattle.records.specs.Lists.{any_pass}
use Rattle.records.specs.Routine.{routine}
use Rattle.sheet.specs.Known.{within}
use Rattle.sheet.proofs.Entries.{all_present}
use Rattle.sheet.proofs.layout.Layout.is_wider.Goals as goal

pub returns : goal.returns
returns c =
    let ours = (routine c.args.self.now.candidate).windows in
    all_from_yields_List (λ w. any_pass (within w) ours) _ _ _ c.all.ensures.ran
    (YieldsList-from_filter_map _ (λ o. o) (YieldsList-from_slice c.args.callee.windows cc) c.filter_map.ensures.closure (λ x r q k. search (rules, tests)))
    (λ x b q k. search (rules, tests))
    ∙ all_present ours c.args.callee.windows

use Rattle.std.proofs.Common.{rules, sym, ◌∙◌}
use Rattle.std.proofs.lemmas.Iterator.{YieldsList-from_slice}
use Rattle.std.proofs.lemmas.Iterator.Search.{all_from_yields_List}
use Rattle.std.proofs.lemmas.List.Folds.{list_all-map}
use Rattle.records.specs.Routine.{routine, digest_of}
use Rattle.records.specs.Heads.{apart}
use borrow.Author.Tests.{tests}
use Rattle.records.proofs.scene.Candidate.is_clear.Goals as goal

pub returns : goal.returns
returns c =
    all_from_yields_List (λ e. apart (routine c.args.self.now) (digest_of e)) _ _ _ c.all.ensures.ran (YieldsList-from_slice c.args.fitted.now cc) (λ x b q k. search (rules, tests))
    ∙ sym (list_all-map (apart (routine c.args.self.now)) digest_of c.args.fitted.now)

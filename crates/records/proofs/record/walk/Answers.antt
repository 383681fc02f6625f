use Rattle.std.proofs.Common.{sym, ◌∙◌}
use Rattle.std.proofs.lemmas.Result.{err_from_is_err_and}
use Rattle.records.proofs.Along.{along_bad, along_no}
use Rattle.records.proofs.record.walk.Goals as goal

pub returns-in_err-ask_index-clause-first : goal.returns-in_err-ask_index-clause-first
returns-in_err-ask_index-clause-first g c =
    let p = err_from_is_err_and c.from_residual.result c.from_residual.ensures.1 in
    rw (p.1, p.2) (sym (c.loop-nth.invariant.verdict ∙ along_bad _ _ _ _ _ _ _ _ c.in-Some.link _ _ c.in-Some.ensures.steps.0 c.in_err-ask_index.ensures))

pub returns-in_err-judge-clause-first : goal.returns-in_err-judge-clause-first
returns-in_err-judge-clause-first g c =
    let p = err_from_is_err_and c.from_residual-in_err-judge.result c.from_residual-in_err-judge.ensures.1 in
    rw (p.1, p.2) (sym (c.loop-nth.invariant.verdict ∙ along_no _ _ _ _ _ _ _ _ _ c.in-Some.link c.read_record-this.result _ _ c.in-Some.ensures.steps.0 c.in-Some.ensures.steps.1
    c.in_ok-ask_index.ensures c.read_record-this.ensures.value c.in_err-judge.ensures.first))

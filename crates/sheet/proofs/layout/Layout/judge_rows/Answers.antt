use Rattle.std.proofs.Common.{sym, refl, ap, ◌∙◌, ⊎_elim}
use Rattle.std.proofs.lemmas.Result.{err_from_is_err_and}
use Rattle.refusal.specs.Questions.{first_no}
use Rattle.records.specs.declared.row.Row.{Row}
use Rattle.records.specs.Routine.{routine, digests_of}
use Rattle.records.proofs.Along.{each_none, each_no, each_yes}
use Rattle.sheet.specs.Steps.{step_asks}
use Rattle.sheet.proofs.Before.{rising_here, before_here, tracks_on, beside, no_links}
use Rattle.sheet.proofs.layout.Layout.judge_rows.Goals as goal

pub invariant_of-visit : goal.invariant_of-visit
invariant_of-visit c =
    let sheet = c.args.self.now.candidate.sheet.now in
    let here = c.in-Some.ensures.steps.0 in
    let row = beside sheet _ _ c.in-Some.link _ _ c.in-Some.row here c.in-Some.ensures.steps.1 c.loop-link.invariant.rows in
    record {
      primed = before_here (routine c.args.self.now.candidate).rows sheet c.loop-link.before _ _ c.in-Some.link c.in-Some.row here row.0
          (routine c.args.self.now.candidate) refl c.loop-link.invariant.rising c.loop-link.invariant.tracks;
    }

pub returns-in_err-judge : goal.returns-in_err-judge
returns-in_err-judge c =
    let p = err_from_is_err_and c.from_residual.result c.from_residual.ensures.1 in
    let here = c.in-Some.ensures.steps.0 in
    let row = beside c.args.self.now.candidate.sheet.now _ _ c.in-Some.link _ _ c.in-Some.row here c.in-Some.ensures.steps.1 c.loop-link.invariant.rows in
    let asks = λ (r : Row). first_no (step_asks (routine c.args.self.now.candidate) (digests_of c.args.fitted.now) c.in-Some.link.index r) in
    rw (p.1, p.2) (sym (c.loop-link.invariant.verdict ∙ each_no _ _ _ c.in-Some.link _ _ here (c.in_err-judge.ensures ∙ ap asks row.0)))

pub loop-link-preserved : goal.loop-link-preserved
loop-link-preserved c =
    let R = routine c.args.self.now.candidate in
    let sheet = c.args.self.now.candidate.sheet.now in
    let asks = λ (r : Row). first_no (step_asks R (digests_of c.args.fitted.now) c.in-Some.link.index r) in
    let before = c.loop-link.invariant in
    let here = c.in-Some.ensures.steps.0 in
    let row = beside sheet _ _ c.in-Some.link _ _ c.in-Some.row here c.in-Some.ensures.steps.1 before.rows in
    record {
      can_next = (tt, tt);
      is_finite = tt;
      verdict = before.verdict ∙ each_yes _ _ _ c.in-Some.link here (c.in_ok-judge.ensures ∙ ap asks row.0);
      rows = row.1;
      rising = (rising_here R.rows sheet c.loop-link.before _ _ c.in-Some.link c.in-Some.row here row.0 before.rising).1;
      tracks = tracks_on R.rows sheet c.loop-link.before _ _ c.in-Some.link c.in-Some.row here row.0 before.rising before.tracks;
    }

pub returns : goal.returns
returns c =
    let none = ⊎_elim (λ w. w.1.0) (λ w. no_links c.args.self.now.candidate.sheet.now _ (c.loop-link.invariant.rows ∙ w.1.0)) c.in-None.ensures.steps in
    each_none _ _ none ∙ sym c.loop-link.invariant.verdict

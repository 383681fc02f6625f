use Rattle.std.proofs.Common.{sym, refl, ap, ◌∙◌, subst}
use Rattle.refusal.specs.Questions.{first_no}
use Rattle.records.specs.Lists.{each}
use Rattle.records.specs.Ground.{ground}
use Rattle.records.specs.declared.scene.Candidate.{Candidate}
use Rattle.records.specs.declared.entry.Entry.{Entry}
use Rattle.records.specs.Records.{chain}
use Rattle.records.specs.Routine.{Routine, routine, digests_of}
use Rattle.sheet.specs.Kept.{entry_of}
use Rattle.sheet.specs.Laws.{KeepsCalls}
use Rattle.sheet.proofs.Called.{keeps_calls}
use Rattle.sheet.proofs.Accepted.{rows-low}
use Rattle.sheet.proofs.Before.{primed_law}
use Rattle.sheet.specs.Questions.{step_at}
use Rattle.sheet.proofs.verdict.judge_rows.Goals as goal

pub new-layout-requires : goal.new-layout-requires
new-layout-requires g c = record {
  rising = c.in_ok-walk.ensures.rising;
  low = rows-low (ground g.B.Board.meaning c.args.scene.now) c.args.scene.now.candidate.sheet.now _ c.requires.0 c.in_ok-walk.ensures.first;
}

pub returns-clause-called : goal.returns-clause-called
returns-clause-called g c =
    let R : Routine = routine c.args.scene.now.candidate in
    subst (λ (e : Entry). KeepsCalls R e) (sym (c.entry.ensures ∙ ap (λ (z : Candidate). entry_of (routine z)) c.new-layout.ensures))
    (keeps_calls R (digests_of c.args.scene.now.fitted.now) c.args.scene.now.candidate.sheet.now (chain c.args.scene.now.candidate.sheet.now c.args.scene.now.candidate.head.rows) refl c.requires.1
    (c.in_ok-judge_rows.ensures ∙ ap (λ (z : Candidate). first_no (each (step_at (routine z) (digests_of c.args.scene.now.fitted.now) z.sheet.now) (chain z.sheet.now z.head.rows))) c.new-layout.ensures))

pub returns-clause-primed : goal.returns-clause-primed
returns-clause-primed g c = primed_law (routine c.args.scene.now.candidate) c.in_ok-walk.ensures.rising

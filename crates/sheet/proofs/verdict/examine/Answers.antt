use Rattle.std.proofs.Common.{◌≡◌, IfOk, ap, ◌∙◌, subst}
use Rattle.records.specs.declared.head.Head.{Head}
use Rattle.records.specs.declared.entry.Entry.{Entry}
use Rattle.records.specs.Routine.{Routine, routine_from, digest, digest_of}
use Rattle.records.specs.Ground.{may}
use Rattle.records.specs.Routine.{digests_of}
use Rattle.sheet.specs.Questions.{windows_asked, ground_of}
use Rattle.sheet.specs.Kept.{entry_of}
use Rattle.sheet.proofs.Accepted.{head_passed, none_lost, told_by_entry, made_so}
use Rattle.sheet.proofs.verdict.examine.Goals as goal

pub judge_rows-requires : goal.judge_rows-requires
judge_rows-requires g c = head_passed (ground_of c.args.settings.now (may g.B.Board.meaning c.args.board.now) (digests_of c.args.fitted.now) c.read-head.result c.args.code.now c.args.sheet.now) c.in_ok-judge_head.ensures

pub returns-clause-told : goal.returns-clause-told
unfolding windows_asked
returns-clause-told g c =
    let R : Routine = routine_from c.read-head.result c.args.code.now c.args.sheet.now in
    let none = none_lost (ground_of c.args.settings.now (may g.B.Board.meaning c.args.board.now) (digests_of c.args.fitted.now) c.read-head.result c.args.code.now c.args.sheet.now) c.args.sheet.now c.read-head.result.windows c.in_ok-walk.ensures.first in
    subst (λ (h : Head). IfOk c.judge_rows.result (λ (e : Entry). digest_of e ≡ digest (routine_from h c.args.code.now c.args.sheet.now))) c.read-head.ensures
    (made_so c.judge_rows.result (λ (e : Entry) (k : e ≡ entry_of R). ap digest_of k ∙ told_by_entry R none) c.judge_rows.ensures.kept)

use Rattle.std.proofs.Common.{sym, ap, ◌∙◌}
use Rattle.std.proofs.lemmas.Result.{err_from_is_err_and}
use Rattle.refusal.specs.declared.Refusal.{Refusal}
use Rattle.refusal.specs.Questions.{number, refused, verdict_of}
use Rattle.machine.specs.State.{view}
use Rattle.machine.proofs.Steps.{blocked}
use Rattle.machine.proofs.state.Machine.attempt.Goals as goal

-- the number and the place of the refusal stand in no conclusion, so the check does not find this one by `blocked` alone
pub returns-in_err-ready : goal.returns-in_err-ready
returns-in_err-ready g c =
    let o =
    blocked g.B.Board.meaning c.args.settings.now c.args.instruction.now (view c.args.self.now) c.args.board.now _ _
    c.in_err-ready.ensures in
    let p = err_from_is_err_and c.from_residual.result c.from_residual.ensures.1 in
    record {
      verdict = ap verdict_of p.1 ∙ ap (λ (e : Refusal). refused (number e.question) e.place) p.2 ∙ sym (ap (λ x. x.verdict) o);
      machine = sym (ap (λ x. x.machine) o);
      board = sym (ap (λ x. x.board) o);
    }

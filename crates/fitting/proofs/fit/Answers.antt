use Rattle.fitting.proofs.fit.Goals as goal

pub returns : goal.returns
returns c = let code = c.split.ensures.code in let sheet = c.split.ensures.sheet in record {
  settings = c.settings.result;
  set_to = c.settings.ensures;
  board = c.cells.result;
  new = c.cells.ensures;
  verdict = rw (← sheet, ← code) c.examine.ensures.verdict;
  kept = rw (← sheet, ← code) c.examine.ensures.kept;
}

use Rattle.std.proofs.Common.{◌≡◌, ◌-◌, ◌≤◌, Some, ap, ◌∙◌, arith}
use Rattle.records.specs.declared.row.Row.{Row}
use Rattle.records.specs.Routine.{routine}
use Rattle.sheet.proofs.Tables.{none_below, found_none, found_some}
use Rattle.sheet.proofs.layout.Layout.row_at.Goals as goal

pub returns-in_err-offset : goal.returns-in_err-offset
returns-in_err-offset c =
    c.from_residual.ensures
    ∙ none_below c.args.self.now.candidate.head.origin c.args.address (routine c.args.self.now.candidate).rows (omega (arith, c.in_err-offset.ensures))

pub returns-then-index-eq0 : goal.returns-then-index-eq0
returns-then-index-eq0 c =
    let off : (c.args.self.now.candidate.head.origin ≤ c.args.address) × (c.in_ok-offset.offset ≡ c.args.address - c.args.self.now.candidate.head.origin) = c.in_ok-offset.ensures in
    found_none c.args.self.now.table c.args.self.now.candidate.sheet.now c.args.self.now.candidate.head.rows c.args.self.now.candidate.head.origin c.args.address
    c.in_ok-offset.offset c.index_at-index.result c.args.self.now.sized c.args.self.now.laid.low c.args.self.now.laid.located (omega (arith, off.0, off.1)) c.index_at-index.ensures c.if-index-eq0.true

pub returns : goal.returns
returns c =
    let off : (c.args.self.now.candidate.head.origin ≤ c.args.address) × (c.in_ok-offset.offset ≡ c.args.address - c.args.self.now.candidate.head.origin) = c.in_ok-offset.ensures in
    ap (λ (z : Row). Some z) c.read_record.ensures.value
    ∙ found_some c.args.self.now.table c.args.self.now.candidate.sheet.now c.args.self.now.candidate.head.rows c.args.self.now.candidate.head.origin c.args.address
    c.in_ok-offset.offset c.index_at-index.result c.args.self.now.sized c.args.self.now.laid.low c.args.self.now.laid.located (omega (arith, off.0, off.1)) c.index_at-index.ensures c.if-index-eq0.false

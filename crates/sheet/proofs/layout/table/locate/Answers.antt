use Rattle.std.proofs.Common.{refl, ap, ◌∙◌, length-set, ⊎_elim}
use Rattle.std.specs.Iterator.Adapters.{zip_first, zip_second}
use Rattle.records.specs.Records.{chain}
use Rattle.records.specs.Reader.{ahead}
use Rattle.sheet.proofs.Before.{beside, no_links}
use Rattle.sheet.proofs.Tables.{filling-start, fresh_start, filling-more, fresh-more, filling_end, low_here}
use Rattle.sheet.proofs.layout.table.locate.Goals as goal

pub loop-link-init : goal.loop-link-init
loop-link-init c =
    let sheet = c.args.candidate.now.sheet.now in
    let all = chain sheet c.args.candidate.now.head.rows in
    let gives = c.into_iter-link-iterator.ensures.into_iter_gives in
    let start = c.new-links.ensures in
    let links = ap (λ s. ahead (zip_first s)) gives ∙ ap ahead c.zip-link-items.ensures.first ∙ start.whole in
    let rows = ap zip_second gives ∙ c.zip-link-items.ensures.second ∙ c.rows.ensures in
    rw (links, rows) (record {
      can_next = (tt, tt);
      is_finite = tt;
      sized = refl;
      indices = rw start.whole at start.indices;
      rows = refl;
      low = c.requires.low;
      filling = filling-start sheet all;
      fresh = fresh_start sheet all c.requires.rising;
    })

pub loop-link-preserved : goal.loop-link-preserved
loop-link-preserved c =
    let sheet = c.args.candidate.now.sheet.now in
    let all = chain sheet c.args.candidate.now.head.rows in
    let before = c.loop-link.invariant in
    let here = c.in-Some.ensures.steps.0 in
    let row = beside sheet _ _ c.in-Some.link _ _ c.in-Some.row here c.in-Some.ensures.steps.1 before.rows in
    let low = low_here sheet _ _ c.in-Some.link c.in-Some.row here row.0 before.low in
    let indices = rw here at before.indices in
    rw c.from.ensures (record {
      can_next = (tt, tt);
      is_finite = tt;
      sized = length-set _ _ _ ∙ before.sized;
      indices = indices.1;
      rows = row.1;
      low = low.1;
      filling = filling-more c.loop-link.table sheet all _ _ c.in-Some.link c.in-Some.row here row.0 before.sized low.0 indices.0 before.fresh before.filling;
      fresh = fresh-more c.loop-link.table sheet all _ _ c.in-Some.link c.in-Some.row here row.0 before.sized low.0 before.fresh;
    })

pub returns : goal.returns
returns c =
    let sheet = c.args.candidate.now.sheet.now in
    let last = c.loop-link.invariant in
    let none = ⊎_elim (λ w. w.1.0) (λ w. no_links sheet _ (last.rows ∙ w.1.0)) c.in-None.ensures.steps in
    record { sized = last.sized; located = filling_end c.loop-link.table sheet _ _ none last.filling }

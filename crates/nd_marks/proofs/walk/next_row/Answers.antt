use Rattle.std.proofs.Common.{refl, arith}
use Rattle.nd_marks.proofs.Walks.{row_none, row_empty}
use Rattle.nd_marks.proofs.walk.next_row.Goals.{then-row-count-via-then-row-count, then-row-count-via-else-row-count+then-width-eq0}
use Rattle.nd_marks.proofs.walk.next_row.Goals as goal

pub returns-then-row-count : goal.returns-then-row-count
returns-then-row-count c = let s = c.args.rows.now in elim c.then-row-count.branch [
  | then-row-count-via-then-row-count w ↦ (row_none s c.args.row.now (omega (arith, c.count.ensures, w.if-row-count.true)), refl)
  | then-row-count-via-else-row-count+then-width-eq0 w ↦ (row_empty s c.args.row.now (omega (arith, w.width.ensures, w.if-width-eq0.true)), refl)
]

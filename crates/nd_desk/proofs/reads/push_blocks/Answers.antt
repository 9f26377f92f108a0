use Rattle.std.proofs.Common.{sym, ap, map}
use Rattle.std.proofs.lemmas.List.{drop_all}
use Rattle.nd_notebook.specs.ReadsShown.{block_of}
use Rattle.nd_script.proofs.lines.Answers.{pushes_none, pushes_same, pushes_trans}
use Rattle.nd_desk.specs.Answers.{block_lines}
use Rattle.nd_desk.proofs.Loops.{drop_item}
use Rattle.nd_desk.proofs.reads.push_blocks.Goals as goal

pub loop-read-init : goal.loop-read-init
loop-read-init g c = λ end p. p

pub loop-read-preserved : goal.loop-read-preserved
loop-read-preserved g c =
    let next = drop_item c.args.blocks.now c.loop-read.read-index _ c.loop-read-test.true in
    let all = ap (λ l. block_lines (map block_of l)) next in
    let maker = pushes_trans (pushes_trans c.push_text.ensures c.push_cell.ensures) c.push_text-in-loop-read.ensures in
    let number = pushes_trans (pushes_trans maker c.push_number.ensures) c.push_text-in-loop-read-2.ensures in
    let line = pushes_trans (pushes_trans number c.push_cell-in-loop-read.ensures) c.push_text-in-loop-read-3.ensures in
    λ end p. c.loop-read.invariant end (pushes_same (sym all) (pushes_trans line p))

pub returns : goal.returns
returns g c =
    let none = drop_all c.loop-read.read-index c.args.blocks.now c.loop-read-test.false in
    c.loop-read.invariant _ (pushes_same (sym (ap (λ l. block_lines (map block_of l)) none)) (pushes_none _))

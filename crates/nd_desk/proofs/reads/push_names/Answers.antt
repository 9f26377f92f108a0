use Rattle.std.proofs.Common.{sym, ap, map}
use Rattle.std.proofs.lemmas.List.{drop_all}
use Rattle.nd_notebook.specs.ReadsShown.{name_of}
use Rattle.nd_script.proofs.lines.Answers.{pushes_none, pushes_same, pushes_trans}
use Rattle.nd_desk.specs.Answers.{name_lines}
use Rattle.nd_desk.proofs.Loops.{drop_item}
use Rattle.nd_desk.proofs.reads.push_names.Goals as goal

pub loop-read-init : goal.loop-read-init
loop-read-init g c = λ end p. p

pub loop-read-preserved : goal.loop-read-preserved
loop-read-preserved g c =
    let next = drop_item c.args.names.now c.loop-read.read-index _ c.loop-read-test.true in
    let all = ap (λ l. name_lines (map name_of l)) next in
    let word = pushes_trans (pushes_trans c.push_text.ensures c.push_text-in-loop-read.ensures) c.push_text-in-loop-read-2.ensures in
    let line = pushes_trans (pushes_trans word c.push_cell.ensures) c.push_text-in-loop-read-3.ensures in
    λ end p. c.loop-read.invariant end (pushes_same (sym all) (pushes_trans line p))

pub returns : goal.returns
returns g c =
    let none = drop_all c.loop-read.read-index c.args.names.now c.loop-read-test.false in
    c.loop-read.invariant _ (pushes_same (sym (ap (λ l. name_lines (map name_of l)) none)) (pushes_none _))

use Rattle.std.proofs.Common.{sym, ap, map}
use Rattle.std.proofs.lemmas.List.{drop_all}
use Rattle.nd_script.proofs.lines.Answers.{pushes_none, pushes_same, pushes_trans}
use Rattle.nd_desk.specs.Answers.{input_lines}
use Rattle.nd_desk.proofs.Loops.{drop_item}
use Rattle.nd_desk.proofs.reads.push_inputs.Goals as goal

pub loop-name-init : goal.loop-name-init
loop-name-init g c = λ end p. p

pub loop-name-preserved : goal.loop-name-preserved
loop-name-preserved g c =
    let next = drop_item c.args.names.now c.loop-name.name-index _ c.loop-name-test.true in
    let all = ap (λ l. input_lines (map (λ n. n.now) l)) next in
    let line = pushes_trans (pushes_trans c.push_text.ensures c.push_text-in-loop-name.ensures) c.push_text-in-loop-name-2.ensures in
    λ end p. c.loop-name.invariant end (pushes_same (sym all) (pushes_trans line p))

pub returns : goal.returns
returns g c =
    let none = drop_all c.loop-name.name-index c.args.names.now c.loop-name-test.false in
    c.loop-name.invariant _ (pushes_same (sym (ap (λ l. input_lines (map (λ n. n.now) l)) none)) (pushes_none _))

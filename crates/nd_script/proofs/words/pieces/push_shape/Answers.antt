use Rattle.std.proofs.Common.{◌-◌, ◌++◌, length, take, sym, ap, drop, map}
use Rattle.std.specs.Prelude.{codes, decimal}
use Rattle.std.specs.List.{flat_map}
use Rattle.std.proofs.lemmas.List.{drop_all}
use Rattle.nd_script.proofs.lines.Answers.{pushes_none, pushes_same, pushes_trans}
use Rattle.nd_script.proofs.words.Loops.{drop_more, shape_parts}
use Rattle.nd_script.proofs.words.pieces.push_shape.Goals as goal

pub loop-n-init : goal.loop-n-init
loop-n-init g c = λ end p. pushes_same (sym (shape_parts c.args.shape.now c.in-len1-up.len_at_least)) (pushes_trans c.push_number.ensures p)

pub loop-n-preserved : goal.loop-n-preserved
loop-n-preserved g c =
    let rest = take (length c.args.shape.now - 1) (drop 1 c.args.shape.now) in
    let next = drop_more rest c.loop-n.n-index c.loop-n-test.true in
    let all = ap (λ l. flat_map (λ q. codes "," ++ q) (map decimal l)) next in
    λ end p. c.loop-n.invariant end (pushes_same (sym all) (pushes_trans (pushes_trans c.push_text-in-loop-n.ensures c.push_number-in-loop-n.ensures) p))

pub returns : goal.returns
returns g c =
    let rest = take (length c.args.shape.now - 1) (drop 1 c.args.shape.now) in
    let none = drop_all c.loop-n.n-index rest c.loop-n-test.false in
    c.loop-n.invariant _ (pushes_same (sym (ap (λ l. flat_map (λ q. codes "," ++ q) (map decimal l)) none)) (pushes_none _))

use Rattle.std.proofs.Common.{◌+◌, [], ◌∷◌, ◌++◌, sym, ap, ◌∙◌, drop, map, string_bytes}
use Rattle.std.proofs.lemmas.List.{drop_all}
use Rattle.nd_model.specs.Book.Script.{name_lines}
use Rattle.nd_script.proofs.lines.Answers.{pushes_none, pushes_same, pushes_trans}
use Rattle.nd_script.proofs.words.Loops.{drop_next}
use Rattle.nd_script.proofs.words.pieces.push_names.Goals as goal

pub loop-name-init : goal.loop-name-init
loop-name-init g c = λ end p. p

pub loop-name-preserved : goal.loop-name-preserved
loop-name-preserved g c =
    let names = c.args.names.now in
    let i = c.loop-name.name-index in
    let next = drop_next names i c.name-item.result c.loop-name-test.true c.name-item.is in
    let line = ap (λ t. (t ++ 10 ∷ []) ++ name_lines (map string_bytes (drop (i + 1) names))) c.as_str.ensures.value in
    let all = ap (λ l. name_lines (map string_bytes l)) next in
    λ end p. c.loop-name.invariant end (pushes_same (line ∙ sym all) (pushes_trans (pushes_trans c.push_text.ensures c.push_text-in-loop-name.ensures) p))

pub returns : goal.returns
returns g c =
    let none = drop_all c.loop-name.name-index c.args.names.now c.loop-name-test.false in
    c.loop-name.invariant _ (pushes_same (sym (ap (λ l. name_lines (map string_bytes l)) none)) (pushes_none _))

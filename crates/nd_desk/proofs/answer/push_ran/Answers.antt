use Rattle.std.proofs.Common.{sym, ap}
use Rattle.std.proofs.lemmas.List.{drop_all}
use Rattle.nd_script.proofs.lines.Answers.{pushes_none, pushes_same, pushes_trans}
use Rattle.nd_script.proofs.words.Loops.{drop_more}
use Rattle.nd_desk.specs.Answers.{place_words}
use Rattle.nd_desk.proofs.answer.push_ran.Goals as goal

pub loop-place-init : goal.loop-place-init
loop-place-init g c = λ end p. pushes_trans (pushes_trans c.push_text.ensures c.push_number.ensures) p

pub loop-place-preserved : goal.loop-place-preserved
loop-place-preserved g c =
    let next = drop_more c.args.ran.now c.loop-place.place-index c.loop-place-test.true in
    λ end p. c.loop-place.invariant end
    (pushes_same (sym (ap place_words next)) (pushes_trans (pushes_trans c.push_text-in-loop-place.ensures c.push_number-in-loop-place.ensures) p))

pub returns : goal.returns
returns g c =
    let none = drop_all c.loop-place.place-index c.args.ran.now c.loop-place-test.false in
    pushes_trans (c.loop-place.invariant _ (pushes_same (sym (ap place_words none)) (pushes_none _))) c.push_text-2.ensures

use Rattle.std.proofs.Common.{rules, ◌≡◌, ◌*◌, ◌++◌, pos, map, length, take, drop, get_or, sym, ap, ◌∙◌, arith, length-take}
use Rattle.std.proofs.Math.Seq.{take-append_seam}
use Rattle.std.specs.Int.{w128, cast_signed}
use Rattle.std.specs.Int.RustNames.{FitsSigned}
use mir.Facts.{to_z-of_z}
use Rattle.nd_model.specs.Arrays.Content.{number_at}
use Rattle.nd_model.specs.Arrays.Element.{Element, size_of}
use Rattle.nd_model.specs.Making.Elementwise.{little}
use Rattle.nd_model.specs.Arrays.Tuple.{count_up}
use Rattle.nd_types.specs.Kinds.{kind_of}
use Rattle.nd_convert.specs.Conversion.Converted.{converted_bytes}
use Rattle.nd_ufunc.proofs.loops.SideBySide.{at_one_place, converted_back}
use Rattle.nd_ufunc.proofs.loops.reading.side_of.Goals as goal

pub returns-then-step-eq0-clause-numbers : goal.returns-then-step-eq0-clause-numbers
returns-then-step-eq0-clause-numbers c =
    let a = c.args in let ps = a.run.now in let step = c.step.result in
    let fits : FitsSigned w128 step = search rules in let held : FitsSigned w128 c.lone_number.result = search rules in
    let still : step ≡ pos 0 = sym (to_z-of_z fits) ∙ ap (cast_signed w128) c.if-step-eq0.true in
    (λ i. map (λ j. (to_z-of_z held ∙ c.lone_number.ensures) i) (count_up 0 (length ps)))
    ∙ at_one_place ps (get_or ps 0 0) step c.step.ensures.places (number_at a.elem a.bytes.now) still

pub returns-clause-numbers : goal.returns-clause-numbers
returns-clause-numbers c =
    let a = c.args in let ps = a.run.now in let part = c.convert.new.out in let end = c.count.result * c.size.result in let buffer = a.buffer.now in
    let bytes : end ≡ length ps * size_of (kind_of a.kind) = λ i. c.count.ensures.value i * c.size.ensures.value i in
    let long : length part ≡ end = c.convert.auto.out ∙ omega (arith, length-take end buffer, c.requires.buffer, bytes) in
    let is : take end (part ++ drop end buffer) ≡ part = ap (λ n. take n (part ++ drop end buffer)) (sym long) ∙ take-append_seam part (drop end buffer) in
    converted_back (little (kind_of a.kind)) a.elem a.bytes.now ps (take end (part ++ drop end buffer)) c.numbers_are_valid.ensures c.requires.keeps
    (is ∙ c.convert.ensures ∙ (λ i. converted_bytes (c.little.ensures i) a.elem a.bytes.now ps))

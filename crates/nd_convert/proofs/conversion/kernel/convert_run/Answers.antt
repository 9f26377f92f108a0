use Rattle.std.proofs.Common.{rules, ◌≡◌, ℕ, ◌<◌, length, get_or, pos, ap, ◌∙◌}
use Rattle.std.specs.Int.{w128, cast_signed, cast_unsigned}
use Rattle.std.specs.Int.RustNames.{FitsSigned}
use mir.Facts.{to_z-of_z}
use Rattle.nd_model.specs.Arrays.Element.{size_of}
use Rattle.nd_model.specs.Arrays.Runs.{place_at, run_places}
use Rattle.nd_convert.specs.Conversion.Converted.{converted_bytes}
use Rattle.nd_convert.proofs.conversion.Contiguous.{contiguous_is, contiguous_within}
use Rattle.nd_convert.proofs.conversion.Pieces.{run_is}
use Rattle.nd_convert.proofs.conversion.kernel.convert_run.Goals as goal

pub convert_each-requires-clause-held : goal.convert_each-requires-clause-held
convert_each-requires-clause-held c =
    let a = c.args in let size = size_of a.from.kind in
    let fits : FitsSigned w128 c.from.result = search rules in
    let s : cast_signed w128 (cast_unsigned w128 c.from.result) ≡ pos size = to_z-of_z fits ∙ c.from.ensures ∙ ap pos c.size-size.ensures.value in
    contiguous_within a.run.now c.start.result c.count.result size c.size-size.result _ c.count.ensures.value c.start.ensures s c.size-size.ensures.value
    (c.is_long_contiguous.ensures.0 c.if-is_long_contiguous.true).1 (length a.bytes.now) c.requires.held

pub returns-then-is_long_contiguous : goal.returns-then-is_long_contiguous
returns-then-is_long_contiguous c =
    let a = c.args in let size = size_of a.from.kind in
    let fits : FitsSigned w128 c.from.result = search rules in
    let s : cast_signed w128 (cast_unsigned w128 c.from.result) ≡ pos size = to_z-of_z fits ∙ c.from.ensures ∙ ap pos c.size-size.ensures.value in
    c.convert_each.ensures
    ∙ ap (converted_bytes a.to a.from a.bytes.now)
    (contiguous_is a.run.now c.start.result c.count.result size c.size-size.result _ c.count.ensures.value c.start.ensures s c.size-size.ensures.value
    (c.is_long_contiguous.ensures.0 c.if-is_long_contiguous.true).1)

pub returns-else-is_long_contiguous : goal.returns-else-is_long_contiguous
returns-else-is_long_contiguous c =
    let a = c.args in let ps = a.run.now in
    let start = c.start-else-is_long_contiguous.result in let step = c.step.result in
    let fits : FitsSigned w128 step = search rules in
    let s : cast_signed w128 (cast_unsigned w128 step) ≡ step = to_z-of_z fits in
    let places : (k : ℕ) → k < length ps → place_at start step k ≡ pos (get_or ps k 0)
    = λ k lt. ap (λ f. place_at f step k) c.start-else-is_long_contiguous.ensures ∙ c.step.ensures.places k lt in
    c.convert_each-else-is_long_contiguous.ensures
    ∙ ap (converted_bytes a.to a.from a.bytes.now) ((λ i. run_places start (s i) (c.count.ensures.value i)) ∙ run_is ps start step places)

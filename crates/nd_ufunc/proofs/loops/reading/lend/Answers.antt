use Rattle.std.proofs.Common.{◌≡◌, ◌*◌, List, ℕ, map, length, get_or, pos, refl, sym, ap, ◌∙◌, arith}
use Rattle.nd_model.specs.Arrays.Content.{number_at}
use Rattle.nd_model.specs.Arrays.Element.{Element, size_of}
use Rattle.nd_model.specs.Making.Elementwise.{little}
use Rattle.nd_model.specs.Arrays.Tuple.{count_up}
use Rattle.nd_types.specs.Kinds.{kind_of}
use Rattle.nd_view.specs.SideBySide.{side_by_side}
use Rattle.nd_view.proofs.SideBySide.{steps_of_side}
use Rattle.nd_ufunc.proofs.loops.SideBySide.{contiguous_numbers}
use Rattle.nd_ufunc.proofs.loops.reading.lend.Goals as goal

pub bytes_of_run-requires-clause-step : goal.bytes_of_run-requires-clause-step
bytes_of_run-requires-clause-step c =
    let ps : List ℕ = c.args.run.now in
    steps_of_side ps (size_of c.args.elem.kind) (c.is_contiguous.ensures.0 c.if-is_contiguous.true ∙ ap (λ z. side_by_side z (get_or ps 0 0) (length ps)) c.size.ensures.value)

pub returns-then-is_elem : goal.returns-then-is_elem
returns-then-is_elem c =
    let a = c.args in let ps : List ℕ = a.run.now in
    let own : a.elem ≡ little (kind_of a.kind) = c.is_elem.ensures.0 c.if-is_elem.true ∙ c.little.ensures in
    let size : length ps * size_of (kind_of a.kind) ≡ length ps * size_of a.elem.kind = ap (λ (e : Element). length ps * size_of e.kind) (sym own) in
    let are : ps ≡ side_by_side (size_of a.elem.kind) (get_or ps 0 0) (length ps)
    = c.is_contiguous.ensures.0 c.if-is_contiguous.true ∙ ap (λ z. side_by_side z (get_or ps 0 0) (length ps)) c.size.ensures.value in (
      omega (arith, size, c.bytes_of_run.ensures.len),
      (λ i. map (λ j. number_at (sym own i) (c.bytes_of_run.ensures.value i) (j * size_of (sym own i).kind)) (count_up 0 (length ps)))
          ∙ contiguous_numbers a.elem a.bytes.now ps (get_or ps 0 0) (pos (size_of a.elem.kind)) (steps_of_side ps (size_of a.elem.kind) are) refl,
    )

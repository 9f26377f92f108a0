use Rattle.std.proofs.Common.{◌≡◌, ◌∙◌, List, ℕ, length, ap, subst}
use Rattle.std.specs.Prelude.{OnOk}
use Rattle.nd_model.specs.Making.Assigning.{fits_into}
use Rattle.nd_model.specs.Making.Augmenting.{in_place_kind}
use Rattle.nd_model.specs.Making.Conversion.{converts}
use Rattle.nd_model.specs.Cells.Running.{Running}
use Rattle.nd_model.specs.Arrays.View.{Geo}
use Rattle.nd_assign.specs.Assigned.{with_elements}
use Rattle.nd_ufunc.specs.Elementwise.InPlaceResults.{AreResults}
use Rattle.nd_scatter.specs.Scattered.{written_by}
use Rattle.nd_heap.specs.Values.{base_of, geo_of}
use Rattle.nd_session.specs.Session.Live.{live}
use Rattle.nd_syntax.specs.Trees.Syntax.{binary_op}
use Rattle.nd_types.specs.Kinds.{kind_of}
use Rattle.nd_operation.specs.Operators.Contents.{contents_over}
use Rattle.nd_operation.specs.Operators.Elementwise.{as_array}
use Rattle.nd_eval.specs.Choosing.Selections.{selected}
use Rattle.nd_eval.specs.Storing.Operands.{operand_over}
use Rattle.nd_eval.proofs.storing.Copied.{copy_stored, results_convert, row_alike}
use Rattle.nd_eval.proofs.storing.scattering.update_chosen.Goals as goal

pub results_in_place-requires-clause-right : goal.results_in_place-requires-clause-right
results_in_place-requires-clause-right c = c.right_side-right.ensures.lies (length c.bytes-read.result.now)

pub results_in_place-requires-clause-kind : goal.results_in_place-requires-clause-kind
results_in_place-requires-clause-kind c =
    let r = live c.args.session.now in
    let op = binary_op c.args.op in
    let g = geo_of c.args.copy.now in
    ap (in_place_kind op g) (c.right_side-right.ensures.operand c.bytes-read.result.now) ∙ row_alike op g (operand_over r.bytes c.args.value.now) ∙ c.requires.kind

pub prepare_results-requires-clause-source : goal.prepare_results-requires-clause-source
prepare_results-requires-clause-source c =
    let r = live c.args.session.now in
    let op = binary_op c.args.op in
    let h = selected c.args.selection.now in
    let are = c.in_ok-array.ensures in
    record {
      lies = are.lies;
      types = ap (λ (g : Geo). converts g.element h.element) are.view ∙ results_convert op (geo_of c.args.copy.now) (operand_over r.bytes c.args.value.now) (kind_of c.args.kind) h.element c.requires.kind c.requires.types;
      shapes = ap (λ (g : Geo). fits_into g.shape h.shape) are.view ∙ c.requires.shapes;
    }

pub returns-in-Ok : goal.returns-in-Ok
returns-in-Ok c =
    let r = live c.args.session.now in
    let b = base_of c.args.base in
    let k = kind_of c.args.kind in
    let op = binary_op c.args.op in
    let h = selected c.args.selection.now in
    let g = geo_of c.args.copy.now in
    let y = as_array (operand_over r.bytes c.args.value.now) in
    let view = c.in_ok-array.array in
    let bytes : List ℕ = c.in_ok-array.values in
    let a = c.in-Ok.scatter in
    let beside : AreResults k op g (contents_over g c.bytes-read.result.now) y view bytes =
    subst (λ o. AreResults k op g (contents_over g c.bytes-read.result.now) o view bytes) (c.right_side-right.ensures.operand c.bytes-read.result.now) c.in_ok-array.ensures in
    let are : AreResults k op g (contents_over g (r.bytes (base_of c.args.copy.now.base))) y view bytes =
    subst (λ (read : List ℕ). AreResults k op g (contents_over g read) y view bytes) c.bytes-read.ensures beside in
    let types = ap (λ (g : Geo). converts g.element h.element) are.view ∙ results_convert op g (operand_over r.bytes c.args.value.now) k h.element c.requires.kind c.requires.types in
    let shapes = ap (λ (g : Geo). fits_into g.shape h.shape) are.view ∙ c.requires.shapes in
    let written : written_by a (r.bytes b) ≡ with_elements h view bytes (r.bytes b) =
    subst (λ (block : List ℕ). written_by a block ≡ with_elements h view bytes block) c.bytes-block.ensures c.in-Ok.ensures.written in
    subst (λ (s : Running). OnOk c.write_scattered.result (live c.write_scattered.new.session ≡ s))
    (copy_stored k op r b h c.args.copy.now c.args.value.now c.requires view bytes (written_by a (r.bytes b)) are types shapes written) c.write_scattered.ensures

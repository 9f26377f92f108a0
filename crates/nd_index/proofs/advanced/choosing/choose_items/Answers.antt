use Rattle.std.proofs.Common.{◌≡◌, ◌+◌, ◌≤◌, ◌^◌, [], length, Some, None, sym, ap, subst, ◌∙◌, arith}
use Rattle.std.specs.List.{All}
use Rattle.std.specs.Result.{IfOk}
use Rattle.nd_model.specs.Indexing.Advanced.{axes_in, slices_in, takes_in, first_fault, shape_fault, bounds_fault, common_shape, chosen_view}
use Rattle.nd_model.specs.Arrays.Strides.{IsInLimits}
use Rattle.nd_model.specs.Arrays.View.{Geo, item_size}
use Rattle.nd_view.proofs.Limits.{limits_of}
use Rattle.nd_index.specs.Advanced.Chosen.{view_at}
use Rattle.nd_index.specs.Items.Faults.{Makes}
use Rattle.nd_index.specs.Items.Items.{items_of}
use Rattle.nd_index.specs.Advanced.Takes.{axes_taken, takes_of}
use Rattle.nd_index.proofs.advanced.Chosen.{chosen_tuples, filled_is, same_view}
use Rattle.nd_index.proofs.advanced.Sliced.{all_taken, selected_is, sliced_axes, slices_few}
use Rattle.nd_index.proofs.advanced.choosing.choose_items.Goals as goal

takes_are : (c : goal.After-as_slice-2) → takes_of c.as_slice.result.now ≡ takes_in c.args.missing 0 c.args.view.now.shape (items_of c.args.items.now)
takes_are c =
    let shape : c.shape-sizes.result.now ≡ c.args.view.now.shape = c.shape-sizes.ensures.value in
    ap takes_of c.as_slice.ensures ∙ c.in_ok-takes.ensures ∙ ap (λ s. takes_in c.args.missing 0 s (items_of c.args.items.now)) shape

shapes : (c : goal.After-as_slice-2) → first_fault (shape_fault c.args.view.now.shape) c.args.missing 0 (items_of c.args.items.now) ≡ None
shapes c =
    let shape : c.shape-sizes.result.now ≡ c.args.view.now.shape = c.shape-sizes.ensures.value in
    ap (λ s. first_fault (shape_fault s) c.args.missing 0 (items_of c.args.items.now)) (sym shape) ∙ sym c.in_default.ensures

bounds : (c : goal.After-as_slice-2) → first_fault (bounds_fault c.args.view.now.shape) c.args.missing 0 (items_of c.args.items.now) ≡ None
bounds c =
    let shape : c.shape-sizes.result.now ≡ c.args.view.now.shape = c.shape-sizes.ensures.value in
    ap (λ s. first_fault (bounds_fault s) c.args.missing 0 (items_of c.args.items.now)) (sym shape) ∙ sym c.in_default-bounds_fault.ensures

common : (c : goal.After-as_slice-2) → common_shape (Some []) (items_of c.args.items.now) ≡ Some c.as_slice-2.result.now
common c =
    let found = rw c.in-Some-2.is at c.in_ok-many.ensures in
    sym found ∙ ap Some (sym c.as_slice-2.ensures)

pub slice_view-requires : goal.slice_view-requires
slice_view-requires c =
    let limits = limits_of (item_size c.args.view.now.element) c.args.view.now.shape c.shape-sizes.ensures.limits in
    omega (arith, slices_few (items_of c.args.items.now), c.requires.missing, c.requires.ellipses, limits.axes)

pub choose-requires-clause-taken : goal.choose-requires-clause-taken
choose-requires-clause-taken c =
    let is = items_of c.args.items.now in let g = c.args.view.now in
    let le : axes_in 0 is ≤ length g.shape = omega (arith, c.requires.missing) in
    omega (arith, ap axes_taken (takes_are c), all_taken c.args.missing 0 g.shape is, sliced_axes is g c.in_ok-sliced.sliced c.in_ok-sliced.ensures le, c.requires.axes)

pub choose-requires-clause-tuples : goal.choose-requires-clause-tuples
choose-requires-clause-tuples c =
    chosen_tuples c.args.missing (items_of c.args.items.now) c.as_slice-2.result.now c.args.view.now c.in_ok-sliced.sliced c.requires.ellipses c.requires.missing c.requires.whole
    (shapes c) (bounds c) (common c) c.in_ok-sliced.ensures (takes_of c.as_slice.result.now) (takes_are c)

pub returns-clause-value : goal.returns-clause-value
returns-clause-value c =
    let is = items_of c.args.items.now in let g = c.args.view.now in let h = c.in_ok-sliced.sliced in let many = c.as_slice-2.result.now in let missing = c.args.missing in
    let shape : c.shape-sizes.result.now ≡ g.shape = c.shape-sizes.ensures.value in
    let found = rw c.in-Some-2.is at c.in_ok-many.ensures in
    let takes = ap takes_of c.as_slice.ensures ∙ c.in_ok-takes.ensures ∙ ap (λ s. takes_in missing 0 s is) shape in
    let filled = filled_is missing is many g h (ap (λ s. first_fault (shape_fault s) missing 0 is) (sym shape) ∙ sym c.in_default.ensures) (sym found ∙ ap Some (sym c.as_slice-2.ensures))
    (ap (λ s. first_fault (bounds_fault s) missing 0 is) (sym shape) ∙ sym c.in_default-bounds_fault.ensures) c.in_ok-sliced.ensures in
    same_view is g h c.in_ok-sliced.ensures c.choose.result _ (subst (λ y. Makes (view_at h) c.choose.result y) (ap (λ ts. chosen_view is ts many h) takes ∙ sym filled) c.choose.ensures.value)

pub returns-clause-limit : goal.returns-clause-limit
returns-clause-limit c =
    let same = sym (ap (λ (v : Geo). v.element) (selected_is (slices_in (items_of c.args.items.now)) c.args.view.now c.in_ok-sliced.sliced c.in_ok-sliced.ensures)) in
    subst (λ t. IfOk c.choose.result (λ p. All (λ q. q + item_size t ≤ 2 ^ 64) p.places)) same c.choose.ensures.limit

pub returns-clause-limits : goal.returns-clause-limits
returns-clause-limits c =
    let same = sym (ap (λ (v : Geo). v.element) (selected_is (slices_in (items_of c.args.items.now)) c.args.view.now c.in_ok-sliced.sliced c.in_ok-sliced.ensures)) in
    subst (λ t. IfOk c.choose.result (λ p. IsInLimits (item_size t) p.shape.items)) same c.choose.ensures.limits

use Rattle.std.proofs.Common.{◌≡◌, ◌^◌, true, length, refl, sym, ap, ◌∙◌, arith, rules}
use Rattle.std.specs.Prelude.{nat_lt, Ok, pos, ◌≤ℤ◌, ◌<ℤ◌}
use Rattle.std.specs.Int.{w128}
use Rattle.std.specs.Int.RustNames.{FitsSigned}
use Rattle.std.specs.Option.{option_map}
use Rattle.std.proofs.lemmas.Int.{to_z-of_z}
use Rattle.std.proofs.lemmas.Bool.Decides.{nat_tests}
use Rattle.nd_model.specs.Arrays.Strides.{IsInLimits, limit_fault}
use Rattle.nd_model.specs.Arrays.View.{item_size}
use Rattle.nd_model.specs.Indexing.Selecting.{picks_of, picked_shape}
use Rattle.nd_types.specs.Types.{type_of}
use Rattle.nd_view.specs.Faults.{view_fault_of}
use Rattle.nd_index.specs.Basic.FullIndexes.{items_in}
use Rattle.nd_index.proofs.basic.Fillings.{axes_kept}
use Rattle.nd_index.proofs.basic.Chosen.{chosen_fault, chosen_view}
use Rattle.nd_index.proofs.basic.choosing.pick.Goals as goal

pub returns-then-axes-gt32 : goal.returns-then-axes-gt32
returns-then-axes-gt32 c =
    let shape = picked_shape (picks_of (items_in c.args.index.now) c.args.view.now.shape) in
    let many : length shape ≡ c.args.axes = axes_kept (items_in c.args.index.now) c.args.view.now.shape ∙ sym c.requires.axes in
    let test : nat_lt 32 (length shape) ≡ true = grind (arith, nat_tests) in
    rw test refl

pub from_strides-requires : goal.from_strides-requires
from_strides-requires c =
    let g = c.args.view.now in
    let fs = items_in c.args.index.now in
    let fits : FitsSigned w128 c.in_ok-layout.layout.offset = search rules in
    let place : pos 0 ≤ℤ c.in_ok-layout.layout.offset → c.in_ok-layout.layout.offset <ℤ pos (2 ^ 64) → pos c.place_of.result ≡ c.in_ok-layout.layout.offset
    = rw (to_z-of_z w128 c.in_ok-layout.layout.offset fits) at c.place_of.ensures in
    let size : c.size.result ≡ item_size g.element = c.size.ensures.value ∙ ap item_size c.elem.ensures in
    let shape : c.as_slice-lengths.result.now ≡ picked_shape (picks_of fs g.shape) = c.as_slice-lengths.ensures ∙ c.in_ok-layout.ensures.lengths ∙ ap (λ s. picked_shape (picks_of fs s)) c.shape.ensures.value in
    let limits : IsInLimits (item_size g.element) (picked_shape (picks_of fs g.shape)) = (λ i. limit_fault (sym size i) (sym shape i)) ∙ sym c.limit_fault.ensures ∙ ap (option_map view_fault_of) c.in_default.is in
    chosen_fault g fs c.requires.whole c.requires.inside c.held_strides.result.now c.held_strides.ensures.held c.held_strides.ensures.places
    c.place_of.result c.offset.result c.in_ok-layout.layout.offset c.shape.result.now c.as_slice-lengths.result.now c.as_slice.result.now (type_of c.in_ok-try_clone.field-0)
    c.offset.ensures c.shape.ensures.value c.in_ok-layout.ensures.offset place (c.as_slice-lengths.ensures ∙ c.in_ok-layout.ensures.lengths) (c.as_slice.ensures ∙ c.in_ok-layout.ensures.strides)
    (c.in_ok-try_clone.ensures ∙ c.elem-2.ensures) (omega (arith, size, c.size.ensures.range)) limits

pub returns : goal.returns
returns c =
    let g = c.args.view.now in
    let fs = items_in c.args.index.now in
    let fits : FitsSigned w128 c.in_ok-layout.layout.offset = search rules in
    let place : pos 0 ≤ℤ c.in_ok-layout.layout.offset → c.in_ok-layout.layout.offset <ℤ pos (2 ^ 64) → pos c.place_of.result ≡ c.in_ok-layout.layout.offset
    = rw (to_z-of_z w128 c.in_ok-layout.layout.offset fits) at c.place_of.ensures in
    let size : c.size.result ≡ item_size g.element = c.size.ensures.value ∙ ap item_size c.elem.ensures in
    let shape : c.as_slice-lengths.result.now ≡ picked_shape (picks_of fs g.shape) = c.as_slice-lengths.ensures ∙ c.in_ok-layout.ensures.lengths ∙ ap (λ s. picked_shape (picks_of fs s)) c.shape.ensures.value in
    let limits : IsInLimits (item_size g.element) (picked_shape (picks_of fs g.shape)) = (λ i. limit_fault (sym size i) (sym shape i)) ∙ sym c.limit_fault.ensures ∙ ap (option_map view_fault_of) c.in_default.is in
    let same = chosen_view g fs c.requires.whole c.requires.inside c.held_strides.result.now c.held_strides.ensures.held c.held_strides.ensures.places
    c.place_of.result c.offset.result c.in_ok-layout.layout.offset c.shape.result.now c.as_slice-lengths.result.now c.as_slice.result.now (type_of c.in_ok-try_clone.field-0)
    c.offset.ensures c.shape.ensures.value c.in_ok-layout.ensures.offset place (c.as_slice-lengths.ensures ∙ c.in_ok-layout.ensures.lengths) (c.as_slice.ensures ∙ c.in_ok-layout.ensures.strides)
    (c.in_ok-try_clone.ensures ∙ c.elem-2.ensures) (omega (arith, size, c.size.ensures.range)) c.writable.result c.writable.ensures in
    rw limits (λ i. Ok ((c.in_ok-view.ensures ∙ same) i))

use Rattle.std.proofs.Common.{rules, [], ◌∷◌, pos, ◌+ℤ◌, sym, ap, ◌∙◌, arith}
use Rattle.std.specs.Prelude.{◌*ℤ◌}
use Rattle.std.specs.Int.{w128}
use Rattle.std.specs.Int.RustNames.{FitsSigned}
use Rattle.std.proofs.lemmas.Int.{to_z-of_z, fits_signed_from_abs}
use Rattle.nd_model.specs.Indexing.Selecting.{pick_of}
use Rattle.nd_index.specs.Basic.Items.{item_of}
use Rattle.nd_index.specs.Basic.Layouts.{picked_way}
use Rattle.nd_index.proofs.basic.layout.Layout.add.Goals as goal

pub returns-in_ok-push-in-Slice-2-clause-offset : goal.returns-in_ok-push-in-Slice-2-clause-offset
returns-in_ok-push-in-Slice-2-clause-offset c =
    let fits : FitsSigned w128 c.shift-self-in-Slice.result = search rules in
    let from : FitsSigned w128 c.args.self.now.offset = fits_signed_from_abs w128 c.args.self.now.offset (omega (arith, c.requires.offset)) in
    to_z-of_z w128 c.shift-self-in-Slice.result fits ∙ c.shift-self-in-Slice.ensures.value
    ∙ (λ i. to_z-of_z w128 c.args.self.now.offset from i +ℤ ((pos (c.slice_positions-chosen.ensures.first i) *ℤ to_z-of_z w128 c.args.stride c.ranges.stride i) +ℤ pos 0))
    ∙ ap (λ item. c.args.self.now.offset +ℤ picked_way (pick_of c.args.length (item_of item) []) (c.args.stride ∷ [])) (sym c.in-Slice.is)

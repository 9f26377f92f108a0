use Rattle.std.proofs.Common.{◌≡◌, ℕ, ◌-◌, ◌%◌, List, length, get_or, sym, ap, ◌∙◌, arith}
use Rattle.std.proofs.Math.Nat.{mod-lt}
use Rattle.nd_model.specs.Arrays.Broadcast.{last_axes}
use Rattle.nd_model.specs.Arrays.Tuple.{elements_of}
use Rattle.nd_model.specs.Arrays.View.{Geo}
use Rattle.nd_ufunc.specs.Elementwise.Spread.{own_number}
use Rattle.nd_ufunc.proofs.elementwise.Spreads as spreads
use Rattle.nd_ufunc.proofs.elementwise.Spreads.{aligned, last_few, own_below}
use Rattle.nd_ufunc.proofs.elementwise.spread.spread_place.Goals as goal

pub place_of-requires : goal.place_of-requires
place_of-requires c =
    let g : Geo = c.args.view.now in let shape : List ℕ = c.args.shape.now in let at : ℕ = c.args.at in
    let behind = last_few (length shape - length g.shape) shape (omega (arith, c.requires.inside)) in
    let below = own_below g.shape (last_axes g.shape shape) (at % elements_of (last_axes g.shape shape)) (aligned g.shape shape c.requires.fits).fits (mod-lt at behind.0) in
    let is : c.spread_number.result ≡ own_number g.shape (last_axes g.shape shape) (at % elements_of (last_axes g.shape shape))
    = c.spread_number.ensures ∙ (λ i. own_number (c.shape.ensures.value i) (last_axes (c.shape.ensures.value i) shape) (at % elements_of (last_axes (c.shape.ensures.value i) shape))) in
    omega (arith, is, below, c.count-count.ensures.value, c.count-count.ensures.elements)

pub returns : goal.returns
returns c =
    let g : Geo = c.args.view.now in let shape : List ℕ = c.args.shape.now in let at : ℕ = c.args.at in
    let is : c.spread_number.result ≡ own_number g.shape (last_axes g.shape shape) (at % elements_of (last_axes g.shape shape))
    = c.spread_number.ensures ∙ (λ i. own_number (c.shape.ensures.value i) (last_axes (c.shape.ensures.value i) shape) (at % elements_of (last_axes (c.shape.ensures.value i) shape))) in
    c.place_of.ensures.value ∙ ap (λ n. get_or g.places n 0) is ∙ sym (spreads.spread_place g shape at c.requires.fits c.requires.inside)

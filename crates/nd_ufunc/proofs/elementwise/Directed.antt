-- Operands that lie apart from a target keep off it.
use Rattle.std.proofs.Common.{◌≡◌, ℕ, zero, suc, ◌+◌, ◌*◌, List, map, length, get_or, sym, ap, ◌∙◌, subst, inl, inr, arith}
use Rattle.nd_model.specs.Arrays.Broadcast.{broadcast_view}
use Rattle.nd_model.specs.Arrays.Tuple.{count_up, elements_of}
use Rattle.nd_model.specs.Arrays.View.{Geo, item_size}
use Rattle.nd_ufunc.specs.Elementwise.Beside.{KeepsOffBroadcast}
use Rattle.nd_ufunc.specs.Elementwise.Directness.{IsApart, IsGapless}
use Rattle.nd_ufunc.specs.Elementwise.KeptOff.{KeepsOff}
use Rattle.nd_ufunc.proofs.elementwise.KeptOff.{keeps_outside}
use Rattle.nd_ufunc.proofs.elementwise.Spreads.{length-spread}
use Rattle.nd_ufunc.specs.declared.elementwise.in_place.RightSide.{RightSide}
use Rattle.nd_ufunc.specs.declared.elementwise.in_place.RightSide.TheVariants.{Number, Own, Other}

-- elements of any size that begin where those of the target do
keeps_alike : (size first step at n : ℕ) → KeepsOff size first step at (map (λ k. first + k * step) (count_up at n))
keeps_alike size first step at zero = tt
keeps_alike size first step at (suc n) = ((λ lt. omega arith), keeps_alike size first step (at + 1) n)

pub apart_off : (g : Geo) (r : RightSide) → length g.places ≡ elements_of g.shape → IsGapless g → IsApart g r → KeepsOffBroadcast r g.shape (get_or g.places 0 0) (item_size g.element)
apart_off g (Number n) count gapless apart = tt
apart_off g (Other v bytes) count gapless apart = tt
apart_off g (Own v) count gapless apart =
    let size = item_size v.now.element in let first = get_or g.places 0 0 in let step = item_size g.element in
    let places : List ℕ = (broadcast_view v.now g.shape).places in
    elim apart [
      | inl same ↦ subst (KeepsOff size first step 0) (sym (same ∙ gapless)) (keeps_alike size first step 0 (length g.places))
      | inr outside ↦
          let many : length places ≡ length g.places = length-spread v.now g.shape ∙ sym count in
          let wide : first + (0 + length places) * step ≡ first + length g.places * step = ap (λ n. first + (0 + n) * step) many ∙ omega arith in
          keeps_outside size first step 0 places (λ k d lt. elim (outside k d lt) [
            | inl before ↦ inl before
            | inr behind ↦ inr (omega (arith, behind, wide))
          ])
    ]

-- The strides of a view are below 2^64, and its parts have no fault.
use Rattle.std.proofs.Common.{◌≡◌, ℕ, zero, suc, ◌-◌, ◌*◌, ◌^◌, ◌<◌, ◌≤◌, List, [], ◌∷◌, length, get_or, sym, subst, ◌∙◌, inl, inr, arith}
use Rattle.std.specs.Prelude.{ℤ, pos, negsuc, None, unsigned_abs}
use Rattle.std.specs.List.{All}
use Rattle.std.proofs.lemmas.Bool.{cases_lt}
use Rattle.std.proofs.lemmas.List.Elements.{All-nil, All-cons}
use Rattle.nd_model.specs.Arrays.Strides.{parts_fault}
use Rattle.nd_model.specs.Arrays.View.{Geo, item_size}
use Rattle.nd_types.specs.Types.{type_of}
use Rattle.nd_view.specs.Strides.{before, behind, before_of, behind_of, kept_all}
use Rattle.nd_view.specs.Views.{geo_of, IsView}
use Rattle.nd_view.specs.declared.strided.View.TheInside.{Inside}
use Rattle.nd_view.proofs.Extents.{held}
use Rattle.nd_view.proofs.Fields.{lies_of}
use Rattle.nd_view.proofs.Kept.{kept_short}
use Rattle.nd_view.proofs.Made.{no_fault}
use Rattle.nd_view.proofs.Offsets.{offset_of}

-- a factor of a product is no greater
factor : (n m most : ℕ) → 1 < n → (n - 1) * m ≤ most → m ≤ most
factor zero m most long le = absurd (omega arith)
factor (suc zero) m most long le = absurd (omega arith)
factor (suc (suc n)) m most long le = let one : suc (suc n) - 1 ≡ suc n = omega arith in let le' : suc n * m ≤ most = rw one at le in omega arith

-- the stride of an axis that is walked reaches as far as the axis
long_stride : (n most : ℕ) (s : ℤ) → 1 < n → before n s ≤ most → behind n s ≤ most → unsigned_abs s ≤ most
long_stride n most (pos m) long low high = factor n m most long high
long_stride n most (negsuc m) long low high = factor n (suc m) most long low

strides_in : (count most : ℕ) (shape : List ℕ) (strides : List ℤ) → length strides ≡ length shape → kept_all count shape strides ≡ strides → before_of shape strides ≤ most → behind_of shape strides ≤ most
    → All (λ s. unsigned_abs s ≤ most) strides
strides_in count most [] [] same kept low high = All-nil (λ s. unsigned_abs s ≤ most)
strides_in count most [] (s ∷ strides) same kept low high = absurd (omega arith)
strides_in count most (n ∷ shape) [] same kept low high = absurd (omega arith)
strides_in count most (n ∷ shape) (s ∷ strides) same kept low high =
    let rest : kept_all count shape strides ≡ strides = cc in
    All-cons (λ s. unsigned_abs s ≤ most) s strides (elim (cases_lt 1 n) [
      | inl long ↦ long_stride n most s long (omega arith) (omega arith)
      | inr short ↦ let none : pos 0 ≡ s = sym (kept_short count n s short) ∙ cc in subst (λ s. unsigned_abs s ≤ most) none (omega arith)
    ]) (strides_in count most shape strides (omega arith) rest (omega arith) (omega arith))

module _ (v : Inside) (is : IsView v) (g : Geo) (e : geo_of v ≡ g) where
  pub strides_range : (strides : List ℤ) → strides ≡ v.strides.items → All (λ s. unsigned_abs s < 2 ^ 64) strides
  strides_range strides same =
      let all = strides_in _ (2 ^ 64 - 1) v.shape.items v.strides.items is.axes is.strides (omega (arith, is.low, is.high, is.some)) (omega (arith, is.low, is.high, is.some)) in
      rw same (λ k d lt. omega (arith, all k d lt))

  pub no_fault_of : (strides : List ℤ) → strides ≡ v.strides.items → parts_fault (item_size g.element) g.shape strides (get_or g.places 0 0) (2 ^ 64) ≡ None
  no_fault_of strides same =
      (λ i. parts_fault (item_size (sym e i).element) (sym e i).shape (same i) (sym (offset_of v is g e) i) (2 ^ 64))
      ∙ no_fault (item_size (type_of v.elem)) (2 ^ 64) v.offset v.shape.items v.strides.items is.limits is.axes (held (item_size (type_of v.elem)) (2 ^ 64) v.offset v.shape.items v.strides.items is.axes (lies_of v is g e))

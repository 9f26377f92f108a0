-- Views are equal where their fields are.
use Rattle.std.proofs.Common.{◌≡◌, ℕ, Bool, true, false, List, length, get_or, refl, sym, ap, ◌∙◌, inl, inr, arith}
use Rattle.std.specs.Prelude.{ℤ, not, nat_eq}
use mathlib.Core.Bool.{beq}
use Rattle.std.specs.Cmp.Lexicographic.{pointwise, pointwise_decides, bytes_decides}
use Rattle.std.specs.Ordering.{int_eq}
use Rattle.std.proofs.lemmas.Bool.{cases_lt}
use Rattle.std.proofs.lemmas.Bool.Decides.{Decides-int_eq}
use Rattle.nd_model.specs.Arrays.Strides.{places_by}
use Rattle.nd_model.specs.Arrays.Tuple.{elements_of}
use Rattle.nd_model.specs.Arrays.View.{Geo, item_size}
use Rattle.nd_types.specs.Types.{type_of}
use Rattle.nd_view.specs.Strides.{kept_all}
use Rattle.nd_view.specs.Views.{geo_of, IsView}
use Rattle.nd_view.specs.declared.strided.View.TheInside.{Inside}
use Rattle.nd_view.proofs.Fields.{lies_of}
use Rattle.nd_view.proofs.Offsets.{offset_of}
use Rattle.nd_view.proofs.Same.{none_kept, parts_are}

module _ (v w : Inside) (this : IsView v) (that : IsView w) (g h : Geo) (e : geo_of v ≡ g) (f : geo_of w ≡ h) where
  both : g ≡ h → geo_of v ≡ geo_of w
  both same = e ∙ same ∙ sym f

  pub writable_same : g ≡ h → v.writable ≡ w.writable
  writable_same same = λ i. (both same i).writable

  pub elem_same : g ≡ h → type_of v.elem ≡ type_of w.elem
  elem_same same = λ i. (both same i).element

  pub shape_same : g ≡ h → v.shape.items ≡ w.shape.items
  shape_same same = λ i. (both same i).shape

  pub offset_same : g ≡ h → v.offset ≡ w.offset
  offset_same same = offset_of v this g e ∙ (λ i. get_or (same i).places 0 0) ∙ sym (offset_of w that h f)

  pub strides_same : g ≡ h → v.strides.items ≡ w.strides.items
  strides_same same =
      let shape : w.shape.items ≡ v.shape.items = sym (shape_same same) in let axes : length w.strides.items ≡ length v.shape.items = that.axes ∙ ap length shape in
      let size : item_size (type_of w.elem) ≡ item_size (type_of v.elem) = ap item_size (sym (elem_same same)) in
      let kept : kept_all (elements_of v.shape.items) v.shape.items w.strides.items ≡ w.strides.items = (λ i. kept_all (elements_of (sym shape i)) (sym shape i) w.strides.items) ∙ that.strides in
      elim (cases_lt 0 (elements_of v.shape.items)) [
        | inl some ↦
            let places : places_by v.offset v.strides.items v.shape.items ≡ places_by w.offset w.strides.items v.shape.items
            = (λ i. (both same i).places) ∙ ap (places_by w.offset w.strides.items) shape in
            let lies = lies_of w that h f in
            sym this.strides
            ∙ (parts_are (item_size (type_of v.elem)) v.shape.items v.strides.items w.strides.items v.offset w.offset some this.axes axes (lies_of v this g e)
            (record { low = (rw (← shape) lies.low); high = (rw (← shape, ← size) lies.high) }) places).1 ∙ kept
        | inr gone ↦
            let none : elements_of v.shape.items ≡ 0 = omega arith in
            sym this.strides ∙ (λ i. kept_all (none i) v.shape.items v.strides.items) ∙ none_kept v.shape.items v.strides.items w.strides.items this.axes axes
            ∙ (λ i. kept_all (sym none i) v.shape.items w.strides.items) ∙ kept
      ]

  pub all_same : v.writable ≡ w.writable → v.offset ≡ w.offset → v.shape.items ≡ w.shape.items → v.strides.items ≡ w.strides.items → type_of v.elem ≡ type_of w.elem → g ≡ h
  all_same write offset shape strides elem =
      sym e ∙ (λ i. record { element = elem i; shape = shape i; writable = write i; places = places_by (offset i) (strides i) (shape i) }) ∙ f

-- ---- what the code compares

pub not_true : (b : Bool) → not b ≡ true → b ≡ false
not_true true e = cc
not_true false e = refl

pub not_false : (b : Bool) → not b ≡ false → b ≡ true
not_false true e = refl
not_false false e = cc

pub bools : (a b : Bool) → (beq a b ≡ true → a ≡ b) × (a ≡ b → beq a b ≡ true)
bools true true = (λ e. refl, λ e. refl)
bools true false = (λ e. cc, λ e. cc)
bools false true = (λ e. cc, λ e. cc)
bools false false = (λ e. refl, λ e. refl)

pub integers : (xs ys : List ℤ) → (pointwise int_eq xs ys ≡ true → xs ≡ ys) × (xs ≡ ys → pointwise int_eq xs ys ≡ true)
integers = pointwise_decides Decides-int_eq

pub numbers : (xs ys : List ℕ) → (pointwise nat_eq xs ys ≡ true → xs ≡ ys) × (xs ≡ ys → pointwise nat_eq xs ys ≡ true)
numbers = bytes_decides

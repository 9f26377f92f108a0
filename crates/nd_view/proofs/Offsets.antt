-- The offset and the strides of a view, from its places.
use Rattle.std.proofs.Common.{◌≡◌, ℕ, zero, suc, List, [], ◌∷◌, length, replicate, get_or, refl, sym, ap, ◌∙◌, inl, inr, arith}
use Rattle.std.specs.Prelude.{ℤ, pos, ◌+ℤ◌, ◌*ℤ◌, unsigned_abs}
use Rattle.std.proofs.lemmas.Bool.{cases_lt}
use Rattle.std.proofs.lemmas.Int.{ints}
use Rattle.nd_model.specs.Arrays.Strides.{way_to, place_at, places_by}
use Rattle.nd_model.specs.Arrays.Tuple.{elements_of}
use Rattle.nd_model.specs.Arrays.View.{Geo}
use Rattle.nd_view.specs.Strides.{kept_all}
use Rattle.nd_view.specs.Views.{geo_of, IsView}
use Rattle.nd_view.specs.declared.strided.View.TheInside.{Inside}
use Rattle.nd_view.proofs.Fields.{shape_is, count_of, tuple_at}
use Rattle.nd_view.proofs.Kept.{no_places}
use Rattle.nd_view.proofs.Steps.{zeros}

-- the first tuple leads nowhere
pub no_way : (n : ℕ) (strides : List ℤ) → way_to (replicate n 0) strides ≡ pos 0
no_way zero strides = refl
no_way (suc n) [] = refl
no_way (suc n) (s ∷ strides) = ap (λ z. (pos 0 *ℤ s) +ℤ z) (no_way n strides) ∙ omega (arith, ints)

first_place : (offset n : ℕ) (strides : List ℤ) → place_at offset strides (replicate n 0) ≡ offset
first_place offset n strides = ap (λ z. unsigned_abs (pos offset +ℤ z)) (no_way n strides) ∙ ap unsigned_abs (none offset)
  where
    none : (m : ℕ) → pos m +ℤ pos 0 ≡ pos m
    none m = omega (arith, ints)

module _ (v : Inside) (is : IsView v) (g : Geo) (e : geo_of v ≡ g) where
  pub offset_of : v.offset ≡ get_or g.places 0 0
  offset_of = elim (cases_lt 0 (elements_of v.shape.items)) [
    | inl some ↦
        let t = replicate (length v.shape.items) 0 in let first = zeros v.shape.items some in
        sym (first_place v.offset (length v.shape.items) v.strides.items) ∙ tuple_at v is g e t first.0 ∙ ap (λ k. get_or g.places k 0) first.1
    | inr none ↦
        let zero_of : elements_of v.shape.items ≡ 0 = omega arith in
        let gone : g.places ≡ [] = sym (λ i. (e i).places) ∙ no_places v.offset v.strides.items v.shape.items zero_of in
        is.offset zero_of ∙ sym (ap (λ ps. get_or ps 0 0) gone)
  ]

  pub strides_place : (strides : List ℤ) → strides ≡ v.strides.items → g.places ≡ places_by (get_or g.places 0 0) strides g.shape
  strides_place strides same = sym (λ i. (e i).places) ∙ (λ i. places_by (offset_of i) (sym same i) (shape_is v is g e i))

  pub strides_kept : (strides : List ℤ) → strides ≡ v.strides.items → kept_all (length g.places) g.shape strides ≡ strides
  strides_kept strides same = (λ i. kept_all (sym (count_of v is g e) i) (sym (shape_is v is g e) i) (same i)) ∙ is.strides ∙ sym same

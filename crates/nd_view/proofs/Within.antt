-- Views that lie in a block of so many bytes.
use Rattle.std.proofs.Common.{◌≡◌, ℕ, ◌+◌, ◌<◌, ◌≤◌, ◌^◌, true, length, get_or, subst, arith}
use Rattle.std.proofs.lemmas.List.Elements.{All-nil}
use Rattle.nd_model.specs.Arrays.Strides.{are_held, begins_at, is_held, place_at, places_by}
use Rattle.nd_model.specs.Arrays.Tuple.{elements_of, indices, number}
use Rattle.nd_model.specs.Arrays.View.{item_size}
use Rattle.nd_model.specs.Cells.Sound.{LiesIn}
use Rattle.nd_model.proofs.Parts as parts
use Rattle.nd_types.specs.Types.{type_of}
use Rattle.nd_view.specs.Strides.{behind_of}
use Rattle.nd_view.specs.Views.{geo_of, IsView}
use Rattle.nd_view.specs.declared.strided.View.TheInside.{Inside}
use Rattle.nd_view.proofs.Extents.{held, held_by, lies, reached}
use Rattle.nd_view.proofs.Indexed.{all_indexes}
use Rattle.nd_view.proofs.Kept.{no_places}
use Rattle.nd_view.proofs.Numbered.{at_tuple, length-places_by}
use Rattle.nd_view.proofs.Steps.{number-below}

module _ (v : Inside) (is : IsView v) (len : ℕ) where
  -- a view without elements lies in every block
  pub nothing_lies : elements_of v.shape.items ≡ 0 → LiesIn len (geo_of v)
  nothing_lies none = record {
    count = length-places_by v.offset v.strides.items v.shape.items;
    limits = is.limits;
    inside = rw (no_places v.offset v.strides.items v.shape.items none) (All-nil (λ p. p + item_size (type_of v.elem) ≤ len));
  }

  -- another one where its highest byte does
  pub lies_below : v.offset + behind_of v.shape.items v.strides.items + item_size (type_of v.elem) ≤ len → LiesIn len (geo_of v)
  lies_below high = record {
    count = length-places_by v.offset v.strides.items v.shape.items;
    limits = is.limits;
    inside = parts.ends (item_size (type_of v.elem)) len v.offset v.strides.items (indices v.shape.items)
        (held (item_size (type_of v.elem)) len v.offset v.shape.items v.strides.items is.axes (record { low = is.low; high = high }));
  }

  pub below_lies : 0 < elements_of v.shape.items → LiesIn len (geo_of v) → v.offset + behind_of v.shape.items v.strides.items + item_size (type_of v.elem) ≤ len
  below_lies some h = (lies size len v.offset v.shape.items v.strides.items is.axes some all).high
    where
      size : ℕ
      size = item_size (type_of v.elem)

      all : are_held size len v.offset v.strides.items v.shape.items ≡ true
      all = all_indexes (is_held size len) (begins_at v.offset v.strides.items) v.shape.items (λ t index.
          let r = reached size (2 ^ 64) v.shape.items t v.strides.items v.offset is.axes index (record { low = is.low; high = is.high }) in
          let lt : number v.shape.items t < length (places_by v.offset v.strides.items v.shape.items) = omega (arith, number-below v.shape.items t index, length-places_by v.offset v.strides.items v.shape.items) in
          let here : get_or (places_by v.offset v.strides.items v.shape.items) (number v.shape.items t) 0 ≡ place_at v.offset v.strides.items t = at_tuple v.offset v.strides.items v.shape.items t index in
          held_by size len (begins_at v.offset v.strides.items t) r.0 (subst (λ p. p + size ≤ len) here (h.inside (number v.shape.items t) 0 lt)))

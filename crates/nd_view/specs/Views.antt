-- What the fields of a view stand for.
use Rattle.std.specs.Prelude.{◌≡◌, ◌+◌, ◌^◌, ◌<◌, ◌≤◌, length}
use Rattle.nd_model.specs.Arrays.Strides.{places_by, IsInLimits}
use Rattle.nd_model.specs.Arrays.Tuple.{elements_of}
use Rattle.nd_model.specs.Arrays.View.{Geo, item_size}
use Rattle.nd_types.specs.Types.{type_of}
use Rattle.nd_view.specs.Strides.{before_of, behind_of, kept_all}
use Rattle.nd_view.specs.declared.strided.View.TheInside.{Inside}

abbrev pub geo_of : Inside → Geo
geo_of v = record {
  element = type_of v.elem;
  shape = v.shape.items;
  writable = v.writable;
  places = places_by v.offset v.strides.items v.shape.items;
}

-- There is one stride for each axis. It is 0 on an axis that is not walked, and so are all and the offset where there are no
-- elements. An element has bytes, and each of them lies at a place from 0 to 2^64 - 1.
pub record IsView (v : Inside) : Type 0 where
  pub limits : IsInLimits (item_size (type_of v.elem)) v.shape.items
  pub axes : length v.strides.items ≡ length v.shape.items
  pub strides : kept_all (elements_of v.shape.items) v.shape.items v.strides.items ≡ v.strides.items
  pub offset : elements_of v.shape.items ≡ 0 → v.offset ≡ 0
  pub some : 0 < item_size (type_of v.elem)
  pub low : before_of v.shape.items v.strides.items ≤ v.offset
  pub high : v.offset + behind_of v.shape.items v.strides.items + item_size (type_of v.elem) ≤ 2 ^ 64

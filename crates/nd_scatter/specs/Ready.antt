-- What the fields of an assignment to chosen elements say.
use Rattle.std.specs.Prelude.{ℕ, ◌+◌, ◌*◌, ◌^◌, ◌<◌, ◌≤◌, List, length}
use Rattle.std.specs.List.{All}
use Rattle.nd_model.specs.Arrays.View.{Geo, item_size}
use Rattle.nd_index.specs.Advanced.Chosen.{view_at}
use Rattle.nd_scatter.specs.Scattered.{Prepared}
use Rattle.nd_scatter.specs.declared.scatter.Scatter.TheInside.{Inside}

-- `count` values of `size` bytes, which begin `step` bytes apart from a byte on, end within `len` bytes
abbrev pub AreValues : (size from step count len : ℕ) → Type 0
AreValues size from step count len = (k : ℕ) → k < count → from + k * step + size ≤ len

abbrev pub target_of : Inside → Geo
target_of s = view_at s.view.now s.places.now

abbrev pub prepared_of : Inside → Prepared
prepared_of s = record { target = target_of s; values = s.values; step = s.step; len = s.len }

-- Each element of the target ends within `len` bytes and has a value. There are no more elements than an array may have.
pub record IsPrepared (g : Geo) (values : List ℕ) (step len : ℕ) : Type 0 where
  pub out : All (λ p. p + item_size g.element ≤ len) g.places
  pub held : AreValues (item_size g.element) 0 step (length g.places) (length values)
  pub few : length g.places ≤ 2 ^ 24

abbrev pub IsScatter : Inside → Type 0
IsScatter s = IsPrepared (target_of s) s.values s.step s.len

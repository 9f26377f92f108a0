-- Runs of elements, and walks over a view by its runs.
use Rattle.std.specs.Prelude.{◌≡◌, ℕ, ◌+◌, ◌^◌, ◌<◌, ◌≤◌, ℤ, pos, ◌≤ℤ◌, List, length, take, drop, slice_index}
use Rattle.nd_model.specs.Arrays.Runs.{place_at, spot_at, run_places, in_pieces}
use Rattle.nd_model.specs.Arrays.Tuple.{elements_of, number}
use Rattle.nd_model.specs.Arrays.View.{Geo}
use Rattle.nd_view.specs.Indexes.{IsIndex}
use Rattle.nd_view.specs.declared.inner_loop.InnerLoop.{InnerLoop}
use Rattle.nd_view.specs.declared.runs.Run.TheInside as run
use Rattle.nd_view.specs.declared.runs.Runs.TheInside as runs

abbrev pub places_of : run.Inside → List ℕ
places_of r = run_places r.start r.step r.count

pub record IsRun (r : run.Inside) : Type 0 where
  pub some : 0 < r.count
  pub places : (k : ℕ) → k < r.count → (pos 0 ≤ℤ place_at r.start r.step k) × (spot_at r.start r.step k < 2 ^ 64)
  pub alone : r.count ≡ 1 → r.step ≡ pos 0

-- from the place of this number on, `count` places are one step apart
abbrev pub AreSteps : List ℕ → ℕ → ℕ → ℤ → Type 0
AreSteps places n count step =
    (k : ℕ) → k < count → (place_at (slice_index places n) step k ≡ pos (slice_index places (n + k))) × (slice_index places (n + k) < 2 ^ 64)

-- the elements behind each index of the outer axes are one step apart
pub record IsInner (g : Geo) (inner : InnerLoop) : Type 0 where
  pub outer : inner.outer ≤ length g.shape
  pub most : inner.outer ≤ 32
  pub count : inner.count ≡ elements_of (drop inner.outer g.shape)
  pub steps : (t : List ℕ) → IsIndex (take inner.outer g.shape) t → AreSteps g.places (number g.shape t) inner.count inner.step
  pub alone : inner.count ≡ 1 → inner.step ≡ pos 0

-- the runs that are left
abbrev pub left_of : runs.Inside → List (List ℕ)
left_of r = in_pieces r.inner.count (drop r.at r.view.now.places)

-- The walk is at the first element of a run, if at any: its index is that of the outer axes.
pub record IsWalk (r : runs.Inside) : Type 0 where
  pub inner : IsInner r.view.now r.inner
  pub count : r.count ≡ length r.view.now.places
  pub elements : elements_of r.view.now.shape ≡ length r.view.now.places
  pub within : r.at ≤ r.count
  pub index : r.at < r.count → IsIndex (take r.inner.outer r.view.now.shape) (take r.inner.outer r.index)
  pub at : r.at < r.count → number r.view.now.shape (take r.inner.outer r.index) ≡ r.at

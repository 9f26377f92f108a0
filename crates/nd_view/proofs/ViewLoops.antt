-- The axes of a view that are walked as one.
use Rattle.std.proofs.Common.{◌≡◌, ℕ, suc, ◌-◌, ◌*◌, ◌<◌, ◌≤◌, List, [], ◌∷◌, length, take, drop, get_or, refl, sym, ap, subst, ◌∙◌, arith}
use Rattle.std.specs.Prelude.{ℤ, pos, unsigned_abs}
use Rattle.std.specs.List.{concat}
use Rattle.nd_model.specs.Arrays.Runs.{in_pieces}
use Rattle.nd_model.specs.Arrays.Strides.{place_at}
use Rattle.nd_model.specs.Arrays.Tuple.{elements_of, number}
use Rattle.nd_model.specs.Arrays.View.{Geo, item_size}
use Rattle.nd_model.proofs.Pieces.{joined}
use Rattle.nd_types.specs.Types.{type_of}
use Rattle.nd_view.specs.Indexes.{IsIndex}
use Rattle.nd_view.specs.Strides.{IsEven}
use Rattle.nd_view.specs.Views.{geo_of, IsView}
use Rattle.nd_view.specs.Walks.{AreSteps, IsInner}
use Rattle.nd_view.specs.declared.inner_loop.InnerLoop.{InnerLoop}
use Rattle.nd_view.specs.declared.strided.View.TheInside.{Inside}
use Rattle.nd_view.proofs.Evened.{even_none, even_one, first, steps_of}
use Rattle.nd_view.proofs.Fields.{shape_is, count_of, lies_of, limited}
use Rattle.nd_view.proofs.Kept.{short_stride}
use Rattle.nd_view.proofs.Split.{elements, behind}
use Rattle.nd_view.proofs.Walking.{length-front}

-- the last axis is even
pub even_last : (shape : List ℕ) (strides : List ℤ) → length strides ≡ length shape → IsEven (drop (length shape - 1) shape) (drop (length shape - 1) strides) (get_or strides (length shape - 1) (pos 0))
even_last [] [] same = even_none (pos 0)
even_last [] (s ∷ strides) same = absurd (omega arith)
even_last (n ∷ shape) strides same = let last : suc (length shape) - 1 ≡ length shape = omega arith in rw last (from n shape strides (omega arith))
  where
    from : (n : ℕ) (shape : List ℕ) (strides : List ℤ) → length strides ≡ suc (length shape) → IsEven (drop (length shape) (n ∷ shape)) (drop (length shape) strides) (get_or strides (length shape) (pos 0))
    from n [] [] same = absurd (omega arith)
    from n [] (s ∷ []) same = even_one n s
    from n [] (s ∷ r ∷ strides) same = absurd (omega arith)
    from n (m ∷ shape) [] same = absurd (omega arith)
    from n (m ∷ shape) (s ∷ strides) same = from m shape strides (omega arith)

pub last_count : (shape : List ℕ) → get_or shape (length shape - 1) 1 ≡ elements_of (drop (length shape - 1) shape)
last_count [] = refl
last_count (n ∷ shape) = let last : suc (length shape) - 1 ≡ length shape = omega arith in rw last (from n shape)
  where
    from : (n : ℕ) (shape : List ℕ) → get_or (n ∷ shape) (length shape) 1 ≡ elements_of (drop (length shape) (n ∷ shape))
    from n [] = omega arith
    from n (m ∷ shape) = from m shape

module _ (v : Inside) (is : IsView v) (g : Geo) (e : geo_of v ≡ g) where
  -- the first element at an index of the outer axes
  pub outer_place : (t : List ℕ) → length t ≤ length g.shape → IsIndex (take (length t) g.shape) t → 0 < length g.places → place_at v.offset v.strides.items t ≡ get_or g.places (number g.shape t) 0
  outer_place t le index some =
      let within : length t ≤ length v.shape.items = omega (arith, le, ap length (shape_is v is g e)) in
      let tuple : IsIndex (take (length t) v.shape.items) t = rw (shape_is v is g e) index in
      let many : 0 < elements_of v.shape.items = omega (arith, some, count_of v is g e) in
      sym (ap unsigned_abs (first (item_size (type_of v.elem)) v.offset v.shape.items v.strides.items is.axes (lies_of v is g e) t within tuple (behind v.shape.items (length t) many).0))
      ∙ (λ i. get_or (e i).places (number (e i).shape t) 0)

  pub inner_is : (inner : InnerLoop) → inner.outer ≤ length v.shape.items → inner.count ≡ elements_of (drop inner.outer v.shape.items)
      → IsEven (drop inner.outer v.shape.items) (drop inner.outer v.strides.items) inner.step → (inner.count ≡ 1 → inner.step ≡ pos 0) → IsInner g inner
  inner_is inner le count even alone = record {
    outer = omega (arith, le, ap length (shape_is v is g e));
    most = omega (arith, le, (limited v is g e).axes);
    count = count ∙ ap (λ s. elements_of (drop inner.outer s)) (shape_is v is g e);
    steps = λ t index.
        let tuple : IsIndex (take inner.outer v.shape.items) t = rw (shape_is v is g e) index in
        let long : length t ≡ inner.outer = length-front v.shape.items t inner.outer le tuple in
        let steps = steps_of (item_size (type_of v.elem)) v.offset v.shape.items v.strides.items is.axes (lies_of v is g e) is.some t (omega arith) (rw long tuple) inner.step (rw long even) in
        subst (λ (h : Geo). AreSteps h.places (number h.shape t) inner.count inner.step) e (rw (count, ← long) steps);
    alone = alone;
  }

  pub last_alone : get_or v.shape.items (length v.shape.items - 1) 1 ≡ 1 → get_or v.strides.items (length v.shape.items - 1) (pos 0) ≡ pos 0
  last_alone one = short_stride (elements_of v.shape.items) v.shape.items v.strides.items (length v.shape.items - 1) is.strides (omega (arith, one))

  pub inner_last : (inner : InnerLoop) → inner.outer ≡ length v.shape.items - 1 → inner.count ≡ get_or v.shape.items (length v.shape.items - 1) 1
      → inner.step ≡ get_or v.strides.items (length v.shape.items - 1) (pos 0) → IsInner g inner
  inner_last inner outer count step =
      inner_is inner (omega (arith, outer)) (rw outer (count ∙ last_count v.shape.items)) (rw (outer, step) (even_last v.shape.items v.strides.items is.axes))
      (λ one. step ∙ last_alone (sym count ∙ one))

-- the runs of such axes are the whole
pub all_runs : (g : Geo) (inner : InnerLoop) → IsInner g inner → elements_of g.shape ≡ length g.places → concat (in_pieces inner.count g.places) ≡ g.places
all_runs g inner loop all =
    joined inner.count (elements_of (take inner.outer g.shape)) g.places
    (sym all ∙ elements g.shape inner.outer ∙ ap (λ n. elements_of (take inner.outer g.shape) * n) (sym loop.count))

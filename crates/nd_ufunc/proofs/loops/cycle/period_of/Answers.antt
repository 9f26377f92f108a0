use Rattle.std.proofs.Common.{◌≡◌, ℕ, ℤ, pos, ◌%◌, ◌<◌, List, length, drop, get_or, sym, ap, ◌∙◌, arith}
use Rattle.nd_model.specs.Arrays.Tuple.{elements_of}
use Rattle.nd_model.specs.Arrays.Strides.{places_by}
use Rattle.nd_model.specs.Arrays.View.{Geo}
use Rattle.nd_ufunc.specs.Loops.Turns.{IsInTurns}
use Rattle.nd_ufunc.proofs.loops.Turns.{in_turns}
use Rattle.nd_ufunc.proofs.loops.cycle.period_of.Goals as goal

-- the places of a view whose first axes lead to no other places
of_view : (g : Geo) (shape : List ℕ) (strides : List ℤ) (axes period count : ℕ) → shape ≡ g.shape → g.places ≡ places_by (get_or g.places 0 0) strides g.shape
    → count ≡ length g.places → count ≡ elements_of g.shape → ((i : ℕ) → i < axes → get_or strides i (pos 0) ≡ pos 0) → period ≡ elements_of (drop axes shape)
    → IsInTurns period g.places
of_view g shape strides axes period count own are counted elements still is k lt =
    let p : elements_of (drop axes g.shape) ≡ period = sym (is ∙ ap (λ s. elements_of (drop axes s)) own) in
    ap (λ l. get_or l k 0) are
    ∙ in_turns axes (get_or g.places 0 0) g.shape strides still k (omega (arith, counted, elements))
    ∙ ap (λ l. get_or l (k % elements_of (drop axes g.shape)) 0) (sym are) ∙ ap (λ m. get_or g.places (k % m) 0) p

pub returns-else-strides-axis-eq0 : goal.returns-else-strides-axis-eq0
returns-else-strides-axis-eq0 c =
    let is = c.loop-axis.invariant in
    of_view c.args.view.now c.shape-shape.result.now c.strides-strides.result.now c.loop-axis.axis c.loop-axis.period c.count-period.result
    c.shape-shape.ensures.value c.strides-strides.ensures.places c.count-period.ensures.value c.count-period.ensures.elements is.still is.period

pub returns-after-loop-axis : goal.returns-after-loop-axis
returns-after-loop-axis c =
    let is = c.loop-axis.invariant in
    of_view c.args.view.now c.shape-shape.result.now c.strides-strides.result.now c.loop-axis.axis c.loop-axis.period c.count-period.result
    c.shape-shape.ensures.value c.strides-strides.ensures.places c.count-period.ensures.value c.count-period.ensures.elements is.still is.period

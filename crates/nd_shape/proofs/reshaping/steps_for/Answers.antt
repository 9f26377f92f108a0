use Rattle.std.proofs.Common.{◌≡◌, ◌<◌, ◌≤◌, ◌^◌, ◌++◌, [], ◌∷◌, ℕ, ℤ, sym, subst, ◌∙◌, arith, rules}
use Rattle.std.specs.Prelude.{unsigned_abs}
use Rattle.std.specs.List.{All}
use Rattle.std.specs.Int.{w128}
use Rattle.std.specs.Int.RustNames.{FitsSigned}
use Rattle.std.proofs.lemmas.Int.{to_z-of_z}
use Rattle.std.proofs.lemmas.List.Elements.{All-nil, All-cons, All-append}
use Rattle.nd_shape.specs.Reshapes.{way_of}
use Rattle.nd_shape.proofs.Ways.{on_axis, steps_next}
use Rattle.nd_shape.proofs.reshaping.steps_for.Goals as goal

some_of : (count n : ℕ) → count ≡ n → 0 < count → 0 < n
some_of count n e some = omega arith

pub nonzero_div-each : goal.nonzero_div-each
nonzero_div-each c = (on_axis c.args.to.now c.loop-length.length-index c.loop-length.each (omega arith) (some_of c.args.count _ c.requires.count.1 c.requires.some.0) c.loop-length.invariant.each).some

pub loop-length-preserved : goal.loop-length-preserved
loop-length-preserved c =
    let k = c.loop-length.length-index in
    let to = c.args.to.now in
    let q : ℕ → ℤ = way_of c.args.shape.now c.args.strides.now in
    let ax = on_axis to k c.loop-length.each (omega arith) (some_of c.args.count _ c.requires.count.1 c.requires.some.0) c.loop-length.invariant.each in
    let fits : FitsSigned w128 c.way_of.result = search rules in
    let value = to_z-of_z w128 c.way_of.result fits in
    let near : unsigned_abs c.way_of.result ≤ 2 ^ 93 = c.way_of.ensures.near c.requires.range in
    let made = c.in_ok-push.ensures.ok ∙ (λ i. c.loop-length.steps.items ++ value i ∷ []) in
    record {
      each = ax.next;
      value = steps_next q to k _ c.loop-length.steps.items c.push.new.self.items c.way_of.result (omega arith) ax.next c.way_of.ensures.value made c.loop-length.invariant.value;
      range = subst (All (λ s. unsigned_abs s ≤ 2 ^ 93)) (sym made)
          (All-append (λ s. unsigned_abs s ≤ 2 ^ 93) c.loop-length.steps.items (c.way_of.result ∷ []) c.loop-length.invariant.range (All-cons (λ s. unsigned_abs s ≤ 2 ^ 93) c.way_of.result [] near (All-nil (λ s. unsigned_abs s ≤ 2 ^ 93))));
    }

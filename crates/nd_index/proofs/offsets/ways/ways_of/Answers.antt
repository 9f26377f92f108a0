use Rattle.std.proofs.Common.{◌≡◌, ◌+◌, ◌-◌, ◌<◌, ◌≤◌, ◌^◌, map, length, drop, get_or, sym, subst, ◌∙◌, arith, rules}
use Rattle.std.specs.Int.{w128}
use Rattle.std.specs.Int.RustNames.{FitsSigned}
use Rattle.std.specs.List.{flat_map}
use Rattle.std.specs.Prelude.{pos, ◌+ℤ◌, ◌*ℤ◌, unsigned_abs}
use Rattle.std.proofs.lemmas.Int.{to_z-of_z}
use Rattle.std.proofs.lemmas.List.{length-drop}
use Rattle.std.proofs.lemmas.List.Elements.{All-drop}
use Rattle.nd_model.specs.Arrays.Tuple.{count_up}
use Rattle.nd_index.specs.Offsets.Ways.{AreNear, ways}
use Rattle.nd_index.proofs.offsets.Sums.{ways_near, widened_at}
use Rattle.nd_index.proofs.offsets.ways.ways_of.Goals as goal

pub widen-requires-clause-length : goal.widen-requires-clause-length
widen-requires-clause-length c = c.requires.lengths (c.loop-axis.axis - 1) 0 (omega (arith, c.loop-axis-test.true, c.loop-axis.invariant.within))

pub widen-requires-clause-near : goal.widen-requires-clause-near
widen-requires-clause-near c =
    let k = c.loop-axis.axis in let lengths = c.args.lengths.now in let strides = c.args.strides.now in
    let near = ways_near (drop k lengths) (drop k strides) (omega (arith, length-drop k lengths, c.requires.most)) (All-drop (λ n. n ≤ 2 ^ 32) k lengths c.requires.lengths)
    (All-drop (λ s. unsigned_abs s < 2 ^ 64) k strides c.requires.range) in
    subst AreNear (sym (c.as_slice.ensures.value ∙ c.loop-axis.invariant.done)) near

pub loop-axis-preserved : goal.loop-axis-preserved
loop-axis-preserved c =
    let k = c.loop-axis.axis - 1 in let lengths = c.args.lengths.now in let strides = c.args.strides.now in
    let lt : k < length lengths = omega (arith, c.loop-axis-test.true, c.loop-axis.invariant.within) in
    let lt' : k < length strides = omega (arith, lt, c.requires.axes) in
    let back : c.loop-axis.axis ≡ k + 1 = omega (arith, c.loop-axis-test.true) in
    let fits : FitsSigned w128 (get_or strides k (pos 0)) = search rules in
    let behind = c.as_slice.ensures.value ∙ c.loop-axis.invariant.done ∙ (λ i. ways (drop (back i) lengths) (drop (back i) strides)) in
    record {
      done = c.in_ok-ways-2.ensures
          ∙ (λ i. flat_map (λ k'. map (λ z. (pos k' *ℤ to_z-of_z w128 (get_or strides k (pos 0)) fits i) +ℤ z) (behind i)) (count_up 0 (get_or lengths k 0)))
          ∙ widened_at lengths strides k lt lt';
      within = omega (arith, lt);
    }

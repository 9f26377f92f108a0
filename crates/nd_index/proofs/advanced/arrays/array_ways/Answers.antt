use Rattle.std.proofs.Common.{◌≡◌, ◌+◌, ◌^◌, ◌<◌, ◌≤◌, length, map, take, replicate, pos, refl, sym, ap, subst, ◌∙◌, arith, rules}
use Rattle.std.proofs.lemmas.List.{length-map, length-replicate, take_all}
use Rattle.std.specs.List.{All}
use Rattle.std.specs.Prelude.{unsigned_abs}
use Rattle.nd_model.specs.Arrays.Strides.{way_to}
use Rattle.nd_model.specs.Arrays.Tuple.{indices}
use Rattle.nd_view.proofs.Indexed.{length-indices}
use Rattle.nd_view.proofs.Tuples.{map_same}
use Rattle.nd_index.specs.Advanced.Takes.{axes_taken, axes_taken_by, take_of, takes_of}
use Rattle.nd_index.specs.Advanced.TakenWays.{way_taken}
use Rattle.nd_index.specs.Offsets.Ways.{AreNear, ways}
use Rattle.nd_index.proofs.advanced.Spreads.{arrays_near, axes_again, code_few, take_again}
use Rattle.nd_index.proofs.offsets.Sums.{none_range, still}
use Rattle.nd_index.proofs.advanced.arrays.array_ways.Goals as goal

pub ways_of-requires-clause-axes : goal.ways_of-requires-clause-axes
ways_of-requires-clause-axes c =
    let zeros : c.in_ok-none.none.items ≡ replicate (length c.args.many.now) (pos 0) = search rules in
    ap length (c.as_slice.ensures ∙ zeros) ∙ length-replicate (length c.args.many.now) (pos 0)

pub ways_of-requires-clause-range : goal.ways_of-requires-clause-range
ways_of-requires-clause-range c =
    let zeros : c.in_ok-none.none.items ≡ replicate (length c.args.many.now) (pos 0) = search rules in
    subst (All (λ s. unsigned_abs s < 2 ^ 64)) (sym (c.as_slice.ensures ∙ zeros)) (none_range (length c.args.many.now))

pub loop-take-init : goal.loop-take-init
loop-take-init c =
    let many = c.args.many.now in
    let zeros : c.in_ok-none.none.items ≡ replicate (length many) (pos 0) = search rules in
    record {
      done = c.in_ok-ways.ensures ∙ ap (ways many) (c.as_slice.ensures ∙ zeros)
          ∙ map_same (λ t. way_to t (replicate (length many) (pos 0))) (λ m. pos 0) (still (length many)) (indices many);
      axes = refl;
    }

-- the axis behind what is taken next
onward : (c : goal.After-take-item) → c.loop-take.axis + axes_taken_by (take_of c.take-item.result) ≤ axes_taken (takes_of c.args.takes.now)
onward c =
    (axes_again c.args.takes.now c.loop-take.take-index c.take-item.result c.loop-take.axis (axes_taken_by (take_of c.take-item.result)) (omega (arith, c.loop-take-test.true)) c.take-item.is
    c.loop-take.invariant.axes refl).1

pub add_take-requires-clause-each : goal.add_take-requires-clause-each
add_take-requires-clause-each c = ap length c.loop-take.invariant.done ∙ length-map (indices c.args.many.now) _ ∙ length-indices c.args.many.now

pub add_take-requires-clause-near : goal.add_take-requires-clause-near
add_take-requires-clause-near c =
    let front = take c.loop-take.take-index c.args.takes.now in
    subst AreNear (sym c.loop-take.invariant.done)
    (arrays_near (takes_of front) c.args.sizes.now c.args.strides.now c.args.many.now (code_few front) (omega (arith, onward c, c.loop-take.invariant.axes, c.requires.taken, c.requires.most)) c.requires.range)

pub add_take-requires-clause-within : goal.add_take-requires-clause-within
add_take-requires-clause-within c = omega (arith, onward c, c.requires.taken)

pub overflow_add-axis : goal.overflow_add-axis
overflow_add-axis c =
    let le = (axes_again c.args.takes.now c.loop-take.take-index c.take-item.result c.loop-take.axis c.axes-axis.result (omega (arith, c.loop-take-test.true)) c.take-item.is
    c.loop-take.invariant.axes c.axes-axis.ensures).1 in
    let few : c.loop-take.axis + c.axes-axis.result ≤ 32 = omega (arith, le, c.requires.taken, c.requires.most) in
    search (rules, few)

pub loop-take-preserved : goal.loop-take-preserved
loop-take-preserved c =
    let takes = c.args.takes.now in let k = c.loop-take.take-index in
    let lt : k < length takes = omega (arith, c.loop-take-test.true) in
    record {
      done = take_again takes k c.take-item.result c.args.sizes.now c.args.many.now c.args.strides.now c.loop-take.ways.items c.in_ok-ways-2.ways.items c.loop-take.axis lt c.take-item.is
          c.loop-take.invariant.axes c.in_ok-ways-2.ensures c.loop-take.invariant.done;
      axes = (axes_again takes k c.take-item.result c.loop-take.axis c.axes-axis.result lt c.take-item.is c.loop-take.invariant.axes c.axes-axis.ensures).0;
    }

pub returns : goal.returns
returns c =
    c.loop-take.invariant.done
    ∙ ap (λ ts. map (way_taken (takes_of ts) c.args.sizes.now c.args.strides.now) (indices c.args.many.now)) (take_all c.loop-take.take-index c.args.takes.now (omega (arith, c.loop-take-test.false)))

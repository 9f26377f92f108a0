use Rattle.std.proofs.Common.{◌+◌, ◌<◌, ◌^◌, ◌++◌, [], ◌∷◌, cond, nat_eq, length, drop, get_or, sym, ap, subst, ◌∙◌, arith, rules, append_assoc, append-nil}
use Rattle.std.specs.Int.{w128}
use Rattle.std.specs.Int.RustNames.{FitsSigned}
use Rattle.std.specs.List.{All}
use Rattle.std.specs.Prelude.{pos, unsigned_abs}
use Rattle.std.proofs.lemmas.Int.{to_z-of_z}
use Rattle.std.proofs.lemmas.List.{drop_all}
use Rattle.nd_index.specs.Offsets.Ways.{narrowed_strides}
use Rattle.nd_index.proofs.offsets.Numbers.{each_next}
use Rattle.nd_places.proofs.Fronts.{drop_one}
use Rattle.nd_index.proofs.offsets.Sums.{own_range}
use Rattle.nd_index.proofs.offsets.ways.own_strides.Goals as goal

pub loop-length-preserved : goal.loop-length-preserved
loop-length-preserved c =
    let k = c.loop-length.length-index in let shape = c.args.shape.now in let done = c.loop-length.strides.items in
    let lt : k < length shape = omega (arith, c.loop-length-test.true) in
    let next = each_next shape k c.loop-length.each lt c.loop-length.invariant.each c.loop-length.invariant.some in
    let fits : FitsSigned w128 c.own_stride.result = search rules in
    let stride = to_z-of_z w128 c.own_stride.result fits ∙ c.own_stride.ensures ∙ ap (λ e. cond (nat_eq (get_or shape k 0) 1) (pos 0) (pos e)) next.1 in
    let rest = narrowed_strides (drop (k + 1) shape) in
    record {
      done = ap (λ l. l ++ rest) c.in_ok-push.ensures.ok ∙ append_assoc done (_ ∷ []) rest ∙ ap (λ s. done ++ s ∷ rest) stride
          ∙ ap (λ l. done ++ narrowed_strides l) (sym (drop_one shape k 0 lt)) ∙ c.loop-length.invariant.done;
      each = next.1;
      some = rw next.1 next.2;
    }

pub returns-clause-range : goal.returns-clause-range
returns-clause-range c =
    let done = c.loop-length.strides.items in
    let all = sym (append-nil done) ∙ ap (λ l. done ++ narrowed_strides l) (sym (drop_all c.loop-length.length-index c.args.shape.now (omega arith))) ∙ c.loop-length.invariant.done in
    subst (All (λ s. unsigned_abs s < 2 ^ 64)) (sym all) (own_range c.args.axes c.args.shape.now (omega (arith, c.requires.count, c.requires.some)) (omega (arith, c.requires.count, c.requires.few)))

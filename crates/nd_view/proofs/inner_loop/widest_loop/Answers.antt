use Rattle.std.proofs.Common.{◌≡◌, ℕ, ◌-◌, refl, length, get_or, to_z, rules, arith, sym, ap, subst, ◌∙◌}
use Rattle.std.specs.Prelude.{ℤ, pos}
use Rattle.std.specs.Int.{w128}
use Rattle.std.specs.Int.RustNames.{FitsSigned}
use Rattle.std.proofs.lemmas.Int.{to_z-of_z}
use Rattle.std.proofs.lemmas.List.{drop_all}
use Rattle.nd_model.specs.Arrays.Tuple.{elements_of}
use Rattle.nd_view.specs.Strides.{AreJoined, joined_step}
use Rattle.nd_view.proofs.Evened.{even_none, even_empty, even_before, count_before, step_alone}
use Rattle.nd_view.proofs.Split.{behind}
use Rattle.nd_view.proofs.inner_loop.widest_loop.Goals as goal

pub returns-then-element_count-eq0-clause-even : goal.returns-then-element_count-eq0-clause-even
returns-then-element_count-eq0-clause-even c = even_empty c.args.shape.now c.args.strides.now (pos 0) (omega (arith, c.element_count.ensures))

pub loop-outer-init : goal.loop-outer-init
loop-outer-init c =
    let shape = drop_all (length c.args.shape.now) c.args.shape.now (omega arith) in
    let strides = drop_all (length c.args.shape.now) c.args.strides.now (omega (arith, c.requires.axes)) in
    record { outer = omega arith; count = ap elements_of (sym shape); even = rw (shape, strides) (even_none (pos 0)); alone = λ one. refl }

pub overflow_mul-count : goal.overflow_mul-count
overflow_mul-count c =
    let all = count_before c.args.shape.now c.loop-outer.outer c.loop-outer.count (omega arith) c.loop-outer.invariant.outer c.loop-outer.invariant.count in
    let most = behind c.args.shape.now (c.loop-outer.outer - 1) (omega (arith, c.element_count.ensures)) in
    omega (arith, all, most.1, c.requires.elements)

pub loop-outer-preserved : goal.loop-outer-preserved
loop-outer-preserved c =
    let n : ℕ = get_or c.args.shape.now (c.loop-outer.outer - 1) 0 in let s : ℤ = get_or c.args.strides.now (c.loop-outer.outer - 1) (pos 0) in
    let small : FitsSigned w128 c.joined_step-step.result = search rules in let stride : FitsSigned w128 s = search rules in
    let same = to_z-of_z w128 s stride in let now : ℤ = to_z w128 c.loop-outer.step-bits in
    let step : c.joined_step-step.result ≡ joined_step n s c.loop-outer.count now = c.joined_step-step.ensures ∙ ap (λ z. joined_step n z c.loop-outer.count now) same in
    let joined = subst (λ z. AreJoined n z c.loop-outer.count now) same (c.if-are_joined.ensures refl) in
    rw (to_z-of_z w128 c.joined_step-step.result small, step) (record {
      outer = omega (arith, c.loop-outer.invariant.outer);
      count = count_before c.args.shape.now c.loop-outer.outer c.loop-outer.count (omega arith) c.loop-outer.invariant.outer c.loop-outer.invariant.count;
      even = even_before c.args.shape.now c.args.strides.now c.loop-outer.outer c.loop-outer.count now (omega arith) c.loop-outer.invariant.outer c.requires.axes c.loop-outer.invariant.count joined c.loop-outer.invariant.even;
      alone = step_alone n c.loop-outer.count s now c.loop-outer.invariant.alone;
    })

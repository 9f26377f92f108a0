use Rattle.std.proofs.Common.{refl, sym, ap, subst, ◌∙◌}
use Rattle.nd_model.specs.Cells.Evaluation.{run}
use Rattle.nd_syntax.specs.Trees.Syntax.{binary_op}
use Rattle.nd_heap.specs.declared.value.Value.TheVariants.{Array}
use Rattle.nd_heap.specs.Values.{value_of}
use Rattle.nd_session.specs.Inputs.Values.{inputs_of}
use Rattle.nd_session.specs.Session.Live.{live}
use Rattle.nd_eval.specs.Effects.{effect_of}
use Rattle.nd_eval.specs.Parts.{augmentation}
use Rattle.nd_eval.specs.Uses.{IsHeld, marked}
use Rattle.nd_eval.proofs.Augmented.{array_augmented, makes_ends}
use Rattle.nd_eval.proofs.Chains.{ends_alike}
use Rattle.nd_eval.proofs.Held.{held_marked}
use Rattle.nd_eval.proofs.evaluator.Evaluator.augment.Goals as goal

pub update_effect-requires-clause-array : goal.update_effect-requires-clause-array
update_effect-requires-clause-array c =
    let r = live c.args.self.now.session.now in
    let a = Array c.in-Ok.array in
    let t = live c.mark_array_and_value.new.session in
    held_marked c.args.value a (marked a r) t c.in-Ok-mark_array_and_value.ensures (held_marked a a r (marked a r) refl (subst (IsHeld r) c.in-Ok.ensures c.requires.found))

pub update_effect-requires-clause-value : goal.update_effect-requires-clause-value
update_effect-requires-clause-value c =
    let r = live c.args.self.now.session.now in
    let a = Array c.in-Ok.array in
    let t = live c.mark_array_and_value.new.session in
    let v = c.args.value in
    held_marked v v (marked a r) t c.in-Ok-mark_array_and_value.ensures (held_marked a v r (marked a r) refl c.requires.value)

pub returns-in-Ok-mark_array_and_value-clause-effect : goal.returns-in-Ok-mark_array_and_value-clause-effect
returns-in-Ok-mark_array_and_value-clause-effect c =
    let i = inputs_of c.args.self.now.inputs.now.entries in
    let op = binary_op c.args.op in
    let n = c.args.name.now in
    let v = c.args.value in
    let r = live c.args.self.now.session.now in
    let t = live c.mark_array_and_value.new.session in (
      ends_alike _ _ _ (ap (λ f. run i (augmentation n op (value_of f) (value_of v)) r) c.in-Ok.ensures ∙ array_augmented i op c.in-Ok.array v n r (marked (Array c.in-Ok.array) r) t refl c.in-Ok-mark_array_and_value.ensures)
          (makes_ends (effect_of t.bytes) i t _ _ c.update_effect.ensures.effect),
      (refl, refl),
    )

pub rebind-bound-requires-clause-found : goal.rebind-bound-requires-clause-found
rebind-bound-requires-clause-found c = subst (IsHeld (live c.args.self.now.session.now)) (sym c.in-Err.ensures.0) c.requires.found

pub returns-in-Err-clause-effect : goal.returns-in-Err-clause-effect
returns-in-Err-clause-effect c =
    let i = inputs_of c.args.self.now.inputs.now.entries in
    let op = binary_op c.args.op in
    let r = live c.args.self.now.session.now in (
      ends_alike _ _ _ (ap (λ f. run i (augmentation c.args.name.now op (value_of f) (value_of c.args.value)) r) (sym c.in-Err.ensures.0)) c.rebind-bound.ensures.effect.0,
      c.rebind-bound.ensures.effect.1,
    )

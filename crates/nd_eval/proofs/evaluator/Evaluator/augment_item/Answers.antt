use Rattle.std.proofs.Common.{◌≡◌, true, refl, sym, ap, subst, ◌∙◌}
use Rattle.nd_model.specs.Cells.Evaluation.{run}
use Rattle.nd_model.specs.Indexing.Index.{has_array}
use Rattle.nd_syntax.specs.Trees.Syntax.{binary_op}
use Rattle.nd_heap.specs.declared.value.Value.TheVariants.{Array}
use Rattle.nd_heap.specs.Values.{value_of}
use Rattle.nd_session.specs.Inputs.Values.{inputs_of}
use Rattle.nd_session.specs.Session.Live.{live}
use Rattle.nd_operation.specs.Operators.Contents.{unused_of}
use Rattle.nd_eval.specs.Choosing.Indexing.{operands_of}
use Rattle.nd_eval.specs.Contents as contents
use Rattle.nd_eval.specs.Effects.{effect_of}
use Rattle.nd_eval.specs.Parts.{item_augmentation}
use Rattle.nd_eval.specs.Uses.{HasTypeOf, IsHeld, marked}
use Rattle.nd_eval.proofs.Augmented.{array_item_augmented, copy_item_augmented, made_assigned, makes_ends}
use Rattle.nd_eval.proofs.Chains.{ends_alike}
use Rattle.nd_eval.proofs.Held.{held_index_marked, held_marked}
use Rattle.nd_eval.proofs.Uses.{index_next, kept_next}
use Rattle.nd_eval.proofs.evaluator.Evaluator.augment_item.Goals as goal

pub update_effect-requires-clause-array : goal.update_effect-requires-clause-array
update_effect-requires-clause-array c =
    let r = live c.args.self.now.session.now in
    let s = marked c.args.value r in
    let q = marked c.args.found s in
    let u = live c.mark_item_operands.new.session in
    let f = c.args.found in
    subst (IsHeld u) c.in-Ok-array_of.ensures (held_index_marked c.args.index.now f q u c.in-Ok.ensures
    (held_marked f f s q refl (held_marked c.args.value f r s refl c.requires.found)))

pub update_effect-requires-clause-value : goal.update_effect-requires-clause-value
update_effect-requires-clause-value c =
    let r = live c.args.self.now.session.now in
    let s = marked c.args.value r in
    let q = marked c.args.found s in
    let u = live c.mark_item_operands.new.session in
    let v = c.args.value in
    held_index_marked c.args.index.now v q u c.in-Ok.ensures
    (held_marked c.args.found v s q refl (held_marked v v r s refl c.requires.value))

pub assign_made-made-requires-clause-value : goal.assign_made-made-requires-clause-value
assign_made-made-requires-clause-value c =
    let r = live c.args.self.now.session.now in
    let s = marked c.args.value r in
    let q = marked c.args.found s in
    let u = live c.mark_item_operands.new.session in
    let v = c.args.value in
    held_index_marked c.args.index.now v q u c.in-Ok.ensures
    (held_marked c.args.found v s q refl (held_marked v v r s refl c.requires.value))

pub assign_made-made-requires-clause-found : goal.assign_made-made-requires-clause-found
assign_made-made-requires-clause-found c =
    let r = live c.args.self.now.session.now in
    let s = marked c.args.value r in
    let q = marked c.args.found s in
    let u = live c.mark_item_operands.new.session in
    let f = c.args.found in
    subst (IsHeld u) (sym c.in-Err-array_of.ensures.0) (held_index_marked c.args.index.now f q u c.in-Ok.ensures
    (held_marked f f s q refl (held_marked c.args.value f r s refl c.requires.found)))

pub assign_made-made-requires-clause-target : goal.assign_made-made-requires-clause-target
assign_made-made-requires-clause-target c =
    let r = live c.args.self.now.session.now in
    let s = marked c.args.value r in
    let q = marked c.args.found s in
    let u = live c.mark_item_operands.new.session in
    let t = c.args.target.now in
    held_index_marked c.args.index.now t q u c.in-Ok.ensures
    (held_marked c.args.found t s q refl (held_marked c.args.value t r s refl c.requires.target))

pub assign_made-made-requires-clause-room : goal.assign_made-made-requires-clause-room
assign_made-made-requires-clause-room c =
    let r = live c.args.self.now.session.now in
    let once = kept_next c.args.value r (marked c.args.value r) refl in
    let again = kept_next c.args.found (marked c.args.value r) (marked c.args.found (marked c.args.value r)) refl in
    let last = index_next c.args.index.now _ _ c.in-Ok.ensures in
    rw (last, again, once) c.requires.room

pub returns-in-Err-array_of-clause-effect : goal.returns-in-Err-array_of-clause-effect
returns-in-Err-array_of-clause-effect c =
    let i = inputs_of c.args.self.now.inputs.now.entries in
    let op = binary_op c.args.op in
    let v = c.args.value in
    let f = c.in-Err-array_of.found in
    let t = c.args.target.now in
    let x = c.args.index.now in
    let r = live c.args.self.now.session.now in
    let s = marked c.args.value r in
    let q = marked c.args.found s in
    let u = live c.mark_item_operands.new.session in (
      ends_alike _ _ _ (ap (λ f. run i (item_augmentation op (value_of v) (value_of f) (value_of t) (contents.index_of x)) r) (sym c.in-Err-array_of.ensures.0)
          ∙ made_assigned i op v f t x r s q u c.in-Err-array_of.ensures.1 refl (ap (λ f. marked f s) (sym c.in-Err-array_of.ensures.0)) c.in-Ok.ensures)
          c.assign_made-made.ensures.effect.0,
      c.assign_made-made.ensures.effect.1,
    )

pub copy_update_effect-requires-clause-copy : goal.copy_update_effect-requires-clause-copy
copy_update_effect-requires-clause-copy c =
    let r = live c.args.self.now.session.now in
    let s = marked c.args.value r in
    let q = marked c.args.found s in
    let u = live c.mark_item_operands.new.session in
    let f = c.args.found in
    subst (IsHeld u) c.in-Ok-array_of.ensures (held_index_marked c.args.index.now f q u c.in-Ok.ensures
    (held_marked f f s q refl (held_marked c.args.value f r s refl c.requires.found)))

pub copy_update_effect-requires-clause-value : goal.copy_update_effect-requires-clause-value
copy_update_effect-requires-clause-value c =
    let r = live c.args.self.now.session.now in
    let s = marked c.args.value r in
    let q = marked c.args.found s in
    let u = live c.mark_item_operands.new.session in
    let v = c.args.value in
    held_index_marked c.args.index.now v q u c.in-Ok.ensures
    (held_marked c.args.found v s q refl (held_marked v v r s refl c.requires.value))

pub copy_update_effect-requires-clause-target : goal.copy_update_effect-requires-clause-target
copy_update_effect-requires-clause-target c =
    let r = live c.args.self.now.session.now in
    let s = marked c.args.value r in
    let q = marked c.args.found s in
    let u = live c.mark_item_operands.new.session in
    let t = c.args.target.now in
    held_index_marked c.args.index.now t q u c.in-Ok.ensures
    (held_marked c.args.found t s q refl (held_marked c.args.value t r s refl c.requires.target))

pub copy_update_effect-requires-clause-advanced : goal.copy_update_effect-requires-clause-advanced
copy_update_effect-requires-clause-advanced c = sym c.is_advanced.ensures ∙ c.if-is_advanced.true

pub copy_update_effect-requires-clause-types : goal.copy_update_effect-requires-clause-types
copy_update_effect-requires-clause-types c =
    let x = c.args.index.now in
    let t = c.args.target.now in
    let advanced : has_array (operands_of x) ≡ true = sym c.is_advanced.ensures ∙ c.if-is_advanced.true in
    subst (λ b. HasTypeOf b (unused_of t) (Array c.in-Ok-array_of.array)) advanced (subst (HasTypeOf (has_array (operands_of x)) (unused_of t)) c.in-Ok-array_of.ensures c.requires.types)

pub returns-then-is_advanced-clause-effect : goal.returns-then-is_advanced-clause-effect
returns-then-is_advanced-clause-effect c =
    let i = inputs_of c.args.self.now.inputs.now.entries in
    let op = binary_op c.args.op in
    let v = c.args.value in
    let t = c.args.target.now in
    let x = c.args.index.now in
    let r = live c.args.self.now.session.now in
    let s = marked c.args.value r in
    let q = marked c.args.found s in
    let u = live c.mark_item_operands.new.session in (
      ends_alike _ _ _ (ap (λ f. run i (item_augmentation op (value_of v) (value_of f) (value_of t) (contents.index_of x)) r) c.in-Ok-array_of.ensures
          ∙ copy_item_augmented i op c.in-Ok-array_of.array v t x r s q u refl (ap (λ f. marked f s) c.in-Ok-array_of.ensures) c.in-Ok.ensures
          (sym c.is_advanced.ensures ∙ c.if-is_advanced.true))
          (makes_ends (effect_of u.bytes) i u _ _ c.copy_update_effect.ensures.effect),
      (refl, refl),
    )

pub returns-else-is_advanced-clause-effect : goal.returns-else-is_advanced-clause-effect
returns-else-is_advanced-clause-effect c =
    let i = inputs_of c.args.self.now.inputs.now.entries in
    let op = binary_op c.args.op in
    let v = c.args.value in
    let t = c.args.target.now in
    let x = c.args.index.now in
    let r = live c.args.self.now.session.now in
    let s = marked c.args.value r in
    let q = marked c.args.found s in
    let u = live c.mark_item_operands.new.session in (
      ends_alike _ _ _ (ap (λ f. run i (item_augmentation op (value_of v) (value_of f) (value_of t) (contents.index_of x)) r) c.in-Ok-array_of.ensures
          ∙ array_item_augmented i op c.in-Ok-array_of.array v t x r s q u refl (ap (λ f. marked f s) c.in-Ok-array_of.ensures) c.in-Ok.ensures
          (sym c.is_advanced.ensures ∙ c.if-is_advanced.false))
          (makes_ends (effect_of u.bytes) i u _ _ c.update_effect.ensures.effect),
      (refl, refl),
    )

use Rattle.nd_eval.specs.Effects.{effect_of}
use Rattle.nd_session.specs.Session.Live.{live}
use Rattle.nd_model.specs.Cells.Evaluation.{◌>>=◌}
use Rattle.std.proofs.Common.{arith, ◌∙◌, Err}
use Rattle.nd_model.specs.Grammar.Cells.{AtIndex}
use Rattle.nd_model.specs.Cells.Meaning as meaning
use Rattle.nd_syntax.specs.Trees.Syntax.{expr_of, index_of, binary_op}
use Rattle.nd_heap.specs.Values.{value_of}
use Rattle.nd_session.specs.Inputs.Values.{inputs_of}
use Rattle.nd_eval.specs.Contents as contents
use Rattle.nd_eval.specs.Parts.{choose_value, index_parts, item_augmentation}
use Rattle.nd_eval.proofs.Bounds.{next_at_suffix, next_index, next_value}
use Rattle.nd_eval.proofs.Chains.{exits, follows, goes, stops}
use Rattle.nd_eval.proofs.Turns.{stays_on}
use Rattle.nd_eval.proofs.Held.{held_after, sound_after, suffix_held, value_held}
use Rattle.nd_eval.proofs.evaluator.Evaluator.augment_index.Goals as goal

pub returns-in_err-index-clause-effect : goal.returns-in_err-index-clause-effect
returns-in_err-index-clause-effect c = (
  exits contents.index_of _ (inputs_of c.args.self.now.inputs.now.entries) (index_parts (index_of c.args.index.now)) _ _ _ _ _
      c.from_residual.ensures.1 c.in_err-index.ensures.0,
  c.in_err-index.ensures.1,
)

pub choose_value-requires-clause-held : goal.choose_value-requires-clause-held
choose_value-requires-clause-held c =
    held_after (inputs_of c.args.self.now.inputs.now.entries) (index_parts (index_of c.args.index.now)) _ _ _ c.args.target.now c.in_ok-index.ensures.0 c.requires.held

pub choose_value-requires-clause-room : goal.choose_value-requires-clause-room
choose_value-requires-clause-room c =
    let room = c.requires.room in
    let more = next_index (inputs_of c.args.self.now.inputs.now.entries) (index_of c.args.index.now) _ _ _ c.in_ok-index.ensures.0 in
    omega arith

pub returns-in-Err-clause-effect : goal.returns-in-Err-clause-effect
returns-in-Err-clause-effect c =
    let i = inputs_of c.args.self.now.inputs.now.entries in
    let op = binary_op c.args.op in
    let e = expr_of c.args.expr.now in
    let t = value_of c.args.target.now in
    let x = index_of c.args.index.now in
    let p = contents.index_of c.in_ok-index.index in
    let r = live c.args.self.now.session.now in
    let s = live c.index_value.new.self.session.now in
    let q = live c.choose_value.new.self.session.now in (
      follows contents.index_of (effect_of q.bytes) i (index_parts x) (λ p. choose_value t p >>= λ v. meaning.value e >>= λ y. item_augmentation op y v t p) r s q c.in_ok-index.index (Err c.in-Err.stop) c.in_ok-index.ensures.0
          (stops value_of (effect_of q.bytes) i (choose_value t p) (λ v. meaning.value e >>= λ y. item_augmentation op y v t p) s q c.in-Err.stop (rw c.in_ok-index.ensures.1.1 at c.in-Err.ensures.value.0)),
      stays_on c.in_ok-index.ensures.1 c.in-Err.ensures.value.1,
    )

pub value-requires : goal.value-requires
value-requires c =
    let i = inputs_of c.args.self.now.inputs.now.entries in
    let t = value_of c.args.target.now in
    let x = index_of c.args.index.now in
    let room = c.requires.room in
    let more = next_at_suffix i (AtIndex x) t _ _ _
    (goes contents.index_of i (index_parts x) (choose_value t) _ _ c.in_ok-index.index c.in_ok-index.ensures.0 ∙ rw c.in_ok-index.ensures.1.1 at c.in-Ok.ensures.value.0) in
    omega arith

pub returns-in-Err-value-clause-effect : goal.returns-in-Err-value-clause-effect
returns-in-Err-value-clause-effect c =
    let i = inputs_of c.args.self.now.inputs.now.entries in
    let op = binary_op c.args.op in
    let e = expr_of c.args.expr.now in
    let t = value_of c.args.target.now in
    let x = index_of c.args.index.now in
    let p = contents.index_of c.in_ok-index.index in
    let r = live c.args.self.now.session.now in
    let s = live c.index_value.new.self.session.now in
    let q = live c.choose_value.new.self.session.now in
    let u = live c.value.new.self.session.now in
    let v = c.in-Ok.found in
    let stays = stays_on c.in_ok-index.ensures.1 c.in-Ok.ensures.value.1 in (
      follows contents.index_of (effect_of u.bytes) i (index_parts x) (λ p. choose_value t p >>= λ v. meaning.value e >>= λ y. item_augmentation op y v t p) r s u c.in_ok-index.index (Err c.in-Err-value.stop) c.in_ok-index.ensures.0
          (follows value_of (effect_of u.bytes) i (choose_value t p) (λ v. meaning.value e >>= λ y. item_augmentation op y v t p) s q u v (Err c.in-Err-value.stop) (rw c.in_ok-index.ensures.1.1 at c.in-Ok.ensures.value.0)
          (stops value_of (effect_of u.bytes) i (meaning.value e) (λ y. item_augmentation op y (value_of v) t p) q u c.in-Err-value.stop (rw stays.1 at c.in-Err-value.ensures.0))),
      stays_on stays c.in-Err-value.ensures.1,
    )

pub augment_item-made-requires-clause-value : goal.augment_item-made-requires-clause-value
augment_item-made-requires-clause-value c =
    let i = inputs_of c.args.self.now.inputs.now.entries in
    let p = contents.index_of c.in_ok-index.index in
    let stays = stays_on c.in_ok-index.ensures.1 c.in-Ok.ensures.value.1 in
    value_held i (expr_of c.args.expr.now) _ _ c.in-Ok-value.value (rw stays.1 at c.in-Ok-value.ensures.0)
    (sound_after i (choose_value (value_of c.args.target.now) p) _ _ _ (rw c.in_ok-index.ensures.1.1 at c.in-Ok.ensures.value.0)
    (sound_after i (index_parts (index_of c.args.index.now)) _ _ _ c.in_ok-index.ensures.0 c.soundness.ensures))

pub augment_item-made-requires-clause-found : goal.augment_item-made-requires-clause-found
augment_item-made-requires-clause-found c =
    let i = inputs_of c.args.self.now.inputs.now.entries in
    let v = c.args.target.now in
    let x = index_of c.args.index.now in
    let stays = stays_on c.in_ok-index.ensures.1 c.in-Ok.ensures.value.1 in
    held_after i (meaning.value (expr_of c.args.expr.now)) _ _ _ c.in-Ok.found (rw stays.1 at c.in-Ok-value.ensures.0)
    (suffix_held i (AtIndex x) v _ _ c.in-Ok.found
    (goes contents.index_of i (index_parts x) (choose_value (value_of v)) _ _ c.in_ok-index.index c.in_ok-index.ensures.0 ∙ rw c.in_ok-index.ensures.1.1 at c.in-Ok.ensures.value.0)
    c.soundness.ensures c.requires.held)

pub augment_item-made-requires-clause-target : goal.augment_item-made-requires-clause-target
augment_item-made-requires-clause-target c =
    let i = inputs_of c.args.self.now.inputs.now.entries in
    let v = c.args.target.now in
    let p = contents.index_of c.in_ok-index.index in
    let stays = stays_on c.in_ok-index.ensures.1 c.in-Ok.ensures.value.1 in
    held_after i (meaning.value (expr_of c.args.expr.now)) _ _ _ v (rw stays.1 at c.in-Ok-value.ensures.0)
    (held_after i (choose_value (value_of v) p) _ _ _ v (rw c.in_ok-index.ensures.1.1 at c.in-Ok.ensures.value.0)
    (held_after i (index_parts (index_of c.args.index.now)) _ _ _ v c.in_ok-index.ensures.0 c.requires.held))

pub augment_item-made-requires-clause-room : goal.augment_item-made-requires-clause-room
augment_item-made-requires-clause-room c =
    let i = inputs_of c.args.self.now.inputs.now.entries in
    let t = value_of c.args.target.now in
    let x = index_of c.args.index.now in
    let room = c.requires.room in
    let stays = stays_on c.in_ok-index.ensures.1 c.in-Ok.ensures.value.1 in
    let more = next_at_suffix i (AtIndex x) t _ _ _
    (goes contents.index_of i (index_parts x) (choose_value t) _ _ c.in_ok-index.index c.in_ok-index.ensures.0 ∙ rw c.in_ok-index.ensures.1.1 at c.in-Ok.ensures.value.0) in
    let last = next_value i (expr_of c.args.expr.now) _ _ _ (rw stays.1 at c.in-Ok-value.ensures.0) in
    omega arith

pub returns-in-Ok-value-clause-effect : goal.returns-in-Ok-value-clause-effect
returns-in-Ok-value-clause-effect c =
    let i = inputs_of c.args.self.now.inputs.now.entries in
    let t = value_of c.args.target.now in
    let p = contents.index_of c.in_ok-index.index in
    let found = stays_on c.in_ok-index.ensures.1 c.in-Ok.ensures.value.1 in
    let stays = stays_on found c.in-Ok-value.ensures.1 in (
      follows contents.index_of _ i (index_parts (index_of c.args.index.now)) _ _ _ _ c.in_ok-index.index _ c.in_ok-index.ensures.0
          (follows value_of _ i (choose_value t p) _ _ _ _ c.in-Ok.found _ (rw c.in_ok-index.ensures.1.1 at c.in-Ok.ensures.value.0)
          (follows value_of _ i (meaning.value (expr_of c.args.expr.now)) _ _ _ _ c.in-Ok-value.value _ (rw found.1 at c.in-Ok-value.ensures.0)
          (rw stays.1 at c.augment_item-made.ensures.effect.0))),
      stays_on stays c.augment_item-made.ensures.effect.1,
    )

pub augment_item-made-requires-clause-types : goal.augment_item-made-requires-clause-types
augment_item-made-requires-clause-types c = c.in-Ok.ensures.types

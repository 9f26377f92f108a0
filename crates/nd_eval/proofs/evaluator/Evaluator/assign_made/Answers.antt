use Rattle.nd_eval.specs.Effects.{effect_of}
use Rattle.std.proofs.Common.{◌≡◌, refl, sym, ap, subst, ◌∙◌, Ok, Err, length}
use Rattle.nd_model.specs.Making.Assigning.{fits_into}
use Rattle.nd_model.specs.Making.Creation.{operand_converts}
use Rattle.nd_model.specs.Making.Elementwise.{binary}
use Rattle.nd_model.specs.Cells.Evaluation.{run}
use Rattle.nd_model.specs.Making.Operand.{shape_of}
use Rattle.nd_model.specs.Cells.Operation.{store_in}
use Rattle.nd_model.specs.Cells.Running.{Storing}
use Rattle.nd_heap.specs.declared.value.Value.TheVariants.{Number}
use Rattle.nd_heap.specs.Values.{base_of, value_of}
use Rattle.nd_session.specs.Inputs.Values.{inputs_of}
use Rattle.nd_session.specs.Session.Live.{live}
use Rattle.nd_syntax.specs.Trees.Syntax.{binary_op}
use Rattle.nd_operation.specs.Operators.Contents.{operand_of, unused_of}
use Rattle.nd_operation.specs.Operators.New.{given, MakesNew, StandsFor}
use Rattle.nd_eval.specs.Choosing.Indexing.{index_operands, viewing_of}
use Rattle.nd_eval.specs.Choosing.Targets.{Lies, geo_in, writes_to}
use Rattle.nd_eval.proofs.choosing.Lying.{writes_made}
use Rattle.nd_eval.specs.Uses.{IsHeld, operand_over}
use Rattle.nd_eval.proofs.Augmented.{exits_assigned, exits_made, given_held, given_operand, goes_made}
use Rattle.nd_eval.proofs.Chains.{ends_alike, goes, stops}
use Rattle.nd_eval.proofs.Held.{held_after}
use Rattle.nd_eval.proofs.Uses.{nothing_written}
use Rattle.nd_eval.proofs.evaluator.Evaluator.assign_made.Goals as goal

pub returns-in_err-new-clause-effect : goal.returns-in_err-new-clause-effect
returns-in_err-new-clause-effect c =
    let i = inputs_of c.args.self.now.inputs.now.entries in
    let op = binary_op c.args.op in
    let r = live c.args.self.now.session.now in
    let same : binary op (operand_of c.operand_in-left.result) (operand_of c.operand_in-right.result) ≡ binary op (operand_over r.bytes c.args.found.now) (operand_over r.bytes c.args.value.now)
    = λ j. binary op (c.operand_in-left.ensures j) (c.operand_in-right.ensures j) in (
      exits_made _ i (value_of c.args.target.now) _ op _ _ (viewing_of c.args.index.now) (unused_of c.args.target.now) (index_operands (live c.args.self.now.session.now).bytes c.args.index.now) _ _ c.from_residual.ensures.1
          (subst (StandsFor (Err c.in_err-new.field-0.0)) same c.in_err-new.ensures.operand),
      (refl, refl),
    )

pub returns-in-Err-clause-effect : goal.returns-in-Err-clause-effect
returns-in-Err-clause-effect c =
    let i = inputs_of c.args.self.now.inputs.now.entries in
    let op = binary_op c.args.op in
    let n = c.in_ok-new.new in
    let r = live c.args.self.now.session.now in
    let same : binary op (operand_of c.operand_in-left.result) (operand_of c.operand_in-right.result) ≡ binary op (operand_over r.bytes c.args.found.now) (operand_over r.bytes c.args.value.now)
    = λ j. binary op (c.operand_in-left.ensures j) (c.operand_in-right.ensures j) in (
      exits_assigned (effect_of r.bytes) i (value_of c.args.target.now) r op _ _ (viewing_of c.args.index.now) (unused_of c.args.target.now) (index_operands (live c.args.self.now.session.now).bytes c.args.index.now) n (operand_of c.operand.result)
          (subst (StandsFor (Ok n)) same c.in_ok-new.ensures.operand) (subst (MakesNew (Ok n)) same c.in_ok-new.ensures.new) c.operand.ensures c.in-Err.stop (Err c.in-Err.stop) refl
          (writes_made (viewing_of c.args.index.now) (operand_of c.operand.result) (unused_of c.args.target.now) (index_operands (live c.args.self.now.session.now).bytes c.args.index.now) (Err c.in-Err.stop) c.in-Err.ensures.target),
      (refl, refl),
    )

pub returns-in-Err-give-clause-effect : goal.returns-in-Err-give-clause-effect
returns-in-Err-give-clause-effect c =
    let i = inputs_of c.args.self.now.inputs.now.entries in
    let op = binary_op c.args.op in
    let n = c.in_ok-new.new in
    let o = operand_of c.operand.result in
    let found = c.in-Ok.elements in
    let g = geo_in found in
    let t = value_of c.args.target.now in
    let r = live c.args.self.now.session.now in
    let s = live c.give.new.self.session.now in
    let same : binary op (operand_of c.operand_in-left.result) (operand_of c.operand_in-right.result) ≡ binary op (operand_over r.bytes c.args.found.now) (operand_over r.bytes c.args.value.now)
    = λ j. binary op (c.operand_in-left.ensures j) (c.operand_in-right.ensures j) in (
      ends_alike (effect_of s.bytes) (Err c.in-Err-give.stop) s (goes_made (λ e. e) i t r op _ _ (viewing_of c.args.index.now) (unused_of c.args.target.now) (index_operands (live c.args.self.now.session.now).bytes c.args.index.now) n o
          (subst (StandsFor (Ok n)) same c.in_ok-new.ensures.operand) (subst (MakesNew (Ok n)) same c.in_ok-new.ensures.new) c.operand.ensures g (writes_made (viewing_of c.args.index.now) o (unused_of c.args.target.now) (index_operands (live c.args.self.now.session.now).bytes c.args.index.now) (Ok found) c.in-Ok.ensures.target))
          (stops value_of (effect_of s.bytes) i (given n) (λ v. store_in (writes_to g o) t) r s c.in-Err-give.stop c.in-Err-give.ensures.0),
      c.in-Err-give.ensures.1,
    )

pub returns-in-Array-clause-effect : goal.returns-in-Array-clause-effect
returns-in-Array-clause-effect c =
    let i = inputs_of c.args.self.now.inputs.now.entries in
    let op = binary_op c.args.op in
    let n = c.in_ok-new.new in
    let o = operand_of c.operand.result in
    let found = c.in-Ok.elements in
    let g = geo_in found in
    let t = value_of c.args.target.now in
    let s = live c.give.new.self.session.now in
    let r = live c.args.self.now.session.now in
    let same : binary op (operand_of c.operand_in-left.result) (operand_of c.operand_in-right.result) ≡ binary op (operand_over r.bytes c.args.found.now) (operand_over r.bytes c.args.value.now)
    = λ j. binary op (c.operand_in-left.ensures j) (c.operand_in-right.ensures j) in (
      goes_made (λ e. e) i t _ op _ _ (viewing_of c.args.index.now) (unused_of c.args.target.now) (index_operands (live c.args.self.now.session.now).bytes c.args.index.now) n o
          (subst (StandsFor (Ok n)) same c.in_ok-new.ensures.operand) (subst (MakesNew (Ok n)) same c.in_ok-new.ensures.new) c.operand.ensures g (writes_made (viewing_of c.args.index.now) o (unused_of c.args.target.now) (index_operands (live c.args.self.now.session.now).bytes c.args.index.now) (Ok found) c.in-Ok.ensures.target)
          ∙ goes value_of i (given n) (λ v. store_in (writes_to g o) t) _ s c.in-Ok-give.made c.in-Ok-give.ensures.0
          ∙ ap (λ t. run i (store_in (writes_to g o) (value_of t)) s) c.in-Array.is
          ∙ ap (λ o. (Ok (Storing (base_of c.in-Array.array.base) (writes_to g o)), s)) (c.operand.ensures ∙ sym (given_operand i _ s c.in-Ok-give.made n c.in-Ok-give.ensures.0))
          ∙ ap (λ e. (Ok e, s)) (sym (c.store_effect.ensures.effect s.bytes)),
      c.in-Ok-give.ensures.1,
    )

pub returns-in-Row-clause-effect : goal.returns-in-Row-clause-effect
returns-in-Row-clause-effect c =
    let i = inputs_of c.args.self.now.inputs.now.entries in
    let op = binary_op c.args.op in
    let n = c.in_ok-new.new in
    let o = operand_of c.operand.result in
    let found = c.in-Ok.elements in
    let g = geo_in found in
    let t = value_of c.args.target.now in
    let s = live c.give.new.self.session.now in
    let r = live c.args.self.now.session.now in
    let same : binary op (operand_of c.operand_in-left.result) (operand_of c.operand_in-right.result) ≡ binary op (operand_over r.bytes c.args.found.now) (operand_over r.bytes c.args.value.now)
    = λ j. binary op (c.operand_in-left.ensures j) (c.operand_in-right.ensures j) in (
      goes_made (λ e. e) i t _ op _ _ (viewing_of c.args.index.now) (unused_of c.args.target.now) (index_operands (live c.args.self.now.session.now).bytes c.args.index.now) n o
          (subst (StandsFor (Ok n)) same c.in_ok-new.ensures.operand) (subst (MakesNew (Ok n)) same c.in_ok-new.ensures.new) c.operand.ensures g (writes_made (viewing_of c.args.index.now) o (unused_of c.args.target.now) (index_operands (live c.args.self.now.session.now).bytes c.args.index.now) (Ok found) c.in-Ok.ensures.target)
          ∙ goes value_of i (given n) (λ v. store_in (writes_to g o) t) _ s c.in-Ok-give.made c.in-Ok-give.ensures.0
          ∙ ap (λ t. run i (store_in (writes_to g o) (value_of t)) s) c.in-Row.is
          ∙ ap (λ o. (Ok (Storing (base_of c.in-Row.row.base) (writes_to g o)), s)) (c.operand.ensures ∙ sym (given_operand i _ s c.in-Ok-give.made n c.in-Ok-give.ensures.0))
          ∙ ap (λ e. (Ok e, s)) (sym (c.store_effect-in-Row.ensures.effect s.bytes)),
      c.in-Ok-give.ensures.1,
    )

pub returns-in-Number-clause-effect : goal.returns-in-Number-clause-effect
returns-in-Number-clause-effect c =
    let x = c.args.index.now in
    let os = index_operands (live c.args.self.now.session.now).bytes x in
    absurd (nothing_written c.in-Number.field-0 x (operand_of c.operand.result) os _
    (writes_made (viewing_of x) (operand_of c.operand.result) (unused_of (Number c.in-Number.field-0)) os (Ok c.in-Ok.elements) (rw c.in-Number.is at c.in-Ok.ensures.target)))

pub returns-in-Array-clause-ready : goal.returns-in-Array-clause-ready
returns-in-Array-clause-ready c =
    let i = inputs_of c.args.self.now.inputs.now.entries in
    let n = c.in_ok-new.new in
    let t = c.args.target.now in
    let v = c.in-Ok-give.made in
    let s = live c.give.new.self.session.now in
    let own = subst (IsHeld s) c.in-Array.is (held_after i (given n) _ s _ t c.in-Ok-give.ensures.0 c.requires.target) in
    let len = length (s.bytes (base_of c.in-Array.array.base)) in
    let is = given_operand i _ s v n c.in-Ok-give.ensures.0 ∙ sym c.operand.ensures in
    c.store_effect.ensures.ready s (record {
      target = c.in-Ok.ensures.lies len (subst (λ t. Lies len (unused_of t)) (sym c.in-Array.is) own.lies);
      value = given_held i _ s v n c.in-Ok-give.ensures.0 c.in_ok-new.ensures.lies;
      types = ap (λ o. operand_converts o (geo_in c.in-Ok.elements).element) is ∙ c.in-Ok.ensures.types;
      shapes = ap (λ o. fits_into (shape_of o) (geo_in c.in-Ok.elements).shape) is ∙ c.in-Ok.ensures.shapes;
    })

pub returns-in-Row-clause-ready : goal.returns-in-Row-clause-ready
returns-in-Row-clause-ready c =
    let i = inputs_of c.args.self.now.inputs.now.entries in
    let n = c.in_ok-new.new in
    let t = c.args.target.now in
    let v = c.in-Ok-give.made in
    let s = live c.give.new.self.session.now in
    let own = subst (IsHeld s) c.in-Row.is (held_after i (given n) _ s _ t c.in-Ok-give.ensures.0 c.requires.target) in
    let len = length (s.bytes (base_of c.in-Row.row.base)) in
    let is = given_operand i _ s v n c.in-Ok-give.ensures.0 ∙ sym c.operand.ensures in
    c.store_effect-in-Row.ensures.ready s (record {
      target = c.in-Ok.ensures.lies len (subst (λ t. Lies len (unused_of t)) (sym c.in-Row.is) own.lies);
      value = given_held i _ s v n c.in-Ok-give.ensures.0 c.in_ok-new.ensures.lies;
      types = ap (λ o. operand_converts o (geo_in c.in-Ok.elements).element) is ∙ c.in-Ok.ensures.types;
      shapes = ap (λ o. fits_into (shape_of o) (geo_in c.in-Ok.elements).shape) is ∙ c.in-Ok.ensures.shapes;
    })

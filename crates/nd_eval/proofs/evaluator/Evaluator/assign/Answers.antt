use Rattle.std.proofs.Common.{refl, sym, ap, subst, ◌∙◌, ◌∷◌, Ok, Err, length}
use Rattle.nd_model.specs.Making.Assigning.{fits_into}
use Rattle.nd_model.specs.Making.Creation.{operand_converts}
use Rattle.nd_model.specs.Cells.Refusing as refusing
use Rattle.nd_model.specs.Cells.Running.{Storing}
use Rattle.nd_model.specs.Cells.Evaluation.{run, ◌>>=◌, decide}
use Rattle.nd_model.specs.Making.Operand.{Whole, Unused, Writes, shape_of}
use Rattle.nd_model.specs.Cells.Operation.{do_deed, store_in}
use Rattle.nd_model.specs.Making.Writing.{assignment_writes}
use Rattle.nd_heap.specs.declared.value.Value.{Value}
use Rattle.nd_heap.specs.declared.value.Value.TheVariants.{Number}
use Rattle.nd_heap.specs.Values.{base_of, value_of}
use Rattle.nd_session.specs.Inputs.Values.{inputs_of}
use Rattle.nd_session.specs.Session.Live.{live}
use Rattle.nd_operation.specs.Operators.Contents.{operand_of, unused_of}
use Rattle.nd_eval.specs.Choosing.Indexing.{index_operands, viewing_of}
use Rattle.nd_eval.specs.Choosing.Targets.{Lies, geo_in, writes_to}
use Rattle.nd_eval.specs.declared.choosing.targets.Target.{Target}
use Rattle.nd_eval.proofs.choosing.Lying.{writes_made}
use Rattle.nd_eval.specs.Contents as contents
use Rattle.nd_eval.specs.Uses.{IsHeld}
use Rattle.nd_eval.proofs.Chains.{decided_later, ends_alike, exits_making, goes_making}
use Rattle.nd_eval.proofs.Uses.{kept_bytes, goes_used, index_kept, index_used_in, nothing_written}
use Rattle.nd_eval.proofs.Held.{held_marked, held_index_marked}
use Rattle.nd_eval.proofs.evaluator.Evaluator.assign.Goals as goal

pub operand_in-operand-requires : goal.operand_in-operand-requires
operand_in-operand-requires c =
    let v = c.args.value.now in
    held_index_marked c.args.index.now v (live c.mark_operand.new.session) (live c.mark_index.new.session) c.in_ok-mark_index.ensures
    (held_marked v v (live c.args.self.now.session.now) (live c.mark_operand.new.session) c.in_ok-mark_operand.ensures c.requires.value)

pub returns-in_err-found-clause-effect : goal.returns-in_err-found-clause-effect
returns-in_err-found-clause-effect c =
    let i = inputs_of c.args.self.now.inputs.now.entries in
    let v = c.args.value.now in
    let t = c.args.target.now in
    let x = c.args.index.now in
    let vs = (Whole, value_of v) ∷ (Unused, value_of t) ∷ (contents.index_of x).1 in
    let o = operand_of c.operand_in-operand.result in
    let s = live c.mark_index.new.session in
    let once = kept_bytes v _ _ c.in_ok-mark_operand.ensures in
    let again = index_kept x _ _ c.in_ok-mark_index.ensures in
    let os = index_operands s.bytes x in
    let m = assignment_writes (viewing_of x) o (unused_of t) os in (
      ends_alike _ _ _
          (goes_used i v _ _ _ _ c.operand_in-operand.result c.in_ok-mark_operand.ensures (again ∙ once) c.operand_in-operand.ensures
          ∙ index_used_in i t x (λ w p os. decide (refusing.◌>>=◌ (assignment_writes w o p os) (λ ws. Ok (Writes 1 ws))) >>= do_deed vs) (live c.mark_operand.new.session) s c.in_ok-mark_index.ensures
          ∙ decided_later i m (λ ws. Writes 1 ws) (do_deed vs) s)
          (exits_making (λ (y : Target). writes_to (geo_in y) o) _ i m (λ ws. do_deed vs (Writes 1 ws)) _ _ _ c.from_residual-in_err-found.ensures.1 (writes_made (viewing_of x) o (unused_of t) os (Err c.in_err-found.field-0.0) c.in_err-found.ensures.target)),
      (refl, refl),
    )

pub returns-in-Array-clause-effect : goal.returns-in-Array-clause-effect
returns-in-Array-clause-effect c =
    let i = inputs_of c.args.self.now.inputs.now.entries in
    let v = c.args.value.now in
    let t = c.args.target.now in
    let x = c.args.index.now in
    let s = live c.mark_index.new.session in
    let vs = (Whole, value_of v) ∷ (Unused, value_of t) ∷ (contents.index_of x).1 in
    let o = operand_of c.operand_in-operand.result in
    let once = kept_bytes v _ _ c.in_ok-mark_operand.ensures in
    let again = index_kept x _ _ c.in_ok-mark_index.ensures in
    let os = index_operands s.bytes x in
    let m = assignment_writes (viewing_of x) o (unused_of t) os in
    let found = c.in_ok-found.found in
    let g = geo_in found in (
      goes_used i v _ _ _ _ c.operand_in-operand.result c.in_ok-mark_operand.ensures (again ∙ once) c.operand_in-operand.ensures
          ∙ index_used_in i t x (λ w p os. decide (refusing.◌>>=◌ (assignment_writes w o p os) (λ ws. Ok (Writes 1 ws))) >>= do_deed vs) (live c.mark_operand.new.session) s c.in_ok-mark_index.ensures
          ∙ decided_later i m (λ ws. Writes 1 ws) (do_deed vs) s
          ∙ goes_making (λ (y : Target). writes_to (geo_in y) o) i m (λ ws. do_deed vs (Writes 1 ws)) s found (writes_made (viewing_of x) o (unused_of t) os (Ok found) c.in_ok-found.ensures.target)
          ∙ ap (λ t. run i (store_in (writes_to g o) (value_of t)) s) c.in-Array.is
          ∙ ap (λ o. (Ok (Storing (base_of c.in-Array.array.base) (writes_to g o)), s)) c.operand_in-operand.ensures,
      (refl, refl),
    )

pub returns-in-Row-clause-effect : goal.returns-in-Row-clause-effect
returns-in-Row-clause-effect c =
    let i = inputs_of c.args.self.now.inputs.now.entries in
    let v = c.args.value.now in
    let t = c.args.target.now in
    let x = c.args.index.now in
    let s = live c.mark_index.new.session in
    let vs = (Whole, value_of v) ∷ (Unused, value_of t) ∷ (contents.index_of x).1 in
    let o = operand_of c.operand_in-operand.result in
    let once = kept_bytes v _ _ c.in_ok-mark_operand.ensures in
    let again = index_kept x _ _ c.in_ok-mark_index.ensures in
    let os = index_operands s.bytes x in
    let m = assignment_writes (viewing_of x) o (unused_of t) os in
    let found = c.in_ok-found.found in
    let g = geo_in found in (
      goes_used i v _ _ _ _ c.operand_in-operand.result c.in_ok-mark_operand.ensures (again ∙ once) c.operand_in-operand.ensures
          ∙ index_used_in i t x (λ w p os. decide (refusing.◌>>=◌ (assignment_writes w o p os) (λ ws. Ok (Writes 1 ws))) >>= do_deed vs) (live c.mark_operand.new.session) s c.in_ok-mark_index.ensures
          ∙ decided_later i m (λ ws. Writes 1 ws) (do_deed vs) s
          ∙ goes_making (λ (y : Target). writes_to (geo_in y) o) i m (λ ws. do_deed vs (Writes 1 ws)) s found (writes_made (viewing_of x) o (unused_of t) os (Ok found) c.in_ok-found.ensures.target)
          ∙ ap (λ t. run i (store_in (writes_to g o) (value_of t)) s) c.in-Row.is
          ∙ ap (λ o. (Ok (Storing (base_of c.in-Row.row.base) (writes_to g o)), s)) c.operand_in-operand.ensures,
      (refl, refl),
    )

pub returns-in-Number-clause-effect : goal.returns-in-Number-clause-effect
returns-in-Number-clause-effect c =
    let x = c.args.index.now in
    absurd (nothing_written c.in-Number.field-0 x (operand_of c.operand_in-operand.result) (index_operands (live c.mark_index.new.session).bytes x) _
    (writes_made (viewing_of x) (operand_of c.operand_in-operand.result) (unused_of (Number c.in-Number.field-0)) (index_operands (live c.mark_index.new.session).bytes x) (Ok c.in_ok-found.found) (rw c.in-Number.is at c.in_ok-found.ensures.target)))

pub returns-in-Array-clause-ready : goal.returns-in-Array-clause-ready
returns-in-Array-clause-ready c =
    let v = c.args.value.now in
    let t = c.args.target.now in
    let x = c.args.index.now in
    let s = live c.mark_index.new.session in
    let held : (w : Value) → IsHeld (live c.args.self.now.session.now) w → IsHeld s w = λ w h. held_index_marked x w (live c.mark_operand.new.session) s c.in_ok-mark_index.ensures (held_marked v w (live c.args.self.now.session.now) (live c.mark_operand.new.session) c.in_ok-mark_operand.ensures h) in
    let own = subst (IsHeld s) c.in-Array.is (held t c.requires.target) in
    let len = length (s.bytes (base_of c.in-Array.array.base)) in
    record {
      target = c.in_ok-found.ensures.lies len (subst (λ t. Lies len (unused_of t)) (sym c.in-Array.is) own.lies);
      value = held v c.requires.value;
      types = ap (λ o. operand_converts o (geo_in c.in_ok-found.found).element) (sym c.operand_in-operand.ensures) ∙ c.in_ok-found.ensures.types;
      shapes = ap (λ o. fits_into (shape_of o) (geo_in c.in_ok-found.found).shape) (sym c.operand_in-operand.ensures) ∙ c.in_ok-found.ensures.shapes;
    }

pub returns-in-Row-clause-ready : goal.returns-in-Row-clause-ready
returns-in-Row-clause-ready c =
    let v = c.args.value.now in
    let t = c.args.target.now in
    let x = c.args.index.now in
    let s = live c.mark_index.new.session in
    let held : (w : Value) → IsHeld (live c.args.self.now.session.now) w → IsHeld s w = λ w h. held_index_marked x w (live c.mark_operand.new.session) s c.in_ok-mark_index.ensures (held_marked v w (live c.args.self.now.session.now) (live c.mark_operand.new.session) c.in_ok-mark_operand.ensures h) in
    let own = subst (IsHeld s) c.in-Row.is (held t c.requires.target) in
    let len = length (s.bytes (base_of c.in-Row.row.base)) in
    record {
      target = c.in_ok-found.ensures.lies len (subst (λ t. Lies len (unused_of t)) (sym c.in-Row.is) own.lies);
      value = held v c.requires.value;
      types = ap (λ o. operand_converts o (geo_in c.in_ok-found.found).element) (sym c.operand_in-operand.ensures) ∙ c.in_ok-found.ensures.types;
      shapes = ap (λ o. fits_into (shape_of o) (geo_in c.in_ok-found.found).shape) (sym c.operand_in-operand.ensures) ∙ c.in_ok-found.ensures.shapes;
    }

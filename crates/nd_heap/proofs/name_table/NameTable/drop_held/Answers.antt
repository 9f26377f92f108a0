use Rattle.std.proofs.Common.{◌∙◌, ◌&&◌, not, take, sym, ap, arith}
use Rattle.std.proofs.lemmas.List.{take_all}
use Rattle.std.specs.Rc.{rc_str_bytes}
use Rattle.nd_model.specs.Cells.Session as model
use Rattle.nd_model.specs.Arrays.Value as values
use Rattle.nd_heap.specs.Contents.{bases_of}
use Rattle.nd_heap.specs.Live.{is_base_among}
use Rattle.nd_heap.specs.Values.{value_of}
use Rattle.nd_heap.proofs.Held.{both_out}
use Rattle.nd_heap.proofs.Layering.{held_next}
use Rattle.nd_heap.proofs.Plain.{and_true}
use Rattle.nd_heap.proofs.name_table.NameTable.drop_held.Goals as goal

pub loop-i-init : goal.loop-i-init
loop-i-init c = (omega arith, λ b. sym (and_true (is_base_among (bases_of c.args.bases.now.entries) b)))

pub loop-i-preserved : goal.loop-i-preserved
loop-i-preserved c = (
  omega (arith, c.drop_base.ensures.less, c.loop-i.invariant.0),
  λ b.
      let v = value_of c.entry.result.1.now.value in
      let old = is_base_among (bases_of c.args.bases.now.entries) b in
      c.drop_base.ensures.left b ∙ ap (λ v. is_base_among (bases_of c.loop-i.bases.entries) b && not (values.lies_in b (value_of v))) c.as_ref.ensures
      ∙ ap (λ t. t && not (values.lies_in b v)) (c.loop-i.invariant.1 b)
      ∙ both_out old (model.is_held b (take c.loop-i.i c.args.self.now)) (values.lies_in b v)
      ∙ ap (λ t. old && not t) (sym (held_next b c.args.self.now c.loop-i.i (rc_str_bytes c.entry.result.0.now) v c.entry.ensures)),
)

pub returns-clause-left : goal.returns-clause-left
returns-clause-left c = λ b. c.loop-i.invariant.1 b
    ∙ ap (λ es. is_base_among (bases_of c.args.bases.now.entries) b && not (model.is_held b es)) (take_all c.loop-i.i c.args.self.now (omega (arith, c.loop-i-test.false, c.len-i-end.ensures)))

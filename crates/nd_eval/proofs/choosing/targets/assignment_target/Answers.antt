use Rattle.std.proofs.Common.{sym, ◌∙◌}
use Rattle.nd_model.specs.Making.Writing.{may_be_written}
use Rattle.nd_session.specs.Session.Live.{live}
use Rattle.nd_operation.specs.Operators.Contents.{operand_of, unused_of}
use Rattle.nd_eval.specs.Choosing.Indexing.{index_operands, viewing_of}
use Rattle.nd_eval.specs.Choosing.Targets.{geo_in, may_take, target_by}
use Rattle.nd_eval.proofs.choosing.Lying.{target_found, target_lies}
use Rattle.nd_eval.proofs.choosing.targets.assignment_target.Goals as goal

pub returns-in-Err-clause-target : goal.returns-in-Err-clause-target
returns-in-Err-clause-target c =
    let w = viewing_of c.args.index.now in
    let t = unused_of c.args.target.now in
    let v = operand_of c.args.value.now in
    let bytes = (live c.args.session.now).bytes in
    let os = index_operands bytes c.args.index.now in
    let elements = c.new-found.ensures.elements in
    let count = rw elements at c.soundness.ensures.count in
    target_found w v t os c.in_ok-choose.field-0 c.in_ok-choose.ensures.choice c.in_ok-choose.ensures.one count
    ∙ (λ i. may_take (sym (c.is_full_mask.ensures bytes) i) (sym elements i) v) ∙ c.in-Err.ensures.refusal

pub returns-in-Ok-clause-target : goal.returns-in-Ok-clause-target
returns-in-Ok-clause-target c =
    let w = viewing_of c.args.index.now in
    let t = unused_of c.args.target.now in
    let v = operand_of c.args.value.now in
    let bytes = (live c.args.session.now).bytes in
    let os = index_operands bytes c.args.index.now in
    let elements = c.new-found.ensures.elements in
    let count = rw elements at c.soundness.ensures.count in
    target_found w v t os c.in_ok-choose.field-0 c.in_ok-choose.ensures.choice c.in_ok-choose.ensures.one count
    ∙ (λ i. may_take (sym (c.is_full_mask.ensures bytes) i) (sym elements i) v) ∙ c.in-Ok.ensures.refusal

pub returns-in-Ok-clause-lies : goal.returns-in-Ok-clause-lies
returns-in-Ok-clause-lies c =
    let w = viewing_of c.args.index.now in
    let t = unused_of c.args.target.now in
    let os = index_operands (live c.args.session.now).bytes c.args.index.now in
    let elements = c.new-found.ensures.elements in
    λ len lies.
    let count = rw elements at c.soundness.ensures.count in
    let limits = rw elements at c.soundness.ensures.limits in
    rw elements (target_lies len w t os (may_be_written t) c.in_ok-choose.field-0 c.in_ok-choose.ensures.choice c.in_ok-choose.ensures.one count limits lies (c.in_ok-choose.ensures.lies len))

use Rattle.std.proofs.Common.{◌∙◌, ◌&&◌, None, cond, nat_eq, sym, ap, inl, inr}
use Rattle.nd_heap.specs.Values.{value_of}
use Rattle.nd_model.specs.Arrays.Value.{lies_in}
use Rattle.nd_session.specs.Session.Now.{entry_now}
use Rattle.nd_session.proofs.session.Carrying.{number_lies}
use Rattle.nd_session.proofs.session.Dropping.{none_out}
use Rattle.nd_session.proofs.session.change.keeping.remove_own_value.Goals as goal

pub returns-in-Number : goal.returns-in-Number
returns-in-Number g c = λ b. none_out (nat_eq b.label c.args.label) (lies_in b (value_of c.args.value.now)) (entry_now c.args.blocks.now.entries b) (ap (λ v. lies_in b (value_of v)) c.in-Number.is ∙ number_lies b _)

pub returns-in-Array : goal.returns-in-Array
returns-in-Array g c = λ b. c.remove_own_base.ensures b ∙ ap (λ t. cond (nat_eq b.label c.args.label && t) None (entry_now c.args.blocks.now.entries b))
    (sym (elim c.in-Array.is [ inl array ↦ ap (λ v. lies_in b (value_of v)) array | inr row ↦ ap (λ v. lies_in b (value_of v)) row ]))

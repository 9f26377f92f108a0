use Rattle.std.proofs.Common.{ap, inl, inr}
use Rattle.nd_heap.specs.Values.{base_of, value_of}
use Rattle.nd_model.specs.Arrays.Value.{lies_in}
use Rattle.nd_session.specs.Session.Live.{live}
use Rattle.nd_session.specs.Session.Now.{block_now}
use Rattle.nd_session.proofs.session.Carrying.{no_lies, own_now}
use Rattle.nd_session.proofs.session.Standing.{noted_same}
use Rattle.nd_session.proofs.session.change.following.note_value.Goals as goal

pub returns-in-Number-clause-noted : goal.returns-in-Number-clause-noted
returns-in-Number-clause-noted c = noted_same (live c.args.session.now).bytes (block_now c.args.blocks.now.entries)

pub returns-in-Number-clause-own : goal.returns-in-Number-clause-own
returns-in-Number-clause-own c = λ b own lies. no_lies b c.args.value.now _ c.in-Number.is lies

pub returns-in_ok-note_own_base-in-Array-clause-own : goal.returns-in_ok-note_own_base-in-Array-clause-own
returns-in_ok-note_own_base-in-Array-clause-own c = own_now c.args.label (live c.args.session.now).bytes (block_now c.note_own_base.new.blocks.entries) (base_of c.in-Array.array.base) (value_of c.args.value.now)
    (λ b. elim c.in-Array.is [ inl array ↦ ap (λ v. lies_in b (value_of v)) array | inr row ↦ ap (λ v. lies_in b (value_of v)) row ]) c.in_ok-note_own_base-in-Array.ensures.own

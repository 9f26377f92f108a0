use Rattle.std.proofs.Common.{◌∙◌, ap, cond, Some}
use Rattle.nd_heap.specs.Contents.{bytes_in}
use Rattle.nd_heap.specs.Values.{base_of}
use Rattle.nd_model.specs.Arrays.Value as values
use Rattle.nd_session.specs.Session.Now.{block_now}
use Rattle.nd_session.proofs.session.Reading.{base_insert}
use Rattle.nd_session.proofs.session.change.following.note_base.Goals as goal

pub returns : goal.returns
returns c = λ b.
    let es = c.args.blocks.now.entries in
    ap (λ es. block_now es b) c.in_ok-insert.ensures.entries ∙ base_insert bytes_in c.args.base c.in_ok-block.block es b
    ∙ ap (λ bytes. cond (values.same_base b (base_of c.args.base)) (Some bytes) (block_now es b)) c.in_ok-block.ensures

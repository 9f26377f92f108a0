use Rattle.std.proofs.Common.{◌≡◌, ◌∙◌, length, sym, ap, arith}
use Rattle.nd_heap.specs.Contents.{bytes_in}
use Rattle.nd_session.specs.Session.Change.{ChangeData}
use Rattle.nd_session.specs.Session.Now.{kept_in}
use Rattle.nd_session.specs.Session.Reading.{source_at, value_at}
use Rattle.nd_session.proofs.session.Reading.{length-by_base}
use Rattle.nd_session.proofs.session.Weighing.{length-entries}
use Rattle.nd_session.proofs.session.change.change.Change.count.Goals as goal

pub returns : goal.returns
returns c =
    let i = c.self.inside in
    let names : length i.names.entries ≡ length c.args.self.now.names = sym (length-entries value_at i.names.entries) ∙ ap (λ (d : ChangeData). length d.names) c.self.view_is in
    let inputs : length i.inputs.entries ≡ length c.args.self.now.inputs = sym (length-entries source_at i.inputs.entries) ∙ ap (λ (d : ChangeData). length d.inputs) c.self.view_is in
    let blocks : length i.blocks.entries ≡ length c.args.self.now.blocks = sym (length-by_base bytes_in i.blocks.entries) ∙ ap (λ (d : ChangeData). length d.blocks) c.self.view_is in
    let parts : length i.parts.entries ≡ length c.args.self.now.parts = sym (length-by_base kept_in i.parts.entries) ∙ ap (λ (d : ChangeData). length d.parts) c.self.view_is in
    omega (arith, names, inputs, blocks, parts, c.len.ensures.len, c.len-2.ensures.len, c.len-3.ensures.len, c.len-4.ensures.len, c.saturating_add-texts.ensures, c.saturating_add-bases.ensures, c.saturating_add.ensures)

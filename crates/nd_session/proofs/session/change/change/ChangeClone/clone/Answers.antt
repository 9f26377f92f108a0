use Rattle.std.proofs.Common.{option_map, ◌≡◌, ◌∙◌, Some, ap}
use Rattle.nd_heap.specs.Contents.{bytes_in}
use Rattle.nd_heap.specs.Values.{entries_of, value_of}
use Rattle.nd_input.specs.Sources.{source_of}
use Rattle.nd_session.specs.Inputs.Values.{rule_of}
use Rattle.nd_session.specs.Session.Found.{by_base}
use Rattle.nd_session.specs.Session.Now.{kept_in}
use Rattle.nd_session.specs.Session.Reading.{source_at, value_at}
use Rattle.nd_session.proofs.session.Copying.{copied_bases, copied_names, copied_shared}
use Rattle.nd_session.proofs.session.change.change.ChangeClone.clone.Goals as goal

pub returns-in-Ok-clone-2 : goal.returns-in-Ok-clone-2
returns-in-Ok-clone-2 c =
    let i = c.self.inside in
    let names : entries_of value_at c.in-Ok-clone-2.names.entries ≡ entries_of value_at i.names.entries
    = copied_names value_at _ (record { both = λ v w h. h; same = λ v w e. ap (λ v. Some (value_of v)) e; lost = λ v h. h; made = λ w h. h }) _ (λ a b h. h) i.names.entries c.in-Ok-clone-2.names.entries c.in-Ok-clone-2.ensures.cases in
    let inputs : entries_of source_at c.in-Ok-clone.inputs.entries ≡ entries_of source_at i.inputs.entries
    = copied_names source_at _ (record { both = λ v w h. h; same = λ v w e. ap (λ v. Some (source_of v)) e; lost = λ v h. h; made = λ w h. h }) _ (λ a b h. h) i.inputs.entries c.in-Ok-clone.inputs.entries c.in-Ok-clone.ensures.cases in
    let blocks : by_base bytes_in c.in_ok-blocks.blocks.entries ≡ by_base bytes_in i.blocks.entries
    = copied_bases bytes_in _ (record { both = λ v w h. h; same = λ v w e. e; lost = λ v h. h; made = λ w h. h }) _ (λ a b h. h) i.blocks.entries c.in_ok-blocks.blocks.entries c.in_ok-blocks.ensures.cases in
    let parts : by_base kept_in c.in-Ok.parts.entries ≡ by_base kept_in i.parts.entries
    = copied_shared kept_in _ (λ v w h. h) _ (λ a b h. h) i.parts.entries c.in-Ok.parts.entries c.in-Ok.ensures.cases in
    record { cases = (λ k. record { names = names k; inputs = inputs k; blocks = blocks k; parts = parts k; rule = option_map rule_of i.rule }) ∙ c.self.view_is }

use Rattle.std.proofs.Common.{◌≡◌, ◌∙◌, ◌-◌, ◌^◌, length, map, min, ap, arith}
use Rattle.std.specs.List.{sum}
use Rattle.nd_heap.specs.Contents.{bytes_in}
use Rattle.nd_session.specs.Session.Change.{ChangeData}
use Rattle.nd_session.specs.Session.Now.{kept_in}
use Rattle.nd_session.proofs.session.Weighing.{sum-by_base}
use Rattle.nd_session.proofs.session.change.change.Change.weight.Goals as goal

pub returns : goal.returns
returns c =
    let i = c.self.inside in
    let blocks : sum (map (λ e. length (bytes_in e.1)) i.blocks.entries) ≡ sum (map (λ e. length e.1) c.args.self.now.blocks)
    = sum-by_base bytes_in length i.blocks.entries ∙ ap (λ (d : ChangeData). sum (map (λ e. length e.1) d.blocks)) c.self.view_is in
    let parts : sum (map (λ e. length (kept_in e.1).bytes) i.parts.entries) ≡ sum (map (λ e. length e.1.bytes) c.args.self.now.parts)
    = sum-by_base kept_in (λ k. length k.bytes) i.parts.entries ∙ ap (λ (d : ChangeData). sum (map (λ e. length e.1.bytes) d.parts)) c.self.view_is in
    omega (arith, blocks, parts, c.weigh-blocks.ensures, c.weigh_parts.ensures, c.saturating_add.ensures)

use Rattle.std.proofs.Common.{◌≡◌, rules}
use Rattle.nd_heap.specs.Contents.{blocks_of, bytes_in}
use Rattle.nd_heap.specs.Live.{bytes_at}
use Rattle.nd_heap.specs.Values.{base_of}
use Rattle.nd_session.specs.Session.Now.{block_now}
use Rattle.nd_session.proofs.session.Matching.{base_removed, loses_base}
use Rattle.nd_session.proofs.session.change.matching.remove_same_base.Goals as goal

pub returns-then-eq : goal.returns-then-eq
returns-then-eq c =
    let one = bytes_at (blocks_of c.args.one.now.entries) in
    let other = bytes_at (blocks_of c.args.other.now.entries) in
    let same : one (base_of c.args.base) ≡ other (base_of c.args.base) = search rules in
    loses_base c.args.label one other (block_now c.args.blocks.now.entries) (block_now c.swap_remove.new.self.entries) (base_of c.args.base) c.if-base-label.true same
    (λ b. base_removed bytes_in c.args.base c.args.blocks.now.entries c.swap_remove.new.self.entries c.swap_remove.ensures.updates.0 b)

use Rattle.std.proofs.Common.{◌∙◌, sym, ap, add-one, arith}
use Rattle.nd_heap.specs.Live.{bytes_at}
use Rattle.nd_session.proofs.session.Redoing.{put_more, put_all}
use Rattle.nd_session.proofs.session.redo.put_back.Goals as goal

pub loop-i-preserved : goal.loop-i-preserved
loop-i-preserved c = (
  c.write.ensures.names ∙ c.loop-i.invariant.0,
  rw add-one (put_more c.args.written.now.entries c.loop-i.i (c.in-Some.base.now, c.in-Some.found.now) (bytes_at c.args.heap.now.blocks) (bytes_at c.loop-i.heap.blocks) (bytes_at c.write.new.self.blocks)
      (sym c.in-Some.ensures.entry) c.in-Some.ensures.value c.loop-i.invariant.1 (λ b. ap (λ f. f b) c.in_ok-write.ensures.ok)),
)

pub returns-clause-ok : goal.returns-clause-ok
returns-clause-ok c = λ b. c.loop-i.invariant.1 b ∙ put_all c.args.written.now.entries c.loop-i.i (bytes_at c.args.heap.now.blocks) b (omega (arith, c.loop-i-test.false, c.len-i-end.ensures.len))

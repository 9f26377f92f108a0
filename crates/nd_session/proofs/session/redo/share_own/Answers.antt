use Rattle.std.proofs.Common.{◌≡◌, ◌∙◌, ◌-◌, suc, cond, nat_eq, drop, sym, ap, arith}
use Rattle.std.proofs.lemmas.Bool.Decides.{nat_tests}
use Rattle.nd_heap.specs.Contents.{blocks_of}
use Rattle.nd_heap.specs.Live.{bytes_at}
use Rattle.nd_session.proofs.session.Redoing.{shared_own, shared_other}
use Rattle.nd_session.proofs.session.redo.share_own.Goals as goal

pub loop-i-preserved-in-Continue-1 : goal.loop-i-preserved-in-Continue-1
loop-i-preserved-in-Continue-1 c = (
  c.share.ensures.names ∙ c.loop-i.invariant.0,
  λ b.
      let next : suc (c.loop-i.i - 1) ≡ c.loop-i.i = omega (arith, c.loop-i-test.true) in
      shared_own c.args.label c.args.from.now.entries (c.loop-i.i - 1) (c.in-Some.base.now, c.in-Some.block.now) (sym c.in-Some.ensures.entry) (bytes_at c.args.heap.now.blocks) (bytes_at c.loop-i.heap.blocks)
      (λ b. c.loop-i.invariant.1 b ∙ ap (λ j. cond (nat_eq b.label c.args.label) (bytes_at (blocks_of (drop j c.args.from.now.entries)) b) (bytes_at c.args.heap.now.blocks b)) (sym next)) b
      (bytes_at c.share.new.heap.blocks) (grind (arith, nat_tests, c.if-base-label.true)) (ap (λ f. f b) c.in_ok-share.ensures.ok),
)

pub loop-i-preserved : goal.loop-i-preserved
loop-i-preserved c = (
  c.loop-i.invariant.0,
  λ b.
      let next : suc (c.loop-i.i - 1) ≡ c.loop-i.i = omega (arith, c.loop-i-test.true) in
      shared_other c.args.label c.args.from.now.entries (c.loop-i.i - 1) (c.in-Some.base.now, c.in-Some.block.now) (sym c.in-Some.ensures.entry) (bytes_at c.args.heap.now.blocks) (bytes_at c.loop-i.heap.blocks)
      (λ b. c.loop-i.invariant.1 b ∙ ap (λ j. cond (nat_eq b.label c.args.label) (bytes_at (blocks_of (drop j c.args.from.now.entries)) b) (bytes_at c.args.heap.now.blocks b)) (sym next)) b
      (grind (arith, nat_tests, c.if-base-label.false)),
)

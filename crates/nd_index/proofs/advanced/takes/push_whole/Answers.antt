use Rattle.std.proofs.Common.{◌≡◌, ◌++◌, replicate, refl, sym, ap, ◌∙◌, arith, append-nil}
use Rattle.nd_model.specs.Indexing.Advanced as model
use Rattle.nd_index.specs.Advanced.Takes.{take_of, takes_of}
use Rattle.nd_index.proofs.offsets.Pushed.{pushed_again}
use Rattle.nd_index.proofs.advanced.takes.push_whole.Goals as goal

pub loop-init : goal.loop-init
loop-init c = sym (append-nil (takes_of c.args.takes.now.items))

pub loop-preserved : goal.loop-preserved
loop-preserved c =
    pushed_again take_of c.loop.takes.items c.push.new.self.items _ model.Whole (takes_of c.args.takes.now.items) c.loop.counter
    c.in_ok-push.ensures.ok refl c.loop.invariant

pub returns : goal.returns
returns c =
    let end : c.loop.counter ≡ c.args.count = omega (arith, c.loop-test.false, c.loop.auto.counter-end) in
    c.loop.invariant ∙ ap (λ n. takes_of c.args.takes.now.items ++ replicate n model.Whole) end

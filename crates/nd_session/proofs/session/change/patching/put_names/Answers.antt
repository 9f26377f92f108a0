use Rattle.std.proofs.Common.{◌≡◌, ◌∙◌, ◌-◌, suc, drop, unwrap_or, sym, ap, arith}
use Rattle.nd_model.specs.Cells.Session.{lookup}
use Rattle.nd_session.specs.Session.Now.{value_now}
use Rattle.nd_session.proofs.session.Putting.{name_put}
use Rattle.nd_session.proofs.session.change.patching.put_names.Goals as goal

pub loop-i-preserved : goal.loop-i-preserved
loop-i-preserved c =
    let es = c.args.names.now.entries in
    let next : suc (c.loop-i.i - 1) ≡ c.loop-i.i = omega (arith, c.loop-i-test.true) in (
      c.put_name.ensures.blocks ∙ c.loop-i.invariant.0,
      name_put es (c.loop-i.i - 1) (c.in-Some.name.now, c.in-Some.value.now) (λ n. lookup n c.args.heap.now.names) (λ n. lookup n c.loop-i.heap.names) (λ n. lookup n c.put_name.new.heap.names)
          (sym c.in-Some.ensures.entry)
          (λ n. c.loop-i.invariant.1 n ∙ ap (λ j. unwrap_or (value_now (drop j es) n) (lookup n c.args.heap.now.names)) (sym next))
          c.in_ok-put_name.ensures.names,
    )

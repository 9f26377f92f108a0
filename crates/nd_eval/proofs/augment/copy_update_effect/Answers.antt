use Rattle.std.proofs.Common.{refl, Err}
use Rattle.nd_session.specs.Session.Live.{live}
use Rattle.nd_eval.specs.declared.augment.CopyUpdate.{CopyUpdate}
use Rattle.nd_eval.specs.declared.effect.Effect.TheVariants.{UpdateChosen}
use Rattle.nd_eval.specs.Effects.{effect_of}
use Rattle.nd_eval.proofs.Chains.{makes_exit}
use Rattle.nd_eval.proofs.augment.copy_update_effect.Goals as goal

pub returns-in-Err-clause-effect : goal.returns-in-Err-clause-effect
returns-in-Err-clause-effect c =
    let effect = effect_of (live c.args.session.now).bytes in
    makes_exit (λ (x : CopyUpdate). effect (UpdateChosen x.kind c.args.op x.base x.selection c.args.copy c.args.value)) effect _ c.in-Err.stop (Err c.in-Err.stop)
    refl c.in-Err.ensures.effect

pub returns-in-Ok-clause-effect : goal.returns-in-Ok-clause-effect
returns-in-Ok-clause-effect c = c.in-Ok.ensures.effect

pub returns-in-Ok-clause-ready : goal.returns-in-Ok-clause-ready
returns-in-Ok-clause-ready c = c.in-Ok.ensures.ready

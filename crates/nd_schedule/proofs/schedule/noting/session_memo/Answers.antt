use Rattle.std.proofs.Common.{refl}
use Rattle.nd_schedule.proofs.schedule.Standing.{fresh_one}
use Rattle.nd_schedule.proofs.schedule.noting.session_memo.Goals as goal

pub returns-in-Ok-clause-memo : goal.returns-in-Ok-clause-memo
returns-in-Ok-clause-memo g c = λ old new place now within stands.
    fresh_one new now (g.C.CellRunner.kept_session c.in-Ok.version) (g.C.CellRunner.session_of c.args.session.now) _ within (stands c.if-not-is_there.false) c.in-Ok.ensures.kept refl

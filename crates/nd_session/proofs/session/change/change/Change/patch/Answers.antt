use Rattle.std.specs.Prelude.{Bool, IsTrue}
use Rattle.nd_change.specs.Steps.{IsPutOver}
use Rattle.nd_change.specs.Whole.{IsPut}
use Rattle.nd_model.specs.Cells.Running as running
use Rattle.nd_model.specs.Cells.Session.{collected}
use Rattle.nd_session.specs.Session.Change.{change_of, whole_in}
use Rattle.nd_session.specs.Session.Live.{live}
use Rattle.nd_session.proofs.session.Putting.{answered}
use Rattle.nd_session.proofs.session.change.change.Change.patch.Goals as goal

pub returns-clause-over : goal.returns-clause-over
returns-clause-over c =
    let d = c.args.self.now in
    let s = collected (running.session_of (live c.args.session.now)) in
    let u = collected (running.session_of (live c.put_over.new.self)) in
    answered (λ (could : Bool). IsTrue could → IsPut (whole_in d) s u) (λ (could : Bool). IsTrue could → IsPutOver (change_of d) s u) c.put_over.result
    (λ could put yes. c.puts_whole.ensures (whole_in d) s u (put yes)) c.put_over.ensures.put

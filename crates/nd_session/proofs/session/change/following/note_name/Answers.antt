use Rattle.std.proofs.Common.{◌∙◌, Some, ap, bytes_eq, cond}
use Rattle.nd_model.specs.Cells.Session as model
use Rattle.nd_session.specs.Session.Live.{live}
use Rattle.nd_session.specs.Session.Now.{value_now}
use Rattle.nd_session.specs.Session.Reading.{value_at}
use Rattle.nd_session.proofs.session.Standing.{name_insert}
use Rattle.nd_session.proofs.session.change.following.note_name.Goals as goal

pub returns : goal.returns
returns c = λ n.
    let es = c.args.names.now.entries in
    let is = c.in_ok-value.ensures ∙ ap (λ m. model.lookup m (live c.args.session.now).names) c.as_str.ensures.value in
    ap (λ es. value_now es n) c.in_ok-insert.ensures.entries ∙ name_insert value_at c.in_ok-key.key c.in_ok-value.value es n
    ∙ (λ i. cond (bytes_eq n (c.in_ok-key.ensures.cases i)) (Some (is i)) (value_now es n))

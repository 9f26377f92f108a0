use Rattle.std.proofs.Common.{subst, sym}
use Rattle.nd_model.specs.Cells.Session.{Session, collected}
use Rattle.nd_model.specs.Cells.Running.{session_of}
use Rattle.nd_model.specs.Book.Entries.{session_before}
use Rattle.nd_model.specs.Book.Notebook.{Sheet, book_of}
use Rattle.nd_session.specs.Session.Live.{live}
use Rattle.nd_change.specs.Snapshots.{IsAlike}
use Rattle.nd_notebook.proofs.notebook.Notebook.version_like.Goals as goal

pub returns : goal.returns
returns c =
    subst (λ (s : Session). IsAlike s (session_before (book_of c.args.self.now) c.args.at)) (sym c.in_ok-version.ensures.session)
    (subst (λ (s : Sheet). IsAlike (collected (session_of (live c.in_ok-session.session))) (session_before (book_of s) c.args.at)) c.self.view_is c.in_ok-session.ensures.alike)

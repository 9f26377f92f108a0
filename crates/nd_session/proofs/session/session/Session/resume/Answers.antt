use Rattle.std.proofs.Common.{◌∙◌, ℕ, ap, sym, subst}
use Rattle.nd_session.specs.Session.Intact.{AllLie}
use Rattle.nd_session.specs.Session.Kept.{thawed}
use Rattle.nd_heap.specs.Live.{bytes_at}
use Rattle.nd_session.specs.Session.Live.{live}
use Rattle.nd_session.proofs.session.session.Session.resume.Goals as goal

pub returns : goal.returns
unfolding live
returns c =
    (λ i. record (c.new.ensures i) {
      names = c.version.inside.heap.names;
      bytes = bytes_at c.version.inside.heap.blocks;
      next = c.version.inside.next;
    }) ∙ ap thawed c.version.view_is

pub invariant_of-result : goal.invariant_of-result
invariant_of-result c =
    let next = c.version.inside.next in
    let h = c.version.inside.heap in
    subst (λ (l : ℕ). AllLie l next (bytes_at h.blocks) h.names) (sym (ap (λ r. r.label) c.new.ensures)) c.version.invariant

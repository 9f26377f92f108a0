use Rattle.std.proofs.Common.{ap}
use Rattle.nd_heap.specs.Values.{base_of}
use Rattle.nd_session.specs.Session.Found.{bytes_of, found_at}
use Rattle.nd_session.specs.Session.Live.{live}
use Rattle.nd_session.specs.Session.Now.{part_now}
use Rattle.nd_session.proofs.session.Matching.{part_noted, part_now_there}
use Rattle.nd_session.proofs.session.change.following.note_single.Goals as goal

pub returns-clause-bytes : goal.returns-clause-bytes
returns-clause-bytes c = part_noted (live c.args.session.now).bytes c.in-Kept.kept (base_of c.args.base) (part_now c.args.parts.now.entries) (part_now c.note_part.new.parts.entries)
    c.in_ok-note_part.ensures (c.has_no_more.ensures c.if-not-has_no_more.false)

pub returns-clause-here : goal.returns-clause-here
returns-clause-here c = λ _ p. part_now_there (live c.args.session.now).bytes c.in-Kept.kept (base_of c.args.base) (part_now c.args.parts.now.entries) (part_now c.note_part.new.parts.entries)
    c.in_ok-note_part.ensures (c.has_no_more.ensures c.if-not-has_no_more.false)
    (found_at (bytes_of c.args.found.now)) (λ p. ap (λ f. found_at (bytes_of f) p) c.in-Kept.is) p

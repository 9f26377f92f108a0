use Rattle.nd_heap.specs.Values.{base_of}
use Rattle.nd_session.specs.Session.Now.{block_now}
use Rattle.nd_session.specs.Session.Live.{live}
use Rattle.nd_session.proofs.session.Carrying.{set_base}
use Rattle.nd_session.proofs.session.Standing.{base_noted, noted_same}
use Rattle.nd_session.proofs.session.change.following.note_own_base.Goals as goal

pub returns-then-base-label-clause-noted : goal.returns-then-base-label-clause-noted
returns-then-base-label-clause-noted c = noted_same (live c.args.session.now).bytes (block_now c.args.blocks.now.entries)

pub returns-clause-noted : goal.returns-clause-noted
returns-clause-noted c = base_noted (live c.args.session.now).bytes (block_now c.args.blocks.now.entries) (block_now c.note_base.new.blocks.entries) (base_of c.args.base) c.in_ok-note_base.ensures

pub returns-clause-own : goal.returns-clause-own
returns-clause-own c = λ _. set_base (live c.args.session.now).bytes (block_now c.args.blocks.now.entries) (block_now c.note_base.new.blocks.entries) (base_of c.args.base) c.in_ok-note_base.ensures

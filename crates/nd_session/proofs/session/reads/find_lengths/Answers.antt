use Rattle.std.proofs.Common.{◌≡◌, length, add-one, get_or}
use Rattle.std.proofs.lemmas.List.{get_or_default}
use Rattle.nd_heap.specs.declared.value.Base.{Base}
use Rattle.nd_session.specs.Session.Found.{by_base}
use Rattle.nd_session.specs.Session.Kept.{version_of}
use Rattle.nd_session.specs.Session.Reading.{length_at}
use Rattle.nd_session.proofs.session.Reading.{base_noted}
use Rattle.nd_session.proofs.session.reads.find_lengths.Goals as goal

pub loop-base-preserved : goal.loop-base-preserved
loop-base-preserved c = λ b.
    let none : Base = record { label = 0; number = 0 } in
    let d : Base = get_or c.args.bases.now c.loop-base.base-index none in
    let here : d ≡ get_or c.args.bases.now c.loop-base.base-index d = get_or_default c.args.bases.now c.loop-base.base-index none d c.loop-base-test.true in
    rw add-one (base_noted (λ b. length ((version_of c.args.before.now).bytes b)) (by_base length_at c.loop-base.reads.entries) (by_base length_at c.note_length.new.reads.entries)
    c.args.bases.now c.loop-base.base-index d b c.loop-base-test.true here (c.in_ok-note_length.ensures b) (c.loop-base.invariant b))

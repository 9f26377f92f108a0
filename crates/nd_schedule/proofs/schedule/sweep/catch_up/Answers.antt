use Rattle.std.proofs.Common.{◌≡◌, ◌<◌, length, refl, ap, subst, ◌∙◌, arith}
use Rattle.nd_model.specs.Book.Book.{Book}
use Rattle.nd_schedule.specs.Schedule.Sweep.{IsAtHand, IsPlace}
use Rattle.nd_schedule.proofs.schedule.Sweeping.{record_there, holds_at_hand, further_on}
use Rattle.nd_schedule.proofs.schedule.sweep.catch_up.Goals as goal

pub replay_one-requires-clause-none : goal.replay_one-requires-clause-none
replay_one-requires-clause-none g c =
    let old : Book = c.requires.at.0 in
    let new : Book = c.requires.at.1 in
    let place : IsPlace old new c.args.to c.requires.at.2 = c.requires.at.4 in
    let lt : c.loop-k.k < length old.cells = omega (arith, place.before) in
    (holds_at_hand old new c.args.to c.requires.at.2 (g.C.CellRunner.session_of c.loop-k.session) c.loop-k.k (c.loop-k.invariant old new c.requires.at.2 c.requires.at.3 place c.requires.at.5) (omega arith) place (g.C.CellRunner.recorded c.deref.result.now) (g.C.CellRunner.session_of c.loop-k.session)
    (ap g.C.CellRunner.recorded c.deref.ensures ∙ record_there (λ r. g.C.CellRunner.recorded r.value) old c.args.records.now c.index-records-k.result c.loop-k.k (c.requires.at.3).records lt c.index-records-k.is) refl).none

pub replay_one-requires-clause-reads : goal.replay_one-requires-clause-reads
replay_one-requires-clause-reads g c =
    let old : Book = c.requires.at.0 in
    let new : Book = c.requires.at.1 in
    let place : IsPlace old new c.args.to c.requires.at.2 = c.requires.at.4 in
    let lt : c.loop-k.k < length old.cells = omega (arith, place.before) in (
      new.world,
      (holds_at_hand old new c.args.to c.requires.at.2 (g.C.CellRunner.session_of c.loop-k.session) c.loop-k.k (c.loop-k.invariant old new c.requires.at.2 c.requires.at.3 place c.requires.at.5) (omega arith) place (g.C.CellRunner.recorded c.deref.result.now) (g.C.CellRunner.session_of c.loop-k.session)
          (ap g.C.CellRunner.recorded c.deref.ensures ∙ record_there (λ r. g.C.CellRunner.recorded r.value) old c.args.records.now c.index-records-k.result c.loop-k.k (c.requires.at.3).records lt c.index-records-k.is) refl).same,
    )

pub loop-k-preserved : goal.loop-k-preserved
loop-k-preserved g c = λ old new j run place hand.
    let lt : c.loop-k.k < length old.cells = omega (arith, place.before) in
    further_on old new c.args.to j (g.C.CellRunner.session_of c.loop-k.session) c.loop-k.k (c.loop-k.invariant old new j run place hand) (omega arith) place (g.C.CellRunner.recorded c.deref.result.now) (g.C.CellRunner.session_of c.replay_one.new.session)
    (ap g.C.CellRunner.recorded c.deref.ensures ∙ record_there (λ r. g.C.CellRunner.recorded r.value) old c.args.records.now c.index-records-k.result c.loop-k.k run.records lt c.index-records-k.is) c.in_ok-replay_one.ensures

pub returns : goal.returns
returns g c = λ old new j run place hand. let e : c.loop-k.k ≡ c.args.to = omega arith in
    subst (IsAtHand old new c.args.to j (g.C.CellRunner.session_of c.loop-k.session)) e (c.loop-k.invariant old new j run place hand)

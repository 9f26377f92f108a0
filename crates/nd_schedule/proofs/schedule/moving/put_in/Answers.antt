use Rattle.std.proofs.Common.{◌≡◌, false, true, refl, subst, ◌∙◌, inl, inr, string_bytes}
use Rattle.nd_model.specs.Grammar.Reading.{reading}
use Rattle.nd_model.proofs.Passing.{stands}
use Rattle.nd_change.specs.Steps.{Comes}
use Rattle.nd_schedule.proofs.schedule.Turning.{replayed_there}
use Rattle.nd_schedule.proofs.schedule.moving.put_in.Goals as goal

pub returns-then-still_holds-clause-after : goal.returns-then-still_holds-clause-after
returns-then-still_holds-clause-after g c =
    c.in_ok-replay.ensures ∙ replayed_there c.args.source.now.label (reading (string_bytes c.args.source.now.text)) _ _ _ c.requires.of_run (c.if-still_holds.ensures.0 refl)

pub returns-then-still_holds-clause-comes : goal.returns-then-still_holds-clause-comes
returns-then-still_holds-clause-comes g c =
    subst (λ r. Comes (g.C.CellRunner.change_of c.args.state.now.change) (g.C.CellRunner.change_of c.came.new.change) r (g.C.CellRunner.session_of c.replay.new.session))
    (stands c.args.source.now.label (reading (string_bytes c.args.source.now.text)) _ _ _ c.requires.of_run (c.if-still_holds.ensures.0 refl)).0 c.in_ok-came.ensures

pub returns-then-still_holds-clause-made : goal.returns-then-still_holds-clause-made
returns-then-still_holds-clause-made g c = (stands c.args.source.now.label (reading (string_bytes c.args.source.now.text)) _ _ _ c.requires.of_run (c.if-still_holds.ensures.0 refl)).0

pub returns-clause-comes : goal.returns-clause-comes
returns-clause-comes g c =
    subst (λ r. Comes (g.C.CellRunner.change_of c.args.state.now.change) (g.C.CellRunner.change_of c.run_new.new.state.change) r (g.C.CellRunner.session_of c.run_new.new.state.session)) c.in_ok-new.ensures.made c.in_ok-new.ensures.comes

pub returns-clause-after : goal.returns-clause-after
returns-clause-after g c = c.in_ok-new.ensures.after

pub returns-clause-changed : goal.returns-clause-changed
returns-clause-changed g c = c.in_ok-new.ensures.changed

pub returns-clause-counts : goal.returns-clause-counts
returns-clause-counts g c = inr (c.run_new.ensures.counted, λ h. let e : false ≡ true = c.if-still_holds.ensures.1 h in cc)

pub returns-clause-covered : goal.returns-clause-covered
returns-clause-covered g c = c.in_ok-new.ensures.word

pub returns-clause-made : goal.returns-clause-made
returns-clause-made g c = c.in_ok-new.ensures.made

pub returns-clause-since : goal.returns-clause-since
returns-clause-since g c = c.in_ok-new.ensures.since

pub returns-clause-worded : goal.returns-clause-worded
returns-clause-worded g c = c.in_ok-new.ensures.worded

pub returns-in_err-came-clause-counts : goal.returns-in_err-came-clause-counts
returns-in_err-came-clause-counts g c = inl refl

pub returns-in_err-new-clause-counts : goal.returns-in_err-new-clause-counts
returns-in_err-new-clause-counts g c = inr (c.run_new.ensures.counted, λ h. let e : false ≡ true = c.if-still_holds.ensures.1 h in cc)

pub returns-in_err-replay-clause-counts : goal.returns-in_err-replay-clause-counts
returns-in_err-replay-clause-counts g c = inl refl

pub returns-then-still_holds-clause-changed : goal.returns-then-still_holds-clause-changed
returns-then-still_holds-clause-changed g c = refl

pub returns-then-still_holds-clause-counts : goal.returns-then-still_holds-clause-counts
returns-then-still_holds-clause-counts g c = inl refl

pub returns-then-still_holds-clause-covered : goal.returns-then-still_holds-clause-covered
returns-then-still_holds-clause-covered g c = c.change_word.ensures

pub returns-then-still_holds-clause-since : goal.returns-then-still_holds-clause-since
returns-then-still_holds-clause-since g c = refl

pub returns-then-still_holds-clause-worded : goal.returns-then-still_holds-clause-worded
returns-then-still_holds-clause-worded g c = tt

pub returns-then-still_holds-clause-held : goal.returns-then-still_holds-clause-held
returns-then-still_holds-clause-held g c = c.if-still_holds.ensures.0 refl

pub returns-clause-held : goal.returns-clause-held
returns-clause-held g c = λ h. let e : false ≡ true = c.if-still_holds.ensures.1 h in cc

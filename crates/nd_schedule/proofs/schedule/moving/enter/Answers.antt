use Rattle.std.proofs.Common.{◌∙◌}
use Rattle.nd_schedule.specs.Schedule.Sweep.{IsAt}
use Rattle.nd_schedule.proofs.schedule.Sweeping.{counts_same}
use Rattle.nd_schedule.proofs.schedule.Turning.{enter_at, enter_counts, enter_fresh, enter_none, enter_of_run, enter_record, enter_stale, if_ok_more, match_more}
use Rattle.nd_schedule.proofs.schedule.Visiting.{on_three}
use Rattle.nd_schedule.proofs.schedule.moving.enter.Goals as goal

pub put_in-requires-clause-none : goal.put_in-requires-clause-none
put_in-requires-clause-none g c =
    enter_none c.requires.at.0 c.requires.at.1 c.requires.at.2 c.args.i c.requires.at.3 _ _ _ _ c.requires.at.4 _ (g.C.CellRunner.session_of c.come_to.new.state.session)
    (c.in_ok-come_to.ensures.at c.requires.at.0 c.requires.at.1 c.requires.at.3 (c.requires.at.4).run (c.requires.at.4).place c.requires.at.5)

pub put_in-requires-clause-of_run : goal.put_in-requires-clause-of_run
put_in-requires-clause-of_run g c =
    enter_of_run c.requires.at.0 c.requires.at.1 c.requires.at.2 c.args.i c.requires.at.3 _ _ _ _ c.requires.at.4 _ (g.C.CellRunner.session_of c.come_to.new.state.session)
    (c.in_ok-come_to.ensures.at c.requires.at.0 c.requires.at.1 c.requires.at.3 (c.requires.at.4).run (c.requires.at.4).place c.requires.at.5)

pub returns-clause-at : goal.returns-clause-at
returns-clause-at g c = on_three c.put_in.result c.put_in.ensures.after c.put_in.ensures.comes c.put_in.ensures.since (λ after comes since old new from j coming at.
    enter_at old new from c.args.i j _ _ _ _ coming _ (g.C.CellRunner.session_of c.come_to.new.state.session) (c.in_ok-come_to.ensures.at old new j coming.run coming.place at) _ _ after comes _ (since ∙ c.in_ok-come_to.ensures.since))

pub returns-clause-made : goal.returns-clause-made
returns-clause-made g c = if_ok_more c.put_in.result c.put_in.ensures.made (λ o made old new from j coming at.
    let is = enter_record old new from c.args.i j _ _ _ _ coming _ (g.C.CellRunner.session_of c.come_to.new.state.session) (c.in_ok-come_to.ensures.at old new j coming.run coming.place at) in
    match_more o made (λ e. e ∙ is) (λ n e. e ∙ is))

pub returns-in_err-come_to-clause-counts : goal.returns-in_err-come_to-clause-counts
returns-in_err-come_to-clause-counts g c = λ old new from j before coming at so_far. counts_same old new j before _ coming.there so_far

pub returns-clause-counts : goal.returns-clause-counts
returns-clause-counts g c = λ old new from j before coming at so_far.
    enter_counts old new from c.args.i j _ _ _ _ coming _ (g.C.CellRunner.session_of c.come_to.new.state.session) (c.in_ok-come_to.ensures.at old new j coming.run coming.place at) before _ _ c.put_in.ensures.counts so_far

pub returns-clause-stale : goal.returns-clause-stale
returns-clause-stale g c = if_ok_more c.put_in.result c.put_in.ensures.held (λ o held old new from j coming at.
    let here : IsAt old new c.args.i j _ (g.C.CellRunner.session_of c.come_to.new.state.session) c.args.i = c.in_ok-come_to.ensures.at old new j coming.run coming.place at in
    match_more o held
    (λ holds. enter_fresh old new from c.args.i j _ _ _ _ coming _ (g.C.CellRunner.session_of c.come_to.new.state.session) here holds)
    (λ n out. enter_stale old new from c.args.i j _ _ _ _ coming _ (g.C.CellRunner.session_of c.come_to.new.state.session) here out))

use Rattle.std.specs.Prelude.{MatchOption}
use Rattle.nd_change.specs.Steps.{IsWordOf}
use Rattle.nd_model.specs.Book.Stale.{IsStale}
use Rattle.std.proofs.Common.{◌≡◌, ◌<◌, IfSome, ◌+◌, length, map, sym, ap, subst, ◌∙◌, arith}
use Rattle.std.proofs.lemmas.Grind.{common_steps}
use Rattle.std.proofs.lemmas.List.{length-map}
use Rattle.nd_model.specs.Book.Book.{Book}
use Rattle.nd_model.specs.Book.Entries.{entry_at, record_at}
use Rattle.nd_schedule.specs.Cells.Source.{cell_of}
use Rattle.nd_schedule.specs.Schedule.Sweep.{AreChanged, AreFit, CountsFront, IsAt, IsComing, IsPlace, change_at, fit_at}
use Rattle.nd_schedule.specs.Schedule.Snapshot.{IsNoted}
use Rattle.nd_schedule.proofs.schedule.Standing.{All-none}
use Rattle.nd_schedule.proofs.schedule.Sweeping.{changed_none, counts_stale, none_yet, record_there}
use Rattle.nd_schedule.proofs.schedule.Turning.{below_more, below_next, from_next, from_within, next_within, to_within, coming, frame_rest, frame_up, made_there, moved_up, place_at, same_place, up_place}
use Rattle.nd_schedule.proofs.schedule.Visiting.{cell_there}
use Rattle.nd_schedule.proofs.schedule.moving.move_up.Goals as goal

pub enter-requires-clause-at : goal.enter-requires-clause-at
enter-requires-clause-at g c =
    let old : Book = c.requires.at.0 in
    let new : Book = c.requires.at.1 in
    let moving = c.requires.at.2 in
    let at = c.requires.at.3 in
    let long : length old.cells ≡ length c.args.cells.now = ap length moving.cells ∙ length-map c.args.cells.now (λ s. cell_of s.value) in
    let come : IsComing old new c.args.from (c.args.to) c.args.to _ (cell_of c.deref.result.now) (g.C.CellRunner.recorded c.deref-2.result.now) _ =
    coming old new c.args.from c.args.to _ _ _ moving (c.args.to) (to_within old new c.args.from c.args.to _ _ _ moving) (cell_of c.deref.result.now) (g.C.CellRunner.recorded c.deref-2.result.now)
    (cell_there c.args.cells.now c.args.from c.index-cells-from.result c.deref.result.now (subst (λ n. c.args.from < n) long moving.stood) c.index-cells-from.is c.deref.ensures)
    (ap g.C.CellRunner.recorded c.deref-2.ensures ∙ record_there (λ r. g.C.CellRunner.recorded r.value) old c.args.records.now c.index-records-from.result c.args.from moving.run.records moving.stood c.index-records-from.is) in
    (old, new, c.args.from, c.args.to, come, at)

pub returns-in_err-made-clause-counts : goal.returns-in_err-made-clause-counts
returns-in_err-made-clause-counts g c = λ old new moving at.
    let long : length old.cells ≡ length c.args.cells.now = ap length moving.cells ∙ length-map c.args.cells.now (λ s. cell_of s.value) in
    let come : IsComing old new c.args.from (c.args.to) c.args.to _ (cell_of c.deref.result.now) (g.C.CellRunner.recorded c.deref-2.result.now) _ =
    coming old new c.args.from c.args.to _ _ _ moving (c.args.to) (to_within old new c.args.from c.args.to _ _ _ moving) (cell_of c.deref.result.now) (g.C.CellRunner.recorded c.deref-2.result.now)
    (cell_there c.args.cells.now c.args.from c.index-cells-from.result c.deref.result.now (subst (λ n. c.args.from < n) long moving.stood) c.index-cells-from.is c.deref.ensures)
    (ap g.C.CellRunner.recorded c.deref-2.ensures ∙ record_there (λ r. g.C.CellRunner.recorded r.value) old c.args.records.now c.index-records-from.result c.args.from moving.run.records moving.stood c.index-records-from.is) in
    let with_it = c.enter.ensures.counts old new c.args.from c.args.to c.args.meter.now come at (none_yet old new c.args.to c.args.meter.now) in
    counts_stale old new (c.args.to + 1) _ _ with_it

pub sweep-requires-clause-at : goal.sweep-requires-clause-at
sweep-requires-clause-at g c =
    let old : Book = c.requires.at.0 in
    let new : Book = c.requires.at.1 in
    let moving = c.requires.at.2 in
    let at = c.requires.at.3 in
    let long : length old.cells ≡ length c.args.cells.now = ap length moving.cells ∙ length-map c.args.cells.now (λ s. cell_of s.value) in
    let come : IsComing old new c.args.from (c.args.to) c.args.to _ (cell_of c.deref.result.now) (g.C.CellRunner.recorded c.deref-2.result.now) _ =
    coming old new c.args.from c.args.to _ _ _ moving (c.args.to) (to_within old new c.args.from c.args.to _ _ _ moving) (cell_of c.deref.result.now) (g.C.CellRunner.recorded c.deref-2.result.now)
    (cell_there c.args.cells.now c.args.from c.index-cells-from.result c.deref.result.now (subst (λ n. c.args.from < n) long moving.stood) c.index-cells-from.is c.deref.ensures)
    (ap g.C.CellRunner.recorded c.deref-2.ensures ∙ record_there (λ r. g.C.CellRunner.recorded r.value) old c.args.records.now c.index-records-from.result c.args.from moving.run.records moving.stood c.index-records-from.is) in
    let come_in : IsAt old new c.args.to (c.args.to + 1) (g.C.CellRunner.change_of c.enter.new.state.change) (g.C.CellRunner.session_of c.enter.new.state.session) c.enter.new.state.since =
    c.in_ok-made.ensures.at old new c.args.from c.args.to come at in
    let frame = frame_up old new c.args.from c.args.to _ _ _ moving c.requires.up in
    (old, new, c.args.to + 1, frame, come_in)

pub returns-in_err-sweep-clause-counts : goal.returns-in_err-sweep-clause-counts
returns-in_err-sweep-clause-counts g c = λ old new moving at.
    let long : length old.cells ≡ length c.args.cells.now = ap length moving.cells ∙ length-map c.args.cells.now (λ s. cell_of s.value) in
    let come : IsComing old new c.args.from (c.args.to) c.args.to _ (cell_of c.deref.result.now) (g.C.CellRunner.recorded c.deref-2.result.now) _ =
    coming old new c.args.from c.args.to _ _ _ moving (c.args.to) (to_within old new c.args.from c.args.to _ _ _ moving) (cell_of c.deref.result.now) (g.C.CellRunner.recorded c.deref-2.result.now)
    (cell_there c.args.cells.now c.args.from c.index-cells-from.result c.deref.result.now (subst (λ n. c.args.from < n) long moving.stood) c.index-cells-from.is c.deref.ensures)
    (ap g.C.CellRunner.recorded c.deref-2.ensures ∙ record_there (λ r. g.C.CellRunner.recorded r.value) old c.args.records.now c.index-records-from.result c.args.from moving.run.records moving.stood c.index-records-from.is) in
    let come_in : IsAt old new c.args.to (c.args.to + 1) (g.C.CellRunner.change_of c.enter.new.state.change) (g.C.CellRunner.session_of c.enter.new.state.session) c.enter.new.state.since =
    c.in_ok-made.ensures.at old new c.args.from c.args.to come at in
    let frame = frame_up old new c.args.from c.args.to _ _ _ moving c.requires.up in
    let with_it = c.enter.ensures.counts old new c.args.from c.args.to c.args.meter.now come at (none_yet old new c.args.to c.args.meter.now) in
    c.sweep.ensures.counts old new (c.args.to + 1) _ frame come_in with_it

pub leave-requires-clause-at : goal.leave-requires-clause-at
leave-requires-clause-at g c =
    let old : Book = c.requires.at.0 in
    let new : Book = c.requires.at.1 in
    let moving = c.requires.at.2 in
    let at = c.requires.at.3 in
    let long : length old.cells ≡ length c.args.cells.now = ap length moving.cells ∙ length-map c.args.cells.now (λ s. cell_of s.value) in
    let come : IsComing old new c.args.from (c.args.to) c.args.to _ (cell_of c.deref.result.now) (g.C.CellRunner.recorded c.deref-2.result.now) _ =
    coming old new c.args.from c.args.to _ _ _ moving (c.args.to) (to_within old new c.args.from c.args.to _ _ _ moving) (cell_of c.deref.result.now) (g.C.CellRunner.recorded c.deref-2.result.now)
    (cell_there c.args.cells.now c.args.from c.index-cells-from.result c.deref.result.now (subst (λ n. c.args.from < n) long moving.stood) c.index-cells-from.is c.deref.ensures)
    (ap g.C.CellRunner.recorded c.deref-2.ensures ∙ record_there (λ r. g.C.CellRunner.recorded r.value) old c.args.records.now c.index-records-from.result c.args.from moving.run.records moving.stood c.index-records-from.is) in
    let come_in : IsAt old new c.args.to (c.args.to + 1) (g.C.CellRunner.change_of c.enter.new.state.change) (g.C.CellRunner.session_of c.enter.new.state.session) c.enter.new.state.since =
    c.in_ok-made.ensures.at old new c.args.from c.args.to come at in
    let frame = frame_up old new c.args.from c.args.to _ _ _ moving c.requires.up in
    let there : IsAt old new c.args.from (c.args.from + 1) (g.C.CellRunner.change_of c.sweep.new.state.change) (g.C.CellRunner.session_of c.sweep.new.state.session) c.sweep.new.state.since =
    subst (λ k. IsAt old new c.args.from k (g.C.CellRunner.change_of c.sweep.new.state.change) (g.C.CellRunner.session_of c.sweep.new.state.session) c.sweep.new.state.since) (up_place c.args.from c.args.to c.requires.up)
    (c.in_ok-sweep.ensures.at old new (c.args.to + 1) frame come_in) in
    let place : IsPlace old new c.args.from (c.args.from + 1) = place_at old new c.args.from c.args.to _ _ _ moving c.args.from (c.args.from + 1) (from_within old new c.args.from c.args.to _ _ _ moving) (from_next old new c.args.from c.args.to _ _ _ moving) in
    (old, new, c.args.from + 1, moving.run, place, there)

pub returns-in_err-leave-clause-counts : goal.returns-in_err-leave-clause-counts
returns-in_err-leave-clause-counts g c = λ old new moving at.
    let long : length old.cells ≡ length c.args.cells.now = ap length moving.cells ∙ length-map c.args.cells.now (λ s. cell_of s.value) in
    let come : IsComing old new c.args.from (c.args.to) c.args.to _ (cell_of c.deref.result.now) (g.C.CellRunner.recorded c.deref-2.result.now) _ =
    coming old new c.args.from c.args.to _ _ _ moving (c.args.to) (to_within old new c.args.from c.args.to _ _ _ moving) (cell_of c.deref.result.now) (g.C.CellRunner.recorded c.deref-2.result.now)
    (cell_there c.args.cells.now c.args.from c.index-cells-from.result c.deref.result.now (subst (λ n. c.args.from < n) long moving.stood) c.index-cells-from.is c.deref.ensures)
    (ap g.C.CellRunner.recorded c.deref-2.ensures ∙ record_there (λ r. g.C.CellRunner.recorded r.value) old c.args.records.now c.index-records-from.result c.args.from moving.run.records moving.stood c.index-records-from.is) in
    let come_in : IsAt old new c.args.to (c.args.to + 1) (g.C.CellRunner.change_of c.enter.new.state.change) (g.C.CellRunner.session_of c.enter.new.state.session) c.enter.new.state.since =
    c.in_ok-made.ensures.at old new c.args.from c.args.to come at in
    let frame = frame_up old new c.args.from c.args.to _ _ _ moving c.requires.up in
    let with_it = c.enter.ensures.counts old new c.args.from c.args.to c.args.meter.now come at (none_yet old new c.args.to c.args.meter.now) in
    let so_far = subst (λ k. CountsFront old new k c.args.meter.now c.sweep.new.meter) (up_place c.args.from c.args.to c.requires.up) (c.in_ok-sweep.ensures.counted old new (c.args.to + 1) c.args.meter.now frame come_in with_it) in
    counts_stale old new (c.args.from + 1) _ _ so_far

pub sweep-requires-2-clause-at : goal.sweep-requires-2-clause-at
sweep-requires-2-clause-at g c =
    let old : Book = c.requires.at.0 in
    let new : Book = c.requires.at.1 in
    let moving = c.requires.at.2 in
    let at = c.requires.at.3 in
    let long : length old.cells ≡ length c.args.cells.now = ap length moving.cells ∙ length-map c.args.cells.now (λ s. cell_of s.value) in
    let come : IsComing old new c.args.from (c.args.to) c.args.to _ (cell_of c.deref.result.now) (g.C.CellRunner.recorded c.deref-2.result.now) _ =
    coming old new c.args.from c.args.to _ _ _ moving (c.args.to) (to_within old new c.args.from c.args.to _ _ _ moving) (cell_of c.deref.result.now) (g.C.CellRunner.recorded c.deref-2.result.now)
    (cell_there c.args.cells.now c.args.from c.index-cells-from.result c.deref.result.now (subst (λ n. c.args.from < n) long moving.stood) c.index-cells-from.is c.deref.ensures)
    (ap g.C.CellRunner.recorded c.deref-2.ensures ∙ record_there (λ r. g.C.CellRunner.recorded r.value) old c.args.records.now c.index-records-from.result c.args.from moving.run.records moving.stood c.index-records-from.is) in
    let come_in : IsAt old new c.args.to (c.args.to + 1) (g.C.CellRunner.change_of c.enter.new.state.change) (g.C.CellRunner.session_of c.enter.new.state.session) c.enter.new.state.since =
    c.in_ok-made.ensures.at old new c.args.from c.args.to come at in
    let frame = frame_up old new c.args.from c.args.to _ _ _ moving c.requires.up in
    let there : IsAt old new c.args.from (c.args.from + 1) (g.C.CellRunner.change_of c.sweep.new.state.change) (g.C.CellRunner.session_of c.sweep.new.state.session) c.sweep.new.state.since =
    subst (λ k. IsAt old new c.args.from k (g.C.CellRunner.change_of c.sweep.new.state.change) (g.C.CellRunner.session_of c.sweep.new.state.session) c.sweep.new.state.since) (up_place c.args.from c.args.to c.requires.up)
    (c.in_ok-sweep.ensures.at old new (c.args.to + 1) frame come_in) in
    let place : IsPlace old new c.args.from (c.args.from + 1) = place_at old new c.args.from c.args.to _ _ _ moving c.args.from (c.args.from + 1) (from_within old new c.args.from c.args.to _ _ _ moving) (from_next old new c.args.from c.args.to _ _ _ moving) in
    let left = c.in_ok-leave.ensures.at old new (c.args.from + 1) moving.run place there in
    let rest = frame_rest old new c.args.from c.args.to _ _ _ moving (c.args.from + 1) (length c.args.cells.now) (below_next c.args.from) (below_more c.args.to c.args.from c.requires.up) (next_within c.args.from (length c.args.cells.now) c.requires.from) (sym long) in
    (old, new, c.args.from + 1, rest, left)

pub returns-in_err-sweep-2-clause-counts : goal.returns-in_err-sweep-2-clause-counts
returns-in_err-sweep-2-clause-counts g c = λ old new moving at.
    let long : length old.cells ≡ length c.args.cells.now = ap length moving.cells ∙ length-map c.args.cells.now (λ s. cell_of s.value) in
    let come : IsComing old new c.args.from (c.args.to) c.args.to _ (cell_of c.deref.result.now) (g.C.CellRunner.recorded c.deref-2.result.now) _ =
    coming old new c.args.from c.args.to _ _ _ moving (c.args.to) (to_within old new c.args.from c.args.to _ _ _ moving) (cell_of c.deref.result.now) (g.C.CellRunner.recorded c.deref-2.result.now)
    (cell_there c.args.cells.now c.args.from c.index-cells-from.result c.deref.result.now (subst (λ n. c.args.from < n) long moving.stood) c.index-cells-from.is c.deref.ensures)
    (ap g.C.CellRunner.recorded c.deref-2.ensures ∙ record_there (λ r. g.C.CellRunner.recorded r.value) old c.args.records.now c.index-records-from.result c.args.from moving.run.records moving.stood c.index-records-from.is) in
    let come_in : IsAt old new c.args.to (c.args.to + 1) (g.C.CellRunner.change_of c.enter.new.state.change) (g.C.CellRunner.session_of c.enter.new.state.session) c.enter.new.state.since =
    c.in_ok-made.ensures.at old new c.args.from c.args.to come at in
    let frame = frame_up old new c.args.from c.args.to _ _ _ moving c.requires.up in
    let there : IsAt old new c.args.from (c.args.from + 1) (g.C.CellRunner.change_of c.sweep.new.state.change) (g.C.CellRunner.session_of c.sweep.new.state.session) c.sweep.new.state.since =
    subst (λ k. IsAt old new c.args.from k (g.C.CellRunner.change_of c.sweep.new.state.change) (g.C.CellRunner.session_of c.sweep.new.state.session) c.sweep.new.state.since) (up_place c.args.from c.args.to c.requires.up)
    (c.in_ok-sweep.ensures.at old new (c.args.to + 1) frame come_in) in
    let place : IsPlace old new c.args.from (c.args.from + 1) = place_at old new c.args.from c.args.to _ _ _ moving c.args.from (c.args.from + 1) (from_within old new c.args.from c.args.to _ _ _ moving) (from_next old new c.args.from c.args.to _ _ _ moving) in
    let left = c.in_ok-leave.ensures.at old new (c.args.from + 1) moving.run place there in
    let rest = frame_rest old new c.args.from c.args.to _ _ _ moving (c.args.from + 1) (length c.args.cells.now) (below_next c.args.from) (below_more c.args.to c.args.from c.requires.up) (next_within c.args.from (length c.args.cells.now) c.requires.from) (sym long) in
    let with_it = c.enter.ensures.counts old new c.args.from c.args.to c.args.meter.now come at (none_yet old new c.args.to c.args.meter.now) in
    let so_far = subst (λ k. CountsFront old new k c.args.meter.now c.sweep.new.meter) (up_place c.args.from c.args.to c.requires.up) (c.in_ok-sweep.ensures.counted old new (c.args.to + 1) c.args.meter.now frame come_in with_it) in
    c.sweep-2.ensures.counts old new (c.args.from + 1) _ rest left so_far

pub returns-clause-counts : goal.returns-clause-counts
returns-clause-counts g c = λ old new moving at.
    let long : length old.cells ≡ length c.args.cells.now = ap length moving.cells ∙ length-map c.args.cells.now (λ s. cell_of s.value) in
    let come : IsComing old new c.args.from (c.args.to) c.args.to _ (cell_of c.deref.result.now) (g.C.CellRunner.recorded c.deref-2.result.now) _ =
    coming old new c.args.from c.args.to _ _ _ moving (c.args.to) (to_within old new c.args.from c.args.to _ _ _ moving) (cell_of c.deref.result.now) (g.C.CellRunner.recorded c.deref-2.result.now)
    (cell_there c.args.cells.now c.args.from c.index-cells-from.result c.deref.result.now (subst (λ n. c.args.from < n) long moving.stood) c.index-cells-from.is c.deref.ensures)
    (ap g.C.CellRunner.recorded c.deref-2.ensures ∙ record_there (λ r. g.C.CellRunner.recorded r.value) old c.args.records.now c.index-records-from.result c.args.from moving.run.records moving.stood c.index-records-from.is) in
    let come_in : IsAt old new c.args.to (c.args.to + 1) (g.C.CellRunner.change_of c.enter.new.state.change) (g.C.CellRunner.session_of c.enter.new.state.session) c.enter.new.state.since =
    c.in_ok-made.ensures.at old new c.args.from c.args.to come at in
    let frame = frame_up old new c.args.from c.args.to _ _ _ moving c.requires.up in
    let there : IsAt old new c.args.from (c.args.from + 1) (g.C.CellRunner.change_of c.sweep.new.state.change) (g.C.CellRunner.session_of c.sweep.new.state.session) c.sweep.new.state.since =
    subst (λ k. IsAt old new c.args.from k (g.C.CellRunner.change_of c.sweep.new.state.change) (g.C.CellRunner.session_of c.sweep.new.state.session) c.sweep.new.state.since) (up_place c.args.from c.args.to c.requires.up)
    (c.in_ok-sweep.ensures.at old new (c.args.to + 1) frame come_in) in
    let place : IsPlace old new c.args.from (c.args.from + 1) = place_at old new c.args.from c.args.to _ _ _ moving c.args.from (c.args.from + 1) (from_within old new c.args.from c.args.to _ _ _ moving) (from_next old new c.args.from c.args.to _ _ _ moving) in
    let left = c.in_ok-leave.ensures.at old new (c.args.from + 1) moving.run place there in
    let rest = frame_rest old new c.args.from c.args.to _ _ _ moving (c.args.from + 1) (length c.args.cells.now) (below_next c.args.from) (below_more c.args.to c.args.from c.requires.up) (next_within c.args.from (length c.args.cells.now) c.requires.from) (sym long) in
    let with_it = c.enter.ensures.counts old new c.args.from c.args.to c.args.meter.now come at (none_yet old new c.args.to c.args.meter.now) in
    let so_far = subst (λ k. CountsFront old new k c.args.meter.now c.sweep.new.meter) (up_place c.args.from c.args.to c.requires.up) (c.in_ok-sweep.ensures.counted old new (c.args.to + 1) c.args.meter.now frame come_in with_it) in
    c.sweep-2.ensures.counts old new (c.args.from + 1) _ rest left so_far

pub returns-clause-gathered : goal.returns-clause-gathered
returns-clause-gathered g c = λ old new moving at.
    let long : length old.cells ≡ length c.args.cells.now = ap length moving.cells ∙ length-map c.args.cells.now (λ s. cell_of s.value) in
    let come : IsComing old new c.args.from (c.args.to) c.args.to _ (cell_of c.deref.result.now) (g.C.CellRunner.recorded c.deref-2.result.now) _ =
    coming old new c.args.from c.args.to _ _ _ moving (c.args.to) (to_within old new c.args.from c.args.to _ _ _ moving) (cell_of c.deref.result.now) (g.C.CellRunner.recorded c.deref-2.result.now)
    (cell_there c.args.cells.now c.args.from c.index-cells-from.result c.deref.result.now (subst (λ n. c.args.from < n) long moving.stood) c.index-cells-from.is c.deref.ensures)
    (ap g.C.CellRunner.recorded c.deref-2.ensures ∙ record_there (λ r. g.C.CellRunner.recorded r.value) old c.args.records.now c.index-records-from.result c.args.from moving.run.records moving.stood c.index-records-from.is) in
    let come_in : IsAt old new c.args.to (c.args.to + 1) (g.C.CellRunner.change_of c.enter.new.state.change) (g.C.CellRunner.session_of c.enter.new.state.session) c.enter.new.state.since =
    c.in_ok-made.ensures.at old new c.args.from c.args.to come at in
    let frame = frame_up old new c.args.from c.args.to _ _ _ moving c.requires.up in
    let there : IsAt old new c.args.from (c.args.from + 1) (g.C.CellRunner.change_of c.sweep.new.state.change) (g.C.CellRunner.session_of c.sweep.new.state.session) c.sweep.new.state.since =
    subst (λ k. IsAt old new c.args.from k (g.C.CellRunner.change_of c.sweep.new.state.change) (g.C.CellRunner.session_of c.sweep.new.state.session) c.sweep.new.state.since) (up_place c.args.from c.args.to c.requires.up)
    (c.in_ok-sweep.ensures.at old new (c.args.to + 1) frame come_in) in
    let place : IsPlace old new c.args.from (c.args.from + 1) = place_at old new c.args.from c.args.to _ _ _ moving c.args.from (c.args.from + 1) (from_within old new c.args.from c.args.to _ _ _ moving) (from_next old new c.args.from c.args.to _ _ _ moving) in
    let left = c.in_ok-leave.ensures.at old new (c.args.from + 1) moving.run place there in
    let rest = frame_rest old new c.args.from c.args.to _ _ _ moving (c.args.from + 1) (length c.args.cells.now) (below_next c.args.from) (below_more c.args.to c.args.from c.requires.up) (next_within c.args.from (length c.args.cells.now) c.requires.from) (sym long) in
    let first : AreChanged old new c.args.to (c.args.to + 1) c.args.from (map (λ c'. change_at c'.place (g.C.CellRunner.recorded c'.record.value)) c.sweep.new.state.changed.items) =
    c.in_ok-sweep.ensures.changed old new (c.args.to + 1) c.args.to (c.args.to + 1) frame come_in (omega arith) (same_place c.args.to (c.args.to + 1))
    (subst (λ xs. AreChanged old new c.args.to (c.args.to + 1) c.args.to (map (λ c'. change_at c'.place (g.C.CellRunner.recorded c'.record.value)) xs)) (sym (c.in_ok-made.ensures.changed ∙ c.requires.changed)) (changed_none old new c.args.to (c.args.to + 1))) in
    let second : AreChanged old new (c.args.from + 1) (c.args.from + 1) (length c.args.cells.now) (map (λ c'. change_at c'.place (g.C.CellRunner.recorded c'.record.value)) c.sweep-2.new.state.changed.items) =
    c.in_ok-sweep-2.ensures.changed old new (c.args.from + 1) (c.args.from + 1) (c.args.from + 1) rest left (omega arith) (same_place (c.args.from + 1) (c.args.from + 1))
    (subst (λ xs. AreChanged old new (c.args.from + 1) (c.args.from + 1) (c.args.from + 1) (map (λ c'. change_at c'.place (g.C.CellRunner.recorded c'.record.value)) xs)) (sym (c.in_ok-leave.ensures.changed ∙ ap (λ v. v.items) (c.swap.ensures.y_after ∙ c.keep_made.ensures.between) ∙ c.requires.between)) (changed_none old new (c.args.from + 1) (c.args.from + 1))) in
    record {
      moved = moved_up old new c.args.from c.args.to _ _ _ moving (map (λ c'. change_at c'.place (g.C.CellRunner.recorded c'.record.value)) c.swap.new.x.items) (map (λ c'. change_at c'.place (g.C.CellRunner.recorded c'.record.value)) c.swap-2.new.x.items) c.requires.up
          (subst (λ v. AreChanged old new c.args.to (c.args.to + 1) c.args.from (map (λ c'. change_at c'.place (g.C.CellRunner.recorded c'.record.value)) v.items)) (sym c.swap.ensures.x_after) first)
          (subst (λ n. AreChanged old new (c.args.from + 1) (c.args.from + 1) n (map (λ c'. change_at c'.place (g.C.CellRunner.recorded c'.record.value)) c.swap-2.new.x.items)) (sym long) (subst (λ v. AreChanged old new (c.args.from + 1) (c.args.from + 1) (length c.args.cells.now) (map (λ c'. change_at c'.place (g.C.CellRunner.recorded c'.record.value)) v.items)) (sym c.swap-2.ensures.x_after) second));
      made = subst (λ o. MatchOption o (record_at old.world (entry_at old c.args.from) ≡ record_at new.world (entry_at new c.args.to)) (λ n. g.C.CellRunner.recorded n.record.value ≡ record_at new.world (entry_at new c.args.to))) (sym c.keep_made.ensures.made)
          (made_there (λ n. g.C.CellRunner.recorded n.record.value) c.in_ok-made.made (g.C.CellRunner.recorded c.deref-2.result.now) (record_at old.world (entry_at old c.args.from)) (record_at new.world (entry_at new c.args.to)) come.made
          (c.in_ok-made.ensures.made old new c.args.from c.args.to come at));
      stale = subst (λ o. MatchOption o (¬ IsStale old new (entry_at new c.args.to)) (λ _. IsStale old new (entry_at new c.args.to))) (sym c.keep_made.ensures.made) (c.in_ok-made.ensures.stale old new c.args.from c.args.to come at);
      worded = subst (λ o. IfSome o (λ n. IsWordOf g.C.CellRunner.covers n.word (g.C.CellRunner.recorded n.record.value))) (sym c.keep_made.ensures.made) c.in_ok-made.ensures.worded;
      fit_between = subst (λ v. AreFit g.C.CellRunner.covers (length c.args.cells.now) (map (λ c'. fit_at c'.place (g.C.CellRunner.recorded c'.record.value) c'.word) v.items)) (sym c.swap.ensures.x_after)
          (c.in_ok-sweep.ensures.fit (length c.args.cells.now) (omega (arith, c.requires.from))
          (subst (λ xs. AreFit g.C.CellRunner.covers (length c.args.cells.now) (map (λ c'. fit_at c'.place (g.C.CellRunner.recorded c'.record.value) c'.word) xs)) (sym (c.in_ok-made.ensures.changed ∙ c.requires.changed)) tt));
      fit_behind = subst (λ v. AreFit g.C.CellRunner.covers (length c.args.cells.now) (map (λ c'. fit_at c'.place (g.C.CellRunner.recorded c'.record.value) c'.word) v.items)) (sym c.swap-2.ensures.x_after)
          (c.in_ok-sweep-2.ensures.fit (length c.args.cells.now) (omega arith)
          (subst (λ xs. AreFit g.C.CellRunner.covers (length c.args.cells.now) (map (λ c'. fit_at c'.place (g.C.CellRunner.recorded c'.record.value) c'.word) xs)) (sym (c.in_ok-leave.ensures.changed ∙ ap (λ v. v.items) (c.swap.ensures.y_after ∙ c.keep_made.ensures.between) ∙ c.requires.between)) tt));
    }

pub returns-clause-noted : goal.returns-clause-noted
returns-clause-noted g c = λ old new moving at.
    let long : length old.cells ≡ length c.args.cells.now = ap length moving.cells ∙ length-map c.args.cells.now (λ s. cell_of s.value) in
    let come : IsComing old new c.args.from (c.args.to) c.args.to _ (cell_of c.deref.result.now) (g.C.CellRunner.recorded c.deref-2.result.now) _ =
    coming old new c.args.from c.args.to _ _ _ moving (c.args.to) (to_within old new c.args.from c.args.to _ _ _ moving) (cell_of c.deref.result.now) (g.C.CellRunner.recorded c.deref-2.result.now)
    (cell_there c.args.cells.now c.args.from c.index-cells-from.result c.deref.result.now (subst (λ n. c.args.from < n) long moving.stood) c.index-cells-from.is c.deref.ensures)
    (ap g.C.CellRunner.recorded c.deref-2.ensures ∙ record_there (λ r. g.C.CellRunner.recorded r.value) old c.args.records.now c.index-records-from.result c.args.from moving.run.records moving.stood c.index-records-from.is) in
    let come_in : IsAt old new c.args.to (c.args.to + 1) (g.C.CellRunner.change_of c.enter.new.state.change) (g.C.CellRunner.session_of c.enter.new.state.session) c.enter.new.state.since =
    c.in_ok-made.ensures.at old new c.args.from c.args.to come at in
    let frame = frame_up old new c.args.from c.args.to _ _ _ moving c.requires.up in
    let there : IsAt old new c.args.from (c.args.from + 1) (g.C.CellRunner.change_of c.sweep.new.state.change) (g.C.CellRunner.session_of c.sweep.new.state.session) c.sweep.new.state.since =
    subst (λ k. IsAt old new c.args.from k (g.C.CellRunner.change_of c.sweep.new.state.change) (g.C.CellRunner.session_of c.sweep.new.state.session) c.sweep.new.state.since) (up_place c.args.from c.args.to c.requires.up)
    (c.in_ok-sweep.ensures.at old new (c.args.to + 1) frame come_in) in
    let place : IsPlace old new c.args.from (c.args.from + 1) = place_at old new c.args.from c.args.to _ _ _ moving c.args.from (c.args.from + 1) (from_within old new c.args.from c.args.to _ _ _ moving) (from_next old new c.args.from c.args.to _ _ _ moving) in
    let left = c.in_ok-leave.ensures.at old new (c.args.from + 1) moving.run place there in
    let rest = frame_rest old new c.args.from c.args.to _ _ _ moving (c.args.from + 1) (length c.args.cells.now) (below_next c.args.from) (below_more c.args.to c.args.from c.requires.up) (next_within c.args.from (length c.args.cells.now) c.requires.from) (sym long) in
    c.in_ok-sweep-2.ensures.noted old new rest left (c.in_ok-sweep.ensures.noted old new frame come_in (All-none (λ n. IsNoted g.C.CellRunner.change_of g.C.CellRunner.kept_session old new n.place n.now n.memo) c.keep_made.new.self.noted.items (ap (λ v. v.items) c.keep_made.ensures.noted ∙ c.requires.noted)))

pub bounds-cells-from : goal.bounds-cells-from
bounds-cells-from g c = grind (arith, common_steps)

pub bounds-records-from : goal.bounds-records-from
bounds-records-from g c = grind (arith, common_steps)

pub enter-requires-clause-within : goal.enter-requires-clause-within
enter-requires-clause-within g c = grind (arith, common_steps)

pub leave-requires-clause-fits : goal.leave-requires-clause-fits
leave-requires-clause-fits g c = grind (arith, common_steps)

pub leave-requires-clause-record : goal.leave-requires-clause-record
leave-requires-clause-record g c = grind (arith, common_steps)

pub offset_bounds-cells-from : goal.offset_bounds-cells-from
offset_bounds-cells-from g c = grind (arith, common_steps)

pub offset_bounds-records-from : goal.offset_bounds-records-from
offset_bounds-records-from g c = grind (arith, common_steps)

pub overflow_add-from : goal.overflow_add-from
overflow_add-from g c = grind (arith, common_steps)

pub overflow_add-from-2 : goal.overflow_add-from-2
overflow_add-from-2 g c = grind (arith, common_steps)

pub overflow_add-to : goal.overflow_add-to
overflow_add-to g c = grind (arith, common_steps)

pub sweep-requires-2-clause-cells : goal.sweep-requires-2-clause-cells
sweep-requires-2-clause-cells g c = grind (arith, common_steps)

pub sweep-requires-2-clause-covered : goal.sweep-requires-2-clause-covered
sweep-requires-2-clause-covered g c = c.in_ok-leave.ensures.covered

pub sweep-requires-2-clause-fits : goal.sweep-requires-2-clause-fits
sweep-requires-2-clause-fits g c = grind (arith, common_steps)

pub sweep-requires-2-clause-kept : goal.sweep-requires-2-clause-kept
sweep-requires-2-clause-kept g c = c.requires.kept

pub sweep-requires-2-clause-order : goal.sweep-requires-2-clause-order
sweep-requires-2-clause-order g c = grind (arith, common_steps)

pub sweep-requires-2-clause-places : goal.sweep-requires-2-clause-places
sweep-requires-2-clause-places g c = grind (arith, common_steps)

pub sweep-requires-2-clause-records : goal.sweep-requires-2-clause-records
sweep-requires-2-clause-records g c = grind (arith, common_steps)

pub sweep-requires-2-clause-words : goal.sweep-requires-2-clause-words
sweep-requires-2-clause-words g c = c.requires.words

pub sweep-requires-clause-cells : goal.sweep-requires-clause-cells
sweep-requires-clause-cells g c = grind (arith, common_steps)

pub sweep-requires-clause-covered : goal.sweep-requires-clause-covered
sweep-requires-clause-covered g c = c.in_ok-made.ensures.covered

pub sweep-requires-clause-fits : goal.sweep-requires-clause-fits
sweep-requires-clause-fits g c = grind (arith, common_steps)

pub sweep-requires-clause-kept : goal.sweep-requires-clause-kept
sweep-requires-clause-kept g c = c.requires.kept

pub sweep-requires-clause-order : goal.sweep-requires-clause-order
sweep-requires-clause-order g c = grind (arith, common_steps)

pub sweep-requires-clause-places : goal.sweep-requires-clause-places
sweep-requires-clause-places g c = grind (arith, common_steps)

pub sweep-requires-clause-records : goal.sweep-requires-clause-records
sweep-requires-clause-records g c = grind (arith, common_steps)

pub sweep-requires-clause-words : goal.sweep-requires-clause-words
sweep-requires-clause-words g c = c.requires.words

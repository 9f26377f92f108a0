use Rattle.std.specs.Prelude.{MatchOption}
use Rattle.nd_change.specs.Steps.{IsWordOf}
use Rattle.nd_model.specs.Book.Stale.{IsStale}
use Rattle.std.specs.List.{All}
use Rattle.std.proofs.Common.{◌≡◌, ◌<◌, IfSome, ◌+◌, length, map, sym, ap, subst, ◌∙◌, arith}
use Rattle.std.proofs.lemmas.Grind.{common_steps}
use Rattle.std.proofs.lemmas.List.{length-map}
use Rattle.nd_model.specs.Book.Book.{Book}
use Rattle.nd_model.specs.Book.Entries.{entry_at, record_at}
use Rattle.nd_schedule.specs.Cells.Source.{cell_of}
use Rattle.nd_schedule.specs.Schedule.Sweep.{AreChanged, AreFit, CountsFront, IsAt, IsComing, IsPlace, change_at, fit_at}
use Rattle.nd_schedule.specs.Schedule.Snapshot.{IsNoted}
use Rattle.nd_schedule.proofs.schedule.Standing.{All-none}
use Rattle.nd_schedule.proofs.schedule.Sweeping.{changed_none, counts_stale, none_yet, record_there}
use Rattle.nd_schedule.proofs.schedule.Turning.{below_more, below_next, from_within, next_within, to_next, coming, down_place, frame_down, frame_rest, made_there, moved_down, place_at, same_place}
use Rattle.nd_schedule.proofs.schedule.Visiting.{cell_there}
use Rattle.nd_schedule.proofs.schedule.moving.move_down.Goals as goal

pub sweep-requires-clause-at : goal.sweep-requires-clause-at
sweep-requires-clause-at g c =
    let old : Book = c.requires.at.0 in
    let new : Book = c.requires.at.1 in
    let moving = c.requires.at.2 in
    let at = c.requires.at.3 in
    let place : IsPlace old new c.args.from c.args.from = place_at old new c.args.from c.args.to _ _ _ moving c.args.from c.args.from (from_within old new c.args.from c.args.to _ _ _ moving) (from_within old new c.args.from c.args.to _ _ _ moving) in
    let left : IsAt old new (c.args.from + 1) c.args.from (g.C.CellRunner.change_of c.leave.new.state.change) (g.C.CellRunner.session_of c.leave.new.state.session) c.leave.new.state.since =
    c.in_ok-leave.ensures.at old new c.args.from moving.run place at in
    let frame = frame_down old new c.args.from c.args.to _ _ _ moving c.requires.down in
    (old, new, c.args.from, frame, left)

pub returns-in_err-sweep-clause-counts : goal.returns-in_err-sweep-clause-counts
returns-in_err-sweep-clause-counts g c = λ old new moving at.
    let place : IsPlace old new c.args.from c.args.from = place_at old new c.args.from c.args.to _ _ _ moving c.args.from c.args.from (from_within old new c.args.from c.args.to _ _ _ moving) (from_within old new c.args.from c.args.to _ _ _ moving) in
    let left : IsAt old new (c.args.from + 1) c.args.from (g.C.CellRunner.change_of c.leave.new.state.change) (g.C.CellRunner.session_of c.leave.new.state.session) c.leave.new.state.since =
    c.in_ok-leave.ensures.at old new c.args.from moving.run place at in
    let frame = frame_down old new c.args.from c.args.to _ _ _ moving c.requires.down in
    c.sweep.ensures.counts old new c.args.from _ frame left (none_yet old new c.args.from _)

pub enter-requires-clause-at : goal.enter-requires-clause-at
enter-requires-clause-at g c =
    let old : Book = c.requires.at.0 in
    let new : Book = c.requires.at.1 in
    let moving = c.requires.at.2 in
    let at = c.requires.at.3 in
    let long : length old.cells ≡ length c.args.cells.now = ap length moving.cells ∙ length-map c.args.cells.now (λ s. cell_of s.value) in
    let place : IsPlace old new c.args.from c.args.from = place_at old new c.args.from c.args.to _ _ _ moving c.args.from c.args.from (from_within old new c.args.from c.args.to _ _ _ moving) (from_within old new c.args.from c.args.to _ _ _ moving) in
    let left : IsAt old new (c.args.from + 1) c.args.from (g.C.CellRunner.change_of c.leave.new.state.change) (g.C.CellRunner.session_of c.leave.new.state.session) c.leave.new.state.since =
    c.in_ok-leave.ensures.at old new c.args.from moving.run place at in
    let frame = frame_down old new c.args.from c.args.to _ _ _ moving c.requires.down in
    let there : IsAt old new (c.args.to + 1) c.args.to (g.C.CellRunner.change_of c.sweep.new.state.change) (g.C.CellRunner.session_of c.sweep.new.state.session) c.sweep.new.state.since =
    subst (λ k. IsAt old new (c.args.to + 1) k (g.C.CellRunner.change_of c.sweep.new.state.change) (g.C.CellRunner.session_of c.sweep.new.state.session) c.sweep.new.state.since) (down_place c.args.from c.args.to c.requires.down)
    (c.in_ok-sweep.ensures.at old new c.args.from frame left) in
    let come : IsComing old new c.args.from (c.args.to + 1) c.args.to _ (cell_of c.deref.result.now) (g.C.CellRunner.recorded c.deref-2.result.now) _ =
    coming old new c.args.from c.args.to _ _ _ moving (c.args.to + 1) (to_next old new c.args.from c.args.to _ _ _ moving) (cell_of c.deref.result.now) (g.C.CellRunner.recorded c.deref-2.result.now)
    (cell_there c.args.cells.now c.args.from c.index-cells-from.result c.deref.result.now (subst (λ n. c.args.from < n) long moving.stood) c.index-cells-from.is c.deref.ensures)
    (ap g.C.CellRunner.recorded c.deref-2.ensures ∙ record_there (λ r. g.C.CellRunner.recorded r.value) old c.args.records.now c.index-records-from.result c.args.from moving.run.records moving.stood c.index-records-from.is) in
    (old, new, c.args.from, c.args.to, come, there)

pub returns-in_err-made-clause-counts : goal.returns-in_err-made-clause-counts
returns-in_err-made-clause-counts g c = λ old new moving at.
    let long : length old.cells ≡ length c.args.cells.now = ap length moving.cells ∙ length-map c.args.cells.now (λ s. cell_of s.value) in
    let place : IsPlace old new c.args.from c.args.from = place_at old new c.args.from c.args.to _ _ _ moving c.args.from c.args.from (from_within old new c.args.from c.args.to _ _ _ moving) (from_within old new c.args.from c.args.to _ _ _ moving) in
    let left : IsAt old new (c.args.from + 1) c.args.from (g.C.CellRunner.change_of c.leave.new.state.change) (g.C.CellRunner.session_of c.leave.new.state.session) c.leave.new.state.since =
    c.in_ok-leave.ensures.at old new c.args.from moving.run place at in
    let frame = frame_down old new c.args.from c.args.to _ _ _ moving c.requires.down in
    let there : IsAt old new (c.args.to + 1) c.args.to (g.C.CellRunner.change_of c.sweep.new.state.change) (g.C.CellRunner.session_of c.sweep.new.state.session) c.sweep.new.state.since =
    subst (λ k. IsAt old new (c.args.to + 1) k (g.C.CellRunner.change_of c.sweep.new.state.change) (g.C.CellRunner.session_of c.sweep.new.state.session) c.sweep.new.state.since) (down_place c.args.from c.args.to c.requires.down)
    (c.in_ok-sweep.ensures.at old new c.args.from frame left) in
    let come : IsComing old new c.args.from (c.args.to + 1) c.args.to _ (cell_of c.deref.result.now) (g.C.CellRunner.recorded c.deref-2.result.now) _ =
    coming old new c.args.from c.args.to _ _ _ moving (c.args.to + 1) (to_next old new c.args.from c.args.to _ _ _ moving) (cell_of c.deref.result.now) (g.C.CellRunner.recorded c.deref-2.result.now)
    (cell_there c.args.cells.now c.args.from c.index-cells-from.result c.deref.result.now (subst (λ n. c.args.from < n) long moving.stood) c.index-cells-from.is c.deref.ensures)
    (ap g.C.CellRunner.recorded c.deref-2.ensures ∙ record_there (λ r. g.C.CellRunner.recorded r.value) old c.args.records.now c.index-records-from.result c.args.from moving.run.records moving.stood c.index-records-from.is) in
    let so_far = subst (λ k. CountsFront old new k c.args.meter.now c.sweep.new.meter) (down_place c.args.from c.args.to c.requires.down) (c.in_ok-sweep.ensures.counted old new c.args.from c.args.meter.now frame left (none_yet old new c.args.from c.args.meter.now)) in
    let with_it = c.enter.ensures.counts old new c.args.from c.args.to c.args.meter.now come there so_far in
    counts_stale old new (c.args.to + 1) _ _ with_it

pub sweep-requires-2-clause-at : goal.sweep-requires-2-clause-at
sweep-requires-2-clause-at g c =
    let old : Book = c.requires.at.0 in
    let new : Book = c.requires.at.1 in
    let moving = c.requires.at.2 in
    let at = c.requires.at.3 in
    let long : length old.cells ≡ length c.args.cells.now = ap length moving.cells ∙ length-map c.args.cells.now (λ s. cell_of s.value) in
    let place : IsPlace old new c.args.from c.args.from = place_at old new c.args.from c.args.to _ _ _ moving c.args.from c.args.from (from_within old new c.args.from c.args.to _ _ _ moving) (from_within old new c.args.from c.args.to _ _ _ moving) in
    let left : IsAt old new (c.args.from + 1) c.args.from (g.C.CellRunner.change_of c.leave.new.state.change) (g.C.CellRunner.session_of c.leave.new.state.session) c.leave.new.state.since =
    c.in_ok-leave.ensures.at old new c.args.from moving.run place at in
    let frame = frame_down old new c.args.from c.args.to _ _ _ moving c.requires.down in
    let there : IsAt old new (c.args.to + 1) c.args.to (g.C.CellRunner.change_of c.sweep.new.state.change) (g.C.CellRunner.session_of c.sweep.new.state.session) c.sweep.new.state.since =
    subst (λ k. IsAt old new (c.args.to + 1) k (g.C.CellRunner.change_of c.sweep.new.state.change) (g.C.CellRunner.session_of c.sweep.new.state.session) c.sweep.new.state.since) (down_place c.args.from c.args.to c.requires.down)
    (c.in_ok-sweep.ensures.at old new c.args.from frame left) in
    let come : IsComing old new c.args.from (c.args.to + 1) c.args.to _ (cell_of c.deref.result.now) (g.C.CellRunner.recorded c.deref-2.result.now) _ =
    coming old new c.args.from c.args.to _ _ _ moving (c.args.to + 1) (to_next old new c.args.from c.args.to _ _ _ moving) (cell_of c.deref.result.now) (g.C.CellRunner.recorded c.deref-2.result.now)
    (cell_there c.args.cells.now c.args.from c.index-cells-from.result c.deref.result.now (subst (λ n. c.args.from < n) long moving.stood) c.index-cells-from.is c.deref.ensures)
    (ap g.C.CellRunner.recorded c.deref-2.ensures ∙ record_there (λ r. g.C.CellRunner.recorded r.value) old c.args.records.now c.index-records-from.result c.args.from moving.run.records moving.stood c.index-records-from.is) in
    let come_in = c.in_ok-made.ensures.at old new c.args.from c.args.to come there in
    let rest = frame_rest old new c.args.from c.args.to _ _ _ moving (c.args.to + 1) (length c.args.cells.now) (below_more c.args.from c.args.to c.requires.down) (below_next c.args.to) (next_within c.args.to (length c.args.cells.now) c.requires.to) (sym long) in
    (old, new, c.args.to + 1, rest, come_in)

pub returns-in_err-sweep-2-clause-counts : goal.returns-in_err-sweep-2-clause-counts
returns-in_err-sweep-2-clause-counts g c = λ old new moving at.
    let long : length old.cells ≡ length c.args.cells.now = ap length moving.cells ∙ length-map c.args.cells.now (λ s. cell_of s.value) in
    let place : IsPlace old new c.args.from c.args.from = place_at old new c.args.from c.args.to _ _ _ moving c.args.from c.args.from (from_within old new c.args.from c.args.to _ _ _ moving) (from_within old new c.args.from c.args.to _ _ _ moving) in
    let left : IsAt old new (c.args.from + 1) c.args.from (g.C.CellRunner.change_of c.leave.new.state.change) (g.C.CellRunner.session_of c.leave.new.state.session) c.leave.new.state.since =
    c.in_ok-leave.ensures.at old new c.args.from moving.run place at in
    let frame = frame_down old new c.args.from c.args.to _ _ _ moving c.requires.down in
    let there : IsAt old new (c.args.to + 1) c.args.to (g.C.CellRunner.change_of c.sweep.new.state.change) (g.C.CellRunner.session_of c.sweep.new.state.session) c.sweep.new.state.since =
    subst (λ k. IsAt old new (c.args.to + 1) k (g.C.CellRunner.change_of c.sweep.new.state.change) (g.C.CellRunner.session_of c.sweep.new.state.session) c.sweep.new.state.since) (down_place c.args.from c.args.to c.requires.down)
    (c.in_ok-sweep.ensures.at old new c.args.from frame left) in
    let come : IsComing old new c.args.from (c.args.to + 1) c.args.to _ (cell_of c.deref.result.now) (g.C.CellRunner.recorded c.deref-2.result.now) _ =
    coming old new c.args.from c.args.to _ _ _ moving (c.args.to + 1) (to_next old new c.args.from c.args.to _ _ _ moving) (cell_of c.deref.result.now) (g.C.CellRunner.recorded c.deref-2.result.now)
    (cell_there c.args.cells.now c.args.from c.index-cells-from.result c.deref.result.now (subst (λ n. c.args.from < n) long moving.stood) c.index-cells-from.is c.deref.ensures)
    (ap g.C.CellRunner.recorded c.deref-2.ensures ∙ record_there (λ r. g.C.CellRunner.recorded r.value) old c.args.records.now c.index-records-from.result c.args.from moving.run.records moving.stood c.index-records-from.is) in
    let come_in = c.in_ok-made.ensures.at old new c.args.from c.args.to come there in
    let rest = frame_rest old new c.args.from c.args.to _ _ _ moving (c.args.to + 1) (length c.args.cells.now) (below_more c.args.from c.args.to c.requires.down) (below_next c.args.to) (next_within c.args.to (length c.args.cells.now) c.requires.to) (sym long) in
    let so_far = subst (λ k. CountsFront old new k c.args.meter.now c.sweep.new.meter) (down_place c.args.from c.args.to c.requires.down) (c.in_ok-sweep.ensures.counted old new c.args.from c.args.meter.now frame left (none_yet old new c.args.from c.args.meter.now)) in
    let with_it = c.enter.ensures.counts old new c.args.from c.args.to c.args.meter.now come there so_far in
    c.sweep-2.ensures.counts old new (c.args.to + 1) _ rest come_in with_it

pub returns-clause-counts : goal.returns-clause-counts
returns-clause-counts g c = λ old new moving at.
    let long : length old.cells ≡ length c.args.cells.now = ap length moving.cells ∙ length-map c.args.cells.now (λ s. cell_of s.value) in
    let place : IsPlace old new c.args.from c.args.from = place_at old new c.args.from c.args.to _ _ _ moving c.args.from c.args.from (from_within old new c.args.from c.args.to _ _ _ moving) (from_within old new c.args.from c.args.to _ _ _ moving) in
    let left : IsAt old new (c.args.from + 1) c.args.from (g.C.CellRunner.change_of c.leave.new.state.change) (g.C.CellRunner.session_of c.leave.new.state.session) c.leave.new.state.since =
    c.in_ok-leave.ensures.at old new c.args.from moving.run place at in
    let frame = frame_down old new c.args.from c.args.to _ _ _ moving c.requires.down in
    let there : IsAt old new (c.args.to + 1) c.args.to (g.C.CellRunner.change_of c.sweep.new.state.change) (g.C.CellRunner.session_of c.sweep.new.state.session) c.sweep.new.state.since =
    subst (λ k. IsAt old new (c.args.to + 1) k (g.C.CellRunner.change_of c.sweep.new.state.change) (g.C.CellRunner.session_of c.sweep.new.state.session) c.sweep.new.state.since) (down_place c.args.from c.args.to c.requires.down)
    (c.in_ok-sweep.ensures.at old new c.args.from frame left) in
    let come : IsComing old new c.args.from (c.args.to + 1) c.args.to _ (cell_of c.deref.result.now) (g.C.CellRunner.recorded c.deref-2.result.now) _ =
    coming old new c.args.from c.args.to _ _ _ moving (c.args.to + 1) (to_next old new c.args.from c.args.to _ _ _ moving) (cell_of c.deref.result.now) (g.C.CellRunner.recorded c.deref-2.result.now)
    (cell_there c.args.cells.now c.args.from c.index-cells-from.result c.deref.result.now (subst (λ n. c.args.from < n) long moving.stood) c.index-cells-from.is c.deref.ensures)
    (ap g.C.CellRunner.recorded c.deref-2.ensures ∙ record_there (λ r. g.C.CellRunner.recorded r.value) old c.args.records.now c.index-records-from.result c.args.from moving.run.records moving.stood c.index-records-from.is) in
    let come_in = c.in_ok-made.ensures.at old new c.args.from c.args.to come there in
    let rest = frame_rest old new c.args.from c.args.to _ _ _ moving (c.args.to + 1) (length c.args.cells.now) (below_more c.args.from c.args.to c.requires.down) (below_next c.args.to) (next_within c.args.to (length c.args.cells.now) c.requires.to) (sym long) in
    let so_far = subst (λ k. CountsFront old new k c.args.meter.now c.sweep.new.meter) (down_place c.args.from c.args.to c.requires.down) (c.in_ok-sweep.ensures.counted old new c.args.from c.args.meter.now frame left (none_yet old new c.args.from c.args.meter.now)) in
    let with_it = c.enter.ensures.counts old new c.args.from c.args.to c.args.meter.now come there so_far in
    c.sweep-2.ensures.counts old new (c.args.to + 1) _ rest come_in with_it

pub returns-clause-gathered : goal.returns-clause-gathered
returns-clause-gathered g c = λ old new moving at.
    let long : length old.cells ≡ length c.args.cells.now = ap length moving.cells ∙ length-map c.args.cells.now (λ s. cell_of s.value) in
    let place : IsPlace old new c.args.from c.args.from = place_at old new c.args.from c.args.to _ _ _ moving c.args.from c.args.from (from_within old new c.args.from c.args.to _ _ _ moving) (from_within old new c.args.from c.args.to _ _ _ moving) in
    let left : IsAt old new (c.args.from + 1) c.args.from (g.C.CellRunner.change_of c.leave.new.state.change) (g.C.CellRunner.session_of c.leave.new.state.session) c.leave.new.state.since =
    c.in_ok-leave.ensures.at old new c.args.from moving.run place at in
    let frame = frame_down old new c.args.from c.args.to _ _ _ moving c.requires.down in
    let there : IsAt old new (c.args.to + 1) c.args.to (g.C.CellRunner.change_of c.sweep.new.state.change) (g.C.CellRunner.session_of c.sweep.new.state.session) c.sweep.new.state.since =
    subst (λ k. IsAt old new (c.args.to + 1) k (g.C.CellRunner.change_of c.sweep.new.state.change) (g.C.CellRunner.session_of c.sweep.new.state.session) c.sweep.new.state.since) (down_place c.args.from c.args.to c.requires.down)
    (c.in_ok-sweep.ensures.at old new c.args.from frame left) in
    let come : IsComing old new c.args.from (c.args.to + 1) c.args.to _ (cell_of c.deref.result.now) (g.C.CellRunner.recorded c.deref-2.result.now) _ =
    coming old new c.args.from c.args.to _ _ _ moving (c.args.to + 1) (to_next old new c.args.from c.args.to _ _ _ moving) (cell_of c.deref.result.now) (g.C.CellRunner.recorded c.deref-2.result.now)
    (cell_there c.args.cells.now c.args.from c.index-cells-from.result c.deref.result.now (subst (λ n. c.args.from < n) long moving.stood) c.index-cells-from.is c.deref.ensures)
    (ap g.C.CellRunner.recorded c.deref-2.ensures ∙ record_there (λ r. g.C.CellRunner.recorded r.value) old c.args.records.now c.index-records-from.result c.args.from moving.run.records moving.stood c.index-records-from.is) in
    let come_in = c.in_ok-made.ensures.at old new c.args.from c.args.to come there in
    let rest = frame_rest old new c.args.from c.args.to _ _ _ moving (c.args.to + 1) (length c.args.cells.now) (below_more c.args.from c.args.to c.requires.down) (below_next c.args.to) (next_within c.args.to (length c.args.cells.now) c.requires.to) (sym long) in
    let first : AreChanged old new (c.args.from + 1) c.args.from (c.args.to + 1) (map (λ c'. change_at c'.place (g.C.CellRunner.recorded c'.record.value)) c.sweep.new.state.changed.items) =
    c.in_ok-sweep.ensures.changed old new c.args.from (c.args.from + 1) c.args.from frame left (omega arith) (same_place (c.args.from + 1) c.args.from)
    (subst (λ xs. AreChanged old new (c.args.from + 1) c.args.from (c.args.from + 1) (map (λ c'. change_at c'.place (g.C.CellRunner.recorded c'.record.value)) xs)) (sym (c.in_ok-leave.ensures.changed ∙ c.requires.changed)) (changed_none old new (c.args.from + 1) c.args.from)) in
    let second : AreChanged old new (c.args.to + 1) (c.args.to + 1) (length c.args.cells.now) (map (λ c'. change_at c'.place (g.C.CellRunner.recorded c'.record.value)) c.sweep-2.new.state.changed.items) =
    c.in_ok-sweep-2.ensures.changed old new (c.args.to + 1) (c.args.to + 1) (c.args.to + 1) rest come_in (omega arith) (same_place (c.args.to + 1) (c.args.to + 1))
    (subst (λ xs. AreChanged old new (c.args.to + 1) (c.args.to + 1) (c.args.to + 1) (map (λ c'. change_at c'.place (g.C.CellRunner.recorded c'.record.value)) xs)) (sym (c.in_ok-made.ensures.changed ∙ ap (λ v. v.items) c.swap.ensures.y_after ∙ c.requires.between)) (changed_none old new (c.args.to + 1) (c.args.to + 1))) in
    record {
      moved = moved_down old new c.args.from c.args.to _ _ _ moving (map (λ c'. change_at c'.place (g.C.CellRunner.recorded c'.record.value)) c.keep_made.new.self.between.items) (map (λ c'. change_at c'.place (g.C.CellRunner.recorded c'.record.value)) c.swap-2.new.x.items) c.requires.down
          (subst (λ v. AreChanged old new (c.args.from + 1) c.args.from (c.args.to + 1) (map (λ c'. change_at c'.place (g.C.CellRunner.recorded c'.record.value)) v.items)) (sym (c.keep_made.ensures.between ∙ c.swap.ensures.x_after)) first)
          (subst (λ n. AreChanged old new (c.args.to + 1) (c.args.to + 1) n (map (λ c'. change_at c'.place (g.C.CellRunner.recorded c'.record.value)) c.swap-2.new.x.items)) (sym long) (subst (λ v. AreChanged old new (c.args.to + 1) (c.args.to + 1) (length c.args.cells.now) (map (λ c'. change_at c'.place (g.C.CellRunner.recorded c'.record.value)) v.items)) (sym c.swap-2.ensures.x_after) second));
      made = subst (λ o. MatchOption o (record_at old.world (entry_at old c.args.from) ≡ record_at new.world (entry_at new c.args.to)) (λ n. g.C.CellRunner.recorded n.record.value ≡ record_at new.world (entry_at new c.args.to))) (sym c.keep_made.ensures.made)
          (made_there (λ n. g.C.CellRunner.recorded n.record.value) c.in_ok-made.made (g.C.CellRunner.recorded c.deref-2.result.now) (record_at old.world (entry_at old c.args.from)) (record_at new.world (entry_at new c.args.to)) come.made
          (c.in_ok-made.ensures.made old new c.args.from c.args.to come there));
      stale = subst (λ o. MatchOption o (¬ IsStale old new (entry_at new c.args.to)) (λ _. IsStale old new (entry_at new c.args.to))) (sym c.keep_made.ensures.made) (c.in_ok-made.ensures.stale old new c.args.from c.args.to come there);
      worded = subst (λ o. IfSome o (λ n. IsWordOf g.C.CellRunner.covers n.word (g.C.CellRunner.recorded n.record.value))) (sym c.keep_made.ensures.made) c.in_ok-made.ensures.worded;
      fit_between = subst (λ v. AreFit g.C.CellRunner.covers (length c.args.cells.now) (map (λ c'. fit_at c'.place (g.C.CellRunner.recorded c'.record.value) c'.word) v.items)) (sym (c.keep_made.ensures.between ∙ c.swap.ensures.x_after))
          (c.in_ok-sweep.ensures.fit (length c.args.cells.now) (omega (arith, c.requires.to))
          (subst (λ xs. AreFit g.C.CellRunner.covers (length c.args.cells.now) (map (λ c'. fit_at c'.place (g.C.CellRunner.recorded c'.record.value) c'.word) xs)) (sym (c.in_ok-leave.ensures.changed ∙ c.requires.changed)) tt));
      fit_behind = subst (λ v. AreFit g.C.CellRunner.covers (length c.args.cells.now) (map (λ c'. fit_at c'.place (g.C.CellRunner.recorded c'.record.value) c'.word) v.items)) (sym c.swap-2.ensures.x_after)
          (c.in_ok-sweep-2.ensures.fit (length c.args.cells.now) (omega arith)
          (subst (λ xs. AreFit g.C.CellRunner.covers (length c.args.cells.now) (map (λ c'. fit_at c'.place (g.C.CellRunner.recorded c'.record.value) c'.word) xs)) (sym (c.in_ok-made.ensures.changed ∙ ap (λ v. v.items) c.swap.ensures.y_after ∙ c.requires.between)) tt));
    }

pub returns-clause-noted : goal.returns-clause-noted
returns-clause-noted g c = λ old new moving at.
    let long : length old.cells ≡ length c.args.cells.now = ap length moving.cells ∙ length-map c.args.cells.now (λ s. cell_of s.value) in
    let place : IsPlace old new c.args.from c.args.from = place_at old new c.args.from c.args.to _ _ _ moving c.args.from c.args.from (from_within old new c.args.from c.args.to _ _ _ moving) (from_within old new c.args.from c.args.to _ _ _ moving) in
    let left : IsAt old new (c.args.from + 1) c.args.from (g.C.CellRunner.change_of c.leave.new.state.change) (g.C.CellRunner.session_of c.leave.new.state.session) c.leave.new.state.since =
    c.in_ok-leave.ensures.at old new c.args.from moving.run place at in
    let frame = frame_down old new c.args.from c.args.to _ _ _ moving c.requires.down in
    let there : IsAt old new (c.args.to + 1) c.args.to (g.C.CellRunner.change_of c.sweep.new.state.change) (g.C.CellRunner.session_of c.sweep.new.state.session) c.sweep.new.state.since =
    subst (λ k. IsAt old new (c.args.to + 1) k (g.C.CellRunner.change_of c.sweep.new.state.change) (g.C.CellRunner.session_of c.sweep.new.state.session) c.sweep.new.state.since) (down_place c.args.from c.args.to c.requires.down)
    (c.in_ok-sweep.ensures.at old new c.args.from frame left) in
    let come : IsComing old new c.args.from (c.args.to + 1) c.args.to _ (cell_of c.deref.result.now) (g.C.CellRunner.recorded c.deref-2.result.now) _ =
    coming old new c.args.from c.args.to _ _ _ moving (c.args.to + 1) (to_next old new c.args.from c.args.to _ _ _ moving) (cell_of c.deref.result.now) (g.C.CellRunner.recorded c.deref-2.result.now)
    (cell_there c.args.cells.now c.args.from c.index-cells-from.result c.deref.result.now (subst (λ n. c.args.from < n) long moving.stood) c.index-cells-from.is c.deref.ensures)
    (ap g.C.CellRunner.recorded c.deref-2.ensures ∙ record_there (λ r. g.C.CellRunner.recorded r.value) old c.args.records.now c.index-records-from.result c.args.from moving.run.records moving.stood c.index-records-from.is) in
    let come_in = c.in_ok-made.ensures.at old new c.args.from c.args.to come there in
    let rest = frame_rest old new c.args.from c.args.to _ _ _ moving (c.args.to + 1) (length c.args.cells.now) (below_more c.args.from c.args.to c.requires.down) (below_next c.args.to) (next_within c.args.to (length c.args.cells.now) c.requires.to) (sym long) in
    c.in_ok-sweep-2.ensures.noted old new rest come_in
    (subst (λ v. All (λ n. IsNoted g.C.CellRunner.change_of g.C.CellRunner.kept_session old new n.place n.now n.memo) v.items) (sym c.keep_made.ensures.noted)
    (c.in_ok-sweep.ensures.noted old new frame left (All-none (λ n. IsNoted g.C.CellRunner.change_of g.C.CellRunner.kept_session old new n.place n.now n.memo) c.args.moved.now.noted.items c.requires.noted)))

pub leave-requires-clause-at : goal.leave-requires-clause-at
leave-requires-clause-at g c =
    let old : Book = c.requires.at.0 in
    let new : Book = c.requires.at.1 in
    (old, new, c.args.from, (c.requires.at.2).run, place_at old new c.args.from c.args.to _ _ _ c.requires.at.2 c.args.from c.args.from (omega (arith, (c.requires.at.2).stood)) (omega (arith, (c.requires.at.2).stood)), c.requires.at.3)

pub bounds-cells-from : goal.bounds-cells-from
bounds-cells-from g c = grind (arith, common_steps)

pub bounds-records-from : goal.bounds-records-from
bounds-records-from g c = grind (arith, common_steps)

pub enter-requires-clause-within : goal.enter-requires-clause-within
enter-requires-clause-within g c = grind (arith, common_steps)

pub leave-requires-clause-fits : goal.leave-requires-clause-fits
leave-requires-clause-fits g c = grind (arith, common_steps)

pub leave-requires-clause-record : goal.leave-requires-clause-record
leave-requires-clause-record g c = grind (arith, common_steps)

pub offset_bounds-cells-from : goal.offset_bounds-cells-from
offset_bounds-cells-from g c = grind (arith, common_steps)

pub offset_bounds-records-from : goal.offset_bounds-records-from
offset_bounds-records-from g c = grind (arith, common_steps)

pub overflow_add-from : goal.overflow_add-from
overflow_add-from g c = grind (arith, common_steps)

pub overflow_add-to : goal.overflow_add-to
overflow_add-to g c = grind (arith, common_steps)

pub overflow_add-to-2 : goal.overflow_add-to-2
overflow_add-to-2 g c = grind (arith, common_steps)

pub overflow_add-to-3 : goal.overflow_add-to-3
overflow_add-to-3 g c = grind (arith, common_steps)

pub overflow_add-to-4 : goal.overflow_add-to-4
overflow_add-to-4 g c = grind (arith, common_steps)

pub returns-in_err-leave-clause-counts : goal.returns-in_err-leave-clause-counts
returns-in_err-leave-clause-counts g c = λ old new moving at. counts_stale old new 0 c.args.meter.now c.args.meter.now (none_yet old new 0 c.args.meter.now)

pub sweep-requires-2-clause-cells : goal.sweep-requires-2-clause-cells
sweep-requires-2-clause-cells g c = grind (arith, common_steps)

pub sweep-requires-2-clause-covered : goal.sweep-requires-2-clause-covered
sweep-requires-2-clause-covered g c = c.in_ok-made.ensures.covered

pub sweep-requires-2-clause-fits : goal.sweep-requires-2-clause-fits
sweep-requires-2-clause-fits g c = grind (arith, common_steps)

pub sweep-requires-2-clause-kept : goal.sweep-requires-2-clause-kept
sweep-requires-2-clause-kept g c = c.requires.kept

pub sweep-requires-2-clause-order : goal.sweep-requires-2-clause-order
sweep-requires-2-clause-order g c = grind (arith, common_steps)

pub sweep-requires-2-clause-places : goal.sweep-requires-2-clause-places
sweep-requires-2-clause-places g c = grind (arith, common_steps)

pub sweep-requires-2-clause-records : goal.sweep-requires-2-clause-records
sweep-requires-2-clause-records g c = grind (arith, common_steps)

pub sweep-requires-2-clause-words : goal.sweep-requires-2-clause-words
sweep-requires-2-clause-words g c = c.requires.words

pub sweep-requires-clause-cells : goal.sweep-requires-clause-cells
sweep-requires-clause-cells g c = grind (arith, common_steps)

pub sweep-requires-clause-covered : goal.sweep-requires-clause-covered
sweep-requires-clause-covered g c = c.in_ok-leave.ensures.covered

pub sweep-requires-clause-fits : goal.sweep-requires-clause-fits
sweep-requires-clause-fits g c = grind (arith, common_steps)

pub sweep-requires-clause-kept : goal.sweep-requires-clause-kept
sweep-requires-clause-kept g c = c.requires.kept

pub sweep-requires-clause-order : goal.sweep-requires-clause-order
sweep-requires-clause-order g c = grind (arith, common_steps)

pub sweep-requires-clause-places : goal.sweep-requires-clause-places
sweep-requires-clause-places g c = grind (arith, common_steps)

pub sweep-requires-clause-records : goal.sweep-requires-clause-records
sweep-requires-clause-records g c = grind (arith, common_steps)

pub sweep-requires-clause-words : goal.sweep-requires-clause-words
sweep-requires-clause-words g c = c.requires.words

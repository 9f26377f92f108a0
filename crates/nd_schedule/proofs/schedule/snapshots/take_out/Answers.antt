use Rattle.std.proofs.Common.{◌-◌, length, length-take-le, map, sym, ap, arith}
use Rattle.std.proofs.lemmas.Grind.{common_steps}
use Rattle.nd_schedule.specs.Schedule.Snapshot.{IsSnapshot}
use Rattle.nd_schedule.proofs.schedule.Standing.{All-remove, kept_lists}
use Rattle.nd_schedule.proofs.schedule.snapshots.take_out.Goals as goal

pub index-requires : goal.index-requires
index-requires g c = grind (arith, common_steps)

pub overflow_sub-last : goal.overflow_sub-last
overflow_sub-last g c = grind (arith, common_steps)

pub remove-requires : goal.remove-requires
remove-requires g c = grind (arith, common_steps)

pub returns-clause-place : goal.returns-clause-place
returns-clause-place g c = grind (arith, common_steps)

pub returns-clause-taken : goal.returns-clause-taken
returns-clause-taken g c = grind (arith, common_steps)

pub returns-then-index-at-clause-place : goal.returns-then-index-at-clause-place
returns-then-index-at-clause-place g c = grind (arith, common_steps)

pub returns-then-index-at-clause-snapshots : goal.returns-then-index-at-clause-snapshots
returns-then-index-at-clause-snapshots g c = grind (arith, common_steps)

pub returns-then-index-at-clause-taken : goal.returns-then-index-at-clause-taken
returns-then-index-at-clause-taken g c = grind (arith, common_steps)

pub returns-then-is_empty-clause-place : goal.returns-then-is_empty-clause-place
returns-then-is_empty-clause-place g c = grind (arith, common_steps)

pub returns-then-is_empty-clause-snapshots : goal.returns-then-is_empty-clause-snapshots
returns-then-is_empty-clause-snapshots g c = grind (arith, common_steps)

pub returns-then-is_empty-clause-taken : goal.returns-then-is_empty-clause-taken
returns-then-is_empty-clause-taken g c = grind (arith, common_steps)

pub returns-clause-snapshots : goal.returns-clause-snapshots
returns-clause-snapshots g c = λ b all.
    kept_lists (λ s. IsSnapshot b s.place (g.C.CellRunner.kept_session s.version) (map g.C.CellRunner.change_of s.pending.items)) (λ s. IsSnapshot b s.place (g.C.CellRunner.kept_session s.version) (map g.C.CellRunner.change_of s.pending.items)) _ _ c.remove.ensures.items (λ x one. one)
    (All-remove (λ s. IsSnapshot b s.place (g.C.CellRunner.kept_session s.version) (map g.C.CellRunner.change_of s.pending.items)) c.args.snapshots.now.items (c.len-last.result - 1) all)

pub slice_bounds-last_place-end : goal.slice_bounds-last_place-end
slice_bounds-last_place-end g c = sym (length-take-le (c.len-last.result - 1) c.deref.result.now (omega (arith, c.len-last.ensures, ap length c.deref.ensures.value)))

use Rattle.std.proofs.Common.{◌≡◌, ◌<◌, ◌≤◌, ◌+◌, length, length-set, map, get_or, set, refl, sym, ap, subst, ◌∙◌, arith}
use Rattle.std.proofs.lemmas.List.Edits.{length-swap}
use Rattle.std.proofs.lemmas.Iterator.Adapters.{YieldsList-from_vec}
use Rattle.std.proofs.lemmas.Iterator.Consumers.{YieldsList-turn}
use Rattle.nd_schedule.specs.Schedule.Snapshot.{IsNoted, IsSnapshot}
use Rattle.nd_schedule.proofs.schedule.Carrying.{Front, SameFrom, front_set, front_swap, front_taken, same_set, same_swap, taken_front, there}
use Rattle.nd_schedule.proofs.schedule.Standing.{one_of}
use Rattle.nd_schedule.proofs.schedule.snapshots.carry_noted.Goals.{then-bring_along, else-bring_along}
use Rattle.nd_schedule.proofs.schedule.snapshots.carry_noted.Goals as goal

pub loop-note-init : goal.loop-note-init
loop-note-init g c = record {
  order = omega arith;
  within = omega (arith, c.requires);
  many = refl;
  same = λ j x le. refl;
  stay = λ old new before distinct noted front olds.
      front_taken (λ s. IsSnapshot new s.place (g.C.CellRunner.kept_session s.version) (map g.C.CellRunner.change_of s.pending.items)) c.args.count c.args.snapshots.now.items c.requires front;
}

pub loop-note-preserved : goal.loop-note-preserved
loop-note-preserved g c =
    let turn : (length c.loop-note.yielded < length c.args.noted.items) × (c.in-Some.note ≡ get_or c.args.noted.items (length c.loop-note.yielded) c.in-Some.note) =
    YieldsList-turn (YieldsList-from_vec {s = c.into_iter-note-iterator.result} c.args.noted.items c.into_iter-note-iterator.ensures.into_iter_gives.0 (omega (arith, c.into_iter-note-iterator.ensures.into_iter_gives.1))) c.loop-note.yielded c.loop-note.note-iterator c.loop-note.yielded_by c.next.result c.next.new.self c.in-Some.note c.in-Some.is c.next.ensures.steps in
    let same : c.deref.result.now ≡ c.loop-note.snapshots.items = c.deref.ensures.value in
    let lt : c.in-Some-find_at.k < length c.loop-note.snapshots.items = omega (arith, c.in-Some-find_at.ensures.within, ap length same) in
    let le : c.loop-note.stay ≤ c.in-Some-find_at.k = omega (arith, c.in-Some-find_at.ensures.order, c.loop-note.invariant.order) in
    let from : SameFrom c.in-Some-find_at.k c.loop-note.snapshots.items c.args.snapshots.now.items = λ j x behind. c.loop-note.invariant.same j x (omega (arith, c.in-Some-find_at.ensures.order)) in
    elim c.if-bring_along.branch [
      | then-bring_along w ↦ record {
        order = omega (arith, w.stay-is);
        within = subst (λ v. c.in-Some-find_at.k + 1 ≤ length v.items) (sym w.snapshots-is) (omega (arith, ap length w.swap.ensures.items, length-swap (set c.loop-note.snapshots.items c.in-Some-find_at.k c.bring_along.new.snapshot) c.loop-note.stay c.in-Some-find_at.k, length-set c.loop-note.snapshots.items c.in-Some-find_at.k c.bring_along.new.snapshot));
        many = ap (λ v. length v.items) w.snapshots-is ∙ ap length w.swap.ensures.items ∙ length-swap _ c.loop-note.stay c.in-Some-find_at.k ∙ length-set c.loop-note.snapshots.items c.in-Some-find_at.k c.bring_along.new.snapshot ∙ c.loop-note.invariant.many;
        same = λ j x behind. ap (λ v. get_or v.items j x) w.snapshots-is ∙ same_swap c.loop-note.stay c.in-Some-find_at.k c.loop-note.snapshots.items _ w.swap.new.self.items c.args.snapshots.now.items c.bring_along.new.snapshot refl le w.swap.ensures.by_index from j x behind;
        stay = λ old new before distinct noted front olds.
            let is : c.in-Some.note.place ≡ c.index_mut.result.now.place = there (λ s. s.place) c.loop-note.snapshots.items c.deref.result.now c.in-Some-find_at.k c.in-Some.note.place c.index_mut.result.now same c.in-Some-find_at.ensures.within c.in-Some-find_at.ensures.place c.index_mut.ensures.value in
            subst (λ v. Front (λ s. IsSnapshot new s.place (g.C.CellRunner.kept_session s.version) (map g.C.CellRunner.change_of s.pending.items)) c.if-bring_along.stay v.items) (sym w.snapshots-is) (subst (λ m. Front (λ s. IsSnapshot new s.place (g.C.CellRunner.kept_session s.version) (map g.C.CellRunner.change_of s.pending.items)) m w.swap.new.self.items) (sym w.stay-is)
            (front_swap (λ s. IsSnapshot new s.place (g.C.CellRunner.kept_session s.version) (map g.C.CellRunner.change_of s.pending.items)) c.loop-note.stay c.in-Some-find_at.k c.loop-note.snapshots.items _ w.swap.new.self.items c.bring_along.new.snapshot refl le lt w.swap.ensures.by_index
            (c.bring_along.ensures w.if-bring_along.true old new before distinct
            (subst (λ p. IsNoted g.C.CellRunner.change_of g.C.CellRunner.kept_session old new p c.in-Some.note.now c.in-Some.note.memo) is
            (one_of (λ n. IsNoted g.C.CellRunner.change_of g.C.CellRunner.kept_session old new n.place n.now n.memo) c.args.noted.items (length c.loop-note.yielded) c.in-Some.note noted turn.0 turn.1))
            (one_of (λ s. IsSnapshot old s.place (g.C.CellRunner.kept_session s.version) (map g.C.CellRunner.change_of s.pending.items)) c.args.snapshots.now.items c.in-Some-find_at.k c.index_mut.result.now olds (omega (arith, c.loop-note.invariant.many)) (c.index_mut.ensures.value ∙ from c.in-Some-find_at.k c.index_mut.result.now (omega arith))))
            (c.loop-note.invariant.stay old new before distinct noted front olds)));
      }
      | else-bring_along w ↦ record {
        order = omega (arith, w.stay-is);
        within = subst (λ v. c.in-Some-find_at.k + 1 ≤ length v.items) (sym w.snapshots-is) (omega (arith, length-set c.loop-note.snapshots.items c.in-Some-find_at.k c.bring_along.new.snapshot));
        many = ap (λ v. length v.items) w.snapshots-is ∙ length-set c.loop-note.snapshots.items c.in-Some-find_at.k c.bring_along.new.snapshot ∙ c.loop-note.invariant.many;
        same = λ j x behind. ap (λ v. get_or v.items j x) w.snapshots-is ∙ same_set c.in-Some-find_at.k c.loop-note.snapshots.items _ c.args.snapshots.now.items c.bring_along.new.snapshot refl from j x behind;
        stay = λ old new before distinct noted front olds.
            subst (λ v. Front (λ s. IsSnapshot new s.place (g.C.CellRunner.kept_session s.version) (map g.C.CellRunner.change_of s.pending.items)) c.if-bring_along.stay v.items) (sym w.snapshots-is) (subst (λ m. Front (λ s. IsSnapshot new s.place (g.C.CellRunner.kept_session s.version) (map g.C.CellRunner.change_of s.pending.items)) m (set c.loop-note.snapshots.items c.in-Some-find_at.k c.bring_along.new.snapshot)) (sym w.stay-is)
            (front_set (λ s. IsSnapshot new s.place (g.C.CellRunner.kept_session s.version) (map g.C.CellRunner.change_of s.pending.items)) c.loop-note.stay c.in-Some-find_at.k c.loop-note.snapshots.items _ c.bring_along.new.snapshot refl le (c.loop-note.invariant.stay old new before distinct noted front olds)));
      }
    ]

pub returns : goal.returns
returns g c = λ old new before distinct noted front olds.
    taken_front (λ s. IsSnapshot new s.place (g.C.CellRunner.kept_session s.version) (map g.C.CellRunner.change_of s.pending.items)) c.loop-note.stay c.loop-note.snapshots.items _ c.truncate.ensures.items (c.loop-note.invariant.stay old new before distinct noted front olds)

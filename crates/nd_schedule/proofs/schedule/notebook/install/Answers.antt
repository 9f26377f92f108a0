use Rattle.std.proofs.Common.{◌≡◌, ◌<◌, length, get_or, length-set, refl, ◌∙◌, arith}
use Rattle.std.proofs.lemmas.Iterator.Adapters.{YieldsList-from_vec}
use Rattle.std.proofs.lemmas.Iterator.Consumers.{YieldsList-turn}
use Rattle.nd_schedule.specs.Cells.Shared.{each_of}
use Rattle.nd_change.specs.Steps.{IsWordOf}
use Rattle.nd_schedule.specs.Schedule.Sweep.{fit_at, change_at}
use Rattle.nd_schedule.proofs.schedule.Kept.{fit_there, put_one, word_one}
use Rattle.nd_schedule.proofs.schedule.notebook.install.Goals as goal

pub index_mut-requires : goal.index_mut-requires
index_mut-requires g c =
    let turn : (length c.loop-change.yielded < length c.args.changes.items) × (c.in-Some.change ≡ get_or c.args.changes.items (length c.loop-change.yielded) c.in-Some.change) =
    YieldsList-turn (YieldsList-from_vec {s = c.into_iter-change-iterator.result} c.args.changes.items c.into_iter-change-iterator.ensures.into_iter_gives.0 (omega (arith, c.into_iter-change-iterator.ensures.into_iter_gives.1))) c.loop-change.yielded c.loop-change.change-iterator c.loop-change.yielded_by c.next.result c.next.new.self c.in-Some.change c.in-Some.is c.next.ensures.steps in
    let fit : (c.in-Some.change.place < length c.args.records.now.items) × IsWordOf g.C.CellRunner.covers c.in-Some.change.word (g.C.CellRunner.recorded c.in-Some.change.record.value) =
    fit_there g.C.CellRunner.covers (λ c'. fit_at c'.place (g.C.CellRunner.recorded c'.record.value) c'.word) (length c.args.records.now.items) c.args.changes.items (length c.loop-change.yielded) c.in-Some.change c.requires.fit turn.0 turn.1 in
    omega (arith, fit.0, c.loop-change.invariant.count)

pub index_mut-requires-in-loop-change : goal.index_mut-requires-in-loop-change
index_mut-requires-in-loop-change g c =
    let turn : (length c.loop-change.yielded < length c.args.changes.items) × (c.in-Some.change ≡ get_or c.args.changes.items (length c.loop-change.yielded) c.in-Some.change) =
    YieldsList-turn (YieldsList-from_vec {s = c.into_iter-change-iterator.result} c.args.changes.items c.into_iter-change-iterator.ensures.into_iter_gives.0 (omega (arith, c.into_iter-change-iterator.ensures.into_iter_gives.1))) c.loop-change.yielded c.loop-change.change-iterator c.loop-change.yielded_by c.next.result c.next.new.self c.in-Some.change c.in-Some.is c.next.ensures.steps in
    let fit : (c.in-Some.change.place < length c.args.records.now.items) × IsWordOf g.C.CellRunner.covers c.in-Some.change.word (g.C.CellRunner.recorded c.in-Some.change.record.value) =
    fit_there g.C.CellRunner.covers (λ c'. fit_at c'.place (g.C.CellRunner.recorded c'.record.value) c'.word) (length c.args.records.now.items) c.args.changes.items (length c.loop-change.yielded) c.in-Some.change c.requires.fit turn.0 turn.1 in
    omega (arith, fit.0, c.loop-change.invariant.many, c.requires.many)

pub loop-change-preserved : goal.loop-change-preserved
loop-change-preserved g c =
    let turn : (length c.loop-change.yielded < length c.args.changes.items) × (c.in-Some.change ≡ get_or c.args.changes.items (length c.loop-change.yielded) c.in-Some.change) =
    YieldsList-turn (YieldsList-from_vec {s = c.into_iter-change-iterator.result} c.args.changes.items c.into_iter-change-iterator.ensures.into_iter_gives.0 (omega (arith, c.into_iter-change-iterator.ensures.into_iter_gives.1))) c.loop-change.yielded c.loop-change.change-iterator c.loop-change.yielded_by c.next.result c.next.new.self c.in-Some.change c.in-Some.is c.next.ensures.steps in
    let fit : (c.in-Some.change.place < length c.args.records.now.items) × IsWordOf g.C.CellRunner.covers c.in-Some.change.word (g.C.CellRunner.recorded c.in-Some.change.record.value) =
    fit_there g.C.CellRunner.covers (λ c'. fit_at c'.place (g.C.CellRunner.recorded c'.record.value) c'.word) (length c.args.records.now.items) c.args.changes.items (length c.loop-change.yielded) c.in-Some.change c.requires.fit turn.0 turn.1 in
    record {
      records = put_one (λ r. g.C.CellRunner.recorded r.value) (λ c'. change_at c'.place (g.C.CellRunner.recorded c'.record.value)) (each_of g.C.CellRunner.recorded c.args.records.now.items) c.loop-change.records.items _ c.loop-change.yielded c.in-Some.change c.in-Some.change.record c.in-Some.change.place refl refl
          (omega (arith, fit.0, c.loop-change.invariant.count)) c.loop-change.invariant.records;
      words = λ all.
          word_one g.C.CellRunner.covers (λ r. g.C.CellRunner.recorded r.value) c.loop-change.records.items _ c.loop-change.words.items _ c.in-Some.change.record c.in-Some.change.word c.in-Some.change.place refl refl (omega (arith, fit.0, c.loop-change.invariant.count))
          (omega (arith, c.requires.many, c.loop-change.invariant.count, c.loop-change.invariant.many)) fit.1 (c.loop-change.invariant.words all);
      records_room = c.loop-change.invariant.records_room;
      words_room = c.loop-change.invariant.words_room;
      count = length-set c.loop-change.records.items c.in-Some.change.place c.in-Some.change.record ∙ c.loop-change.invariant.count;
      many = length-set c.loop-change.words.items c.in-Some.change.place c.in-Some.change.word ∙ c.loop-change.invariant.many;
    }

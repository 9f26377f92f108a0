use Rattle.std.proofs.Common.{◌≡◌, ℕ, ◌<◌, List, length, map, get_or, Option, sym, ap, subst, ◌∙◌}
use Rattle.std.specs.Prelude.{MatchOption}
use Rattle.std.proofs.lemmas.List.{length-map}
use Rattle.nd_model.specs.Book.Records.{Record}
use Rattle.nd_model.specs.Book.Book.{Book}
use Rattle.nd_model.specs.Book.Entries.{entry_at, record_at, records_of}
use Rattle.nd_model.proofs.Entries.{get_or-records_of}
use Rattle.nd_schedule.specs.Cells.Shared.{each_of}
use Rattle.nd_schedule.specs.Schedule.Sweep.{AreFit, AreMoved, Changes, change_at, changed, fit_at}
use Rattle.nd_schedule.proofs.schedule.Kept.{as_many}
use Rattle.nd_schedule.proofs.schedule.Turning.{kept_turned, match_more, turned_map}
use Rattle.nd_schedule.proofs.schedule.shifting.take_moved.Goals as goal

-- the records of all other cells, once both lists of changes are in their places
module _ (old new : Book) (from to : ℕ) (es ds : Changes) (rs ss ts : List Record) (all : rs ≡ records_of old) (moved : AreMoved old new from to es ds) (first : (k : ℕ) (r : Record) → get_or ss k r ≡ changed es k (get_or rs k r))
    (second : (k : ℕ) (r : Record) → get_or ts k r ≡ changed ds k (get_or ss k r)) where
  both : (k : ℕ) (r : Record) → k < length old.cells → get_or ts k r ≡ changed ds k (changed es k (record_at old.world (entry_at old k)))
  both k r lt = second k r ∙ ap (changed ds k) (first k r ∙ ap (changed es k) (ap (λ rs. get_or rs k r) all ∙ get_or-records_of old k r lt))

  stays_put : {X : Type 0} (P : X → Type 0) (o : Option X) (r x : Record) → from < length old.cells → MatchOption o (record_at old.world (entry_at old from) ≡ x) P → MatchOption o (get_or ts from r ≡ x) P
  stays_put P o r x lt h = match_more o h (λ e. both from r lt ∙ moved.stays (record_at old.world (entry_at old from)) ∙ e) (λ n p. p)

pub install-requires-2-clause-fit : goal.install-requires-2-clause-fit
install-requires-2-clause-fit g c =
    subst (λ n. AreFit g.C.CellRunner.covers n (map (λ c'. fit_at c'.place (g.C.CellRunner.recorded c'.record.value) c'.word) c.args.moved.behind.items)) (sym c.install.ensures.count) c.requires.behind

pub returns-clause-kept : goal.returns-clause-kept
returns-clause-kept g c = λ old new cells given way moved made words.
    let rs : List Record = each_of g.C.CellRunner.recorded c.args.records.now.items in
    let ss : List Record = each_of g.C.CellRunner.recorded c.install.new.records.items in
    let ts : List Record = each_of g.C.CellRunner.recorded c.install-2.new.records.items in
    let us : List Record = each_of g.C.CellRunner.recorded c.put_made.new.records.items in
    let es : Changes = map (λ c'. change_at c'.place (g.C.CellRunner.recorded c'.record.value)) c.args.moved.between.items in
    let ds : Changes = map (λ c'. change_at c'.place (g.C.CellRunner.recorded c'.record.value)) c.args.moved.behind.items in
    let d : Record = record_at old.world (entry_at old c.args.from) in
    let x : Record = record_at new.world (entry_at new c.args.to) in
    let many : length c.args.records.now.items ≡ length old.cells = as_many (λ r. g.C.CellRunner.recorded r.value) old c.args.records.now.items way.run.records in
    let count : length c.put_made.new.records.items ≡ length c.args.records.now.items = c.put_made.ensures.count ∙ c.install-2.ensures.count ∙ c.install.ensures.count in
    let viewed : length us ≡ length c.put_made.new.records.items = length-map c.put_made.new.records.items (λ r. g.C.CellRunner.recorded r.value) in
    let as_long : length c.put_made.new.words.items ≡ length us = c.put_made.ensures.many ∙ c.install-2.ensures.many ∙ c.install.ensures.many ∙ c.requires.many ∙ sym count ∙ sym viewed in
    kept_turned g.C.CellRunner.covers old new c.args.from c.args.to _ _ _ way us es ds (viewed ∙ count ∙ many) moved
    (λ k r lt other. c.put_made.ensures.others k r other ∙ both old new c.args.from c.args.to es ds rs ss ts way.run.records moved c.install.ensures.records c.install-2.ensures.records k r lt)
    (λ r. c.put_made.ensures.there r x (stays_put old new c.args.from c.args.to es ds rs ss ts way.run.records moved c.install.ensures.records c.install-2.ensures.records (λ n. g.C.CellRunner.recorded n.record.value ≡ x) c.args.moved.made r x way.stood made))
    c.put_made.new.words.items c.move_item-2.new.list.items as_long (c.put_made.ensures.words (c.install-2.ensures.words (c.install.ensures.words words))) c.move_item-2.ensures
    (each_of g.C.CellRunner.recorded c.move_item.new.list.items)
    (turned_map (λ r. g.C.CellRunner.recorded r.value) c.put_made.new.records.items c.move_item.new.list.items c.args.from c.args.to d (subst (λ n. c.args.from < n) (sym count) c.requires.from) c.move_item.ensures)

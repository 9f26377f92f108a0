use Rattle.std.proofs.Common.{◌≡◌, ap, subst, ◌∙◌}
use Rattle.nd_model.specs.Book.Book.{fresh_label}
use Rattle.nd_model.specs.Book.Notebook.{Sheet, book_of, world_in}
use Rattle.nd_schedule.specs.Cells.Source.{cells_of}
use Rattle.nd_schedule.specs.Cells.Shared.{each_of}
use Rattle.nd_schedule.specs.Schedule.Sweep.{IsKept}
use Rattle.nd_schedule.proofs.schedule.Coming.{on_any}
use Rattle.nd_schedule.proofs.schedule.Turning.{if_ok_more}
use Rattle.nd_schedule.proofs.schedule.Tried.{none_tried, one_at_most, tried_record}
use Rattle.nd_schedule.proofs.schedule.notebook.Schedule.try_cell.Goals as goal

pub run_text-requires-clause-none : goal.run_text-requires-clause-none
run_text-requires-clause-none g c =
    let run : IsKept g.C.CellRunner.covers (book_of c.args.self.now) (each_of g.C.CellRunner.recorded c.self.inside.records.items) c.self.inside.words.items =
    subst (λ (s : Sheet). IsKept g.C.CellRunner.covers (book_of s) (each_of g.C.CellRunner.recorded c.self.inside.records.items) c.self.inside.words.items) c.self.view_is (c.self.invariant).0 in
    let fresh : c.in_ok-free.free.label ≡ fresh_label c.args.self.now.cells = c.in_ok-free.ensures.label ∙ ap fresh_label (ap cells_of c.deref.ensures.value ∙ ap (λ (s : Sheet). s.cells) c.self.view_is) in
    none_tried c.args.self.now c.args.at c.args.text.now c.requires run.run.distinct (g.C.CellRunner.session_of c.in_ok-session.session) c.in_ok-session.ensures c.in_ok-free.free.label fresh

pub returns-clause-made : goal.returns-clause-made
returns-clause-made g c =
    let run : IsKept g.C.CellRunner.covers (book_of c.args.self.now) (each_of g.C.CellRunner.recorded c.self.inside.records.items) c.self.inside.words.items =
    subst (λ (s : Sheet). IsKept g.C.CellRunner.covers (book_of s) (each_of g.C.CellRunner.recorded c.self.inside.records.items) c.self.inside.words.items) c.self.view_is (c.self.invariant).0 in
    let fresh : c.in_ok-free.free.label ≡ fresh_label c.args.self.now.cells = c.in_ok-free.ensures.label ∙ ap fresh_label (ap cells_of c.deref.ensures.value ∙ ap (λ (s : Sheet). s.cells) c.self.view_is) in
    if_ok_more c.run_text.result c.run_text.ensures.made
    (λ r made. tried_record c.args.self.now c.args.at c.args.text.now c.requires run.run.distinct (g.C.CellRunner.session_of c.in_ok-session.session) c.in_ok-session.ensures c.in_ok-free.free.label fresh (g.C.CellRunner.recorded r) _
    (ap (λ (s : Sheet). world_in s.given) c.self.view_is) made)

pub returns-clause-err_counts : goal.returns-clause-err_counts
returns-clause-err_counts g c = one_at_most c.run_text.result c.args.meter.now c.run_text.new.meter c.run_text.ensures.counted

pub returns-clause-counts : goal.returns-clause-counts
returns-clause-counts g c = on_any c.run_text.result c.run_text.ensures.counted

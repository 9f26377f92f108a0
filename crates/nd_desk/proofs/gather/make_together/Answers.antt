use Rattle.std.proofs.Common.{ap, sym, ◌∙◌, map}
use Rattle.std.specs.Prelude.{option_map}
use Rattle.nd_model.specs.Book.Notebook.{book_of}
use Rattle.nd_notebook.specs.Together.{first_refused, owned_edit_of, refused_of}
use Rattle.nd_desk.proofs.Gathered.{made_together, unmade_together}
use Rattle.nd_desk.proofs.gather.make_together.Goals as goal

pub returns-in-Ok : goal.returns-in-Ok
returns-in-Ok g c =
    let book = book_of c.args.notebook.now in
    let same = ap (λ es. first_refused 0 (map owned_edit_of es) book) c.deref.ensures.value in
    let none = sym same ∙ sym c.first_refused.ensures ∙ ap (option_map (refused_of c.deref.result.now)) c.in_default.is in
    made_together (map owned_edit_of c.args.edits.items) c.args.notebook.now c.apply_together.new.self c.args.meter.now c.apply_together.new.meter c.args.ran.now.items c.in-Ok.places.items
    _ _ none c.in-Ok.ensures.ok c.apply_together.ensures.counts c.in-Ok.ensures.ran c.push_text.ensures

pub returns-in-Err : goal.returns-in-Err
returns-in-Err g c =
    let book = book_of c.args.notebook.now in
    let same = ap (λ es. first_refused 0 (map owned_edit_of es) book) c.deref.ensures.value in
    let none = sym same ∙ sym c.first_refused.ensures ∙ ap (option_map (refused_of c.deref.result.now)) c.in_default.is in
    unmade_together (map owned_edit_of c.args.edits.items) c.args.notebook.now c.apply_together.new.self c.args.meter.now c.apply_together.new.meter c.args.ran.now.items
    _ _ none c.in-Err.ensures.err c.apply_together.ensures.counts c.push_text-in-Err.ensures

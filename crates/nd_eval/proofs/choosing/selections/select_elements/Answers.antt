use Rattle.std.proofs.Common.{sym, ap, subst, ◌∙◌}
use Rattle.nd_model.specs.Indexing.Advanced.{choose}
use Rattle.nd_model.specs.Cells.Sound.{LiesIn}
use Rattle.nd_model.specs.Arrays.View.{Geo}
use Rattle.nd_model.proofs.Gathered.{advanced_lies}
use Rattle.nd_index.specs.Advanced.Chosen.{view_at}
use Rattle.nd_index.specs.Items.Items as fancy
use Rattle.nd_eval.proofs.choosing.selections.select_elements.Goals as goal

pub returns-in-Ok-try_clone-clause-lies : goal.returns-in-Ok-try_clone-clause-lies
returns-in-Ok-try_clone-clause-lies c = λ len lies.
    let g = c.args.view.now in
    let p = c.in-Ok.places in
    let is = fancy.items_of c.in_ok-items.items.items in
    subst (λ (v : Geo). LiesIn len (view_at v p)) (sym c.in-Ok-try_clone.ensures)
    (advanced_lies is g (view_at g p) len c.in_ok-items.ensures.whole lies (ap (λ xs. choose (fancy.items_of xs) g) (sym c.deref.ensures.value) ∙ c.in-Ok.ensures.value))

use Rattle.std.proofs.Common.{◌≡◌, ap, sym, ◌∙◌, arith}
use Rattle.std.specs.Prelude.{is_none}
use Rattle.nd_model.specs.Cells.Session.{lookup}
use Rattle.nd_model.specs.Book.Notebook.{Setting, Sheet}
use Rattle.nd_notebook.proofs.Looking.{lacks_after, lacks_after_all, lacks_before, lacks_here}
use Rattle.nd_notebook.proofs.notebook.Notebook.has_input_after.Goals as goal

pub returns-in-Some : goal.returns-in-Some
returns-in-Some c =
    let name = c.args.name.now in let es = c.args.front.now in let s = c.args.self.now in
    lacks_after_all name es s ∙ c.loop-number.invariant
    ∙ lacks_here name es s c.loop-number.number c.index-front-number.result c.in-Some.has (omega arith) (omega arith) c.index-front-number.is c.in-Some.ensures

pub loop-number-preserved : goal.loop-number-preserved
loop-number-preserved c =
    c.loop-number.invariant
    ∙ lacks_before c.args.name.now c.args.front.now c.args.self.now c.loop-number.number c.index-front-number.result (omega arith) (omega arith) c.index-front-number.is
    (rw c.in_default.is at c.leaves_input.ensures)

pub returns : goal.returns
returns c =
    let name = c.args.name.now in let es = c.args.front.now in let s = c.args.self.now in
    let first : c.loop-number.number ≡ 0 = omega arith in
    let given = c.world.ensures ∙ ap (λ (t : Sheet). t.given) c.self.view_is in
    lacks_after_all name es s ∙ c.loop-number.invariant ∙ ap (lacks_after name es s) first
    ∙ ap (λ (g : Setting). is_none (lookup name g.inputs)) (sym given) ∙ c.has_input.ensures

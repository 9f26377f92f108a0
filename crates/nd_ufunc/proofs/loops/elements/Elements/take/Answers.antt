use Rattle.std.proofs.Common.{◌+◌, ◌≤◌, ◌++◌, ℕ, List, map, length, take, sym, ap, ◌∙◌}
use Rattle.std.proofs.lemmas.List.{map-append}
use Rattle.nd_model.specs.Arrays.Content.{number_at}
use Rattle.nd_model.specs.Arrays.Element.{size_of}
use Rattle.nd_view.proofs.ByRuns.{behind_run}
use Rattle.nd_ufunc.specs.Loops.ElementsLeft.{ElementsLeft}
use Rattle.nd_ufunc.proofs.loops.elements.Elements.take.Goals as goal

pub invariant_of-self : goal.invariant_of-self
invariant_of-self c =
    let e = c.self.inside in
    record {
      held = behind_run (λ p. p + size_of e.elem.kind ≤ length e.bytes.now) (take c.args.count e.walk) c.take_numbers.new.walk e.walk c.take_numbers.ensures.walk c.self.invariant.held;
      keeps = c.self.invariant.keeps;
    }

pub returns-clause-split : goal.returns-clause-split
returns-clause-split c =
    let e = c.self.inside in let read = number_at e.elem e.bytes.now in let front : List ℕ = take c.args.count e.walk in
    sym (ap (λ (l : ElementsLeft). l.numbers) c.self.view_is) ∙ ap (map read) c.take_numbers.ensures.walk ∙ map-append read front c.take_numbers.new.walk
    ∙ ap (λ l. l ++ map read c.take_numbers.new.walk) (sym c.take_numbers.ensures.numbers)

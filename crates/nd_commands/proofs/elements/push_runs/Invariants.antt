use Rattle.std.proofs.Common.{◌≡◌, ℕ, List, ◌+◌, ◌≤◌, ◌^◌, ◌++◌, length, drop}
use Rattle.std.specs.List.{All, concat, flat_map}
use Rattle.nd_model.specs.Arrays.View.{item_size}
use Rattle.nd_model.specs.Book.Script.{hex_digits}
use Rattle.nd_element.specs.Elements.{canonical_at}
use Rattle.nd_script.specs.Lines.Answers.{Pushes}
use Rattle.nd_commands.proofs.elements.push_runs.Given as goal

abbrev pub invariant-loop-number : goal.invariant-loop-number
invariant-loop-number g l = record {
  room : length l.item ≡ item_size l.view.element;
  so_far : (done : List ℕ) × Pushes (g.O.AnswerWrite.state l.fn.out) (hex_digits done) (g.O.AnswerWrite.state l.out)
      × (done ++ (flat_map (canonical_at l.view.element l.bytes) (drop l.number l.run) ++ flat_map (canonical_at l.view.element l.bytes) (concat l.runs))
      ≡ flat_map (canonical_at l.view.element l.bytes) l.view.places);
  ends : All (λ p. p + item_size l.view.element ≤ 2 ^ 64) l.run;
  rest : All (λ p. p + item_size l.view.element ≤ 2 ^ 64) (concat l.runs);
}

abbrev pub invariant-loop-run : goal.invariant-loop-run
invariant-loop-run g l = record {
  room : length l.item ≡ item_size l.view.element;
  so_far : (done : List ℕ) × Pushes (g.O.AnswerWrite.state l.fn.out) (hex_digits done) (g.O.AnswerWrite.state l.out)
      × (done ++ flat_map (canonical_at l.view.element l.bytes) (concat l.runs) ≡ flat_map (canonical_at l.view.element l.bytes) l.view.places);
  ends : All (λ p. p + item_size l.view.element ≤ 2 ^ 64) (concat l.runs);
}

abbrev pub decreases-loop-run : goal.decreases-loop-run
decreases-loop-run g l = length l.runs

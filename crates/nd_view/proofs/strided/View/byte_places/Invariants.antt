use Rattle.std.proofs.Common.{◌≡◌, ◌+◌, ◌≤◌, ◌^◌, ◌++◌, length, drop}
use Rattle.std.specs.List.{All, concat, flat_map}
use Rattle.nd_model.specs.Arrays.View.{element_places, item_size}
use Rattle.nd_view.proofs.strided.View.byte_places.Given as goal

abbrev pub invariant-loop-number : goal.invariant-loop-number
invariant-loop-number l = record {
  all : l.places.items ++ (flat_map (element_places l.self.element) (drop l.number l.run) ++ flat_map (element_places l.self.element) (concat l.runs)) ≡ flat_map (element_places l.self.element) l.self.places;
  ends : All (λ p. p + item_size l.self.element ≤ 2 ^ 64) l.run;
  rest : All (λ p. p + item_size l.self.element ≤ 2 ^ 64) (concat l.runs);
}

abbrev pub invariant-loop-run : goal.invariant-loop-run
invariant-loop-run l = record {
  all : l.places.items ++ flat_map (element_places l.self.element) (concat l.runs) ≡ flat_map (element_places l.self.element) l.self.places;
  ends : All (λ p. p + item_size l.self.element ≤ 2 ^ 64) (concat l.runs);
}

abbrev pub decreases-loop-run : goal.decreases-loop-run
decreases-loop-run l = length l.runs

use Rattle.std.proofs.Common.{rules, ap, ◌∙◌}
use Rattle.nd_ufunc.specs.Elementwise.Beside.{beside_numbers}
use Rattle.nd_ufunc.proofs.elementwise.direct.make_direct.Goals as goal

pub invariant_of-result : goal.invariant_of-result
invariant_of-result c = record {
  op = search rules;
  element = search rules;
  lies = c.requires.target;
  gapless = search rules;
  places = c.requires.places;
  fixed = c.requires.fixed;
  held = c.requires.held;
  stays = search rules;
  beside = λ block same. ap (λ n. beside_numbers c.args.beside n block) c.requires.target.count ∙ c.requires.numbers block same;
}

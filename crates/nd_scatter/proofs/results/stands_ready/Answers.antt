use Rattle.std.proofs.Common.{sym, ◌∙◌}
use Rattle.nd_scatter.proofs.results.stands_ready.Goals as goal

pub returns : goal.returns
returns c = λ test.
    let types = c.in-Some.ensures in let run = c.begins_gapless.ensures test in
    record {
      elem = c.in-Some.elem;
      target = types.0;
      source = types.1;
      number = types.2;
      shape = sym c.shape.ensures.value ∙ c.is_same_shape.ensures.0 c.if-not-is_same_shape.false ∙ c.as_slice.ensures;
      places = run.0;
      some = run.1;
      few = run.2;
    }

use Rattle.std.proofs.Common.{◌≡◌, ℕ, ◌<◌, List, take, replicate, sym, ◌∙◌, arith}
use Rattle.nd_model.specs.Arrays.Tuple.{number}
use Rattle.nd_view.specs.Indexes.{IsIndex}
use Rattle.nd_view.proofs.Steps.{front_zeros, take_zeros}
use Rattle.nd_view.proofs.ViewLoops.{all_runs}
use Rattle.nd_view.proofs.runs.Runs.new.Goals as goal

pub invariant_of-result : goal.invariant_of-result
invariant_of-result c =
    let outer : ℕ = c.args.inner.outer in let shape : List ℕ = c.args.view.now.shape in
    let front : take {A = ℕ} outer (replicate 32 0) ≡ replicate outer 0 = take_zeros outer 32 c.requires.most in
    let first : 0 < c.count.result → IsIndex (take outer shape) (replicate outer 0) × (number shape (replicate outer 0) ≡ 0)
    = λ some. front_zeros shape outer (omega (arith, some, c.count.ensures.elements)) c.requires.outer in
    record {
      inner = c.requires;
      count = c.count.ensures.value;
      elements = sym c.count.ensures.elements ∙ c.count.ensures.value;
      within = omega arith;
      index = λ some. rw front (first some).0;
      at = λ some. rw front (first some).1;
    }

pub returns-clause-places : goal.returns-clause-places
returns-clause-places c = all_runs c.args.view.now c.args.inner c.requires (sym c.count.ensures.elements ∙ c.count.ensures.value)

use Rattle.std.proofs.Common.{◌≡◌, ℕ, ℤ, ◌+◌, ◌-◌, ◌*◌, ◌++◌, List, length, sym, ap, ◌∙◌, arith, append_assoc, length-append}
use Rattle.std.proofs.lemmas.List.{length-map}
use Rattle.nd_model.specs.Arrays.Element.{Kind, size_of}
use Rattle.nd_model.specs.Making.Elementwise.{little}
use Rattle.nd_model.specs.Arrays.Tuple.{count_up}
use Rattle.nd_view.proofs.Tuples.{length-count_up}
use Rattle.nd_types.specs.Kinds.{kind_of}
use Rattle.nd_ufunc.specs.Loops.Feeds.{numbers_left}
use Rattle.nd_ufunc.specs.Loops.Results.{result_bytes}
use Rattle.nd_ufunc.specs.Loops.Sides.{number_on, numbers_on}
use Rattle.nd_ufunc.proofs.loops.Zipped.{result-append}
use Rattle.nd_ufunc.proofs.loops.chunks.fill.Goals as goal

pub loop-rest-preserved : goal.loop-rest-preserved
loop-rest-preserved g c =
    let a = c.args in let is = c.loop-rest.invariant in let n = c.min-some.result in
    let to : Kind = kind_of a.to in let f : List ℤ → List ℤ → List ℕ = result_bytes (little to) (g.O.Operation.gives to) in
    let X : List ℤ = numbers_on c.take-xs.result n in let Y : List ℤ = numbers_on c.take-ys.result n in
    let L : List ℤ = numbers_left c.take-xs.new.self in let R : List ℤ = numbers_left c.take-ys.new.self in
    let length-X : length X ≡ n = length-map (count_up 0 n) (number_on c.take-xs.result) ∙ length-count_up 0 n in
    let length-Y : length Y ≡ n = length-map (count_up 0 n) (number_on c.take-ys.result) ∙ length-count_up 0 n in
    let left : length (numbers_left c.loop-rest.left) ≡ length X + length L = ap length c.take-xs.ensures.split ∙ length-append X L in
    let right : length (numbers_left c.loop-rest.right) ≡ length Y + length R = ap length c.take-ys.ensures.split ∙ length-append Y R in
    let rest : c.loop-rest.rest ≡ n + length L = omega (arith, left, length-X, is.left) in
    let whole : c.loop-rest.rest * size_of to ≡ n * size_of to + length L * size_of to = ap (λ m. m * size_of to) rest ∙ omega arith in
    record {
      left = omega (arith, left, length-X, is.left);
      right = omega (arith, right, length-Y, is.right);
      left_size = c.take-xs.ensures.size ∙ is.left_size;
      right_size = c.take-ys.ensures.size ∙ is.right_size;
      room = omega (arith, is.room, c.append_sides-out.ensures.room, whole, rest, ap (λ m. m * size_of to) (let e : c.loop-rest.rest - n ≡ length L = omega (arith, rest) in e));
      written = ap (λ l. l ++ f L R) c.append_sides-out.ensures.written ∙ append_assoc c.loop-rest.out.0 (f X Y) (f L R)
          ∙ ap (λ l. c.loop-rest.out.0 ++ l) (sym (result-append (little to) (g.O.Operation.gives to) X Y L R (length-X ∙ sym length-Y)))
          ∙ (λ i. c.loop-rest.out.0 ++ f (sym c.take-xs.ensures.split i) (sym c.take-ys.ensures.split i))
          ∙ is.written;
    }

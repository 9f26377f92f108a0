-- Results that are all bytes of a block.
use Rattle.std.proofs.Common.{◌≡◌, ℕ, ℤ, ◌+◌, ◌*◌, List, [], ◌++◌, map, length, take, drop, sym, ap, ◌∙◌, arith, append-nil}
use Rattle.std.specs.Prelude.{◌==◌, if◌then◌else◌, true}
use Rattle.std.proofs.lemmas.Bool.Decides.{nat_tests}
use Rattle.std.proofs.lemmas.List.{length-map, drop_all}
use Rattle.nd_model.specs.Making.Augmenting.{results_in_place}
use Rattle.nd_model.specs.Arrays.Content.{number_at}
use Rattle.nd_model.specs.Arrays.Element.{Element, Kind, size_of, with_bytes}
use Rattle.nd_model.specs.Arrays.View.{Geo, One}
use Rattle.nd_model.specs.Cells.Session.{put}
use Rattle.nd_model.specs.Cells.Sound.{LiesIn}
use Rattle.nd_model.specs.Grammar.Syntax.{BinaryOp}
use Rattle.nd_model.specs.Making.Elementwise.{little}
use Rattle.nd_model.specs.Making.Operand.{Operand}
use Rattle.nd_model.specs.Making.Operators.{Operator, exact}
use Rattle.nd_model.proofs.Values.{wrap_in_range}
use Rattle.nd_view.specs.SideBySide.{side_by_side}
use Rattle.nd_ufunc.specs.Elementwise.Arguments.{contents_over, numbers_beside}
use Rattle.nd_ufunc.specs.Elementwise.Prepared.{DirectInPlace, with_results, written_directly}
use Rattle.nd_ufunc.specs.Elementwise.Replaced.{Wraps, replaced}
use Rattle.nd_ufunc.specs.Loops.Results.{binary_result, result_bytes}
use Rattle.nd_ufunc.proofs.elementwise.Given.{given, given_bytes, given_values, given_written, kept_values}
use Rattle.nd_ufunc.proofs.elementwise.Mapped.{length-beside}
use Rattle.nd_ufunc.proofs.elementwise.Overwritten.{written_over}
use Rattle.nd_ufunc.proofs.loops.Zipped.{length-result}

-- as many bytes as there were are those that are left
all_written : (old new : List ℕ) → length new ≡ length old → with_bytes old 0 new ≡ new
all_written old new same =
    let none : drop (0 + length new) old ≡ [] = drop_all (0 + length new) old (omega (arith, same)) in
    ap (λ l. take 0 old ++ new ++ l) none ∙ append-nil new

-- results of a kind keep their bytes in it
kept_results : (e : Element) (f : ℤ → ℤ → ℤ) (xs ys : List ℤ) → Wraps e.kind f → result_bytes e f xs ys ≡ replaced e f xs ys
kept_results e f xs ys wraps = given_bytes f e xs ys ∙ kept_values e (given f xs ys) (given_values f e.kind xs ys wraps) ∙ given_written f e xs ys

-- a target that is a whole block, in the kind of the results
pub filled : (k : Kind) (op : BinaryOp) (g : Geo) (y : Operand) (old : List ℕ) → g.element ≡ One (little k) → LiesIn (length old) g
    → g.places ≡ side_by_side (size_of k) 0 (length g.places) → length g.places * size_of k ≡ length old
    → result_bytes (little k) (binary_result (Operator op) k) (map (number_at (little k) old) g.places) (numbers_beside y g.shape)
    ≡ put (results_in_place k op g (contents_over g old) y) old
filled k op g y old one lies gapless all =
    let e : Element = little k in let f : ℤ → ℤ → ℤ = binary_result (Operator op) k in
    let xs : List ℤ = map (number_at e old) g.places in let ys : List ℤ = numbers_beside y g.shape in
    let count : length xs ≡ length g.places = length-map g.places (number_at e old) in
    let same : length xs ≡ length ys = count ∙ lies.count ∙ sym (length-beside y g.shape) in
    let kept : result_bytes e f xs ys ≡ replaced e f xs ys = kept_results e f xs ys (λ a b. wrap_in_range k (exact k (Operator op) a b)) in
    let long : length (replaced e f xs ys) ≡ length old = ap length (sym kept) ∙ length-result e f xs ys same ∙ ap (λ n. n * size_of k) count ∙ all in
    kept ∙ sym (all_written old (replaced e f xs ys) long)
    ∙ written_over k op g e y old 0 one lies gapless (omega (arith, all))

-- in a block of the length that they were prepared for
pub of_its_length : (d : DirectInPlace) (block : List ℕ) → length block ≡ d.len → with_results d.kind d.op d.target d.right block ≡ written_directly d block
of_its_length d block len =
    let test : (length block == d.len) ≡ true = grind (arith, nat_tests) in
    sym (ap (λ b. if b then with_results d.kind d.op d.target d.right block else block) test)

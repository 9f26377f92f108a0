use Rattle.std.proofs.Common.{◌≡◌, ℕ, List, length, sym, ap, ◌∙◌, subst}
use Rattle.std.specs.Prelude.{IfOk}
use Rattle.nd_model.specs.Arrays.Element.{Element, Kind, size_of}
use Rattle.nd_model.specs.Arrays.View.{Geo, One}
use Rattle.nd_model.specs.Cells.Sound.{LiesIn}
use Rattle.nd_model.specs.Grammar.Syntax.{BinaryOp}
use Rattle.nd_model.specs.Making.Elementwise.{little}
use Rattle.nd_model.specs.Making.Operand.{Operand}
use Rattle.nd_model.specs.Making.Operators.{Operator}
use Rattle.nd_syntax.specs.Trees.Syntax.{binary_op}
use Rattle.nd_types.specs.Kinds.{kind_of}
use Rattle.nd_view.specs.SideBySide.{side_by_side}
use Rattle.nd_element.specs.Elements.{numbers_at}
use Rattle.nd_ufunc.specs.Elementwise.Arguments.{numbers_beside}
use Rattle.nd_ufunc.specs.Elementwise.Prepared.{DirectInPlace, right_operand, written_directly}
use Rattle.nd_ufunc.specs.Elementwise.Stretched.{stretched_numbers}
use Rattle.nd_ufunc.specs.Elementwise.WaysDirect.{FillsBlock, IsRightOf, direct_of}
use Rattle.nd_ufunc.specs.Loops.Results.{binary_result, result_bytes}
use Rattle.nd_ufunc.proofs.elementwise.Filled.{filled, of_its_length}
use Rattle.nd_ufunc.proofs.elementwise.Mapped.{length-beside}
use Rattle.nd_ufunc.proofs.elementwise.direct.Direct.results.Goals as goal

-- an element type is one of one element alone
same_element : (e f : Element) → One e ≡ One f → e ≡ f
same_element e f same = cc

pub binary_results-requires-clause-right_count : goal.binary_results-requires-clause-right_count
binary_results-requires-clause-right_count c =
    let d = c.self.inside in let block : List ℕ = c.args.block.now in let g : Geo = d.target.now in let y : Operand = right_operand d.right block in
    let right : IsRightOf (direct_of d) block c.args.right.now = subst (λ (r : DirectInPlace). IsRightOf r block c.args.right.now) (sym c.self.view_is) c.requires.right in
    ap (λ n. length (stretched_numbers c.args.right.now n)) c.count-count.ensures.value ∙ ap length right
    ∙ length-beside y g.shape ∙ sym c.count-count.ensures.elements

pub returns : goal.returns
returns c =
    let d = c.self.inside in let is = c.self.invariant in let k : Kind = kind_of d.kind in let op : BinaryOp = binary_op d.op in
    let block : List ℕ = c.args.block.now in let g : Geo = d.target.now in let y : Operand = right_operand d.right block in let n = c.count-count.result in
    let fills : FillsBlock (direct_of d) = subst FillsBlock (sym c.self.view_is) c.requires.fills in
    let right : IsRightOf (direct_of d) block c.args.right.now = subst (λ (r : DirectInPlace). IsRightOf r block c.args.right.now) (sym c.self.view_is) c.requires.right in
    let len : length block ≡ d.len = c.requires.len ∙ sym (ap (λ (r : DirectInPlace). r.len) c.self.view_is) in
    let own : d.elem ≡ little k = same_element d.elem (little k) (sym is.element ∙ fills.element) in
    let gapless : g.places ≡ side_by_side (size_of k) 0 (length g.places) = is.gapless ∙ (λ i. side_by_side (size_of (own i).kind) (fills.first i) (length g.places)) in
    let xs : stretched_numbers c.in_ok-left.left n ≡ numbers_at (little k) block g.places = c.in_ok-left.ensures.numbers n ∙ (λ i. numbers_at (own i) block g.places) in
    let ys : stretched_numbers c.args.right.now n ≡ numbers_beside y g.shape = ap (stretched_numbers c.args.right.now) c.count-count.ensures.value ∙ right in
    let lies : LiesIn (length block) g = subst (λ m. LiesIn m g) (sym len) is.lies in
    let made : result_bytes (little k) (binary_result (Operator op) k) (stretched_numbers c.in_ok-left.left n) (stretched_numbers c.args.right.now n) ≡ written_directly c.args.self.now block
    = (λ i. result_bytes (little k) (binary_result (Operator op) k) (xs i) (ys i))
    ∙ filled k op g y block fills.element lies gapless (fills.all ∙ sym len)
    ∙ of_its_length (direct_of d) block len ∙ ap (λ (r : DirectInPlace). written_directly r block) c.self.view_is in
    subst (λ (l : List ℕ). IfOk c.binary_results.result (λ b. b ≡ l)) made c.binary_results.ensures

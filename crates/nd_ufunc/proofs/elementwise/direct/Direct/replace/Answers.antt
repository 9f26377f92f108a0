use Rattle.std.proofs.Common.{◌≡◌, ℕ, ℤ, ◌+◌, ◌*◌, ◌≤◌, List, [], ◌∷◌, length, get_or, sym, ap, ◌∙◌, subst, arith}
use Rattle.std.specs.List.{All}
use Rattle.nd_model.specs.Arrays.Element.{Element, IsValue, Kind, size_of, with_bytes}
use Rattle.nd_model.specs.Making.Operand.{Operand}
use Rattle.nd_model.specs.Making.Operators.{Operator, exact}
use Rattle.nd_model.specs.Cells.Sound.{LiesIn}
use Rattle.nd_model.specs.Grammar.Syntax.{BinaryOp}
use Rattle.nd_model.specs.Arrays.View.{ElementType, Geo, item_size}
use Rattle.nd_model.proofs.Values.{wrap_in_range}
use Rattle.nd_syntax.specs.Trees.Syntax.{binary_op}
use Rattle.nd_types.specs.Kinds.{kind_of}
use Rattle.nd_view.specs.SideBySide.{side_by_side}
use Rattle.nd_assign.proofs.Bytewise.{end_held}
use Rattle.nd_element.specs.Elements.{numbers_at}
use Rattle.nd_ufunc.specs.Elementwise.Arguments.{numbers_beside}
use Rattle.nd_ufunc.specs.Elementwise.Beside.{beside_numbers, left_beside}
use Rattle.nd_ufunc.specs.Elementwise.Prepared.{DirectInPlace, right_operand, with_results}
use Rattle.nd_ufunc.specs.Elementwise.Replaced.{replaced}
use Rattle.nd_ufunc.specs.Loops.Results.{binary_result}
use Rattle.nd_ufunc.proofs.elementwise.Mapped.{length-beside}
use Rattle.nd_ufunc.proofs.elementwise.Overwritten.{written_over}
use Rattle.nd_ufunc.proofs.elementwise.direct.Direct.replace.Goals as goal

-- where elements without gaps end
held_end : (ps : List ℕ) (s len : ℕ) → ps ≡ side_by_side s (get_or ps 0 0) (length ps) → All (λ p. p + s ≤ len) ps → get_or ps 0 0 + length ps * s ≤ len
held_end [] s len is held = omega arith
held_end (p ∷ ps) s len is held = end_held (p ∷ ps) s p len (omega arith) is held

pub replace_numbers-requires-clause-beside : goal.replace_numbers-requires-clause-beside
replace_numbers-requires-clause-beside g c =
    let d = c.self.inside in let is = c.self.invariant in let bytes : List ℕ = c.args.bytes.now in let y : Operand = right_operand d.right bytes in
    let len : length bytes ≡ d.len = c.requires.len ∙ sym (ap (λ (r : DirectInPlace). r.len) c.self.view_is) in
    let numbers : left_beside c.begin-beside.result bytes ≡ numbers_beside y d.target.now.shape
    = c.begin-beside.ensures.numbers bytes ∙ ap (λ n. beside_numbers d.beside n bytes) c.count-count.ensures.value ∙ is.beside bytes len in
    ap length numbers ∙ length-beside y d.target.now.shape ∙ sym is.lies.count

pub replace_numbers-requires-clause-wraps : goal.replace_numbers-requires-clause-wraps
replace_numbers-requires-clause-wraps g c = λ x y.
    let d = c.self.inside in let k : Kind = kind_of d.kind in let op : BinaryOp = binary_op d.op in
    let gives : g.O.Operation.gives k ≡ binary_result (Operator op) k
    = subst (λ (r : DirectInPlace). g.O.Operation.gives r.kind ≡ binary_result (Operator r.op) r.kind) (sym c.self.view_is) c.requires.gives in
    subst (λ (h : ℤ → ℤ → ℤ). IsValue k (h x y)) (sym gives) (wrap_in_range k (exact k (Operator op) x y))

pub returns : goal.returns
returns g c =
    let d = c.self.inside in let is = c.self.invariant in let k : Kind = kind_of d.kind in let op : BinaryOp = binary_op d.op in let e : Element = d.elem in
    let bytes : List ℕ = c.args.bytes.now in let target : Geo = d.target.now in let y : Operand = right_operand d.right bytes in
    let run : List ℕ = target.places in let first = get_or run 0 0 in
    let len : length bytes ≡ d.len = c.requires.len ∙ sym (ap (λ (r : DirectInPlace). r.len) c.self.view_is) in
    let gives : g.O.Operation.gives k ≡ binary_result (Operator op) k
    = subst (λ (r : DirectInPlace). g.O.Operation.gives r.kind ≡ binary_result (Operator r.op) r.kind) (sym c.self.view_is) c.requires.gives in
    let numbers : left_beside c.begin-beside.result bytes ≡ numbers_beside y target.shape
    = c.begin-beside.ensures.numbers bytes ∙ ap (λ n. beside_numbers d.beside n bytes) c.count-count.ensures.value ∙ is.beside bytes len in
    let lies : LiesIn (length bytes) target = subst (λ n. LiesIn n target) (sym len) is.lies in
    let inside : All (λ p. p + size_of e.kind ≤ length bytes) target.places = subst (λ (t : ElementType). All (λ p. p + item_size t ≤ length bytes) target.places) is.element lies.inside in
    let room : first + length run * size_of e.kind ≤ length bytes = held_end run (size_of e.kind) (length bytes) is.gapless inside in
    c.replace_numbers.ensures
    ∙ (λ i. with_bytes bytes first (replaced e (gives i) (numbers_at e bytes run) (numbers i)))
    ∙ written_over k op target e y bytes first is.element lies is.gapless room
    ∙ ap (λ (r : DirectInPlace). with_results r.kind r.op r.target r.right bytes) c.self.view_is

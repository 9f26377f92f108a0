use Rattle.std.proofs.Common.{◌∙◌, ℕ, List, length, refl, sym, ap}
use Rattle.std.specs.Prelude.{Some}
use Rattle.nd_model.specs.Arrays.Element.{Kind}
use Rattle.nd_model.specs.Grammar.Syntax.{BinaryOp}
use Rattle.nd_model.specs.Arrays.Tuple.{elements_of}
use Rattle.nd_model.specs.Arrays.View.{Geo}
use Rattle.nd_syntax.specs.Trees.Syntax.{binary_op}
use Rattle.nd_types.specs.Kinds.{kind_of}
use Rattle.nd_assign.specs.Prepared.{Prepared, written_by}
use Rattle.nd_assign.proofs.Readied.{copies_written}
use Rattle.nd_ufunc.specs.Elementwise.Arguments.{contents_over}
use Rattle.nd_ufunc.specs.Elementwise.Prepared.{right_operand}
use Rattle.nd_ufunc.proofs.elementwise.Augmented.{written}
use Rattle.nd_ufunc.proofs.elementwise.in_place.find_all.Goals as goal

pub of_block-requires-clause-counts : goal.of_block-requires-clause-counts
of_block-requires-clause-counts c =
    let are = c.in_ok-found.ensures in
    are.lies.count ∙ ap (λ (v : Geo). elements_of v.shape) are.view ∙ sym c.requires.target.count

pub returns : goal.returns
returns c =
    let g : Geo = c.args.target.now in let block : List ℕ = c.args.block.now in let k : Kind = kind_of c.args.kind in let op : BinaryOp = binary_op c.args.op in
    let found = c.in_ok-found.found in
    let ready : Prepared = record { target = g; source = found.0; bytes = Some found.1; len = length block } in
    ap (λ (p : Prepared). written_by p block) c.of_block.ensures ∙ sym (copies_written ready block refl)
    ∙ written k op g found.0 (contents_over g block) (right_operand c.args.right block) block found.1 c.in_ok-found.ensures

use Rattle.std.proofs.Common.{List, ℕ, get_or, sym, ap, ◌∙◌, subst}
use Rattle.nd_model.specs.Arrays.Broadcast.{broadcasts_to}
use Rattle.nd_model.specs.Arrays.View.{Geo, item_size}
use Rattle.nd_model.specs.Making.Operand.{Operand, shape_of}
use Rattle.nd_syntax.specs.Trees.Syntax.{binary_op}
use Rattle.nd_types.specs.Kinds.{kind_of}
use Rattle.nd_ufunc.specs.Elementwise.Beside.{KeepsOffBroadcast}
use Rattle.nd_ufunc.specs.Elementwise.Prepared.{right_operand}
use Rattle.nd_ufunc.proofs.elementwise.Augmented.{kind_facts}
use Rattle.nd_ufunc.proofs.elementwise.Directed.{apart_off}
use Rattle.nd_ufunc.proofs.elementwise.in_place.prepare_directly.Goals as goal

pub beside_of-beside-requires-clause-fits : goal.beside_of-beside-requires-clause-fits
beside_of-beside-requires-clause-fits c =
    let y : Operand = right_operand c.args.right c.args.block.now in
    ap (broadcasts_to (shape_of y)) c.shape.ensures.value ∙ (kind_facts (binary_op c.args.op) c.args.target.now y (kind_of c.args.kind) c.requires.kind).fits

pub returns-clause-direct : goal.returns-clause-direct
returns-clause-direct c = λ direct.
    let g : Geo = c.args.target.now in let first = get_or g.places 0 0 in let step = item_size g.element in
    let off : KeepsOffBroadcast c.args.right c.shape.result.now first step
    = subst (λ (s : List ℕ). KeepsOffBroadcast c.args.right s first step) (sym c.shape.ensures.value) (apart_off g c.args.right c.requires.target.count direct.0 direct.1) in
    c.make_direct.ensures.direct direct.0 (c.beside_of-beside.ensures.off first step off)

use Rattle.std.proofs.Common.{◌≡◌, true, sym, ◌∙◌, arith}
use Rattle.std.specs.List.{list_all}
use Rattle.nd_model.specs.Indexing.Reshaping.{is_length}
use Rattle.nd_shape.proofs.Lengths.{no_shape, own_shape}
use Rattle.nd_shape.proofs.LengthLoops.{lengths_last}
use Rattle.nd_shape.proofs.reshaping.new_shape.Goals as goal

pub returns-in_default : goal.returns-in_default
returns-in_default c =
    let zs = c.args.lengths.now in
    let all : list_all is_length zs ≡ true = sym c.are_lengths.ensures ∙ c.if-not-are_lengths.false in
    no_shape c.args.count zs c.count_unknowns-unknowns.result c.count_unknowns-unknowns.ensures.value (omega arith) c.requires.count all c.known_elements.result c.known_elements.ensures.value c.in_default.ensures

pub returns : goal.returns
returns c =
    let zs = c.args.lengths.now in
    let all : list_all is_length zs ≡ true = sym c.are_lengths.ensures ∙ c.if-not-are_lengths.false in
    own_shape c.args.count zs c.count_unknowns-unknowns.result c.count_unknowns-unknowns.ensures.value (omega arith) c.requires.count all c.known_elements.result c.known_elements.ensures.value
    c.in-Some.left c.loop-length.shape.items c.in-Some.ensures.0 c.in-Some.ensures.1 (lengths_last c.in-Some.left zs c.loop-length.length-index c.loop-length.shape.items (omega arith) c.loop-length.invariant.shape)

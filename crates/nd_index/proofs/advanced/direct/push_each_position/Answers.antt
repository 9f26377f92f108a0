use Rattle.std.proofs.Common.{◌≡◌, ◌++◌, ◌^◌, ◌<◌, ◌≤◌, length, get_or, to_z, of_z, sym, ap, subst, ◌∙◌, arith, rules}
use Rattle.std.specs.List.{flat_map}
use Rattle.std.specs.Int.{w128}
use Rattle.std.specs.Int.RustNames.{FitsSigned}
use Rattle.std.proofs.lemmas.Int.{to_z-of_z}
use Rattle.std.proofs.lemmas.List.{take_all}
use Rattle.nd_model.specs.Arrays.Content.{number_at}
use Rattle.nd_model.specs.Indexing.Selecting.{counted_from}
use Rattle.nd_index.specs.Offsets.RowPlaces.{way_on}
use Rattle.nd_index.proofs.advanced.SoleArrays.{placed_at, position_more, position_near, positions_placed}
use Rattle.nd_index.proofs.advanced.direct.push_each_position.Goals as goal

pub inside_position-position-requires : goal.inside_position-position-requires
inside_position-position-requires c =
    let e = c.args.elem in let bytes = c.args.bytes.now in let run = c.args.run.now in let k = c.loop-at.at in
    let lt : k < length run = omega (arith, c.loop-at-test.true, c.count-at-end.ensures.value) in
    let fits : FitsSigned w128 c.read_at-number.result = search rules in
    let number : to_z w128 (of_z w128 c.read_at-number.result) ≡ number_at e bytes (get_or run k 0) = to_z-of_z w128 c.read_at-number.result fits ∙ c.read_at-number.ensures in
    subst (λ z. counted_from c.args.size z ≤ 2 ^ 32) (sym number) (position_near c.args.size e bytes run k c.requires.numbers lt)

pub way-requires : goal.way-requires
way-requires c =
    let e = c.args.elem in let bytes = c.args.bytes.now in let run = c.args.run.now in let k = c.loop-at.at in
    let lt : k < length run = omega (arith, c.loop-at-test.true, c.count-at-end.ensures.value) in
    let fits : FitsSigned w128 c.read_at-number.result = search rules in
    let number : to_z w128 (of_z w128 c.read_at-number.result) ≡ number_at e bytes (get_or run k 0) = to_z-of_z w128 c.read_at-number.result fits ∙ c.read_at-number.ensures in
    subst (λ n. n ≤ 2 ^ 32) (sym (c.inside_position-position.ensures ∙ ap (counted_from c.args.size) number)) (position_near c.args.size e bytes run k c.requires.numbers lt)

pub loop-at-preserved : goal.loop-at-preserved
loop-at-preserved c =
    let e = c.args.elem in let bytes = c.args.bytes.now in let run = c.args.run.now in let k = c.loop-at.at in
    let lt : k < length run = omega (arith, c.loop-at-test.true, c.count-at-end.ensures.value) in
    let fits : FitsSigned w128 c.read_at-number.result = search rules in
    let number : to_z w128 (of_z w128 c.read_at-number.result) ≡ number_at e bytes (get_or run k 0) = to_z-of_z w128 c.read_at-number.result fits ∙ c.read_at-number.ensures in
    let row = c.args.row.now in let axes = c.args.axes.now in
    let held : FitsSigned w128 c.way.result = search rules in
    let way = to_z-of_z w128 c.way.result held ∙ c.way.ensures.value ∙ ap (way_on axes) (c.inside_position-position.ensures ∙ ap (counted_from c.args.size) number) in
    position_more row axes e bytes c.args.size run k c.args.places.now.items c.loop-at.places.items c.push_row.new.places.items _ lt c.in_ok-push_row.ensures way c.loop-at.invariant

pub returns : goal.returns
returns c =
    let row = c.args.row.now in let axes = c.args.axes.now in let run = c.args.run.now in
    c.loop-at.invariant
    ∙ ap (λ l. c.args.places.now.items ++ l) (ap (flat_map (placed_at row axes c.args.elem c.args.bytes.now c.args.size)) (take_all c.loop-at.at run (omega (arith, c.loop-at-test.false, c.count-at-end.ensures.value)))
    ∙ positions_placed row axes c.args.elem c.args.bytes.now c.args.size run)

use Rattle.std.proofs.Common.{◌+◌, ◌^◌, ◌≤◌, map, length, arith}
use Rattle.std.proofs.lemmas.List.{length-map}
use Rattle.nd_model.specs.Indexing.Advanced.{is_nonzero}
use Rattle.nd_model.specs.Arrays.Content.{number_at}
use Rattle.nd_index.specs.Items.Items.{numbers_of}
use Rattle.nd_index.proofs.items.Items.{near_trues}
use Rattle.nd_index.proofs.advanced.takes.spread_mask.Goals as goal

pub invariant_of-result-clause-near : goal.invariant_of-result-clause-near
invariant_of-result-clause-near c =
    let mask = c.args.mask.now in let places = mask.view.now.places in let numbers = numbers_of mask in
    let few : 0 + length (map is_nonzero numbers) ≤ 2 ^ 32
    = omega (arith, length-map numbers is_nonzero, length-map places (number_at mask.elem.now mask.bytes.now), c.count-count.ensures.value, c.count-count.ensures.limit) in
    near_trues 0 (map is_nonzero numbers) few

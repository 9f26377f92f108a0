use Rattle.std.proofs.Common.{◌≡◌, ◌≤◌, length, ap, arith}
use Rattle.nd_model.specs.Indexing.Advanced.{ellipses_in}
use Rattle.nd_index.specs.Items.Items.{items_of}
use Rattle.nd_index.proofs.items.Items.{filled_few}
use Rattle.nd_index.proofs.advanced.choosing.choose_places.Goals as goal

pub choose_items-requires-clause-axes : goal.choose_items-requires-clause-axes
choose_items-requires-clause-axes c =
    let is = items_of c.args.items.now in
    let shape : c.shape-most.result.now ≡ c.args.view.now.shape = c.shape-most.ensures.value in
    let few : ellipses_in is ≤ 1 = omega (arith, c.count_ellipses.ensures, c.if-count_ellipses-gt1.false) in
    filled_few _ (length c.args.view.now.shape) is (omega (arith, c.count_axes-axes.ensures.value, c.if-axes-most.false, ap length shape)) few

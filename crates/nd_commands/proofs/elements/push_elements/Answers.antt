use Rattle.std.proofs.Common.{◌<◌, length, sym, ap, arith}
use Rattle.nd_model.specs.Arrays.View.{item_size}
use Rattle.nd_script.proofs.lines.Answers.{pushes_same}
use Rattle.nd_commands.proofs.Shown.{shown_digits}
use Rattle.nd_commands.proofs.elements.push_elements.Goals as goal

pub returns-else-count-eq0 : goal.returns-else-count-eq0
returns-else-count-eq0 g c =
    let sized : 0 < item_size c.args.view.now.element = omega (arith, c.size-size.ensures.range.0, c.size-size.ensures.value, ap item_size c.elem.ensures) in
    let some : 0 < length c.args.view.now.places = omega (arith, c.count.ensures.value, c.if-count-eq0.false) in
    pushes_same (sym (shown_digits c.args.view.now.element c.args.bytes.now c.args.view.now.places sized some)) c.push_runs.ensures

use Rattle.std.proofs.Common.{◌∙◌, sym, ap, option_map}
use Rattle.nd_session.proofs.inputs.Inputs.{shared_source, found_input, lent_input}
use Rattle.nd_session.proofs.inputs.input.find_input.Goals as goal

pub returns : goal.returns
returns c = lent_input c.get.result ∙ ap (option_map shared_source) c.get.ensures.value ∙ sym (found_input c.args.name.now c.args.inputs.now.entries)

use Rattle.std.proofs.Common.{◌∙◌}
use Rattle.nd_convert.proofs.conversion.Alike.{converted_alike}
use Rattle.nd_convert.proofs.conversion.pairs.convert_held.Goals as goal

pub returns : goal.returns
returns c = c.convert_pair.ensures ∙ converted_alike c.args.to c.as_signed.result c.args.from c.args.bytes.now c.args.run.now c.as_signed.ensures.bytes

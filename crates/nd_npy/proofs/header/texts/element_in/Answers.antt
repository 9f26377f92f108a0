use Rattle.nd_npy.proofs.header.ElementTexts.{no_element}
use Rattle.nd_npy.proofs.header.texts.element_in.Goals as goal

pub returns-in-Err : goal.returns-in-Err
returns-in-Err c = no_element c.args.text.now c.in-Err.ensures.cases.0

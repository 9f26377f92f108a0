use Rattle.std.proofs.Common.{◌∙◌, subst}
use Rattle.nd_script.specs.Lines.Answers.{Pushes}
use Rattle.nd_script.proofs.words.Hex.{hex_encoded}
use Rattle.nd_script.proofs.words.pieces.push_chunk.Goals as goal

pub returns : goal.returns
returns g c =
    let written = rw c.unwrap.ensures at c.encode_to_slice.ensures.written in
    subst (λ l. Pushes (g.O.AnswerWrite.state c.args.out.now) l (g.O.AnswerWrite.state c.push_bytes.new.self)) (written ∙ hex_encoded c.args.chunk.now) c.push_bytes.ensures

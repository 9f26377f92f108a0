-- What a contract sees of the program's own writer of answers.
use Rattle.std.specs.Prelude.{ℕ, List, Option}
use Rattle.nd_script.specs.Lines.Answers.{AnswerState}
use Rattle.nd_script.specs.declared.lines.answer_writer.AnswerWriter.{AnswerWriter}

module _ {W : Type 0} (contents : W → Option (List ℕ)) (failures : W → ℕ) where
  abbrev pub state_of : AnswerWriter W → AnswerState
  state_of s = record {
    reference = s.writer.ghost_name;
    contents = contents s.writer.now;
    failures = failures s.writer.now;
    pending = s.pending.items;
    has_failed = s.has_failed;
  }

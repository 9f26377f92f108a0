use Rattle.std.proofs.Common.{◌≡◌, Bool, true, false, Result, Ok, Err, refl, sym, ap, ◌∙◌}
use Rattle.std.specs.Prelude.{is_ok, is_err, OnErr}
use Rattle.std.proofs.lemmas.Bool.{false≢true}
use Rattle.nd_script.specs.Lines.Answers.{AnswerState}
use Rattle.nd_script.proofs.lines.Answers.{pushes_trans, sent_bytes, sent_pending}
use Rattle.nd_script.proofs.lines.answer_writer.AnswerWriterAnswerWrite.push_bytes.Goals as goal

no_ok : {T E P : Type 0} (r : Result T E) (b : Bool) → b ≡ is_ok r → b ≡ false → OnErr r P → P
no_ok (Ok x) b value off h = absurd (false≢true (sym off ∙ value))
no_ok (Err e) b value off h = h

an_err : {T E P : Type 0} (r : Result T E) (b : Bool) → b ≡ is_err r → b ≡ true → OnErr r P → P
an_err (Ok x) b value on h = absurd (false≢true (sym value ∙ on))
an_err (Err e) b value on h = h

pub returns-then-is_err : goal.returns-then-is_err
returns-then-is_err g c =
    let full = no_ok c.try_extend_from_slice.result c.is_ok.result c.is_ok.ensures.value c.if-is_ok.false c.try_extend_from_slice.ensures.err in
    let long = an_err c.try_extend_from_slice-2.result c.is_err.result c.is_err.ensures.value c.if-is_err.true c.try_extend_from_slice-2.ensures.err in
    let first = rw (c.as_slice.ensures.value, full) at c.send-self.ensures in
    let mid : AnswerState = record {
      reference = c.args.self.now.writer.ghost_name;
      contents = g.W.CountedWrite.contents c.send-self.new.writer;
      failures = g.W.CountedWrite.failures c.send-self.new.writer;
      pending = c.clear.new.self.items;
      has_failed = c.send-self.result;
    } in
    pushes_trans {b = mid} (sent_pending refl c.clear.ensures first)
    (sent_bytes refl c.clear.ensures (ap (λ v. v.items) long ∙ c.clear.ensures) c.send-self-then-is_err.ensures)

use Rattle.std.proofs.Common.{◌++◌, ◌∙◌, ap, map}
use Rattle.nd_token.specs.Tokens.{token_of, word_of}
use Rattle.nd_token.proofs.Scanning.{at_start, after_a_fault, after_a_blank, after_a_newline, after_a_lexeme, after_all, pushed}
use Rattle.nd_token.proofs.scan.tokens.Goals as goal

pub loop-at-init : goal.loop-at-init
loop-at-init c = at_start _ _ _ (ap (map token_of) c.new-tokens.ensures.items) c.first-state.ensures

pub returns-in-None : goal.returns-in-None
returns-in-None c = after_a_fault c.loop-at.invariant c.loop-at-test.true c.in-None.ensures.value

pub loop-at-preserved-in-Some-Blank : goal.loop-at-preserved-in-Some-Blank
loop-at-preserved-in-Some-Blank c =
    let value = rw c.in-Some-Blank.field-0-is at c.in-Some-Blank.ensures.value in
    let fits = rw c.in-Some-Blank.field-0-is at c.in-Some-Blank.ensures.fits in
    after_a_blank c.loop-at.invariant c.in-Some-Blank.count _ c.loop-at-test.true fits.0 fits.1 value c.after_blank-state.ensures

pub loop-at-preserved-in-Some-Newline : goal.loop-at-preserved-in-Some-Newline
loop-at-preserved-in-Some-Newline c =
    let value = rw c.in-Some-Newline.field-0-is at c.in-Some-Newline.ensures.value in
    after_a_newline c.loop-at.invariant _ _ c.loop-at-test.true value
    (c.in_ok-push_end-in-Some-Newline.ensures ∙ ap (λ l. map token_of c.loop-at.tokens.items ++ l) c.ended_by_newline.ensures)
    c.after_newline-state.ensures

pub loop-at-preserved : goal.loop-at-preserved
loop-at-preserved c =
    let value = rw c.in-Some-Lexeme.field-0-is at c.in-Some-Lexeme.ensures.value in
    let fits = rw c.in-Some-Lexeme.field-0-is at c.in-Some-Lexeme.ensures.fits in
    after_a_lexeme c.loop-at.invariant (word_of c.in-Some-Lexeme.word) c.in-Some-Lexeme.count _ _ c.loop-at-test.true fits.0 fits.1 value
    (pushed _ _ _ _ c.in_ok-push-in-Some-Lexeme.ensures.items c.token_here.ensures)
    c.after_word-state.ensures

pub returns : goal.returns
returns c =
    after_all c.loop-at.invariant _ c.loop-at-test.false (c.in_ok-push_end.ensures ∙ ap (λ l. map token_of c.loop-at.tokens.items ++ l) c.ended.ensures)

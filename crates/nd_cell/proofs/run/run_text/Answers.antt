use Rattle.std.proofs.Common.{◌≡◌, ℕ, ◌+◌, ◌<◌, ◌≤◌, ◌^◌, List, Ok, length, sym, ap, ◌∙◌, arith}
use Rattle.nd_model.specs.Grammar.Tokens.{tokens_of_lines}
use Rattle.nd_model.proofs.FewTokens.{few_tokens}
use Rattle.nd_syntax.specs.declared.trees.tree.Line.{Line}
use Rattle.nd_syntax.specs.Trees.Syntax.{fault_of, lines_of, parsed_of}
use Rattle.nd_model.specs.Grammar.Reading.{reading}
use Rattle.nd_session.specs.Inputs.Values.{inputs_of}
use Rattle.nd_session.specs.Session.Live.{live}
use Rattle.nd_cell.proofs.Lines.{lines_end, unread_ends}
use Rattle.nd_cell.proofs.run.run_text.Goals as goal

few : (text : List ℕ) (next : ℕ) (lines : List Line) → next ≡ 0 → length text < 2 ^ 64 → tokens_of_lines (lines_of lines) ≤ length text → next + tokens_of_lines (lines_of lines) < 2 ^ 64
few text next lines first short fewer = omega arith

pub run_lines-requires : goal.run_lines-requires
run_lines-requires c =
    few c.args.text.now (live c.args.session.now).next c.deref.result.now c.requires (let short : length c.as_bytes-bytes.result.now < 2 ^ 64 = c.as_bytes-bytes.type_inv.0 in omega (arith, c.as_bytes-bytes.ensures.len))
    (rw c.deref.ensures.value (few_tokens c.args.text.now (lines_of c.in-Ok.lines.items) (c.in_ok-lines.ensures ∙ ap parsed_of c.in-Ok.is)))

pub returns-in-Ok : goal.returns-in-Ok
returns-in-Ok c =
    lines_end (inputs_of c.args.inputs.now.entries) (reading c.args.text.now) (lines_of c.deref.result.now) (live c.args.session.now) (live c.run_lines.new.session) c.run_lines.result
    (c.in_ok-lines.ensures ∙ ap parsed_of c.in-Ok.is ∙ ap (λ (ls : List Line). Ok (lines_of ls)) (sym c.deref.ensures.value)) c.run_lines.ensures

pub returns-in-Err : goal.returns-in-Err
returns-in-Err c =
    unread_ends (inputs_of c.args.inputs.now.entries) (reading c.args.text.now) (fault_of c.in-Err.fault) (live c.args.session.now) c.unread.result
    (c.in_ok-lines.ensures ∙ ap parsed_of c.in-Err.is) c.unread.ensures.text c.unread.ensures.refusal c.unread.ensures.saves

use Rattle.std.proofs.Common.{◌≡◌, ◌+◌, ◌∙◌, [], ap, drop, arith, string_bytes, subst}
use Rattle.nd_model.specs.Cells.Cell.{Ended, statements}
use Rattle.nd_model.specs.Cells.Running.{Running}
use Rattle.nd_reach.specs.Reach.{EndsInReach}
use Rattle.nd_reach.proofs.Reaching.{ends_on, reach_is_all}
use Rattle.nd_session.specs.Inputs.Values.{inputs_of}
use Rattle.nd_session.specs.Session.Live.{live}
use Rattle.nd_syntax.specs.Trees.Syntax.{lines_of}
use Rattle.nd_cell.specs.Results.{saves_of}
use Rattle.nd_cell.proofs.Lines.{line_goes_on, line_stops, tokens_more}
use Rattle.nd_cell.proofs.run.run_lines.Goals as goal

pub loop-line-preserved : goal.loop-line-preserved
loop-line-preserved c =
    let i = inputs_of c.args.inputs.now.entries in
    let whole : Ended = statements i (lines_of c.args.lines.now) [] [] (live c.args.session.now) in
    let behind = lines_of (drop (c.loop-line.line-index + 1) c.args.lines.now) in
    let text = string_bytes c.run_line.new.text in
    let saves = saves_of c.run_line.new.saves.entries in
    let ran : Running = live c.run_line.new.session in
    let now : Running = live c.collect_due.new.self in
    let line : _ ≡ statements i behind text saves ran
    = line_goes_on i c.args.lines.now c.loop-line.line-index c.line-item.result _ _ _ _ (live c.loop-line.session) ran c.in_ok-refusal.refusal
    c.loop-line-test.true c.line-item.is c.if-is_some.ensures c.in_ok-refusal.ensures.meaning in (
      ends_on whole (statements i behind text saves ran) (statements i behind text saves now)
          (subst (λ (f : Ended). EndsInReach whole f) line c.loop-line.invariant.0)
          (reach_is_all i behind text saves ran now c.in_ok-collect_due.ensures.ok),
      let more = tokens_more c.args.lines.now c.loop-line.line-index c.line-item.result c.loop-line-test.true c.line-item.is in
          let next : now.next ≡ ran.next = ap (λ (r : Running). r.next) c.in_ok-collect_due.ensures.ok.rest in
          omega (arith, c.loop-line.invariant.1, c.in_ok-refusal.ensures.numbers, more, next),
    )

pub returns-then-is_some : goal.returns-then-is_some
returns-then-is_some c =
    let i = inputs_of c.args.inputs.now.entries in
    subst (λ (f : Ended). EndsInReach (statements i (lines_of c.args.lines.now) [] [] (live c.args.session.now)) f)
    (line_stops i c.args.lines.now c.loop-line.line-index c.line-item.result _ _ (live c.loop-line.session) (live c.run_line.new.session) (record { text = c.run_line.new.text; refusal = c.in_ok-refusal.refusal; saves = c.run_line.new.saves })
    c.loop-line-test.true c.line-item.is c.if-is_some.ensures c.in_ok-refusal.ensures.meaning)
    c.loop-line.invariant.0

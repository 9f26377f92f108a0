use Rattle.std.proofs.Common.{rules}
use Rattle.nd_parse.specs.Reader.Gives.{tokens_of}
use Rattle.nd_parse.proofs.calls.Steps as steps
use Rattle.nd_parse.proofs.calls.operands.Calls.lengths.Goals as goal

pub returns-in_err-levels : goal.returns-in_err-levels
returns-in_err-levels g c =
    let h = steps.lengths_refused c.args.levels (tokens_of c.args.tokens.now) c.in_err-levels.field-0.0 c.in_err-levels.ensures.read in
    search rules

pub returns-then-next_in : goal.returns-then-next_in
returns-then-next_in g c =
    rw (steps.lengths_is c.args.levels c.in_ok-levels.levels (tokens_of c.args.tokens.now) _ (tokens_of c.in_ok-levels.rest.now) c.in_ok-levels.ensures.deeper c.in_ok-levels.ensures.read) (search rules)

pub returns-then-next_in-2 : goal.returns-then-next_in-2
returns-then-next_in-2 g c =
    rw (steps.lengths_is c.args.levels c.in_ok-levels.levels (tokens_of c.args.tokens.now) _ (tokens_of c.in_ok-levels.rest.now) c.in_ok-levels.ensures.deeper c.in_ok-levels.ensures.read) (search rules)

pub returns : goal.returns
returns g c =
    rw (steps.lengths_is c.args.levels c.in_ok-levels.levels (tokens_of c.args.tokens.now) _ (tokens_of c.in_ok-levels.rest.now) c.in_ok-levels.ensures.deeper c.in_ok-levels.ensures.read) (search rules)

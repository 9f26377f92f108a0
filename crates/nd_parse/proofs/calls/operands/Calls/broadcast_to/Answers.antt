use Rattle.std.proofs.Common.{rules}
use Rattle.nd_parse.specs.Reader.Gives.{tokens_of}
use Rattle.nd_parse.proofs.calls.Steps as steps
use Rattle.nd_parse.proofs.calls.operands.Calls.broadcast_to.Goals as goal

pub returns-in_err-levels : goal.returns-in_err-levels
returns-in_err-levels g c =
    let h = steps.broadcast_to_refused c.args.levels (tokens_of c.args.tokens.now) c.in_err-levels.field-0.0 c.in_err-levels.ensures.read in
    search rules

pub returns-in_err-value : goal.returns-in_err-value
returns-in_err-value g c =
    rw (steps.broadcast_to_is c.args.levels c.in_ok-levels.levels (tokens_of c.args.tokens.now) _ (tokens_of c.in_ok-levels.rest.now) c.in_ok-levels.ensures.deeper c.in_ok-levels.ensures.read) (search rules)

pub returns-in_err-value-2 : goal.returns-in_err-value-2
returns-in_err-value-2 g c =
    rw (steps.broadcast_to_is c.args.levels c.in_ok-levels.levels (tokens_of c.args.tokens.now) _ (tokens_of c.in_ok-levels.rest.now) c.in_ok-levels.ensures.deeper c.in_ok-levels.ensures.read) (search rules)

pub returns-in_err-value-3 : goal.returns-in_err-value-3
returns-in_err-value-3 g c =
    rw (steps.broadcast_to_is c.args.levels c.in_ok-levels.levels (tokens_of c.args.tokens.now) _ (tokens_of c.in_ok-levels.rest.now) c.in_ok-levels.ensures.deeper c.in_ok-levels.ensures.read) (search rules)

pub returns : goal.returns
returns g c =
    rw (steps.broadcast_to_is c.args.levels c.in_ok-levels.levels (tokens_of c.args.tokens.now) _ (tokens_of c.in_ok-levels.rest.now) c.in_ok-levels.ensures.deeper c.in_ok-levels.ensures.read) (search rules)

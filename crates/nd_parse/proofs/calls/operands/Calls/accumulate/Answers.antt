use Rattle.std.proofs.Common.{rules}
use Rattle.nd_parse.specs.Reader.Gives.{tokens_of}
use Rattle.nd_parse.proofs.calls.Steps as steps
use Rattle.nd_parse.proofs.calls.operands.Calls.accumulate.Goals as goal

pub returns-in_err-levels : goal.returns-in_err-levels
returns-in_err-levels g c =
    let h = steps.accumulate_refused c.args.levels (tokens_of c.args.tokens.now) c.in_err-levels.field-0.0 c.in_err-levels.ensures.read in
    search rules

pub returns-in_err-array : goal.returns-in_err-array
returns-in_err-array g c =
    rw (steps.accumulate_is c.args.levels c.in_ok-levels.levels (tokens_of c.args.tokens.now) _ (tokens_of c.in_ok-levels.rest.now) c.in_ok-levels.ensures.deeper c.in_ok-levels.ensures.read) (search rules)

pub returns-in_err-array-2 : goal.returns-in_err-array-2
returns-in_err-array-2 g c =
    rw (steps.accumulate_is c.args.levels c.in_ok-levels.levels (tokens_of c.args.tokens.now) _ (tokens_of c.in_ok-levels.rest.now) c.in_ok-levels.ensures.deeper c.in_ok-levels.ensures.read) (search rules)

pub returns : goal.returns
returns g c =
    rw (steps.accumulate_is c.args.levels c.in_ok-levels.levels (tokens_of c.args.tokens.now) _ (tokens_of c.in_ok-levels.rest.now) c.in_ok-levels.ensures.deeper c.in_ok-levels.ensures.read) (search rules)

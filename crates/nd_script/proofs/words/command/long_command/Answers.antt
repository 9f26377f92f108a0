use Rattle.std.proofs.Common.{◌≡◌, false, bytes_eq, codes, rules}
use Rattle.nd_script.proofs.words.InputWords.{four_bad}
use Rattle.nd_script.proofs.words.command.long_command.Goals as goal

pub returns-then-ne : goal.returns-then-ne
returns-then-ne c =
    let other : bytes_eq c.args.word.now (codes "input") ≡ false = search rules in
    four_bad c.args.word.now c.args.name.now c.args.kind.now c.args.rest.now other

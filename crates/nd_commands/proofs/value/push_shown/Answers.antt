use Rattle.std.proofs.Common.{rules}
use Rattle.nd_script.proofs.lines.Answers.{pushes_same, pushes_trans}
use Rattle.nd_commands.proofs.value.push_shown.Goals as goal

pub returns-in-Int-clause-pushed : goal.returns-in-Int-clause-pushed
returns-in-Int-clause-pushed g c = rw c.in-Int.is (pushes_same (search rules) (pushes_trans c.push_text.ensures c.push_integer.ensures))

pub returns-in-Bool-clause-pushed : goal.returns-in-Bool-clause-pushed
returns-in-Bool-clause-pushed g c = rw (c.in-Bool.is, ← c.truth_name.ensures) (pushes_trans c.push_text-in-Bool.ensures c.push_text-in-Bool-2.ensures)

pub returns-in-Scalar-clause-pushed : goal.returns-in-Scalar-clause-pushed
returns-in-Scalar-clause-pushed g c = rw (c.in-Scalar.is, ← c.name.ensures) (pushes_same (search rules) (pushes_trans (pushes_trans (pushes_trans c.push_text-in-Scalar.ensures c.push_text-in-Scalar-2.ensures) c.push_text-in-Scalar-3.ensures) c.push_integer-in-Scalar.ensures))

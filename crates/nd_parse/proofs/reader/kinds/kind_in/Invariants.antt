use Rattle.std.proofs.Common.{◌≡◌, drop, map}
use Rattle.nd_model.specs.Grammar.Kinds.{kind_in}
use Rattle.nd_parse.specs.Reader.Tables.{entry}
use Rattle.nd_parse.proofs.reader.kinds.kind_in.Given as goal

-- the words that are left give the answer
abbrev pub invariant-loop-name : goal.invariant-loop-name
invariant-loop-name l = kind_in (map entry (drop l.name-index l.table)) l.other l.word ≡ kind_in (map entry l.table) l.other l.word

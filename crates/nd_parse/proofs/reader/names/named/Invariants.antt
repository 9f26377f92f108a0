use Rattle.std.proofs.Common.{◌≡◌, drop, map}
use Rattle.nd_parse.specs.Reader.Tables.{named, named_entry}
use Rattle.nd_parse.proofs.reader.names.named.Given as goal

-- the words that are left give the answer
abbrev pub invariant-loop-word : goal.invariant-loop-word
invariant-loop-word g l = named (map named_entry (drop l.word-index l.table)) l.other l.name ≡ named (map named_entry l.table) l.other l.name

use Rattle.std.proofs.Common.{◌≡◌, ◌<◌, drop}
use Rattle.nd_session.specs.Session.Filter.{text_bit}
use Rattle.nd_session.proofs.session.change.filter.text_bit.Given as goal

abbrev pub invariant-loop-byte : goal.invariant-loop-byte
invariant-loop-byte l = (text_bit (drop l.byte-index l.text) l.bit ≡ text_bit l.text l.first) × (l.bit < 256)

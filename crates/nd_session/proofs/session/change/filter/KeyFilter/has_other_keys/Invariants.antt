use Rattle.std.proofs.Common.{◌≡◌, ◌<◌, ℕ, bit_and, slice_index}
use Rattle.nd_session.proofs.session.change.filter.KeyFilter.has_other_keys.Given as goal

abbrev pub invariant-loop-at : goal.invariant-loop-at
invariant-loop-at l = (q : ℕ) → q < l.at → bit_and (slice_index l.self-inside.keys q) (slice_index l.other-inside.keys q) ≡ 0

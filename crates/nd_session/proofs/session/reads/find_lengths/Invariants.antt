use Rattle.std.proofs.Common.{◌≡◌, cond, map, take, length, Some, None}
use Rattle.nd_model.specs.Arrays.Value as values
use Rattle.nd_session.specs.Session.Found.{by_base, lookup_base}
use Rattle.nd_session.specs.Session.Kept.{version_of}
use Rattle.nd_heap.specs.Live.{is_base_among}
use Rattle.nd_session.specs.Session.Reading.{length_at}
use Rattle.nd_heap.specs.Values.{base_of}
use Rattle.nd_session.proofs.session.reads.find_lengths.Given as goal

abbrev pub invariant-loop-base : goal.invariant-loop-base
invariant-loop-base l = (b : values.Base) → lookup_base b (by_base length_at l.reads.entries)
    ≡ cond (is_base_among (map base_of (take l.base-index l.bases)) b) (Some (length ((version_of l.before).bytes b))) None

use Rattle.std.proofs.Common.{◌≡◌, ℕ, cond, ◌&&◌, take, slice_index, Some, None}
use Rattle.nd_model.specs.Arrays.Value as values
use Rattle.nd_trace.specs.Contents.{marks_of}
use Rattle.nd_session.specs.Session.Kept.{version_of}
use Rattle.nd_heap.specs.Live.{is_base_among}
use Rattle.nd_trace.specs.Marked.{is_marked}
use Rattle.nd_session.specs.Session.Found.{byte_found}
use Rattle.nd_session.proofs.session.Reading.{entry_bases}
use Rattle.nd_session.proofs.session.reads.find_bytes.Given as goal

abbrev pub invariant-loop-i : goal.invariant-loop-i
invariant-loop-i l = (b : values.Base) (p : ℕ) → byte_found l.reads.entries b p
    ≡ cond (is_base_among (entry_bases (take l.i l.used.entries)) b && is_marked (marks_of l.used.entries) b p) (Some (slice_index ((version_of l.before).bytes b) p)) None

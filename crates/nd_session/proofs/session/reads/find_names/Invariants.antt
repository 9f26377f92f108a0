use Rattle.std.proofs.Common.{◌≡◌, ℕ, List, cond, map, take, Some, None, string_bytes}
use Rattle.nd_model.specs.Cells.Session as model
use Rattle.nd_session.specs.Session.Kept.{version_of}
use Rattle.nd_trace.specs.Marked.{is_among}
use Rattle.nd_session.specs.Session.Reading.{by_text, value_at}
use Rattle.nd_session.proofs.session.reads.find_names.Given as goal

abbrev pub invariant-loop-name : goal.invariant-loop-name
invariant-loop-name l = (n : List ℕ) → model.lookup n (by_text value_at l.reads.entries)
    ≡ cond (is_among (map string_bytes (take l.name-index l.names)) n) (Some (model.lookup n (version_of l.before).names)) None

-- The end of a script with words for front ends.
use Rattle.std.proofs.Common.{map, Option, Some, None}
use Rattle.std.specs.Prelude.{IsSome, codes}
use Rattle.nd_script.specs.Lines.Answers.{AnswerState, Pushes}
use Rattle.nd_script.specs.Lines.Run.{Ended}
use Rattle.nd_notebook.specs.Together.{owned_edit_of}
use Rattle.nd_commands.specs.Noted.{Noted}
use Rattle.nd_commands.specs.Source.{lines_so_far, opening_of}
use Rattle.nd_desk.specs.Answers.{desk}
use Rattle.nd_desk.specs.Source.{stage_of}
use Rattle.nd_desk.specs.declared.line.DeskSource.{DeskSource}
use Rattle.nd_desk.specs.declared.line.DeskSource.TheVariants as sources
use Rattle.nd_desk.proofs.Plainly.{within_ends, try_ends, edits_end, edit_text_ends}

-- a text without its end is a bad command, and so are edits without theirs
pub ended_by : (source : Option DeskSource) (held : Noted) (was now : AnswerState) → IsSome source → Pushes was (codes "bad command\n") now → Ended desk (stage_of source) held was now
ended_by None held was now some pushed = cc
ended_by (Some (sources.Plain t)) held was now some pushed = within_ends (opening_of t.opening) (lines_so_far t) held was now pushed
ended_by (Some (sources.Try at t)) held was now some pushed = try_ends at (lines_so_far t) held was now pushed
ended_by (Some (sources.Edits es)) held was now some pushed = edits_end (map owned_edit_of es.items) held was now pushed
ended_by (Some (sources.EditText es t)) held was now some pushed =
    edit_text_ends (map owned_edit_of es.items) (opening_of t.opening) (lines_so_far t) held was now pushed

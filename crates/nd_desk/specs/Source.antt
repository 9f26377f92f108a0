-- Texts, as far as their lines have come.
use Rattle.std.specs.Prelude.{map, Option, Some, None}
use Rattle.nd_model.specs.Book.Script as script
use Rattle.nd_commands.specs.declared.source.OpenText.{OpenText}
use Rattle.nd_commands.specs.Source as texts
use Rattle.nd_notebook.specs.Together.{owned_edit_of}
use Rattle.nd_desk.specs.Words.{Stage, Plainly, Trying, Gathering, GatheringText}
use Rattle.nd_desk.specs.declared.line.DeskSource.{DeskSource}
use Rattle.nd_desk.specs.declared.line.DeskSource.TheVariants.{Plain, Try, Edits, EditText}

abbrev pub plain_source : Option OpenText → Option DeskSource
plain_source None = None
plain_source (Some t) = Some (Plain t)

-- where a script stands
abbrev pub stage_of : Option DeskSource → Stage
stage_of None = Plainly script.Between
stage_of (Some (Plain t)) = Plainly (texts.stage_of (Some t))
stage_of (Some (Try at t)) = Trying at (texts.lines_so_far t)
stage_of (Some (Edits es)) = Gathering (map owned_edit_of es.items)
stage_of (Some (EditText es t)) = GatheringText (map owned_edit_of es.items) (texts.opening_of t.opening) (texts.lines_so_far t)

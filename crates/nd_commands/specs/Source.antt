-- Sources, as far as their lines have come.
use Rattle.std.specs.Prelude.{ℕ, ◌==◌, Bool, true, false, List, [], Option, Some, None}
use Rattle.std.specs.List.{slice_split}
use Rattle.nd_model.specs.Book.Script as script
use Rattle.nd_commands.specs.declared.source.Opening.{Opening}
use Rattle.nd_commands.specs.declared.source.Opening.TheVariants.{Insert, Edit}
use Rattle.nd_commands.specs.declared.source.OpenText.{OpenText}

abbrev pub opening_of : Opening → script.Opening
opening_of (Insert at) = script.Inserting at
opening_of (Edit at) = script.Changing at

abbrev pub text_lines : (has_lines : Bool) → (text : List ℕ) → List (List ℕ)
text_lines false text = []
text_lines true text = slice_split (λ c. c == 10) text

abbrev pub lines_so_far : OpenText → List (List ℕ)
lines_so_far s = text_lines s.has_lines s.text.items

-- where a script stands
abbrev pub stage_of : Option OpenText → script.Stage
stage_of None = script.Between
stage_of (Some s) = script.Within (opening_of s.opening) (lines_so_far s)

-- A line of a desk, or the end of its script, makes at most one command.
use Rattle.std.specs.Prelude.{ℕ, Bool, true, false, if◌then◌else◌, List, [], ◌∷◌, ◌++◌, map, Option, Some, None}
use Rattle.nd_model.specs.Book.Book.{Edit}
use Rattle.nd_model.specs.Book.Script as script
use Rattle.nd_model.specs.Book.Script.{Between, Within, is_dot}
use Rattle.nd_script.specs.Lines.Language.{AtMostOne, OneByOne}
use Rattle.nd_script.proofs.lines.Plain.{plain_one_by_one}
use Rattle.nd_desk.specs.Words.{Command, Plain, Together, Line, Whole, Opens, Begins, Stage, Plainly, Trying, Gathering, GatheringText, step, step_of_word, read_word, closed_try, is_end, gathered, gathered_line, left_open}
use Rattle.nd_desk.specs.Answers.{desk}

few_mapped : (cs : List script.Command) → AtMostOne cs → AtMostOne (map Plain cs)
few_mapped [] few = tt
few_mapped (c ∷ []) few = tt
few_mapped (c ∷ d ∷ more) few = few

few_from_word : (line : List ℕ) (o : Option Line) → AtMostOne (step_of_word line o).0
few_from_word line None = few_mapped (script.step Between line).0 (plain_one_by_one.lines Between line)
few_from_word line (Some (Whole c)) = tt
few_from_word line (Some (Opens at)) = tt
few_from_word line (Some Begins) = tt

few_from_two : (b : Bool) (p q : List Command × Stage) → AtMostOne p.0 → AtMostOne q.0 → AtMostOne (if b then p else q).0
few_from_two true p q one other = one
few_from_two false p q one other = other

few_gathered : (es : List Edit) (c : script.Command) → AtMostOne (gathered es c).0
few_gathered es (script.Edits e) = tt
few_gathered es (script.Asks q) = tt
few_gathered es script.Silent = tt
few_gathered es script.Bad = tt

few_from_edit : (es : List Edit) (l : script.Line) → AtMostOne (gathered_line es l).0
few_from_edit es (script.Whole c) = few_gathered es c
few_from_edit es (script.Opens o) = tt

few_from_step : (s : Stage) (line : List ℕ) → AtMostOne (step s line).0
few_from_step (Plainly Between) line = few_from_word line (read_word line)
few_from_step (Plainly (Within o before)) line = few_mapped (script.step (Within o before) line).0 (plain_one_by_one.lines (Within o before) line)
few_from_step (Trying at before) line = few_from_two (is_dot line) (closed_try at before ∷ [], Plainly Between) ([], Trying at (before ++ line ∷ [])) tt tt
few_from_step (Gathering es) line =
    few_from_two (is_end line) (Together es ∷ [], Plainly Between) (gathered_line es (script.read_line line)) tt (few_from_edit es (script.read_line line))
few_from_step (GatheringText es o before) line =
    few_from_two (is_dot line) (gathered es (script.closed o before)) ([], GatheringText es o (before ++ line ∷ [])) (few_gathered es (script.closed o before)) tt

few_left : (s : Stage) → AtMostOne (left_open s)
few_left (Plainly s) = few_mapped (script.left_open s) (plain_one_by_one.ends s)
few_left (Trying at before) = tt
few_left (Gathering es) = tt
few_left (GatheringText es o before) = tt

pub desk_one_by_one : OneByOne desk
desk_one_by_one = record { lines = few_from_step; ends = few_left }

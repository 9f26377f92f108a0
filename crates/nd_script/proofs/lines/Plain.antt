-- The plain language: a line, or the end of a script, makes at most one command.
use Rattle.std.proofs.Common.{Bool, true, false, cond, ℕ, List, [], ◌∷◌, ◌++◌}
use Rattle.nd_model.specs.Book.Script.{Command, Line, Whole, Opens, Stage, Between, Within, step, step_of_line, read_line, is_dot, closed, left_open}
use Rattle.nd_script.specs.Lines.Counts.{plain}
use Rattle.nd_script.specs.Lines.Language.{AtMostOne, OneByOne}

few_from_line : (l : Line) → AtMostOne (step_of_line l).0
few_from_line (Whole c) = tt
few_from_line (Opens o) = tt

few_from_dot : (b : Bool) (c : Command) (s : Stage) → AtMostOne (cond {A = List Command × Stage} b (c ∷ [], Between) ([], s)).0
few_from_dot true c s = tt
few_from_dot false c s = tt

few_from_step : (s : Stage) (l : List ℕ) → AtMostOne (step s l).0
few_from_step Between l = few_from_line (read_line l)
few_from_step (Within o before) l = few_from_dot (is_dot l) (closed o before) (Within o (before ++ l ∷ []))

few_left : (s : Stage) → AtMostOne (left_open s)
few_left Between = tt
few_left (Within o before) = tt

pub plain_one_by_one : OneByOne plain
plain_one_by_one = record { lines = few_from_step; ends = few_left }

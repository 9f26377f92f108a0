-- What effects stand for, and when they can be done.
use Rattle.std.specs.Prelude.{ℕ, List, Result, string_bytes}
use Rattle.nd_model.specs.Arrays.Value as model
use Rattle.nd_model.specs.Cells.Running as running
use Rattle.nd_model.specs.Cells.Running.{Running}
use Rattle.nd_model.specs.Cells.Evaluation.{Eval}
use Rattle.nd_heap.specs.Values.{base_of, geo_of, value_of}
use Rattle.nd_eval.specs.Choosing.Selections.{selected}
use Rattle.nd_eval.specs.Choosing.Targets.{geo_in, writes_to}
use Rattle.nd_operation.specs.declared.refusals.stop.Stop.{Stop}
use Rattle.nd_eval.specs.declared.evaluator.Evaluator.{Evaluator}
use Rattle.nd_heap.specs.declared.value.Value.{Value}
use Rattle.nd_eval.specs.declared.exec.Place.{Place}
use Rattle.nd_eval.specs.declared.effect.Effect.{Effect}
use Rattle.nd_eval.specs.declared.effect.Effect.TheVariants.{Nothing, Print, Save, Bind, Unbind, Store, Scatter, Update, UpdateChosen}
use Rattle.nd_eval.specs.Ends.{Evaluates, EvaluatesInLimit, session_of}
use Rattle.nd_eval.specs.Uses.{IsHeld, operand_over}
use Rattle.nd_eval.specs.Storing.Storable.{IsCopyUpdatable, IsStorable, IsStorableIn, copy_updates}
use Rattle.nd_eval.specs.Storing.Updatable.{IsUpdatable, updates}
use Rattle.nd_syntax.specs.Trees.Syntax.{binary_op}
use Rattle.nd_types.specs.Kinds.{kind_of}

-- the elements that are stored, and those that an operator reads, are those in these blocks
abbrev pub effect_of : (model.Base → List ℕ) → Effect → running.Effect
effect_of bytes Nothing = running.Nothing
effect_of bytes (Print text) = running.Prints (string_bytes text)
effect_of bytes (Save n file) = running.Saves (string_bytes n) file.items
effect_of bytes (Bind n v) = running.Binding (string_bytes n) (value_of v)
effect_of bytes (Unbind n) = running.Unbinding (string_bytes n)
effect_of bytes (Store target v) = running.Storing (base_of target.base) (writes_to (geo_of target) (operand_over bytes v))
effect_of bytes (Scatter b s v) = running.Storing (base_of b) (writes_to (selected s) (operand_over bytes v))
effect_of bytes (Update kind op target v) = running.Storing (base_of target.base) (updates (kind_of kind) (binary_op op) bytes target v)
effect_of bytes (UpdateChosen kind op b s copy v) = running.Storing (base_of b) (copy_updates (kind_of kind) (binary_op op) bytes (selected s) copy v)

-- what is bound lies in its block, what is stored may be stored, and an operator may be applied in place
abbrev pub IsReady : Running → Effect → Type 0
IsReady r Nothing = Unit {0}
IsReady r (Print text) = Unit {0}
IsReady r (Save n file) = Unit {0}
IsReady r (Bind n v) = IsHeld r v
IsReady r (Unbind n) = Unit {0}
IsReady r (Store target v) = IsStorable r target v
IsReady r (Scatter b s v) = IsStorableIn r (base_of b) (selected s) v
IsReady r (Update kind op target v) = IsUpdatable (kind_of kind) (binary_op op) r target v
IsReady r (UpdateChosen kind op b s copy v) = IsCopyUpdatable (kind_of kind) (binary_op op) r (base_of b) (selected s) copy v

-- a value that is stored at a place, its elements as they are in these blocks, and that it may be
abbrev pub stored_at : (model.Base → List ℕ) → Value → Place → running.Effect
stored_at bytes v p = running.Storing (base_of p.base) (writes_to (geo_in p.target) (operand_over bytes v))

abbrev pub MayStore : Running → Value → Place → Type 0
MayStore r v p = IsStorableIn r (base_of p.base) (geo_in p.target) v

-- an effect of an evaluation, over the blocks as they are after it
abbrev pub EvaluatesEffect : Result Effect Stop → Evaluator → Eval running.Effect → Evaluator → Type 0
EvaluatesEffect result old t new = Evaluates (effect_of (session_of new).bytes) result old t new

-- the same where a printed text over the limit is refused
abbrev pub EvaluatesEffectInLimit : Result Effect Stop → Evaluator → Eval running.Effect → Evaluator → Type 0
EvaluatesEffectInLimit result old t new = EvaluatesInLimit (effect_of (session_of new).bytes) result old t new

-- Other orders of axes, other shapes and other types of an operand, as NumPy's methods and `np.broadcast_to` give them: what is chosen of it.
use Rattle.std.specs.Prelude.{ℕ, ◌^◌, ℤ, pos, int_lt, nat_lt, Bool, true, false, not, List, [], ◌∷◌, length, Result, Ok}
use Rattle.std.specs.List.{list_any}
use Rattle.nd_model.specs.Arrays.View.{One, Geo}
use Rattle.nd_model.specs.Arrays.Content.{Num, content_or}
use Rattle.nd_model.specs.Grammar.Calls.{DType}
use Rattle.nd_model.specs.Arrays.Types.{element_type}
use Rattle.nd_model.specs.Cells.Fault.{Fault, View, TooManyAxes, TooManyElements}
use Rattle.nd_model.specs.Cells.Refusing.{◌>>=◌, when}
use Rattle.nd_model.specs.Making.Operand.{Operand, Plain, Elements, Chosen, AView, ACopy, Stretched, number_of}
use Rattle.nd_model.specs.Indexing.Index.{array_of}
use Rattle.nd_model.specs.Making.Creation.{integers_of, lengths_of, without_axes, array_kind, little, number_element}
use Rattle.nd_model.specs.Arrays.Broadcast.{in_limits}
use Rattle.nd_model.specs.Indexing.Transposing.{transpose, reversed_view}
use Rattle.nd_model.specs.Indexing.Reshaping as reshaping
use Rattle.nd_model.specs.Indexing.Reshaping.{Reshaped, reshape}
use Rattle.nd_model.specs.Indexing.Stretching.{broadcast_to}
use Rattle.nd_model.specs.Indexing.Recasting.{view_as}

abbrev pub seen : Result Geo Fault → Result Chosen Fault
seen r = do
  h ← r
  Ok (AView h)

-- ---- `.T`, `.transpose(..)`

-- without any number the axes stand the other way round
abbrev pub ordered : List ℤ → Geo → Result Chosen Fault
ordered [] g = Ok (AView (reversed_view g))
ordered (z ∷ zs) g = seen (transpose (z ∷ zs) g)

abbrev pub transpose_array : Operand → List Operand → Result Chosen Fault
transpose_array t os = do
  zs ← integers_of os
  g ← array_of t
  ordered zs g

-- ---- `.reshape(..)`

abbrev pub has_long_axis : List ℤ → Bool
has_long_axis zs = list_any (int_lt (pos (2 ^ 32))) zs

-- the lengths of an array that might be, before it is known of what
abbrev pub bounded_lengths : List ℤ → Result (List ℤ) Fault
bounded_lengths zs =
    when (not (nat_lt 32 (length zs))) (View TooManyAxes)
    (when (not (has_long_axis zs)) (View TooManyElements) (Ok zs))

-- a view, or a copy of the elements in C order
abbrev pub reshaped_choice : Geo → Reshaped → Chosen
reshaped_choice g (reshaping.View h) = AView h
reshaped_choice g (reshaping.Copy shape) = ACopy (record g { shape = shape })

abbrev pub reshape_array : Operand → List Operand → Result Chosen Fault
reshape_array t os = do
  integers ← integers_of os
  zs ← bounded_lengths integers
  g ← array_of t
  r ← reshape zs g
  Ok (reshaped_choice g r)

-- ---- `np.broadcast_to`

-- of an array a view; else one of a new array of the one element, as a row has no axes
abbrev pub stretch_operand : Operand → (shape : List ℕ) → Result Chosen Fault
stretch_operand (Elements false g cs) shape = seen (broadcast_to shape g)
stretch_operand (Elements true g cs) shape = do
  row ← without_axes (Elements true g cs)
  in_limits g.element shape (Ok (Stretched g.element (content_or cs 0) shape))
stretch_operand (Plain n) shape = do
  k ← array_kind n
  in_limits (One (little k)) shape (Ok (Stretched (One (little k)) (Num (number_of n)) shape))

abbrev pub stretch_to : Operand → List Operand → Result Chosen Fault
stretch_to t os = do
  shape ← lengths_of os
  stretch_operand t shape

-- ---- `.view(t)`

-- the same bytes as numbers of a type; a structure is none
abbrev pub recast_array : DType → Operand → Result Chosen Fault
recast_array dtype o = do
  t ← element_type dtype
  g ← array_of o
  own ← number_element g.element
  e ← number_element t
  seen (view_as e g)

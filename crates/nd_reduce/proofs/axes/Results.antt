-- What a reduction comes to, step by step.
use Rattle.std.proofs.Common.{◌≡◌, ℕ, ℤ, Bool, true, false, List, length, Option, Some, None, Ok, Err, refl, sym, ap}
use Rattle.nd_model.specs.Arrays.Broadcast.{unless_fault}
use Rattle.nd_model.specs.Grammar.Calls.{Reduction}
use Rattle.nd_model.specs.Arrays.Content.{Num, array_bytes}
use Rattle.nd_model.specs.Arrays.Element.{Kind, size_of, wrap}
use Rattle.nd_model.specs.Making.Elementwise.{little, operand_sort}
use Rattle.nd_model.specs.Cells.Fault as model
use Rattle.nd_model.specs.Cells.Fault.{Fault, ViewFault, Reduce}
use Rattle.nd_model.specs.Making.Operand.{Operand, shape_of}
use Rattle.nd_model.specs.Making.ReduceFault.{EmptyReduce}
use Rattle.nd_model.specs.Making.Reductions as reductions
use Rattle.nd_model.specs.Making.Reductions.{axis_in, fold_kind, folded, kind_of_sort, lacks_numbers, lane, reduced_numbers, reduced_shape}
use Rattle.nd_model.specs.Arrays.Strides.{limit_fault}
use Rattle.nd_model.specs.Arrays.Tuple.{elements_of}
use Rattle.nd_model.specs.Arrays.View.{One, Geo, contiguous}
use Rattle.nd_model.proofs.Stretched.{unless_ok}
use Rattle.nd_model.proofs.Transposed.{ok_same}
use Rattle.nd_reduce.specs.Axes.Axes.{lane_length}
use Rattle.nd_reduce.specs.Axes.Faults.{Makes}
use Rattle.nd_reduce.specs.Axes.Made.{array_of, array_operand}
use Rattle.nd_reduce.specs.declared.axes.fault.AxisFault.{AxisFault}
use Rattle.nd_reduce.specs.declared.axes.fault.AxisFault.TheVariants as fault

pub same_length : (g : Geo) (block : List ℕ) (a : Option ℕ) → reductions.lane_length (array_operand g block) a ≡ lane_length a g.shape
same_length g block None = refl
same_length g block (Some a) = refl

module _ (r : Reduction) (axis : Option ℤ) (keep : Bool) (o : Operand) (k : Kind) (a : Option ℕ)
    (kind_is : kind_of_sort (operand_sort o) ≡ Ok k) (axis_is : axis_in (length (shape_of o)) axis ≡ Ok a) where
  abbrev shape : List ℕ
  shape = reduced_shape a keep (shape_of o)

  abbrev to : Kind
  to = fold_kind r k

  pub is_empty : lacks_numbers r (reductions.lane_length o a) (elements_of (reduced_shape a keep (shape_of o))) ≡ true → array_of (reduced_numbers r axis keep o) ≡ Err (Reduce EmptyReduce)
  is_empty lacking = rw (kind_is, axis_is, lacking) refl

  module _ (enough : lacks_numbers r (reductions.lane_length o a) (elements_of (reduced_shape a keep (shape_of o))) ≡ false) where
    above : (f : Fault) → unless_fault (limit_fault (size_of to) shape) (Ok (contiguous (One (little to)) shape)) ≡ Err f → array_of (reduced_numbers r axis keep o) ≡ Err f
    above f e = rw (kind_is, axis_is, enough) (over (limit_fault (size_of to) shape) e)
      where
        over : (w : Option ViewFault) → unless_fault w (Ok (contiguous (One (little to)) shape)) ≡ Err f
            → array_of (unless_fault w (Ok (record { kind = to; shape = shape; number = λ t. wrap to (folded r (lane o a keep t)) }))) ≡ Err f
        over None e = absurd (cc)
        over (Some w) e = let g : model.View w ≡ f = cc in ap Err g

    -- the first refusal stands
    pub is_above : {X Y : Type 0} (v : X → Geo) (m : Y → Geo × List ℕ) (f : AxisFault) → Makes v (Err f) (unless_fault (limit_fault (size_of to) shape) (Ok (contiguous (One (little to)) shape)))
        → Makes m (Err f) (array_of (reduced_numbers r axis keep o))
    is_above v m (fault.Memory want) h = tt
    is_above v m fault.NotNumbers h = above _ h
    is_above v m fault.NoAxis h = above _ h
    is_above v m fault.EmptyReduce h = above _ h
    is_above v m (fault.View f) h = above _ h

    pub is_made : (view : Geo) → unless_fault (limit_fault (size_of to) shape) (Ok (contiguous (One (little to)) shape)) ≡ Ok view
        → (block : List ℕ) → block ≡ array_bytes (One (little to)) shape (λ t. Num (wrap to (folded r (lane o a keep t)))) → array_of (reduced_numbers r axis keep o) ≡ Ok (view, block)
    is_made view view_is block bytes =
        let within = unless_ok (limit_fault (size_of to) shape) _ view view_is in
        rw (kind_is, axis_is, enough, within.0) (λ i. Ok (ok_same (contiguous (One (little to)) shape) view within.1 i, sym bytes i))

    pub made_shape : (view : Geo) → unless_fault (limit_fault (size_of to) shape) (Ok (contiguous (One (little to)) shape)) ≡ Ok view → view.shape ≡ shape
    made_shape view view_is = ap (λ (v : Geo). v.shape) (sym (ok_same (contiguous (One (little to)) shape) view (unless_ok (limit_fault (size_of to) shape) _ view view_is).1))

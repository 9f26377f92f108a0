use Rattle.std.proofs.Common.{◌≡◌, ◌+◌, ◌-◌, ◌*◌, ◌≤◌, ◌++◌, length, take, drop, slice_index}
use Rattle.nd_model.specs.Arrays.Element.{size_of}
use Rattle.nd_types.specs.Kinds.{kind_of}
use Rattle.nd_element.specs.Elements.{numbers_at}
use Rattle.nd_ufunc.specs.Elementwise.Beside.{HeldBeside, StaysBeside, left_beside, size_beside}
use Rattle.nd_ufunc.specs.Elementwise.Replaced.{replaced}
use Rattle.nd_ufunc.proofs.elementwise.replacing.replace_numbers.Given as goal

abbrev pub invariant-loop-at : goal.invariant-loop-at
invariant-loop-at g l = record {
  within : l.at ≤ length l.target.places;
  walk : l.walk ≡ drop l.at l.target.places;
  size : size_beside l.beside ≡ size_beside l.fn.beside;
  len : length l.bytes ≡ length l.fn.bytes;
  front : take (slice_index l.target.places 0 + l.at * size_of l.fn.elem.kind) l.bytes
      ≡ take (slice_index l.target.places 0) l.fn.bytes
      ++ replaced l.fn.elem (g.O.Operation.gives (kind_of l.fn.to)) (take l.at (numbers_at l.fn.elem l.fn.bytes l.target.places)) (take l.at (left_beside l.fn.beside l.fn.bytes));
  behind : drop (slice_index l.target.places 0 + l.at * size_of l.fn.elem.kind) l.bytes ≡ drop (slice_index l.target.places 0 + l.at * size_of l.fn.elem.kind) l.fn.bytes;
  beside : left_beside l.beside l.fn.bytes ≡ drop l.at (left_beside l.fn.beside l.fn.bytes);
  held : HeldBeside l.beside (length l.fn.bytes);
  stays : StaysBeside l.beside (slice_index l.target.places 0) (size_of l.fn.elem.kind) l.at;
}

abbrev pub decreases-loop-at : goal.decreases-loop-at
decreases-loop-at g l = length l.target.places - l.at

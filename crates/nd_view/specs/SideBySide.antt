-- The byte offsets of contiguous elements.
use Rattle.std.specs.Prelude.{ℕ, ◌+◌, ◌*◌, List, map}
use Rattle.nd_model.specs.Arrays.Tuple.{count_up}

-- the byte offsets of `count` contiguous elements of `size` bytes, the first of them given
abbrev pub side_by_side : (size first count : ℕ) → List ℕ
side_by_side size first count = map (λ k. first + k * size) (count_up 0 count)

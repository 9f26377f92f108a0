-- What a clause sees of a target that is written as it is read, and what is known of it.
use Rattle.std.specs.Prelude.{◌≡◌, ◌≢◌, ℕ, ◌*◌, List, length, slice_index, IfSome}
use Rattle.nd_model.specs.Arrays.Element.{size_of}
use Rattle.nd_model.specs.Cells.Sound.{LiesIn}
use Rattle.nd_model.specs.Grammar.Syntax.{Divide}
use Rattle.nd_model.specs.Arrays.View.{One}
use Rattle.nd_model.specs.Making.Elementwise.{little}
use Rattle.nd_view.specs.SideBySide.{side_by_side}
use Rattle.nd_syntax.specs.Trees.Syntax.{binary_op}
use Rattle.nd_types.specs.Kinds.{kind_of}
use Rattle.nd_ufunc.specs.Elementwise.Arguments.{numbers_beside}
use Rattle.nd_ufunc.specs.Elementwise.Beside.{IsBeside, IsFixedHeld, KeepsOffTarget, beside_numbers}
use Rattle.nd_ufunc.specs.Elementwise.Prepared.{DirectInPlace, right_operand}
use Rattle.nd_ufunc.specs.Elementwise.Stretched.{stretched_numbers}
use Rattle.nd_ufunc.specs.declared.elementwise.stretched.Stretched.{Stretched}
use Rattle.nd_ufunc.specs.declared.elementwise.direct.Direct.TheInside.{Inside}

abbrev pub direct_of : Inside → DirectInPlace
direct_of d = record { kind = kind_of d.kind; op = binary_op d.op; target = d.target.now; right = d.right; len = d.len }

-- the target's elements lie side by side, and what stands beside them keeps off them
pub record WritesDirectly (d : Inside) : Type 0 where
  pub op : binary_op d.op ≢ Divide
  pub element : d.target.now.element ≡ One d.elem
  pub lies : LiesIn d.len d.target.now
  pub gapless : d.target.now.places ≡ side_by_side (size_of d.elem.kind) (slice_index d.target.now.places 0) (length d.target.now.places)
  pub places : IfSome d.places (λ run. run ≡ side_by_side (size_of (kind_of d.kind)) 0 8192)
  pub fixed : IsFixedHeld d.beside
  pub held : IsBeside d.beside d.len
  pub stays : KeepsOffTarget d.beside (slice_index d.target.now.places 0) (size_of d.elem.kind)
  pub beside : (block : List ℕ) → length block ≡ d.len → beside_numbers d.beside (length d.target.now.places) block ≡ numbers_beside (right_operand d.right block) d.target.now.shape

-- the results are as many bytes as the block has, from its first one on, in the dtype that the target has
pub record FillsBlock (d : DirectInPlace) : Type 0 where
  pub element : d.target.element ≡ One (little d.kind)
  pub first : slice_index d.target.places 0 ≡ 0
  pub all : length d.target.places * size_of d.kind ≡ d.len

-- what stands beside the target's elements in a block of these bytes are the numbers of this operand
abbrev pub IsRightOf : DirectInPlace → List ℕ → Stretched → Type 0
IsRightOf d block s = stretched_numbers s (length d.target.places) ≡ numbers_beside (right_operand d.right block) d.target.shape

-- What maps hold: blocks as their bases and bytes, and a set of bases.
use Rattle.std.specs.Prelude.{ℕ, List, [], ◌∷◌, Option, Some, None}
use Rattle.std.proofs.Common.{Global}
use Rattle.std.specs.declared.rc.Rc.{Rc}
use Rattle.nd_model.specs.Arrays.Value as model
use Rattle.nd_heap.specs.declared.value.Base.{Base}
use Rattle.nd_heap.specs.Values.{base_of}

abbrev pub blocks_of : List (Base × Rc (List ℕ) Global) → List (model.Base × List ℕ)
blocks_of [] = []
blocks_of (e ∷ es) = (base_of e.0, e.1.value) ∷ blocks_of es

abbrev pub bases_of : List (Base × Unit {0}) → List model.Base
bases_of [] = []
bases_of (e ∷ es) = base_of e.0 ∷ bases_of es

-- the bytes of a block that is kept, and none where none is
abbrev pub bytes_in : Option (Rc (List ℕ) Global) → List ℕ
bytes_in None = []
bytes_in (Some block) = block.value

-- The law of written files: an array is read back from its NPY file.
use Rattle.std.specs.Prelude.{◌≡◌, ℕ, ℤ, ◌<◌, true, List, [], ◌∷◌, ◌++◌, length, map, Ok}
use Rattle.std.specs.List.{All}
use Rattle.nd_model.specs.Arrays.Element.{IsValue}
use Rattle.nd_model.specs.Arrays.View.{Field, ElementType, One, Structure, item_size}
use Rattle.nd_model.specs.Arrays.Tuple.{elements_of}
use Rattle.nd_model.specs.Arrays.Strides.{IsInLimits}
use Rattle.nd_model.specs.Arrays.Content.{Content, Num, Rec, content_at}
use Rattle.nd_model.specs.Formats.NpyReading.{read_npy}
use Rattle.nd_model.specs.Formats.NpyWriting.{npy_bytes}
use Rattle.nd_round_trip.specs.Formats.FormatLaws.{is_type}

-- a number for each field, which its element can hold
abbrev pub AreNumbers : List Field → List ℤ → Type 0
AreNumbers [] [] = Unit {0}
AreNumbers [] (z ∷ zs) = ⊥
AreNumbers (f ∷ fs) [] = ⊥
AreNumbers (f ∷ fs) (z ∷ zs) = IsValue f.element.kind z × AreNumbers fs zs

-- what an element of the type may hold
abbrev pub IsContent : ElementType → Content → Type 0
IsContent (One e) (Num z) = IsValue e.kind z
IsContent (One e) (Rec zs) = ⊥
IsContent (Structure fields size) (Num z) = ⊥
IsContent (Structure fields size) (Rec zs) = AreNumbers fields zs

abbrev pub AreContents : ElementType → List Content → Type 0
AreContents t [] = Unit {0}
AreContents t (c ∷ cs) = IsContent t c × AreContents t cs

-- FILE AGAIN: whatever bytes follow the file of an array, it is read as the same type, shape and elements
abbrev pub FileAgain : Type 0
FileAgain = (t : ElementType) (shape : List ℕ) (contents : List Content) (more : List ℕ)
    → is_type t ≡ true → IsInLimits (item_size t) shape → length contents ≡ elements_of shape → AreContents t contents
    → read_npy (npy_bytes t shape contents ++ more) ≡ Ok (record { element = t; shape = shape; contents = contents })

-- ARRAY AGAIN: the file of an array whose elements lie at these places of a block is read as the same type, shape and elements
abbrev pub ArrayAgain : Type 0
ArrayAgain = (t : ElementType) (shape places block more : List ℕ)
    → is_type t ≡ true → IsInLimits (item_size t) shape → length places ≡ elements_of shape → All (λ b. b < 256) block
    → read_npy (npy_bytes t shape (map (content_at t block) places) ++ more) ≡ Ok (record { element = t; shape = shape; contents = map (content_at t block) places })

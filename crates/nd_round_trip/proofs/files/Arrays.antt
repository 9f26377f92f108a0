-- An array of any bytes is read back from its file.
use Rattle.std.proofs.Common.{ℕ, zero, suc, ◌+◌, ◌<◌, List, [], ◌∷◌, map, get_or, ◌∙◌, arith}
use Rattle.std.specs.List.{All}
use Rattle.std.proofs.lemmas.List.{length-map}
use Rattle.nd_model.specs.Arrays.View.{Field, ElementType, One, Structure}
use Rattle.nd_model.specs.Arrays.Content.{number_at, content_at}
use Rattle.nd_ufunc.proofs.loops.Ranges.{in_range}
use Rattle.nd_round_trip.specs.Files.FileLaws.{AreNumbers, IsContent, AreContents, FileAgain, ArrayAgain}

small : (bs : List ℕ) → All (λ b. b < 256) bs → (i : ℕ) → get_or bs i 0 < 256
small [] all i = omega arith
small (b ∷ bs) all zero = all 0 0 (omega arith)
small (b ∷ bs) all (suc i) = small bs (λ k d lt. all (suc k) d (omega (arith, lt))) i

module _ (bs : List ℕ) (all : All (λ b. b < 256) bs) where
  numbers : (fs : List Field) (p : ℕ) → AreNumbers fs (map (λ (f : Field). number_at f.element bs (p + f.at)) fs)
  numbers [] p = tt
  numbers (f ∷ fs) p = (in_range f.element bs (small bs all) (p + f.at), numbers fs p)

  content : (t : ElementType) (p : ℕ) → IsContent t (content_at t bs p)
  content (One e) p = in_range e bs (small bs all) p
  content (Structure fields size) p = numbers fields p

  contents : (t : ElementType) (ps : List ℕ) → AreContents t (map (content_at t bs) ps)
  contents t [] = tt
  contents t (p ∷ ps) = (content t p, contents t ps)

pub array_again : FileAgain → ArrayAgain
array_again again t shape places block more ok limits same bytes =
    again t shape (map (content_at t block) places) more ok limits (length-map places (content_at t block) ∙ same) (contents block bytes t places)

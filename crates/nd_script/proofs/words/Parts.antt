-- The numbers of a list.
use Rattle.std.proofs.Common.{◌≡◌, ℕ, suc, ◌<◌, List, [], ◌∷◌, ◌++◌, length, Option, Some, None, refl, sym, ap, ◌∙◌, append_assoc}
use Rattle.std.specs.Prelude.{◌==◌}
use Rattle.std.specs.List.{position_or_len, before_first, after_first}
use Rattle.std.proofs.lemmas.List.Splits.{slice_split_first}
use Rattle.nd_model.specs.Book.Script.{also}
use Rattle.nd_script.specs.Words.Words.{parts_of}
use Rattle.nd_script.proofs.words.Words.{none_is_cons}

pub parts_of-one : (w : List ℕ) → position_or_len (λ b. b == 44) w ≡ length w → parts_of w ≡ w ∷ []
parts_of-one w e = none_is_cons (λ b. b == 44) w e

pub parts_of-more : (w : List ℕ) → position_or_len (λ b. b == 44) w < length w → parts_of w ≡ before_first (λ b. b == 44) w ∷ parts_of (after_first (λ b. b == 44) w)
parts_of-more w h = slice_split_first (λ b. b == 44) w 0 h

-- how much is left
abbrev pub left_over : Option (List ℕ) → ℕ
left_over None = 0
left_over (Some rest) = suc (length rest)

-- numbers, and those that were read before them
abbrev pub behind : {Y : Type 0} → List Y → Option (List Y) → Option (List Y)
behind ys None = None
behind ys (Some zs) = Some (ys ++ zs)

pub behind_none : {Y : Type 0} (o : Option (List Y)) → behind [] o ≡ o
behind_none None = refl
behind_none (Some zs) = refl

-- one more that is a number
pub behind_one : {Y : Type 0} (ys new : List Y) (y : Y) (o : Option (List Y)) → new ≡ ys ++ y ∷ [] → behind ys (also (Some y) o) ≡ behind new o
behind_one ys new y None grown = refl
behind_one ys new y (Some zs) grown = ap Some (sym (append_assoc ys (y ∷ []) zs) ∙ ap (λ l. l ++ zs) (sym grown))

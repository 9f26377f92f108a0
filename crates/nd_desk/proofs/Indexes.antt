-- The items of an index, as they are written.
use Rattle.std.proofs.Common.{◌≡◌, ℕ, ◌<◌, Bool, true, false, List, [], ◌∷◌, ◌++◌, map, length, Option, Some, None, refl}
use Rattle.std.specs.Prelude.{◌==◌, is_some, is_none, option_map}
use Rattle.std.specs.List.{position_or_len, before_first, after_first}
use Rattle.std.proofs.lemmas.List.Splits.{slice_split_first}
use Rattle.nd_model.specs.Book.Script.{also, words_of}
use Rattle.nd_script.proofs.words.Words.{none_is_cons, parts_are_some}
use Rattle.nd_desk.specs.Lines.{bounds_of}
use Rattle.nd_desk.specs.Words.{item_of_parts, part_line}

pub bounds_of-one : (w : List ℕ) → position_or_len (λ b. b == 58) w ≡ length w → bounds_of w ≡ w ∷ []
bounds_of-one w e = none_is_cons (λ b. b == 58) w e

pub bounds_of-more : (w : List ℕ) → position_or_len (λ b. b == 58) w < length w → bounds_of w ≡ before_first (λ b. b == 58) w ∷ bounds_of (after_first (λ b. b == 58) w)
bounds_of-more w h = slice_split_first (λ b. b == 58) w 0 h

-- a slice has at most three bounds, and an index is one word
pub four_bounds : (a b c rest : List ℕ) → None ≡ item_of_parts (a ∷ b ∷ c ∷ bounds_of rest)
four_bounds a b c rest = let some = parts_are_some (λ d. d == 58) rest in rw some.2 refl

two_words : (name a b : List ℕ) (ws : List (List ℕ)) (at : ℕ) → None ≡ part_line name (a ∷ b ∷ ws) at
two_words [] a b ws at = refl
two_words (c ∷ cs) a b ws at = refl

pub more_words : (name index rest : List ℕ) (at : ℕ) → None ≡ part_line name (index ∷ words_of rest) at
more_words name index rest at = let some = parts_are_some (λ d. d == 32) rest in rw some.2 (two_words name index some.0 some.1 at)

-- one part more that is read, and one that is not
pub some_more : {Y : Type 0} (o : Option Y) (os : Option (List Y)) → is_none o ≡ false → is_some (also o os) ≡ is_some os
some_more None os other = absurd (cc)
some_more (Some y) None other = refl
some_more (Some y) (Some ys) other = refl

pub some_less : {Y : Type 0} (o : Option Y) (os : Option (List Y)) → is_none o ≡ true → is_some (also o os) ≡ false
some_less None os none = refl
some_less (Some y) os none = absurd (cc)

pub none_mapped : {X Y : Type 0} (f : X → Y) (o : Option X) → is_none (option_map f o) ≡ is_none o
none_mapped f None = refl
none_mapped f (Some x) = refl

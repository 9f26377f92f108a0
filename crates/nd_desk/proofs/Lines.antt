-- Lines with words for front ends.
use Rattle.std.proofs.Common.{◌≡◌, ℕ, true, false, List, ◌∷◌, Some, None, refl, sym, ap, ◌∙◌, bytes_eq, codes}
use Rattle.std.specs.Prelude.{◌==◌, IsUtf8}
use Rattle.std.specs.Str.{is_utf8}
use Rattle.std.specs.List.{join_with_byte}
use Rattle.std.proofs.lemmas.Bool.{false_from_ne_true}
use Rattle.std.proofs.lemmas.Str.{IsUtf8-from_is_utf8, is_utf8-from_IsUtf8}
use Rattle.std.proofs.lemmas.List.Splits.{join_with_byte-slice_split}
use Rattle.nd_model.specs.Book.Script.{number_word, words_of}
use Rattle.nd_model.proofs.Lists.{same_bytes}
use Rattle.nd_script.proofs.words.Words.{parts_are_some}
use Rattle.nd_desk.specs.Words.{line_of_words, long_line, file_line, save_line, read_word}

-- a line that is a text, and one that is none
pub text_word : (line : List ℕ) → IsUtf8 line → read_word line ≡ line_of_words (words_of line)
text_word line text = let yes : is_utf8 line ≡ true = is_utf8-from_IsUtf8 line text in rw yes refl

pub other_word : (line : List ℕ) → (IsUtf8 line → ⊥) → read_word line ≡ None
other_word line other = let no : is_utf8 line ≡ false = false_from_ne_true (is_utf8 line) (λ yes. other (IsUtf8-from_is_utf8 line yes)) in rw no refl

-- the words behind the third
pub with_more : (word a b rest : List ℕ) → line_of_words (word ∷ a ∷ b ∷ words_of rest) ≡ long_line word a b (words_of rest)
with_more word a b rest =
    let some = parts_are_some (λ d. d == 32) rest in
    ap (λ ws. line_of_words (word ∷ a ∷ b ∷ ws)) some.2 ∙ ap (long_line word a b) (sym some.2)

-- a path is all that is left of the line
whole_path : (path : List ℕ) → join_with_byte 32 (words_of path) ≡ path
whole_path path = join_with_byte-slice_split 32 path

pub input_path : (word a b path : List ℕ) → bytes_eq word (codes "input") ≡ true → bytes_eq b (codes "file") ≡ true → long_line word a b (words_of path) ≡ file_line a path
input_path word a b path input file = rw (input, file) (ap (file_line a) (whole_path path))

pub save_path : (word a b path : List ℕ) (at : ℕ) → bytes_eq word (codes "save") ≡ true → number_word a ≡ Some at → long_line word a b (words_of path) ≡ save_line b path at
save_path word a b path at save is =
    ap (λ w. long_line w a b (words_of path)) (same_bytes word (codes "save") save) ∙ rw is (ap (λ p. save_line b p at) (whole_path path))

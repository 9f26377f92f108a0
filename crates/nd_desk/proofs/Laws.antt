-- Each word for front ends is a bad command of every other script.
use Rattle.std.proofs.Common.{◌≡◌, ℕ, Bool, true, false, cond, List, [], ◌∷◌, Option, Some, None, refl, sym, ap, subst, ◌∙◌, inl, inr, bytes_eq, codes}
use Rattle.std.specs.Prelude.{◌==◌, ◌&&◌}
use Rattle.std.specs.Str.{is_utf8}
use Rattle.std.specs.List.{onto_first}
use Rattle.std.proofs.lemmas.Bool.{cases_Bool, eqb-true}
use Rattle.std.proofs.lemmas.Slice.Eq.{bytes_eq-Decides}
use Rattle.nd_model.specs.Cells.Running.{Source}
use Rattle.nd_model.specs.Book.Script as script
use Rattle.nd_model.specs.Book.Script.{Whole, Bad, number_word, words_of, read_line, with_number, placed_line, input_line, input_of_words}
use Rattle.nd_script.proofs.words.InputWords.{no_kind}
use Rattle.nd_script.proofs.words.Words.{parts_are_some}
use Rattle.nd_desk.specs.Words.{Line, is_end, line_of_words, long_line, read_word}
use Rattle.nd_desk.specs.Laws.{IsBadElsewhere, WordsWereBad}

clash : {X : Type 0} (o : Option X) (x : X) → o ≡ None → o ≡ Some x → ⊥
clash None x none some = cc
clash (Some y) x none some = cc

is_word : (w k : List ℕ) → bytes_eq w k ≡ true → w ≡ k
is_word w k e = (bytes_eq-Decides w k).0 e

-- ---- by the words of a line

try_is_bad : (o : Option ℕ) → with_number o (placed_line (codes "try")) ≡ Whole Bad
try_is_bad None = refl
try_is_bad (Some at) = refl

reads_are_bad : (o : Option ℕ) → with_number o (placed_line (codes "reads")) ≡ Whole Bad
reads_are_bad None = refl
reads_are_bad (Some at) = refl

-- an input has none of its forms
no_file : (a : List ℕ) (o : Option Source) → o ≡ None → input_line a o ≡ Whole Bad
no_file [] o e = refl
no_file (c ∷ cs) o e = rw e refl

both : (a b : Bool) → (a && b) ≡ true → (a ≡ true) × (b ≡ true)
both true b e = (refl, e)
both false b e = absurd (cc)

one_word : (w : List ℕ) (l : Line) → line_of_words (w ∷ []) ≡ Some l → script.line_of_words (w ∷ []) ≡ Whole Bad
one_word w l e = elim (cases_Bool (bytes_eq w (codes "words"))) [
  | inl is ↦ subst (λ k. script.line_of_words (k ∷ []) ≡ Whole Bad) (sym (is_word w (codes "words") is)) refl
  | inr words ↦ elim (cases_Bool (bytes_eq w (codes "ran"))) [
    | inl is ↦ subst (λ k. script.line_of_words (k ∷ []) ≡ Whole Bad) (sym (is_word w (codes "ran") is)) refl
    | inr ran ↦ elim (cases_Bool (bytes_eq w (codes "begin"))) [
      | inl is ↦ subst (λ k. script.line_of_words (k ∷ []) ≡ Whole Bad) (sym (is_word w (codes "begin") is)) refl
      | inr begin ↦ absurd (clash (line_of_words (w ∷ [])) l (rw (words, ran, begin) refl) e)
    ]
  ]
]

two_words : (w a : List ℕ) (l : Line) → line_of_words (w ∷ a ∷ []) ≡ Some l → script.line_of_words (w ∷ a ∷ []) ≡ Whole Bad
two_words w a l e = elim (cases_Bool (bytes_eq w (codes "try"))) [
  | inl is ↦ subst (λ k. script.line_of_words (k ∷ a ∷ []) ≡ Whole Bad) (sym (is_word w (codes "try") is)) (try_is_bad (number_word a))
  | inr try ↦ elim (cases_Bool (bytes_eq w (codes "reads"))) [
    | inl is ↦ subst (λ k. script.line_of_words (k ∷ a ∷ []) ≡ Whole Bad) (sym (is_word w (codes "reads") is)) (reads_are_bad (number_word a))
    | inr reads ↦ absurd (clash (line_of_words (w ∷ a ∷ [])) l (rw (try, reads) refl) e)
  ]
]

three_words : (w a b : List ℕ) (l : Line) → line_of_words (w ∷ a ∷ b ∷ []) ≡ Some l → script.line_of_words (w ∷ a ∷ b ∷ []) ≡ Whole Bad
three_words w a b l e = elim (cases_Bool (bytes_eq w (codes "type"))) [
  | inl is ↦ subst (λ k. script.line_of_words (k ∷ a ∷ b ∷ []) ≡ Whole Bad) (sym (is_word w (codes "type") is)) refl
  | inr other ↦ absurd (clash (line_of_words (w ∷ a ∷ b ∷ [])) l (rw other refl) e)
]

-- an input of a kind that no other script has
input_is_bad : (w a b c : List ℕ) (more : List (List ℕ)) (k : List ℕ) → bytes_eq k (codes "npy") ≡ false → bytes_eq k (codes "buffer") ≡ false
    → (bytes_eq w (codes "input") && bytes_eq b k) ≡ true → script.line_of_words (w ∷ a ∷ b ∷ c ∷ more) ≡ Whole Bad
input_is_bad w a b c more k npy buffer is =
    let words = both (bytes_eq w (codes "input")) (bytes_eq b k) is in
    subst (λ v. script.line_of_words (v ∷ a ∷ b ∷ c ∷ more) ≡ Whole Bad) (sym (is_word w (codes "input") words.0))
    (no_file a (input_of_words b (c ∷ more)) (ap (λ v. input_of_words v (c ∷ more)) (is_word b k words.1) ∙ sym (no_kind k (c ∷ more) npy buffer)))

-- none of the words
other_line : (w a b : List ℕ) (words : List (List ℕ)) → (bytes_eq w (codes "input") && bytes_eq b (codes "file")) ≡ false → (bytes_eq w (codes "input") && bytes_eq b (codes "raw")) ≡ false
    → bytes_eq w (codes "save") ≡ false → bytes_eq w (codes "part") ≡ false → long_line w a b words ≡ None
other_line w a b words file raw save part = rw (file, raw, save, part) refl

more_words : (w a b c : List ℕ) (more : List (List ℕ)) (l : Line) → line_of_words (w ∷ a ∷ b ∷ c ∷ more) ≡ Some l → script.line_of_words (w ∷ a ∷ b ∷ c ∷ more) ≡ Whole Bad
more_words w a b c more l e = elim (cases_Bool (bytes_eq w (codes "input") && bytes_eq b (codes "file"))) [
  | inl is ↦ input_is_bad w a b c more (codes "file") refl refl is
  | inr file ↦ elim (cases_Bool (bytes_eq w (codes "input") && bytes_eq b (codes "raw"))) [
    | inl is ↦ input_is_bad w a b c more (codes "raw") refl refl is
    | inr raw ↦ elim (cases_Bool (bytes_eq w (codes "save"))) [
      | inl is ↦ subst (λ k. script.line_of_words (k ∷ a ∷ b ∷ c ∷ more) ≡ Whole Bad) (sym (is_word w (codes "save") is)) refl
      | inr save ↦ elim (cases_Bool (bytes_eq w (codes "part"))) [
        | inl is ↦ subst (λ k. script.line_of_words (k ∷ a ∷ b ∷ c ∷ more) ≡ Whole Bad) (sym (is_word w (codes "part") is)) refl
        | inr part ↦ absurd (clash (line_of_words (w ∷ a ∷ b ∷ c ∷ more)) l (other_line w a b (c ∷ more) file raw save part) e)
      ]
    ]
  ]
]

by_words : (ws : List (List ℕ)) (l : Line) → line_of_words ws ≡ Some l → script.line_of_words ws ≡ Whole Bad
by_words [] l e = refl
by_words (w ∷ []) l e = one_word w l e
by_words (w ∷ a ∷ []) l e = two_words w a l e
by_words (w ∷ a ∷ b ∷ []) l e = three_words w a b l e
by_words (w ∷ a ∷ b ∷ c ∷ more) l e = more_words w a b c more l e

-- ---- a comment is no word

comment_words : (part : List ℕ) (parts : List (List ℕ)) → line_of_words ((35 ∷ part) ∷ parts) ≡ None
comment_words part [] = refl
comment_words part (a ∷ []) = refl
comment_words part (a ∷ b ∷ []) = refl
comment_words part (a ∷ b ∷ c ∷ more) = refl

no_comment : (cs : List ℕ) → line_of_words (words_of (35 ∷ cs)) ≡ None
no_comment cs =
    let some = parts_are_some (λ d. d == 32) cs in
    ap (λ ws. line_of_words (onto_first 35 ws)) some.2 ∙ comment_words some.0 some.1

-- ---- the law

worded : (line : List ℕ) (l : Line) → is_utf8 line ≡ true → read_word line ≡ Some l → line_of_words (words_of line) ≡ Some l
worded line l text e = rw text at e

at_text : (c : ℕ) (cs : List ℕ) (l : Line) → is_utf8 (c ∷ cs) ≡ true → line_of_words (words_of (c ∷ cs)) ≡ Some l → read_line (c ∷ cs) ≡ Whole Bad
at_text c cs l text e = elim (cases_Bool (c == 35)) [
  | inl hash ↦
      let same : line_of_words (words_of (c ∷ cs)) ≡ None = ap (λ d. line_of_words (words_of (d ∷ cs))) (eqb-true c 35 hash) ∙ no_comment cs in
      absurd (clash (line_of_words (words_of (c ∷ cs))) l same e)
  | inr other ↦ rw (other, text) (by_words (words_of (c ∷ cs)) l e)
]

word_was_bad : (line : List ℕ) (l : Line) → read_word line ≡ Some l → IsBadElsewhere line
word_was_bad [] l e = elim (cases_Bool (is_utf8 [])) [
  | inl text ↦ absurd (clash (line_of_words (words_of [])) l refl (worded [] l text e))
  | inr not ↦ absurd (clash (read_word []) l (rw not refl) e)
]
word_was_bad (c ∷ cs) l e = elim (cases_Bool (is_utf8 (c ∷ cs))) [
  | inl text ↦ at_text c cs l text (worded (c ∷ cs) l text e)
  | inr not ↦ absurd (clash (read_word (c ∷ cs)) l (rw not refl) e)
]

-- whether a text is UTF-8 makes no difference to it
either_way : (b : Bool) → cond b (Whole Bad) (Whole Bad) ≡ Whole Bad
either_way true = refl
either_way false = refl

end_was_bad : (line : List ℕ) → is_end line ≡ true → IsBadElsewhere line
end_was_bad line is = subst IsBadElsewhere (sym (is_word line (codes "end") is)) (either_way (is_utf8 (codes "end")))

pub words_were_bad : WordsWereBad
words_were_bad = record { words = word_was_bad; ends = end_was_bad }

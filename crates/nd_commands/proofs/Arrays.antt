-- The answers for arrays and rows, piece by piece.
use Rattle.std.proofs.Common.{◌≡◌, ℕ, List, ◌++◌, ap₂, ◌∙◌, append_assoc}
use Rattle.std.specs.Prelude.{codes, decimal}
use Rattle.nd_model.specs.Arrays.View.{ElementType, item_size}
use Rattle.nd_model.specs.Formats.Format.{format_text}
use Rattle.nd_model.specs.Book.Renaming.{ShownArray, ShownRow}
use Rattle.nd_model.specs.Book.Script.{hex_text, shape_text, shown_text}
use Rattle.nd_script.specs.Lines.Answers.{AnswerState, Pushes}
use Rattle.nd_script.proofs.lines.Answers.{pushes_same, pushes_trans}

-- a word, a dtype and its size, and what stands behind
grouped : (word format size : List ℕ) → word ++ (format ++ codes " " ++ size) ++ codes " " ≡ word ++ format ++ codes " " ++ size ++ codes " "
grouped word format size = simp append_assoc

module _ {a b c d : AnswerState} (t : ElementType) (format : List ℕ) (size : ℕ) (is : format ≡ format_text t) (sized : size ≡ item_size t) where
  headed : (word : List ℕ) → Pushes a word b → Pushes b (format ++ codes " " ++ decimal size) c → Pushes c (codes " ") d
      → Pushes a (word ++ format_text t ++ codes " " ++ decimal (item_size t) ++ codes " ") d
  headed word p q s =
      pushes_same (grouped word format (decimal size) ∙ ap₂ (λ f n. word ++ f ++ codes " " ++ decimal n ++ codes " ") is sized) (pushes_trans (pushes_trans p q) s)

  pub row_pushed : {e : AnswerState} (bytes : List ℕ) → Pushes a (codes "row ") b → Pushes b (format ++ codes " " ++ decimal size) c → Pushes c (codes " ") d
      → Pushes d (hex_text bytes) e → Pushes a (shown_text (ShownRow t bytes)) e
  row_pushed bytes p q s r = pushes_trans (headed (codes "row ") p q s) r

  pub array_pushed : {e f g : AnswerState} (shape bytes : List ℕ) → Pushes a (codes "array ") b → Pushes b (format ++ codes " " ++ decimal size) c → Pushes c (codes " ") d
      → Pushes d (shape_text shape) e → Pushes e (codes " ") f → Pushes f (hex_text bytes) g → Pushes a (shown_text (ShownArray t shape bytes)) g
  array_pushed shape bytes p q s r u v = pushes_trans (pushes_trans (pushes_trans (headed (codes "array ") p q s) r) u) v

-- The words of a buffer whose bytes are those of a file.
use Rattle.std.proofs.Common.{◌≡◌, ℕ, List, [], ◌∷◌, Option, Some, None, refl}
use Rattle.std.specs.Prelude.{◌==◌}
use Rattle.nd_model.specs.Book.Script.{words_of}
use Rattle.nd_script.proofs.words.Words.{parts_are_some}
use Rattle.nd_desk.specs.Lines.{six_of}
use Rattle.nd_desk.specs.Words.{Line, raw_line}

pub seven_words : (a b c d e f rest : List ℕ) → None ≡ six_of (a ∷ b ∷ c ∷ d ∷ e ∷ f ∷ words_of rest)
seven_words a b c d e f rest = let some = parts_are_some (λ d. d == 32) rest in rw some.2 refl

pub six_are : (ws vs : List (List ℕ)) → six_of ws ≡ Some vs → ws ≡ vs
six_are [] vs h = cc
six_are (a ∷ []) vs h = cc
six_are (a ∷ b ∷ []) vs h = cc
six_are (a ∷ b ∷ c ∷ []) vs h = cc
six_are (a ∷ b ∷ c ∷ d ∷ []) vs h = cc
six_are (a ∷ b ∷ c ∷ d ∷ e ∷ []) vs h = cc
six_are (a ∷ b ∷ c ∷ d ∷ e ∷ f ∷ []) vs h = cc
six_are (a ∷ b ∷ c ∷ d ∷ e ∷ f ∷ g ∷ ws) vs h = cc

-- a line with other words than six
pub not_raw : (name : List ℕ) (ws : List (List ℕ)) → six_of ws ≡ None → raw_line name ws ≡ None
not_raw name [] none = refl
not_raw name (a ∷ []) none = refl
not_raw name (a ∷ b ∷ []) none = refl
not_raw name (a ∷ b ∷ c ∷ []) none = refl
not_raw name (a ∷ b ∷ c ∷ d ∷ []) none = refl
not_raw name (a ∷ b ∷ c ∷ d ∷ e ∷ []) none = refl
not_raw name (a ∷ b ∷ c ∷ d ∷ e ∷ f ∷ []) none = cc
not_raw name (a ∷ b ∷ c ∷ d ∷ e ∷ f ∷ g ∷ ws) none = refl

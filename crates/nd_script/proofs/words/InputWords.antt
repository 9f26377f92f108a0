-- The words of an input.
use Rattle.std.proofs.Common.{◌≡◌, ℕ, ◌<◌, ◌+◌, true, false, List, [], ◌∷◌, length, Some, None, refl, sym, ap, ◌∙◌, inl, inr, bytes_eq, codes, arith}
use Rattle.std.specs.Prelude.{◌==◌, ◌-◌, decimal, if◌then◌else◌}
use Rattle.std.specs.List.{position_or_len, after_first}
use Rattle.std.proofs.lemmas.Bool.{cases_Bool, eqb-true}
use Rattle.std.proofs.lemmas.Fmt.{decimal_nonempty}
use Rattle.std.proofs.lemmas.List.{length-drop}
use Rattle.nd_model.specs.Book.Script.{Line, Whole, Bad, words_of, line_of_words, input_line, input_of_words, integer_word, number_word, positive}
use Rattle.nd_script.specs.Words.Words.{six_of}
use Rattle.nd_script.proofs.words.Words.{parts_are_some}
use Rattle.nd_script.proofs.words.Numbers.{number_word-none}

-- four words or more
pub four_words : (a b c rest : List ℕ) → line_of_words (a ∷ b ∷ c ∷ words_of rest)
    ≡ (if bytes_eq a (codes "input") then input_line b (input_of_words c (words_of rest)) else Whole Bad)
four_words a b c rest = let some = parts_are_some (λ d. d == 32) rest in rw some.2 refl

-- four words of which the first is no `input` are no command
pub four_bad : (a b c rest : List ℕ) → bytes_eq a (codes "input") ≡ false → Whole Bad ≡ line_of_words (a ∷ b ∷ c ∷ words_of rest)
four_bad a b c rest other = sym (four_words a b c rest ∙ ap (λ t. if t then input_line b (input_of_words c (words_of rest)) else Whole Bad) other)

pub four_input : (a b c rest : List ℕ) (l : Line) → bytes_eq a (codes "input") ≡ true → l ≡ input_line b (input_of_words c (words_of rest)) → l ≡ line_of_words (a ∷ b ∷ c ∷ words_of rest)
four_input a b c rest l is same = same ∙ sym (four_words a b c rest ∙ ap (λ t. if t then input_line b (input_of_words c (words_of rest)) else Whole Bad) is)

-- an NPY file has one word
pub npy_two : (a b : List ℕ) (ws : List (List ℕ)) → None ≡ input_of_words (codes "npy") (a ∷ b ∷ ws)
npy_two a b [] = refl
npy_two a b (c ∷ []) = refl
npy_two a b (c ∷ d ∷ []) = refl
npy_two a b (c ∷ d ∷ e ∷ []) = refl
npy_two a b (c ∷ d ∷ e ∷ f ∷ []) = refl
npy_two a b (c ∷ d ∷ e ∷ f ∷ g ∷ ws) = refl

pub npy_more : (a rest : List ℕ) → None ≡ input_of_words (codes "npy") (a ∷ words_of rest)
npy_more a rest = let some = parts_are_some (λ d. d == 32) rest in rw some.2 (npy_two a some.0 some.1)

-- what is neither an NPY file nor a buffer
pub no_kind : (kind : List ℕ) (ws : List (List ℕ)) → bytes_eq kind (codes "npy") ≡ false → bytes_eq kind (codes "buffer") ≡ false → None ≡ input_of_words kind ws
no_kind kind [] npy buffer = refl
no_kind kind (a ∷ []) npy buffer = rw npy refl
no_kind kind (a ∷ b ∷ []) npy buffer = refl
no_kind kind (a ∷ b ∷ c ∷ []) npy buffer = refl
no_kind kind (a ∷ b ∷ c ∷ d ∷ []) npy buffer = refl
no_kind kind (a ∷ b ∷ c ∷ d ∷ e ∷ []) npy buffer = refl
no_kind kind (a ∷ b ∷ c ∷ d ∷ e ∷ f ∷ []) npy buffer = rw buffer refl
no_kind kind (a ∷ b ∷ c ∷ d ∷ e ∷ f ∷ g ∷ ws) npy buffer = refl

-- a buffer has six
pub buffer_words : (ws : List (List ℕ)) → six_of ws ≡ None → None ≡ input_of_words (codes "buffer") ws
buffer_words [] none = refl
buffer_words (a ∷ []) none = refl
buffer_words (a ∷ b ∷ []) none = refl
buffer_words (a ∷ b ∷ c ∷ []) none = refl
buffer_words (a ∷ b ∷ c ∷ d ∷ []) none = refl
buffer_words (a ∷ b ∷ c ∷ d ∷ e ∷ []) none = refl
buffer_words (a ∷ b ∷ c ∷ d ∷ e ∷ f ∷ []) none = cc
buffer_words (a ∷ b ∷ c ∷ d ∷ e ∷ f ∷ g ∷ ws) none = refl

pub six_are : (ws vs : List (List ℕ)) → six_of ws ≡ Some vs → ws ≡ vs
six_are [] vs h = cc
six_are (a ∷ []) vs h = cc
six_are (a ∷ b ∷ []) vs h = cc
six_are (a ∷ b ∷ c ∷ []) vs h = cc
six_are (a ∷ b ∷ c ∷ d ∷ []) vs h = cc
six_are (a ∷ b ∷ c ∷ d ∷ e ∷ []) vs h = cc
six_are (a ∷ b ∷ c ∷ d ∷ e ∷ f ∷ []) vs h = cc
six_are (a ∷ b ∷ c ∷ d ∷ e ∷ f ∷ g ∷ ws) vs h = cc

pub seven_words : (a b c d e f rest : List ℕ) → None ≡ six_of (a ∷ b ∷ c ∷ d ∷ e ∷ f ∷ words_of rest)
seven_words a b c d e f rest = let some = parts_are_some (λ d. d == 32) rest in rw some.2 refl

-- a number without a sign
no_digits : number_word [] ≡ None
no_digits = number_word-none [] (λ n small e. let some : 0 < length (decimal n) = decimal_nonempty n small in let none : length (decimal n) ≡ 0 = sym (ap length e) in omega (arith, some, none))

pub no_sign : (w : List ℕ) → ((rest : List ℕ) → w ≡ 45 ∷ rest → ⊥) → positive (number_word w) ≡ integer_word w
no_sign [] other = ap positive no_digits
no_sign (c ∷ cs) other = elim (cases_Bool (c == 45)) [
  | inl is ↦ absurd (other cs (ap (λ x. x ∷ cs) (eqb-true c 45 is)))
  | inr not ↦ rw not refl
]

pub shorter_behind : (text rest : List ℕ) → position_or_len (λ b. b == 44) text < length text → rest ≡ after_first (λ b. b == 44) text → length rest < length text
shorter_behind text rest lt is =
    let long : length rest ≡ length text - (position_or_len (λ b. b == 44) text + 1) = ap length is ∙ length-drop (position_or_len (λ b. b == 44) text + 1) text in
    omega (arith, long)

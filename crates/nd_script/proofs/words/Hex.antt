-- Bytes in hex.
use Rattle.std.proofs.Common.{◌≡◌, ℕ, ◌/◌, ◌%◌, List, [], ◌∷◌, ◌++◌, refl, ap}
use Rattle.hex.specs.Hex.{encode_lower, encode_with}
use Rattle.nd_model.specs.Book.Script.{hex_digit, hex_digits}

pub hex_encoded : (bytes : List ℕ) → encode_lower bytes ≡ hex_digits bytes
unfolding encode_with
hex_encoded [] = refl
hex_encoded (b ∷ bs) = ap (λ l. hex_digit (b / 16) ∷ hex_digit (b % 16) ∷ l) (hex_encoded bs)

pub hex_digits-append : (xs ys : List ℕ) → hex_digits (xs ++ ys) ≡ hex_digits xs ++ hex_digits ys
hex_digits-append [] ys = refl
hex_digits-append (x ∷ xs) ys = ap (λ l. hex_digit (x / 16) ∷ hex_digit (x % 16) ∷ l) (hex_digits-append xs ys)

-- Loops over lists, one item after another.
use Rattle.std.proofs.Common.{◌≡◌, ℕ, ◌+◌, ◌-◌, ◌<◌, ◌≤◌, List, [], ◌∷◌, ◌++◌, length, get_or, take, drop, map, sym, ap, ap₂, ◌∙◌, add-one, drop-cons, take_all, arith}
use Rattle.std.specs.Prelude.{codes, decimal}
use Rattle.std.specs.List.{flat_map}
use Rattle.nd_model.specs.Book.Script.{shape_text}

-- what is left at an index: its item, and what is left at the next
pub drop_next : {X : Type 0} (xs : List X) (i : ℕ) (x : X) → i < length xs → x ≡ get_or xs i x → drop i xs ≡ x ∷ drop (i + 1) xs
drop_next xs i x lt is = drop-cons xs i x lt ∙ ap₂ (λ y n. y ∷ drop n xs) (sym is) (sym (add-one i))

pub drop_more : (xs : List ℕ) (i : ℕ) → i < length xs → drop i xs ≡ get_or xs i 0 ∷ drop (i + 1) xs
drop_more xs i lt = drop-cons xs i 0 lt ∙ ap (λ n. get_or xs i 0 ∷ drop n xs) (sym (add-one i))

-- a shape, by its first length and the others
pub shape_parts : (shape : List ℕ) → 1 ≤ length shape
    → shape_text shape ≡ decimal (get_or shape 0 0) ++ flat_map (λ q. codes "," ++ q) (map decimal (take (length shape - 1) (drop 1 shape)))
shape_parts [] some = absurd (omega arith)
shape_parts (n ∷ ns) some = ap (λ l. decimal n ++ flat_map (λ q. codes "," ++ q) (map decimal l)) (sym (take_all (length (n ∷ ns) - 1) ns (omega arith)))

-- Answers, written piece by piece.
use Rattle.std.proofs.Common.{◌≡◌, ℕ, ◌-◌, List, ◌++◌, Option, length, take, drop, sym, ◌∙◌, ap, append_assoc}
use Rattle.std.specs.Io.KnownBytes.{Appends}
use Rattle.std.proofs.KnownBytes.{Appends-trans}
use Rattle.std.proofs.lemmas.List.{take_rest, take-append-drop}

pub wrote_more : (answer front rest : List ℕ) (n : ℕ) (was mid now : Option (List ℕ)) → answer ≡ front ++ rest → Appends was mid front → Appends mid now (take n rest)
    → (more : List ℕ) × (answer ≡ more ++ take (length rest - n) (drop n rest)) × Appends was now more
wrote_more answer front rest n was mid now cut before after =
    let whole : take n rest ++ drop n rest ≡ rest = take-append-drop n rest in
    let same : answer ≡ (front ++ take n rest) ++ drop n rest = cut ∙ ap (λ xs. front ++ xs) (sym whole) ∙ sym (append_assoc front (take n rest) (drop n rest)) in
    (front ++ take n rest, rw (take_rest rest n) same, Appends-trans was mid now front (take n rest) before after)

-- A store is its two parts.
use Rattle.std.proofs.Common.{◌≡◌, ℕ, Bool, true, false, not, cond, ◌&&◌, ◌||◌, eqb, eqb-true, refl, ap, ◌∙◌, inl, inr}
use mathlib.Core.Path.{fun_ext}
use Rattle.std.proofs.lemmas.Bool.{cases_Bool}
use Rattle.nd_model.specs.Arrays.Value.{Base, same_base}
use Rattle.nd_model.specs.Cells.Session as model
use Rattle.nd_model.specs.Cells.Running as running
use Rattle.nd_model.specs.Cells.Storing.{StoresByParts}

both : (x y : Bool) → (x && y) ≡ true → (x ≡ true) × (y ≡ true)
both true y h = (refl, h)
both false y h = absurd (cc)

pub equal_bases : (b c : Base) → same_base b c ≡ true → b ≡ c
equal_bases b c same =
    let p = both (eqb b.label c.label) (eqb b.number c.number) same in
    λ i. record { label = eqb-true b.label c.label p.0 i; number = eqb-true b.number c.number p.1 i }

-- A STORE IN PARTS: the bytes are noted as written, and the block gets them
pub stores_by_parts : StoresByParts
stores_by_parts b ps ws w r put marked =
    let bytes : running.with_base b w r.bytes ≡ (λ c. cond (same_base b c) (model.put ws (r.bytes c)) (r.bytes c)) =
    fun_ext (λ c. elim (cases_Bool (same_base b c)) [
      | inl same ↦ rw same (put ∙ ap (λ c. model.put ws (r.bytes c)) (equal_bases b c same))
      | inr apart ↦ rw apart refl
    ]) in
    let written : ◌≡◌ {A = Base → ℕ → Bool} (λ c p. r.written c p || (same_base b c && model.is_in p ps)) (λ c p. r.written c p || (same_base b c && model.is_place p ws)) =
    fun_ext (λ c. fun_ext (λ p. ap (λ t. r.written c p || (same_base b c && t)) (marked p))) in
    λ i. record r { bytes = bytes i; written = written i; read = λ k. r.read k || (running.is_length b k && not (running.is_own r k)) }

-- A fact of each of the first entries of a list.
use Rattle.std.proofs.Common.{◌≡◌, ℕ, zero, suc, ◌+◌, ◌≤◌, List, [], ◌∷◌, length, slice_get, Some, add-one, sym, subst, arith}
use Rattle.std.specs.List.{AllByRecursion}
use Rattle.nd_heap.proofs.Plain.{none_some, some_same}

abbrev pub AllBefore : {E : Type 0} → (E → Type 0) → List E → ℕ → Type 0
AllBefore P es zero = Unit {0}
AllBefore P [] (suc i) = Unit {0}
AllBefore P (e ∷ es) (suc i) = P e × AllBefore P es i

next : {E : Type 0} (P : E → Type 0) (es : List E) (i : ℕ) (e : E) → slice_get es i ≡ Some e → P e → AllBefore P es i → AllBefore P es (suc i)
next P [] i e at is before = none_some e at
next P (d ∷ es) zero e at is before = (subst P (sym (some_same d e at)) is, tt)
next P (d ∷ es) (suc i) e at is before = (before.0, next P es i e at is before.1)

pub all_more : {E : Type 0} (P : E → Type 0) (es : List E) (i : ℕ) (e : E) → slice_get es i ≡ Some e → P e → AllBefore P es i → AllBefore P es (i + 1)
all_more P es i e at is before = subst (AllBefore P es) (sym (add-one i)) (next P es i e at is before)

pub all_of : {E : Type 0} (P : E → Type 0) (es : List E) (i : ℕ) → length es ≤ i → AllBefore P es i → AllByRecursion P es
all_of P [] i long h = tt
all_of P (e ∷ es) zero long h = absurd (omega arith)
all_of P (e ∷ es) (suc i) long h = (h.0, all_of P es i (omega arith) h.1)

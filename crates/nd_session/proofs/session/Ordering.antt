-- The order of names.
use Rattle.std.proofs.Common.{◌≡◌, ℕ, suc, zero, true, false, bytes_eq, List, [], ◌∷◌, ◌++◌, length, slice_get, Some, Global, refl, sym, ap, ◌∙◌, inl, inr}
use Rattle.std.specs.Rc.{rc_str_bytes}
use Rattle.std.specs.declared.rc.RcStr.{RcStr}
use Rattle.std.proofs.lemmas.Bool.{cases_Bool}
use Rattle.nd_model.specs.Arrays.Value.{Value}
use Rattle.nd_model.specs.Cells.Footprint.{replayed}
use Rattle.nd_model.specs.Cells.Running.{Event, Binds, Unbinds}
use Rattle.nd_model.specs.Cells.Session.{bind, unbind}
use Rattle.nd_heap.specs.Values.{entries_of}
use Rattle.nd_heap.proofs.Plain.{none_some, some_same}
use Rattle.nd_session.specs.Session.Order.{IsOrderBehind, names_in}
use Rattle.nd_session.proofs.session.Last.{replayed-more}

-- ---- behind events

module _ {A B : Type 0} (n : List ℕ) where
  pub same_bind : (v : A) (w : B) (xs : List (List ℕ × A)) (ys : List (List ℕ × B)) → names_in xs ≡ names_in ys → names_in (bind n v xs) ≡ names_in (bind n w ys)
  same_bind v w [] [] h = refl
  same_bind v w [] (y ∷ ys) h = cc
  same_bind v w (x ∷ xs) [] h = cc
  same_bind v w (x ∷ xs) (y ∷ ys) h =
      let first : x.0 ≡ y.0 = cc in
      let rest : names_in xs ≡ names_in ys = cc in
      elim (cases_Bool (bytes_eq n x.0)) [
        | inl is ↦ let is' : bytes_eq n y.0 ≡ true = ap (bytes_eq n) (sym first) ∙ is in rw (is, is') (λ i. first i ∷ rest i)
        | inr other ↦ let other' : bytes_eq n y.0 ≡ false = ap (bytes_eq n) (sym first) ∙ other in rw (other, other') (λ i. first i ∷ same_bind v w xs ys rest i)
      ]

  pub same_unbind : (xs : List (List ℕ × A)) (ys : List (List ℕ × B)) → names_in xs ≡ names_in ys → names_in (unbind n xs) ≡ names_in (unbind n ys)
  same_unbind [] [] h = refl
  same_unbind [] (y ∷ ys) h = cc
  same_unbind (x ∷ xs) [] h = cc
  same_unbind (x ∷ xs) (y ∷ ys) h =
      let first : x.0 ≡ y.0 = cc in
      let rest : names_in xs ≡ names_in ys = cc in
      elim (cases_Bool (bytes_eq n x.0)) [
        | inl is ↦ let is' : bytes_eq n y.0 ≡ true = ap (bytes_eq n) (sym first) ∙ is in rw (is, is') (same_unbind xs ys rest)
        | inr other ↦ let other' : bytes_eq n y.0 ≡ false = ap (bytes_eq n) (sym first) ∙ other in rw (other, other') (λ i. first i ∷ same_unbind xs ys rest i)
      ]

-- behind one event more
pub behind_more : (before middle order : List (List ℕ)) (es : List Event) (e : Event) → IsOrderBehind before es middle → IsOrderBehind middle (e ∷ []) order → IsOrderBehind before (es ++ e ∷ []) order
behind_more before middle order es e h one names from = ap names_in (replayed-more es e names) ∙ one (replayed es names) (h names from)

pub behind_bind : {A : Type 0} (n m : List ℕ) (v : Value) (a : A) (xs ys : List (List ℕ × A)) → m ≡ n → ys ≡ bind n a xs → IsOrderBehind (names_in xs) (Binds m v ∷ []) (names_in ys)
behind_bind n m v a xs ys same is names from = ap (λ m. names_in (bind m v names)) same ∙ same_bind n v a names xs from ∙ ap names_in (sym is)

pub behind_unbind : {A : Type 0} (n m : List ℕ) (xs ys : List (List ℕ × A)) → m ≡ n → ys ≡ unbind n xs → IsOrderBehind (names_in xs) (Unbinds m ∷ []) (names_in ys)
behind_unbind n m xs ys same is names from = ap (λ m. names_in (unbind m names)) same ∙ same_unbind n names xs from ∙ ap names_in (sym is)

-- ---- places

abbrev pub unit_at : Unit {0} → Unit {0}
unit_at u = u

pub order_at : (es : List (RcStr Global × Unit {0})) (i : ℕ) (e : RcStr Global × Unit {0}) → slice_get es i ≡ Some e → slice_get (names_in (entries_of unit_at es)) i ≡ Some (rc_str_bytes e.0)
order_at [] i e at = none_some e at
order_at (d ∷ es) zero e at = ap (λ (d : RcStr Global × Unit {0}). Some (rc_str_bytes d.0)) (some_same d e at)
order_at (d ∷ es) (suc i) e at = order_at es i e at

pub length-order : (es : List (RcStr Global × Unit {0})) → length (names_in (entries_of unit_at es)) ≡ length es
length-order [] = refl
length-order (e ∷ es) = ap suc (length-order es)

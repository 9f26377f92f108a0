-- What events leave at a name that they touch.
use Rattle.std.proofs.Common.{◌≡◌, ℕ, Bool, true, false, ◌||◌, List, [], ◌∷◌, Some, None, refl, sym, ◌∙◌, inl, inr}
use Rattle.std.specs.Prelude.{bytes_eq}
use Rattle.std.proofs.lemmas.Bool.{cases_Bool}
use Rattle.nd_model.specs.Arrays.Value.{Value}
use Rattle.nd_model.specs.Cells.Session.{Names, lookup, bind, unbind}
use Rattle.nd_model.specs.Cells.Running.{Event, Binds, Unbinds, is_touched}
use Rattle.nd_model.specs.Cells.Footprint.{replayed}
use Rattle.nd_model.proofs.Lists.{not_both, lookup-bind, lookup-unbind}
use Rattle.nd_model.proofs.Sessions.{untouched_lookup}

bound_now : (n m : List ℕ) (v : Value) (ns : Names) → bytes_eq n m ≡ true → lookup n (bind m v ns) ≡ Some v
bound_now n m v ns is = lookup-bind n m v ns ∙ rw is refl

unbound_now : (n m : List ℕ) (ns : Names) → bytes_eq n m ≡ true → lookup n (unbind m ns) ≡ None
unbound_now n m ns is = lookup-unbind n m ns ∙ rw is refl

-- what is last done to a name that is touched is the same over all names
pub touched_lookup : (n : List ℕ) (es : List Event) (ns ms : Names) → is_touched n es ≡ true → lookup n (replayed es ns) ≡ lookup n (replayed es ms)
touched_lookup n [] ns ms h = absurd (cc)
touched_lookup n (Binds m v ∷ es) ns ms h = elim (cases_Bool (is_touched n es)) [
  | inl later ↦ touched_lookup n es (bind m v ns) (bind m v ms) later
  | inr last ↦ let is : bytes_eq n m ≡ true = first (bytes_eq n m) (is_touched n es) h last in
      untouched_lookup n es (bind m v ns) last ∙ bound_now n m v ns is ∙ sym (bound_now n m v ms is) ∙ sym (untouched_lookup n es (bind m v ms) last)
]
  where
    first : (a b : Bool) → (a || b) ≡ true → b ≡ false → a ≡ true
    first true b h f = refl
    first false b h f = absurd (not_both b f h)
touched_lookup n (Unbinds m ∷ es) ns ms h = elim (cases_Bool (is_touched n es)) [
  | inl later ↦ touched_lookup n es (unbind m ns) (unbind m ms) later
  | inr last ↦ let is : bytes_eq n m ≡ true = first (bytes_eq n m) (is_touched n es) h last in
      untouched_lookup n es (unbind m ns) last ∙ unbound_now n m ns is ∙ sym (unbound_now n m ms is) ∙ sym (untouched_lookup n es (unbind m ms) last)
]
  where
    first : (a b : Bool) → (a || b) ≡ true → b ≡ false → a ≡ true
    first true b h f = refl
    first false b h f = absurd (not_both b f h)

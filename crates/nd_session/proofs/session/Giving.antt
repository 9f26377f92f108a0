-- What other inputs change.
use Rattle.std.proofs.Common.{◌≡◌, ℕ, List, Option, Some, None, option_map, length, slice_index, refl, sym, ap, ap₂, ◌∙◌, inl, inr}
use Rattle.std.specs.List.{AllByRecursion}
use Rattle.std.specs.Rc.{rc_str_bytes}
use Rattle.std.specs.declared.rc.Rc.{Rc}
use Rattle.std.specs.declared.rc.RcStr.{RcStr}
use Rattle.std.proofs.Common.{Global}
use Rattle.nd_change.specs.Change.{IsOver, IsThere}
use Rattle.nd_change.specs.Whole.{byte_in, Whole, whole_of}
use Rattle.nd_model.specs.Arrays.Value.{Base}
use Rattle.nd_model.specs.Cells.Footprint.{Found, Bound, Given, Number, Ruled, found}
use Rattle.nd_model.specs.Cells.Running.{Key, Name, Input, Length, Byte, OfRule, Inputs, Rule, World, Source}
use Rattle.nd_model.specs.Cells.Session.{Session}
use Rattle.nd_input.specs.declared.Input as code
use Rattle.nd_input.specs.Sources.{source_of}
use Rattle.nd_session.specs.Inputs.Values.{inputs_of}
use Rattle.nd_session.specs.Session.Change.{IsNoted}
use Rattle.nd_session.proofs.session.Standing.{name_all, none_before, none_some, same_some}

-- an input that is not in the change is the same in both
abbrev pub IsSameOut : (i j : Inputs) → (List ℕ → Option (Option Source)) → RcStr Global × Rc code.Input Global → Type 0
IsSameOut i j now e = now (rc_str_bytes e.0) ≡ None → i (rc_str_bytes e.0) ≡ j (rc_str_bytes e.0)

pub out_weaker : (i j : Inputs) (mid new : List ℕ → Option (Option Source)) → IsNoted j mid new → (e : RcStr Global × Rc code.Input Global) → IsSameOut i j mid e → IsSameOut i j new e
out_weaker i j mid new step e h out = h (none_before j mid new step (rc_str_bytes e.0) out)

pub out_all : (i j : Inputs) (now : List ℕ → Option (Option Source)) (es : List (RcStr Global × Rc code.Input Global)) → AllByRecursion (IsSameOut i j now) es
    → (n : List ℕ) (x : Source) → inputs_of es n ≡ Some x → now n ≡ None → i n ≡ j n
out_all i j now es all n x at = name_all (λ (x : Rc code.Input Global). source_of x.value) (λ n x. now n ≡ None → i n ≡ j n) es all n x at

module _ (i j : Inputs) (c : Whole) (first : List ℕ → Option (Option Source)) (names : (n : List ℕ) → c.names n ≡ None) (blocks : (b : Base) → c.blocks b ≡ None) (bytes : (b : Base) (p : ℕ) → c.bytes b p ≡ None)
    (one : IsNoted j (λ n. None) first) (two : IsNoted j first c.inputs)
    (old : (n : List ℕ) (x : Source) → i n ≡ Some x → first n ≡ None → i n ≡ j n) (new : (n : List ℕ) (x : Source) → j n ≡ Some x → c.inputs n ≡ None → i n ≡ j n) where
  -- what stands there is there now
  true_now : (n : List ℕ) (x : Option Source) → c.inputs n ≡ Some x → j n ≡ x
  true_now n x at = elim (two n) [
    | inl here ↦ same_some (j n) x (sym here ∙ at)
    | inr same ↦ elim (one n) [ inl here ↦ same_some (j n) x (sym (same ∙ here) ∙ at) | inr none ↦ none_some x (sym (same ∙ none) ∙ at) ]
  ]

  -- what is not there is the same
  same_out : (n : List ℕ) → c.inputs n ≡ None → i n ≡ j n
  same_out n out = by_old (i n) refl
    where
      by_new : (o : Option Source) → i n ≡ None → j n ≡ o → i n ≡ j n
      by_new None none is = none ∙ sym is
      by_new (Some x) none is = new n x is out

      by_old : (o : Option Source) → i n ≡ o → i n ≡ j n
      by_old None is = by_new (j n) is refl
      by_old (Some x) is = old n x is (none_before j first c.inputs two n out)

  some_of : (o : Option (Option Source)) (f : Found) → option_map Given o ≡ Some f → (x : Option Source) × (o ≡ Some x) × (Given x ≡ f)
  some_of None f e = none_some f e
  some_of (Some x) f e = (x, refl, same_some (Given x) f e)

  none_of : (o : Option (Option Source)) → option_map Given o ≡ None → o ≡ None
  none_of None e = refl
  none_of (Some x) e = none_some (Given x) (sym e)

  pub given_over : (p q : Rule) → ((x : Rule) → c.rule ≡ Some x → q ≡ x) → (c.rule ≡ None → p ≡ q) → (s : Session) → IsOver (whole_of c) s (record { inputs = i; rule = p }) s (record { inputs = j; rule = q })
  given_over p q ruled unruled s = record { now = now; same = same }
    where
      v : World
      v = record { inputs = i; rule = p }

      w : World
      w = record { inputs = j; rule = q }

      rule_now : (o : Option Rule) (f : Found) → c.rule ≡ o → option_map Ruled o ≡ Some f → Ruled q ≡ f
      rule_now None f is at = none_some f at
      rule_now (Some x) f is at = ap Ruled (ruled x is) ∙ same_some (Ruled x) f at

      rule_same : (o : Option Rule) → c.rule ≡ o → option_map Ruled o ≡ None → p ≡ q
      rule_same None is out = unruled is
      rule_same (Some x) is out = none_some (Ruled x) (sym out)

      now : (k : Key) (f : Found) → whole_of c k ≡ Some f → IsThere s k → found s w k ≡ f
      now (Name n) f at there = none_some f (sym (ap (option_map Bound) (names n)) ∙ at)
      now (Input n) f at there = let is : (x : Option Source) × (c.inputs n ≡ Some x) × (Given x ≡ f) = some_of (c.inputs n) f at in ap Given (true_now n is.0 is.1) ∙ is.2
      now (Length b) f at there = none_some f (sym (ap (option_map (λ bytes. Number (length bytes))) (blocks b)) ∙ at)
      now (Byte b p) f at there = none_some f (sym (ap₂ (λ o x. option_map Number (byte_in o x p)) (blocks b) (bytes b p)) ∙ at)
      now OfRule f at there = rule_now c.rule f refl at

      same : (k : Key) → whole_of c k ≡ None → IsThere s k → IsThere s k → found s v k ≡ found s w k
      same (Name n) out in_s in_t = refl
      same (Input n) out in_s in_t = ap Given (same_out n (none_of (c.inputs n) out))
      same (Length b) out in_s in_t = refl
      same (Byte b p) out in_s in_t = refl
      same OfRule out in_s in_t = ap Ruled (rule_same c.rule refl out)

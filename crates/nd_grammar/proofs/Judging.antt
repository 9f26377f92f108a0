-- What tokens come to is computed.
use Rattle.std.proofs.Common.{◌≡◌, ℕ, Bool, true, false, List, refl, sym, ap, ◌∙◌}
use Rattle.nd_model.specs.Formats.Rules.{Rule, Part}
use Rattle.nd_model.specs.Formats.RuleReading.{look, Reading, reading}
use Rattle.nd_model.specs.Formats.Judging.{IsReadAs, ComesTo, judged}
use Rattle.nd_grammar.proofs.Exact.{reading_is_exact}

pub comes_judged : {X : Type 0} (r : Rule) (ts : List ℕ) (judge : List Part → Bool → X) (x : X) → (look r).fits ≡ true → ComesTo r ts judge x → judged r ts judge ≡ x
comes_judged r ts judge x fit h = ap (λ (z : Reading). judge z.parts z.whole) (same h.whole h.read) ∙ h.is
  where
    same : (w : Bool) → IsReadAs r ts h.parts w → reading r ts ≡ record { parts = h.parts; whole = w }
    same true m = (reading_is_exact r fit ts).one_meaning h.parts m
    same false s = (reading_is_exact r fit ts).one_fault h.parts s

pub judged_comes : {X : Type 0} (r : Rule) (ts : List ℕ) (judge : List Part → Bool → X) (x : X) → (look r).fits ≡ true → judged r ts judge ≡ x → ComesTo r ts judge x
judged_comes r ts judge x fit e = record { parts = (reading r ts).parts; whole = (reading r ts).whole; read = by_whole (reading r ts).whole refl; is = e }
  where
    by_whole : (w : Bool) → (reading r ts).whole ≡ w → IsReadAs r ts (reading r ts).parts w
    by_whole true d = (reading_is_exact r fit ts).means d
    by_whole false d = (reading_is_exact r fit ts).stops d

-- tokens come to one thing
pub one_outcome : {X : Type 0} (r : Rule) (ts : List ℕ) (judge : List Part → Bool → X) (x y : X) → (look r).fits ≡ true → ComesTo r ts judge x → ComesTo r ts judge y → x ≡ y
one_outcome r ts judge x y fit p q = sym (comes_judged r ts judge x fit p) ∙ comes_judged r ts judge y fit q

-- Reading all tokens: exactly the texts are read, each has one meaning, and any other has its fault.
use Rattle.std.proofs.Common.{◌≡◌, ◌≢◌, ℕ, ◌≤◌, true, List, [], ◌∷◌, length, Ok, Err, refl, sym, ap, subst, ◌∙◌, inl, inr}
use Rattle.nd_model.specs.Grammar.Grammar.{Stop, Opens, Gram, Spans}
use Rattle.nd_model.specs.Grammar.Faults.{Means, HasFault, IsBelow}
use Rattle.nd_model.specs.Grammar.Predict.{stop, read, look, ended, read_all}
use Rattle.nd_model.proofs.Parsing.Sets.{ok_is, err_is, bind_ok, bind_err, left_of}
use Rattle.nd_model.proofs.Parsing.Laws.{whole}
use Rattle.nd_model.proofs.Parsing.Exact.{sound, stops}
use Rattle.nd_model.proofs.Parsing.Whole.{complete, reach, refuses}

pub read_all_sound : {T C : Type 0} (kind : List T → ℕ) (g : Gram T C) (ts : List T) (c : C) → read_all kind g ts ≡ Ok c → Means kind g ts c
read_all_sound {T} {C} kind g ts c e =
    let p = bind_ok (read kind g ts) (λ x. ended x) c e in
    at_end p.0 p.1 p.2
  where
    at_end : (x : C × List T) → read kind g ts ≡ Ok x → ended x ≡ Ok c → Means kind g ts c
    at_end x e d = go x.0 x.1 e d
      where
        go : (b : C) (rest : List T) → read kind g ts ≡ Ok (b, rest) → ended (b, rest) ≡ Ok c → Means kind g ts c
        go b [] e d = subst (λ z. Means kind g ts z) (ok_is b c d) (sound kind g ts (b, []) e)
        go b (t ∷ more) e d = absurd cc

pub read_all_complete : {T C : Type 0} (kind : List T → ℕ) (g : Gram T C) (ts : List T) (c : C) → (look g).fits ≡ true → Means kind g ts c → read_all kind g ts ≡ Ok c
read_all_complete kind g ts c fit h = rw (complete kind g ts [] c fit h refl) refl

-- no text has two meanings
pub one_meaning : {T C : Type 0} (kind : List T → ℕ) (g : Gram T C) → (look g).fits ≡ true → (ts : List T) (c d : C) → Means kind g ts c → Means kind g ts d → c ≡ d
one_meaning kind g fit ts c d p q = ok_is c d (sym (read_all_complete kind g ts c fit p) ∙ read_all_complete kind g ts d fit q)

pub read_all_fault : {T C : Type 0} (kind : List T → ℕ) (g : Gram T C) (ts : List T) (s : Stop) → (look g).fits ≡ true → read_all kind g ts ≡ Err s → HasFault kind g ts s
read_all_fault {T} {C} kind g ts s fit e =
    elim (bind_err (read kind g ts) (λ x. ended x) s e) [
      | inl p ↦
          let z = stops kind g ts s p in
          record {
            rest = z.rest;
            at = record { front = z.front; longest = λ other r. let le : left_of (read kind g ts) ≤ length other = reach kind g ts other fit r in rw z.left (subst (λ x. left_of x ≤ length other) p le) };
            left = z.left;
            why = λ w nz. (λ e. subst (λ v. Opens kind g ts z.rest v) e (z.deep (subst (λ v. v ≢ 0) (sym e) nz)), λ o. ap (λ (x : Stop). x.why) (sym (err_is {A = C × List T} (stop w z.rest) s (sym (refuses kind g ts z.rest w fit o) ∙ p))));
            none = none_so;
          }
      | inr p ↦ past p.0.0 p.0.1 p.1 p.2
    ]
  where
    none_so : (c : C) → Means kind g ts c → ⊥
    none_so c h = let d = read_all_complete kind g ts c fit h in cc

    past : (c : C) (rest : List T) → read kind g ts ≡ Ok (c, rest) → ended (c, rest) ≡ Err s → HasFault kind g ts s
    past c [] e d = absurd cc
    past c (t ∷ more) e d =
        let z = err_is {A = C} (stop 0 (t ∷ more)) s d in
        record {
          rest = t ∷ more;
          at = record {
            front = whole kind g ts (t ∷ more) c (sound kind g ts (c, t ∷ more) e);
            longest = λ other r. subst (λ x. left_of x ≤ length other) e (reach kind g ts other fit r);
          };
          left = ap (λ (x : Stop). x.left) z;
          why = λ w nz. (λ e. absurd (nz (sym e ∙ sym (ap (λ (x : Stop). x.why) z))), λ o. absurd (let f = refuses kind g ts (t ∷ more) w fit o in cc));
          none = none_so;
        }

-- The fault of one of two grammars that are below one another is that of the other.
pub same_fault : {T C : Type 0} (kind : List T → ℕ) (g h : Gram T C) → IsBelow kind g h → IsBelow kind h g → (ts : List T) (s : Stop) → HasFault kind g ts s → HasFault kind h ts s
same_fault kind g h up down ts s f = record {
  rest = f.rest;
  at = record { front = up.reaches ts f.rest f.at.front; longest = λ other r. f.at.longest other (down.reaches ts other r) };
  left = f.left;
  why = λ w nz. (λ e. up.opens ts f.rest w ((f.why w nz).0 e), λ o. (f.why w nz).1 (down.opens ts f.rest w o));
  none = λ c m. f.none c (down.spans ts [] c m);
}

-- What is read from the front is the longest text there: maximal munch.
pub longest_text : {T C : Type 0} (kind : List T → ℕ) (g : Gram T C) (ts rest : List T) (c : C) → (look g).fits ≡ true → read kind g ts ≡ Ok (c, rest)
    → Spans kind g ts rest c × ((other : List T) (d : C) → Spans kind g ts other d → length rest ≤ length other)
longest_text kind g ts rest c fit e =
    (sound kind g ts (c, rest) e, λ other d h. subst (λ x. left_of x ≤ length other) e (reach kind g ts other fit (whole kind g ts other d h)))

-- The plans of an index: its expressions are evaluated first, and then it goes on.
use Rattle.std.proofs.Common.{◌≡◌, true, false, List, [], ◌∷◌, ◌++◌, map, sym, refl, ap, ◌∙◌, append_assoc}
use Rattle.std.specs.List.{flat_map}
use Rattle.std.proofs.lemmas.List.{map-append}
use Rattle.nd_model.specs.Making.Creation.{array_of_list}
use Rattle.std.specs.Prelude.{None}
use Rattle.nd_model.specs.Grammar.Syntax.{Bound, Omitted, Given, Elements, Nested, Index, Field, Items, IndexItems, AndItem, NoItem, At, Slice, Ellipsis, NewAxis, Listed}
use Rattle.nd_model.specs.Arrays.Value as model
use Rattle.nd_model.specs.Cells.Running.{Running, Inputs, Effect}
use Rattle.nd_model.specs.Cells.Evaluation.{Eval, Gives, run, ◌>>=◌}
use Rattle.nd_model.specs.Making.Operand.{Usage, ArraysOnly, Unused}
use Rattle.nd_model.specs.Indexing.Index.{Form, AtForm, SliceForm, EllipsisForm, NewAxisForm, EmptyForm}
use Rattle.nd_model.specs.Indexing.Viewing.{Viewing, Indexed, Fielded}
use Rattle.nd_model.specs.Cells.Operation.{Computes, Plan, Does, Plans, Done, And, evaluate, with_values, evaluate_all}
use Rattle.nd_model.specs.Cells.Meaning.{is_given, is_empty_list, list_form, unless_empty, list_plans, value, plan, bound_plans, forms_of, viewing_of, index_plans, items_plans}
use Rattle.nd_model.proofs.Steps.{goes_on, run_bind}
use Rattle.nd_eval.specs.Parts.{bound_exprs, index_parts, item_parts, items_parts, items_then, list_parts, list_value, parts_of_items, ItemParts, unused, values}
use Rattle.nd_eval.proofs.Parts.{regrouped, then_same}
use Rattle.nd_eval.proofs.Calls.{list_first}

-- the array of a list among the items
abbrev array_plan : Elements → Plan
array_plan es = Does (Computes (array_of_list (Nested es) None)) (list_plans es Done)

list_found : {B : Type 0} (i : Inputs) (es : Elements) (go : model.Value → Eval B) (r : Running) → run i (evaluate (array_plan es) >>= go) r ≡ run i (list_value (Nested es) None >>= go) r
list_found i es go r = run_bind i (evaluate (array_plan es)) go r ∙ ap (λ m. goes_on i m go) (list_first i es None r) ∙ sym (run_bind i (list_value (Nested es) None) go r)

-- over what goes on to a value, or to an effect
module _ {B : Type 0} (evaluate_plans : Plans → (List (Usage × model.Value) → Eval B) → Eval B)
    (done : (go : List (Usage × model.Value) → Eval B) → evaluate_plans Done go ≡ go [])
    (more : (u : Usage) (p : Plan) (ps : Plans) (go : List (Usage × model.Value) → Eval B) → evaluate_plans (And u p ps) go ≡ (evaluate p >>= λ v. evaluate_plans ps (λ vs. go ((u, v) ∷ vs)))) where
  bound_first : (i : Inputs) (b : Bound) (ps : Plans) (go : List (Usage × model.Value) → Eval B) (r : Running)
      → run i (evaluate_plans (bound_plans b ps) go) r ≡ run i (values (bound_exprs b) >>= λ vs. evaluate_plans ps (λ ws. go (unused vs ++ ws))) r
  bound_first i Omitted ps go r = refl
  bound_first i (Given e) ps go r =
      ap (λ t. run i t r) (more Unused (plan e) ps go)
      ∙ sym (regrouped i (value e) (λ v. Gives (v ∷ [])) (λ vs. evaluate_plans ps (λ ws. go (unused vs ++ ws))) r)

  unused_three : (xs ys zs : List model.Value) (ws : List (Usage × model.Value)) → unused (xs ++ ys ++ zs) ++ ws ≡ unused xs ++ (unused ys ++ (unused zs ++ ws))
  unused_three xs ys zs ws =
      ap (λ l. l ++ ws) (map-append _ (xs ++ ys) zs ∙ ap (λ l. l ++ unused zs) (map-append _ xs ys))
      ∙ append_assoc (unused xs ++ unused ys) (unused zs) ws ∙ append_assoc (unused xs) (unused ys) (unused zs ++ ws)

  -- the bounds of a slice
  slice_first : (i : Inputs) (a b c : Bound) (ps : Plans) (go : List (Usage × model.Value) → Eval B) (r : Running)
      → run i (evaluate_plans (bound_plans a (bound_plans b (bound_plans c ps))) go) r
      ≡ run i (values (bound_exprs a) >>= λ xs. values (bound_exprs b) >>= λ ys. values (bound_exprs c) >>= λ zs. evaluate_plans ps (λ ws. go (unused (xs ++ ys ++ zs) ++ ws))) r
  slice_first i a b c ps go r =
      bound_first i a (bound_plans b (bound_plans c ps)) go r
      ∙ then_same i (values (bound_exprs a)) _ _ r (λ xs s. bound_first i b (bound_plans c ps) (λ ws. go (unused xs ++ ws)) s
      ∙ then_same i (values (bound_exprs b)) _ _ s (λ ys q. bound_first i c ps (λ ws. go (unused xs ++ (unused ys ++ ws))) q
      ∙ then_same i (values (bound_exprs c)) _ _ q (λ zs m. ap (λ k. run i (evaluate_plans ps k) m) (λ j ws. go (sym (unused_three xs ys zs ws) j)))))

  after_three : {A C : Type 0} (i : Inputs) (p q m : Eval (List model.Value)) (f : List model.Value → List model.Value → List model.Value → A) (g : A → Eval C) (r : Running)
      → run i ((p >>= λ xs. q >>= λ ys. m >>= λ zs. Gives (f xs ys zs)) >>= g) r ≡ run i (p >>= λ xs. q >>= λ ys. m >>= λ zs. g (f xs ys zs)) r
  after_three i p q m f g r =
      regrouped i p (λ xs. q >>= λ ys. m >>= λ zs. Gives (f xs ys zs)) g r
      ∙ then_same i p _ _ r (λ xs s. regrouped i q (λ ys. m >>= λ zs. Gives (f xs ys zs)) g s
      ∙ then_same i q _ _ s (λ ys n. regrouped i m (λ zs. Gives (f xs ys zs)) g n))

  all_items : (i : Inputs) (is : IndexItems) (go : List Form → List (Usage × model.Value) → Eval B) (k : List ItemParts → List ItemParts) (g : List ItemParts → Eval B) (r : Running)
      → ((xs : List ItemParts) → go (map (λ (x : ItemParts). x.0) xs) (flat_map (λ (x : ItemParts). x.1) xs) ≡ g (k xs))
      → run i (evaluate_plans (items_plans is) (go (forms_of is))) r ≡ run i (items_then is (λ xs. Gives (k xs)) >>= g) r
  all_items i NoItem go k g r h = ap (λ t. run i t r) (done (go []) ∙ h [])
  all_items i (AndItem (At e) is) go k g r h =
      ap (λ t. run i t r) (more ArraysOnly (plan e) (items_plans is) (go (AtForm ∷ forms_of is)))
      ∙ then_same i (value e) _ (λ v. items_then is (λ xs. Gives (k ((AtForm, (ArraysOnly, v) ∷ []) ∷ xs))) >>= g) r
      (λ v s. all_items i is (λ fs vs. go (AtForm ∷ fs) ((ArraysOnly, v) ∷ vs)) (λ xs. k ((AtForm, (ArraysOnly, v) ∷ []) ∷ xs)) g s (λ xs. h ((AtForm, (ArraysOnly, v) ∷ []) ∷ xs)))
      ∙ sym (regrouped i (value e >>= λ v. Gives (AtForm, (ArraysOnly, v) ∷ [])) (λ x. items_then is (λ xs. Gives (k (x ∷ xs)))) g r
      ∙ regrouped i (value e) (λ v. Gives (AtForm, (ArraysOnly, v) ∷ [])) (λ x. items_then is (λ xs. Gives (k (x ∷ xs))) >>= g) r)
  all_items i (AndItem (Slice a b c) is) go k g r h =
      let form : Form = SliceForm (is_given a) (is_given b) (is_given c) in
      slice_first i a b c (items_plans is) (go (form ∷ forms_of is)) r
      ∙ then_same i (values (bound_exprs a)) _ _ r (λ xs s. then_same i (values (bound_exprs b)) _ _ s (λ ys q. then_same i (values (bound_exprs c)) _ _ q
      (λ zs m. all_items i is (λ fs vs. go (form ∷ fs) (unused (xs ++ ys ++ zs) ++ vs)) (λ ps. k ((form, unused (xs ++ ys ++ zs)) ∷ ps)) g m (λ ps. h ((form, unused (xs ++ ys ++ zs)) ∷ ps)))))
      ∙ sym (regrouped i (item_parts (Slice a b c)) (λ x. items_then is (λ xs. Gives (k (x ∷ xs)))) g r
      ∙ after_three i (values (bound_exprs a)) (values (bound_exprs b)) (values (bound_exprs c)) (λ xs ys zs. (form, unused (xs ++ ys ++ zs))) (λ x. items_then is (λ xs. Gives (k (x ∷ xs))) >>= g) r)
  all_items i (AndItem Ellipsis is) go k g r h = all_items i is (λ fs vs. go (EllipsisForm ∷ fs) vs) (λ xs. k ((EllipsisForm, []) ∷ xs)) g r (λ xs. h ((EllipsisForm, []) ∷ xs))
  all_items i (AndItem NewAxis is) go k g r h = all_items i is (λ fs vs. go (NewAxisForm ∷ fs) vs) (λ xs. k ((NewAxisForm, []) ∷ xs)) g r (λ xs. h ((NewAxisForm, []) ∷ xs))
  all_items i (AndItem (Listed es) is) go k g r h =
      elim (is_empty_list es) as (λ t. run i (evaluate_plans (unless_empty t (array_plan es) (items_plans is)) (go (list_form t ∷ forms_of is))) r ≡ run i ((list_parts t es >>= λ x. items_then is (λ xs. Gives (k (x ∷ xs)))) >>= g) r) [
        | true ↦ all_items i is (λ fs vs. go (EmptyForm ∷ fs) vs) (λ xs. k ((EmptyForm, []) ∷ xs)) g r (λ xs. h ((EmptyForm, []) ∷ xs))
        | false ↦
            ap (λ t. run i t r) (more ArraysOnly (array_plan es) (items_plans is) (go (AtForm ∷ forms_of is)))
            ∙ list_found i es (λ v. evaluate_plans (items_plans is) (λ vs. go (AtForm ∷ forms_of is) ((ArraysOnly, v) ∷ vs))) r
            ∙ then_same i (list_value (Nested es) None) _ (λ v. items_then is (λ xs. Gives (k ((AtForm, (ArraysOnly, v) ∷ []) ∷ xs))) >>= g) r
            (λ v s. all_items i is (λ fs vs. go (AtForm ∷ fs) ((ArraysOnly, v) ∷ vs)) (λ xs. k ((AtForm, (ArraysOnly, v) ∷ []) ∷ xs)) g s (λ xs. h ((AtForm, (ArraysOnly, v) ∷ []) ∷ xs)))
            ∙ sym (regrouped i (list_value (Nested es) None >>= λ v. Gives (AtForm, (ArraysOnly, v) ∷ [])) (λ x. items_then is (λ xs. Gives (k (x ∷ xs)))) g r
            ∙ regrouped i (list_value (Nested es) None) (λ v. Gives (AtForm, (ArraysOnly, v) ∷ [])) (λ x. items_then is (λ xs. Gives (k (x ∷ xs))) >>= g) r)
      ]

  -- an index first, and then what goes on with what it says
  index_first : (i : Inputs) (x : Index) (go : Viewing → List (Usage × model.Value) → Eval B) (r : Running)
      → run i (evaluate_plans (index_plans x) (go (viewing_of x))) r ≡ run i (index_parts x >>= λ p. go p.0 p.1) r
  index_first i (Field n) go r = ap (λ t. run i t r) (done (go (Fielded n)))
  index_first i (Items is) go r =
      all_items i is (λ fs vs. go (Indexed fs) vs) (λ xs. xs) (λ xs. go (parts_of_items xs).0 (parts_of_items xs).1) r (λ xs. refl)
      ∙ sym (regrouped i (items_parts is) (λ xs. Gives (parts_of_items xs)) (λ p. go p.0 p.1) r)

pub index_with : (i : Inputs) (x : Index) (go : Viewing → List (Usage × model.Value) → Eval model.Value) (r : Running)
    → run i (with_values (index_plans x) (go (viewing_of x))) r ≡ run i (index_parts x >>= λ p. go p.0 p.1) r
index_with i x go r = index_first with_values (λ go. refl) (λ u p ps go. refl) i x go r

pub index_all : (i : Inputs) (x : Index) (go : Viewing → List (Usage × model.Value) → Eval Effect) (r : Running)
    → run i (evaluate_all (index_plans x) (go (viewing_of x))) r ≡ run i (index_parts x >>= λ p. go p.0 p.1) r
index_all i x go r = index_first evaluate_all (λ go. refl) (λ u p ps go. refl) i x go r

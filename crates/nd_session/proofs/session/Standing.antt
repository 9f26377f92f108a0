-- What stands at the keys of a change, entry by entry.
use Rattle.std.proofs.Common.{◌≡◌, ℕ, false, cond, bytes_eq, List, [], ◌∷◌, length, Global, Option, Some, None, option_map, refl, sym, ap, subst, ◌∙◌, inl, inr, ap₂}
use Rattle.std.specs.Rc.{rc_str_bytes}
use Rattle.std.specs.declared.rc.RcStr.{RcStr}
use Rattle.std.specs.List.{AllByRecursion}
use Rattle.std.specs.Map.{lookup as find, KeepsOthers, IsKeyTest, AreApart}
use Rattle.indexmap.specs.IndexMap.{insert_entry}
use Rattle.std.proofs.lemmas.Bool.{cases_Bool}
use Rattle.nd_model.specs.Arrays.Value as model
use Rattle.nd_model.specs.Cells.Footprint.{Bound, Given, Number, Ruled}
use Rattle.nd_model.specs.Cells.Running.{Key, Name, Input, Length, Byte, OfRule}
use Rattle.nd_model.specs.Cells.Session.{lookup}
use Rattle.nd_model.proofs.Lists.{lookup-bind}
use Rattle.nd_heap.specs.Values.{entries_of}
use Rattle.nd_change.specs.Whole.{byte_in}
use Rattle.nd_heap.proofs.NameLists.{name_eq, entries-insert, entries-found}
use Rattle.nd_heap.proofs.Same.{same_bases, same_bytes}
use Rattle.nd_session.specs.declared.session.change.change.Change.TheInside.{Inside}
use Rattle.nd_session.specs.Inputs.Values.{rule_of}
use Rattle.nd_session.specs.Session.Change.{IsNoted, change_of}
use Rattle.nd_session.specs.Session.Now.{block_now, data_in, input_now, value_now, part_now}

pub none_some : {X P : Type 0} (x : X) → None ≡ Some x → P
none_some x e = cc

pub same_some : {X : Type 0} (x y : X) → Some x ≡ Some y → x ≡ y
same_some x y e = cc

-- ---- names

module _ {V A : Type 0} (f : V → A) where
  pub name_insert : (k : RcStr Global) (v : V) (es : List (RcStr Global × V)) (n : List ℕ)
      → lookup n (entries_of f (insert_entry name_eq es k v)) ≡ cond (bytes_eq n (rc_str_bytes k)) (Some (f v)) (lookup n (entries_of f es))
  name_insert k v es n = ap (lookup n) (entries-insert f k v es) ∙ lookup-bind n (rc_str_bytes k) (f v) (entries_of f es)

  -- a name is taken out
  pub name_removed : (n : List ℕ) (es fs : List (RcStr Global × V)) → find (λ k. bytes_eq n (rc_str_bytes k)) fs ≡ None → KeepsOthers name_eq (λ k. bytes_eq n (rc_str_bytes k)) es fs
      → (m : List ℕ) → lookup m (entries_of f fs) ≡ cond (bytes_eq m n) None (lookup m (entries_of f es))
  unfolding KeepsOthers
  name_removed n es fs gone keeps m = elim (cases_Bool (bytes_eq m n)) [
    | inl same ↦ let is : m ≡ n = same_bytes m n same in
        rw same (ap (λ k. lookup k (entries_of f fs)) is ∙ entries-found f n fs ∙ ap (option_map f) gone)
    | inr apart ↦ rw apart (entries-found f m fs ∙ ap (option_map f) (keeps (λ k. bytes_eq m (rc_str_bytes k)) test (other apart)) ∙ sym (entries-found f m es))
  ]
    where
      test : IsKeyTest name_eq (λ (k : RcStr Global). bytes_eq m (rc_str_bytes k))
      test x y is = ap (λ k. bytes_eq k (rc_str_bytes y)) (same_bytes m (rc_str_bytes x) is)

      other : bytes_eq m n ≡ false → AreApart (λ (k : RcStr Global). bytes_eq n (rc_str_bytes k)) (λ (k : RcStr Global). bytes_eq m (rc_str_bytes k))
      other apart k is = ap (bytes_eq m) (sym (same_bytes n (rc_str_bytes k) is)) ∙ apart

  -- what is true of each entry is true of what stands
  pub name_all : (Q : List ℕ → A → Type 0) (es : List (RcStr Global × V)) → AllByRecursion (λ (e : RcStr Global × V). Q (rc_str_bytes e.0) (f e.1)) es
      → (n : List ℕ) (a : A) → lookup n (entries_of f es) ≡ Some a → Q n a
  name_all Q [] h n a at = none_some a at
  name_all Q (e ∷ es) h n a at = elim (cases_Bool (bytes_eq n (rc_str_bytes e.0))) [
    | inl is ↦ let here : Some (f e.1) ≡ Some a = rw is at at in
        subst (λ k. Q k a) (sym (same_bytes n (rc_str_bytes e.0) is)) (subst (Q (rc_str_bytes e.0)) (same_some (f e.1) a here) h.0)
    | inr other ↦ let rest : lookup n (entries_of f es) ≡ Some a = rw other at at in name_all Q es h.1 n a rest
  ]

-- ---- what is noted

module _ {K A : Type 0} (now : K → A) where
  pub noted_same : (old : K → Option A) → IsNoted now old old
  noted_same old k = inr refl

  pub noted_on : (old mid new : K → Option A) → IsNoted now old mid → IsNoted now mid new → IsNoted now old new
  noted_on old mid new one two k = elim (two k) [ inl here ↦ inl here | inr same ↦ elim (one k) [ inl here ↦ inl (same ∙ here) | inr was ↦ inr (same ∙ was) ] ]

  -- what stands there now is not lost
  pub stays_noted : (mid new : K → Option A) → IsNoted now mid new → (k : K) → mid k ≡ Some (now k) → new k ≡ Some (now k)
  stays_noted mid new step k here = elim (step k) [ inl there ↦ there | inr same ↦ same ∙ here ]

  -- nor is that something stands there
  pub none_before : (mid new : K → Option A) → IsNoted now mid new → (k : K) → new k ≡ None → mid k ≡ None
  none_before mid new step k out = elim (step k) [ inl here ↦ none_some (now k) (sym out ∙ here) | inr same ↦ sym same ∙ out ]

-- one more name is noted
pub name_noted : {A : Type 0} (now : List ℕ → A) (old new : List ℕ → Option A) (m : List ℕ) → ((n : List ℕ) → new n ≡ cond (bytes_eq n m) (Some (now m)) (old n)) → IsNoted now old new
name_noted now old new m set n = elim (cases_Bool (bytes_eq n m)) [
  | inl same ↦ inl (set n ∙ ap (λ t. cond t (Some (now m)) (old n)) same ∙ ap (λ k. Some (now k)) (sym (same_bytes n m same)))
  | inr apart ↦ inr (set n ∙ ap (λ t. cond t (Some (now m)) (old n)) apart)
]

-- one more base
pub base_noted : {A : Type 0} (now : model.Base → A) (old new : model.Base → Option A) (c : model.Base) → ((b : model.Base) → new b ≡ cond (model.same_base b c) (Some (now c)) (old b)) → IsNoted now old new
base_noted now old new c set b = elim (cases_Bool (model.same_base b c)) [
  | inl same ↦ inl (set b ∙ ap (λ t. cond t (Some (now c)) (old b)) same ∙ ap (λ c. Some (now c)) (sym (same_bases b c same)))
  | inr apart ↦ inr (set b ∙ ap (λ t. cond t (Some (now c)) (old b)) apart)
]

-- ---- a change with nothing in it

pub nothing_in : (i : Inside) → i.names.entries ≡ [] → i.inputs.entries ≡ [] → i.blocks.entries ≡ [] → i.parts.entries ≡ [] → i.rule ≡ None → (k : Key) → change_of (data_in i) k ≡ None
nothing_in i names inputs blocks parts rule (Name n) = ap (λ es. option_map Bound (value_now es n)) names
nothing_in i names inputs blocks parts rule (Input n) = ap (λ es. option_map Given (input_now es n)) inputs
nothing_in i names inputs blocks parts rule (Length b) = ap (λ es. option_map (λ bytes. Number (length bytes)) (block_now es b)) blocks
nothing_in i names inputs blocks parts rule (Byte b p) = ap₂ (λ es fs. option_map Number (byte_in (block_now es b) (part_now fs b p) p)) blocks parts
nothing_in i names inputs blocks parts rule OfRule = ap (λ o. option_map Ruled (option_map rule_of o)) rule

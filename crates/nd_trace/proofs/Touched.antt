-- The names of the events, as a set.
use Rattle.std.proofs.Common.{◌≡◌, ℕ, Bool, true, false, ◌||◌, cond, bytes_eq, List, [], ◌∷◌, ◌++◌, map, Global, refl, sym, ap, ap₂, ◌∙◌, inl, inr}
use Rattle.std.specs.List.{list_any}
use Rattle.std.specs.Rc.{rc_str_bytes}
use Rattle.std.specs.declared.rc.RcStr.{RcStr}
use Rattle.std.proofs.lemmas.Bool.{cases_Bool}
use Rattle.std.proofs.lemmas.List.{map-append}
use Rattle.std.proofs.lemmas.List.Folds.{list_any-append}
use Rattle.indexmap.specs.IndexSet.{insert_key}
use Rattle.nd_model.specs.Cells.Running as running
use Rattle.nd_trace.specs.declared.trace.Event.{Event}
use Rattle.nd_trace.specs.Events.{event_of, name_of_event}
use Rattle.nd_heap.proofs.NameLists.{name_eq}
use Rattle.nd_heap.proofs.Same.{same_bytes}

either : (a b c : Bool) → ((a || b) || c) ≡ (a || (b || c))
either true b c = refl
either false b c = refl

or_false : (x : Bool) → (x || false) ≡ x
or_false true = refl
or_false false = refl

absorbs : (x t : Bool) → (t ≡ true → x ≡ true) → x ≡ (x || t)
absorbs x true h = h refl ∙ sym (ap (λ x. x || true) (h refl))
absorbs x false h = sym (or_false x)

is_event_of-name : (n : List ℕ) (e : running.Event) → running.is_event_of n e ≡ bytes_eq n (name_of_event e)
is_event_of-name n (running.Binds m v) = refl
is_event_of-name n (running.Unbinds m) = refl

is_touched-append : (n : List ℕ) (es : List running.Event) (e : running.Event) → running.is_touched n (es ++ e ∷ []) ≡ (running.is_touched n es || bytes_eq n (name_of_event e))
is_touched-append n [] e = or_false (running.is_event_of n e) ∙ is_event_of-name n e
is_touched-append n (d ∷ es) e = ap (λ t. running.is_event_of n d || t) (is_touched-append n es e)
    ∙ sym (either (running.is_event_of n d) (running.is_touched n es) (bytes_eq n (name_of_event e)))

abbrev has : List ℕ → RcStr Global → Bool
has n k = bytes_eq n (rc_str_bytes k)

any_more : (n : List ℕ) (k : RcStr Global) (ks : List (RcStr Global)) → list_any (has n) (insert_key name_eq ks k) ≡ (list_any (has n) ks || has n k)
any_more n k ks = elim (cases_Bool (list_any (name_eq k) ks)) [
  | inl there ↦ ap (λ t. list_any (has n) (cond t ks (ks ++ k ∷ []))) there
      ∙ absorbs (list_any (has n) ks) (has n k) (λ same. ap (λ m. list_any (has m) ks) (same_bytes n (rc_str_bytes k) same) ∙ there)
  | inr new ↦ ap (λ t. list_any (has n) (cond t ks (ks ++ k ∷ []))) new ∙ list_any-append (has n) ks (k ∷ []) ∙ ap (λ t. list_any (has n) ks || t) (or_false (has n k))
]

-- one more event
pub touched_more : (ks ls : List (RcStr Global)) (k : RcStr Global) (es fs : List Event) (e : Event) → ((n : List ℕ) → list_any (λ k. bytes_eq n (rc_str_bytes k)) ks ≡ running.is_touched n (map event_of es))
    → rc_str_bytes k ≡ name_of_event (event_of e) → ls ≡ insert_key name_eq ks k → fs ≡ es ++ e ∷ []
    → (n : List ℕ) → list_any (λ k. bytes_eq n (rc_str_bytes k)) ls ≡ running.is_touched n (map event_of fs)
touched_more ks ls k es fs e before is set push n =
    ap (list_any (has n)) set ∙ any_more n k ks ∙ ap₂ (λ x m. x || bytes_eq n m) (before n) is
    ∙ sym (is_touched-append n (map event_of es) (event_of e)) ∙ sym (ap (running.is_touched n) (ap (map event_of) push ∙ map-append event_of es (e ∷ [])))

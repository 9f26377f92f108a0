-- Inputs by name.
use Rattle.std.proofs.Common.{◌≡◌, ℕ, Bool, bytes_eq, List, Option, Some, None, option_map, Global, Bor, refl, ap}
use Rattle.std.specs.Prelude.{is_none, is_some, not}
use Rattle.std.specs.Map.{lookup as find, remove_entry, keys_of}
use Rattle.std.specs.List.{AllZip, IsDistinct}
use Rattle.std.specs.Option.{option_copied}
use Rattle.std.specs.Rc.{rc_str_bytes}
use Rattle.std.specs.declared.rc.Rc.{Rc}
use Rattle.std.specs.declared.rc.RcStr.{RcStr}
use Rattle.indexmap.specs.IndexMap.{insert_entry}
use Rattle.nd_model.specs.Cells.Session.{lookup, bind, unbind}
use Rattle.nd_model.specs.Cells.Running.{Source}
use Rattle.nd_input.specs.declared.Input.{Input}
use Rattle.nd_input.specs.Sources.{source_of}
use Rattle.nd_session.specs.Inputs.Values.{given_of}
use Rattle.nd_heap.proofs.NameLists.{name_eq, entries-insert, entries-found, entries-remove, cloned_entries}

abbrev pub SharedInput : Type 0
SharedInput = Rc Input Global

abbrev pub shared_source : SharedInput → Source
shared_source x = source_of x.value

pub found_input : (n : List ℕ) (es : List (RcStr Global × SharedInput)) → lookup n (given_of es) ≡ option_map shared_source (find (λ k. bytes_eq n (rc_str_bytes k)) es)
found_input n es = entries-found shared_source n es

pub lent_input : (r : Option (Bor SharedInput)) → option_map (λ (x : Bor SharedInput). source_of x.now.value) r ≡ option_map shared_source (option_copied r)
lent_input None = refl
lent_input (Some x) = refl

-- ---- inputs that are set and dropped

pub given-insert : (n : RcStr Global) (i : SharedInput) (es : List (RcStr Global × SharedInput))
    → given_of (insert_entry name_eq es n i) ≡ bind (rc_str_bytes n) (source_of i.value) (given_of es)
given-insert n i es = entries-insert shared_source n i es

pub given-remove : (n : List ℕ) (es : List (RcStr Global × SharedInput)) → IsDistinct name_eq (keys_of es)
    → given_of (remove_entry (λ (k : RcStr Global). bytes_eq n (rc_str_bytes k)) es) ≡ unbind n (given_of es)
given-remove n es h = entries-remove shared_source n es h

-- a clone of the inputs
pub cloned_inputs : (es fs : List (RcStr Global × SharedInput))
    → AllZip (λ (p q : RcStr Global × SharedInput). (rc_str_bytes q.0 ≡ rc_str_bytes p.0) × (q.1.value ≡ p.1.value)) es fs
    → given_of fs ≡ given_of es
cloned_inputs es fs h = cloned_entries shared_source (λ p q e. ap source_of e) es fs h

-- some input, or none
pub none_lent : (r : Option (Bor SharedInput)) (o : Option Source) (b : Bool) → option_map (λ (x : Bor SharedInput). source_of x.now.value) r ≡ o → b ≡ is_some r → is_none o ≡ not b
none_lent None o b same is = rw (← same, is) refl
none_lent (Some x) o b same is = rw (← same, is) refl

-- What is noted, under names and blocks.
use Rattle.std.proofs.Common.{◌≡◌, ℕ, Bool, true, false, not, ◌&&◌, ◌||◌, List, [], ◌∷◌, ◌++◌, refl, sym, ap, ap₂, ◌∙◌, Option, Some, None, option_map, Bor}
use mathlib.Core.Path.{fun_ext}
use Rattle.nd_model.specs.Arrays.Value.{Base, Value}
use Rattle.nd_model.specs.Cells.Session as model
use Rattle.nd_model.specs.Cells.Running.{Key}
use Rattle.nd_model.specs.Cells.Running as running
use Rattle.nd_model.specs.Cells.Storing.{having_written}
use Rattle.nd_trace.specs.Seen.{having_event}
use Rattle.std.specs.Option.{option_copied}
use Rattle.nd_heap.specs.declared.value.Value.{Value as Lent}
use Rattle.nd_heap.specs.Values.{value_of}

pub noted_over : (keys : Key → Bool) (t u : running.Running) (names : List (List ℕ × Value)) (bytes : Base → List ℕ) (next : ℕ) → u ≡ running.having_read keys t
    → record u { names = names; bytes = bytes; next = next } ≡ running.having_read keys (record t { names = names; bytes = bytes; next = next })
noted_over keys t u names bytes next e = ap (λ (r : running.Running). record r { names = names; bytes = bytes; next = next }) e

pub written_over : (b : Base) (ps : List ℕ) (t u : running.Running) (names : List (List ℕ × Value)) (bytes : Base → List ℕ) (next : ℕ) → u ≡ having_written b ps t
    → record u { names = names; bytes = bytes; next = next } ≡ having_written b ps (record t { names = names; bytes = bytes; next = next })
written_over b ps t u names bytes next e = ap (λ (r : running.Running). record r { names = names; bytes = bytes; next = next }) e

-- nothing is noted
pub stayed_over : (t u : running.Running) (names : List (List ℕ × Value)) (bytes : Base → List ℕ) (next : ℕ) → u ≡ t
    → record u { names = names; bytes = bytes; next = next } ≡ record t { names = names; bytes = bytes; next = next }
stayed_over t u names bytes next e = ap (λ (r : running.Running). record r { names = names; bytes = bytes; next = next }) e

-- a name is bound, whose text and value are shared
pub bound_over : (n m l : List ℕ) (v w x : Value) (t u : running.Running) (names names' : model.Names) (bytes : Base → List ℕ) (next : ℕ) → u ≡ having_event (running.Binds m w) t
    → names' ≡ model.bind l x names → m ≡ n → w ≡ v → l ≡ n → x ≡ v
    → record u { names = names'; bytes = bytes; next = next } ≡ running.done (running.Binding n v) (record t { names = names; bytes = bytes; next = next })
bound_over n m l v w x t u names names' bytes next noted bound same_m same_w same_l same_x =
    ap (λ (u : running.Running). record u { names = names'; bytes = bytes; next = next }) noted
    ∙ (λ i. record t { names = (bound ∙ ap₂ (λ l x. model.bind l x names) same_l same_x) i; bytes = bytes; next = next; events = t.events ++ running.Binds (same_m i) (same_w i) ∷ [] })

-- a name is unbound
pub unbound_over : (n m : List ℕ) (t u : running.Running) (names names' : model.Names) (bytes : Base → List ℕ) (next : ℕ) → u ≡ having_event (running.Unbinds m) t
    → names' ≡ model.unbind n names → m ≡ n
    → record u { names = names'; bytes = bytes; next = next } ≡ running.done (running.Unbinding n) (record t { names = names; bytes = bytes; next = next })
unbound_over n m t u names names' bytes next noted unbound same =
    ap (λ (u : running.Running). record u { names = names'; bytes = bytes; next = next }) noted
    ∙ (λ i. record t { names = unbound i; bytes = bytes; next = next; events = t.events ++ running.Unbinds (same i) ∷ [] })

-- what is read in two parts
pub read_twice : (a b : Key → Bool) (r : running.Running) → running.having_read b (running.having_read a r) ≡ running.having_read (λ k. a k || b k) r
read_twice a b r = ap (λ f. record r { read = f }) (fun_ext (λ k. go (r.read k) (a k) (b k) (running.is_own r k)))
  where
    go : (r a b o : Bool) → ((r || (a && not o)) || (b && not o)) ≡ (r || ((a || b) && not o))
    go true a b o = refl
    go false true true true = refl
    go false true false true = refl
    go false true b false = refl
    go false false b o = refl

pub read_none : (keys : Key → Bool) (r : running.Running) → ((k : Key) → keys k ≡ false) → r ≡ running.having_read keys r
read_none keys r h = ap (λ f. record r { read = f }) (fun_ext (λ k. or_false (r.read k) ∙ ap (λ t. r.read k || (t && not (running.is_own r k))) (sym (h k))))
  where
    or_false : (x : Bool) → x ≡ (x || false)
    or_false true = refl
    or_false false = refl

-- a name is looked up, and then the length of its base
pub looked_up : (n : List ℕ) (o : Option Value) (r s t : running.Running) → s ≡ running.having_read (running.is_name n) r
    → t ≡ running.having_read (running.is_length_of o) s → o ≡ model.lookup n r.names → t ≡ running.after (running.Lookup n) r
looked_up n o r s t named long is =
    long ∙ ap₂ (λ v s. running.having_read (running.is_length_of v) s) is named
    ∙ read_twice (running.is_name n) (running.is_length_of (model.lookup n r.names)) r

-- a value that is lent
pub lent : (r : Option (Bor Lent)) → option_map (λ (v : Bor Lent). value_of v.now) r ≡ option_map value_of (option_copied r)
lent None = refl
lent (Some v) = refl

-- a cell begins
pub begun : (label : ℕ) (t : running.Running) (names : model.Names) (bytes : Base → List ℕ) (s : model.Session) → t ≡ running.start label model.no_session → names ≡ s.names
    → ((b : Base) → bytes b ≡ model.held_bytes s b) → record t { names = names; bytes = bytes; next = 0 } ≡ running.start label s
begun label t names bytes s fresh same held =
    let all : bytes ≡ model.held_bytes s = fun_ext held in
    λ i. record (fresh i) { names = same i; bytes = all i; next = 0 }

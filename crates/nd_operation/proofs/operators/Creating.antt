-- What is made: numbers, and new arrays.
use Rattle.std.proofs.Common.{◌≡◌, ℕ, ◌*◌, ◌<◌, ◌≤◌, ◌^◌, ◌-◌, ltb, Bool, true, false, cond, ℤ, ◌||◌, List, [], ◌∷◌, ◌++◌, length, map, Option, None, Some, Result, Ok, Err, IsErrAnd, refl, sym, ap, ap₂, subst, ◌∙◌, arith}
use Rattle.std.specs.List.{list_any}
use Rattle.std.proofs.lemmas.Result.{err_from_is_err_and}
use Rattle.std.proofs.lemmas.Bool.{le-ltb, lt-ltb, ltb-true, ltb-false}
use Rattle.std.proofs.lemmas.List.{append_assoc, length-map}
use Rattle.nd_model.specs.Arrays.View.{ElementType, Geo, item_size, contiguous}
use Rattle.nd_model.specs.Arrays.Tuple.{elements_of}
use Rattle.nd_model.specs.Arrays.Content.{Content, array_bytes}
use Rattle.nd_model.specs.Grammar.Calls.{Fill, DType}
use Rattle.nd_model.specs.Arrays.Types.{element_type}
use Rattle.nd_model.specs.Arrays.Strides.{limit_fault}
use Rattle.nd_model.specs.Cells.Fault.{Fault, ViewFault, View, Ufunc, FloatResult, TooManyAxes, TooManyElements}
use Rattle.nd_model.specs.Cells.Refusing as refusing
use Rattle.nd_model.specs.Cells.Evaluation.{Eval, Refuses, ◌>>=◌, decide}
use Rattle.nd_model.specs.Making.Operand.{Operand, Made, AnArray}
use Rattle.nd_model.specs.Cells.Operation.{give, fresh_array, unless_too_large}
use Rattle.nd_model.specs.Arrays.Broadcast.{unless_fault, in_limits}
use Rattle.nd_model.specs.Making.Creation.{type_or, type_for, length_of, lengths_of, integer_of, integers_of, fill_content, uniform, filled_array, full_array, full_of, without_axes, operand_misfit, converted_at, unless_misfit}
use Rattle.nd_memory.specs.Want.{out_of_memory}
use Rattle.nd_operation.specs.declared.refusals.fault.StmtFault.{StmtFault}
use Rattle.nd_operation.specs.declared.refusals.stop.Stop.{Stop}
use Rattle.nd_operation.specs.declared.refusals.stop.Stop.TheVariants.{Memory, Refused}
use Rattle.nd_operation.specs.declared.operators.operand.New.{New}
use Rattle.nd_operation.specs.declared.operators.operand.New.TheVariants.{Array}
use Rattle.nd_operation.specs.Refusals.Ends.{Says, Makes}
use Rattle.nd_operation.specs.Refusals.Faults.{fault_of}
use Rattle.nd_operation.specs.Operators.New.{given, MakesNew, clip, clip_length, clip_lengths}

-- ---- what is given

-- an array in its block
pub gives_array : (t : ElementType) (shape : List ℕ) (f : List ℕ → Content) (view : Geo) (block : List ℕ) → limit_fault (item_size t) shape ≡ None
    → view ≡ contiguous t shape → block ≡ array_bytes t shape f → fresh_array t shape f ≡ given (Array view block)
gives_array t shape f view block limits is bytes = rw (limits, is, bytes) refl

-- ---- refusals

new_stops : (m : Result Made Fault) (e : Stop) (o : Result New Stop) → IsErrAnd o (λ x. x ≡ e) → MakesNew (Err e) m → MakesNew o m
new_stops m e o is h =
    let p : (x : Stop) × (o ≡ Err x) × (x ≡ e) = err_from_is_err_and o is in
    subst (λ (o : Result New Stop). MakesNew o m) (sym (p.1 ∙ ap Err p.2)) h

refuses_new : (m : Result Made Fault) (f : Fault) → m ≡ Err f → (decide m >>= give) ≡ Refuses f
refuses_new m f h = ap (λ m. decide m >>= give) h

pub new_refused : (m : Result Made Fault) (f : StmtFault) (o : Result New Stop) → IsErrAnd o (λ x. x ≡ Refused f) → m ≡ Err (fault_of f) → MakesNew o m
new_refused m f o is h = new_stops m (Refused f) o is (refuses_new m (fault_of f) h)

pub new_memory : (m : Result Made Fault) (o : Result New Stop) → IsErrAnd o (λ x. x ≡ Memory out_of_memory) → MakesNew o m
new_memory m o is = new_stops m (Memory out_of_memory) o is tt

stopped : {A X : Type 0} (v : X → A) (t : Result A Fault) (go : A → Result Made Fault) (e : Stop) → Makes v (Err e) t → MakesNew (Err e) (refusing.◌>>=◌ t go)
stopped v t go (Memory m) h = tt
stopped v t go (Refused f) h = refuses_new (refusing.◌>>=◌ t go) (fault_of f) (ap (λ r. refusing.◌>>=◌ r go) h)

-- the exit by `?`
pub new_exits : {A X : Type 0} (v : X → A) (t : Result A Fault) (go : A → Result Made Fault) (e : Stop) (o : Result New Stop)
    → IsErrAnd o (λ x. x ≡ e) → Makes v (Err e) t → MakesNew o (refusing.◌>>=◌ t go)
new_exits v t go e o is h = new_stops (refusing.◌>>=◌ t go) e o is (stopped v t go e h)

-- where the first part takes no memory
pub new_not : {A X : Type 0} (v : X → A) (t : Result A Fault) (go : A → Result Made Fault) (f : StmtFault) (o : Result New Stop)
    → IsErrAnd o (λ x. x ≡ Refused f) → Says v (Err f) t → MakesNew o (refusing.◌>>=◌ t go)
new_not v t go f o is h = new_refused (refusing.◌>>=◌ t go) f o is (ap (λ r. refusing.◌>>=◌ r go) h)

-- what comes after the first part
pub new_then : {A : Type 0} (t : Result A Fault) (x : A) (go : A → Result Made Fault) (o : Result New Stop) → t ≡ Ok x → MakesNew o (go x) → MakesNew o (refusing.◌>>=◌ t go)
new_then t x go o h made = subst (MakesNew o) (sym (ap (λ r. refusing.◌>>=◌ r go) h)) made

-- ---- limits

pub within : (L : Option ViewFault) → unless_fault L (Ok (tt {0})) ≡ Ok (tt {0}) → L ≡ None
within None h = refl
within (Some f) h = absurd cc

pub over : {A : Type 0} (L : Option ViewFault) (m : Result A Fault) (f : Fault) → unless_fault L (Ok (tt {0})) ≡ Err f → unless_fault L m ≡ Err f
over None m f h = absurd cc
over (Some v) m f h = let same : View v ≡ f = cc in ap Err same

refused_large : {A : Type 0} (L : Option ViewFault) (m : Eval A) (f : Fault) → unless_fault L (Ok (tt {0})) ≡ Err f → unless_too_large L m ≡ Refuses f
refused_large None m f h = absurd cc
refused_large (Some v) m f h = let same : View v ≡ f = cc in ap Refuses same

-- an array over the limits
pub new_over : (t : ElementType) (shape : List ℕ) (content : List ℕ → Content) (f : StmtFault) (o : Result New Stop) → IsErrAnd o (λ x. x ≡ Refused f)
    → unless_fault (limit_fault (item_size t) shape) (Ok (tt {0})) ≡ Err (fault_of f) → MakesNew o (Ok (AnArray t shape content))
new_over t shape content f o is h =
    new_stops (Ok (AnArray t shape content)) (Refused f) o is (refused_large (limit_fault (item_size t) shape) _ (fault_of f) h)

-- ---- lengths

clip_small : (n : ℕ) → n < 2 ^ 64 → clip n ≡ n
clip_small n small = let no : ltb (2 ^ 64 - 1) n ≡ false = le-ltb (2 ^ 64 - 1) n (omega arith) in rw no refl

-- a length that is clipped is as long for the limits
clip_long : (n : ℕ) → ltb (2 ^ 32) (clip n) ≡ ltb (2 ^ 32) n
clip_long n = at (ltb (2 ^ 64 - 1) n) refl
  where
    at : (b : Bool) → ltb (2 ^ 64 - 1) n ≡ b → ltb (2 ^ 32) (cond b (2 ^ 64 - 1) n) ≡ ltb (2 ^ 32) n
    at true h = let big : 2 ^ 64 - 1 < n = ltb-true (2 ^ 64 - 1) n h in lt-ltb (2 ^ 32) (2 ^ 64 - 1) (omega arith) ∙ sym (lt-ltb (2 ^ 32) n (omega (arith, big)))
    at false h = refl

clip_any : (ns : List ℕ) → list_any (ltb (2 ^ 32)) (map clip ns) ≡ list_any (ltb (2 ^ 32)) ns
clip_any [] = refl
clip_any (n ∷ ns) = ap₂ (λ a b. a || b) (clip_long n) (clip_any ns)

first_false : (a b : Bool) → (a || b) ≡ false → a ≡ false
first_false true b h = absurd cc
first_false false b h = refl

rest_false : (a b : Bool) → (a || b) ≡ false → b ≡ false
rest_false true b h = absurd cc
rest_false false b h = h

none_long : (ns : List ℕ) → list_any (ltb (2 ^ 32)) ns ≡ false → map clip ns ≡ ns
none_long [] h = refl
none_long (n ∷ ns) h =
    let small : n ≤ 2 ^ 32 = ltb-false (2 ^ 32) n (first_false (ltb (2 ^ 32) n) (list_any (ltb (2 ^ 32)) ns) h) in
    ap₂ (λ a b. a ∷ b) (clip_small n (omega (arith, small))) (none_long ns (rest_false (ltb (2 ^ 32) n) (list_any (ltb (2 ^ 32)) ns) h))

abbrev either : ℕ → Option ViewFault
either n = cond (ltb 32 n) (Some TooManyAxes) (Some TooManyElements)

long_fault : (size : ℕ) (ns : List ℕ) → list_any (ltb (2 ^ 32)) ns ≡ true → limit_fault size ns ≡ either (length ns)
long_fault size ns h =
    ap (λ b. cond (ltb 32 (length ns)) (Some TooManyAxes) (cond (b || (ltb (2 ^ 24) (elements_of ns) || ltb (2 ^ 27) (elements_of ns * size))) (Some TooManyElements) None)) h

refused_both : {A : Type 0} (b : Bool) (x y : Result A Fault) → unless_fault (cond b (Some TooManyAxes) (Some TooManyElements)) x ≡ unless_fault (cond b (Some TooManyAxes) (Some TooManyElements)) y
refused_both true x y = refl
refused_both false x y = refl

-- so the limits say the same of them, and what is made in the limits is the same
pub clip_limits : {A : Type 0} (t : ElementType) (ns : List ℕ) (m : List ℕ → Result A Fault) → in_limits t (map clip ns) (m (map clip ns)) ≡ in_limits t ns (m ns)
clip_limits t ns m = at (list_any (ltb (2 ^ 32)) ns) refl
  where
    at : (b : Bool) → list_any (ltb (2 ^ 32)) ns ≡ b → in_limits t (map clip ns) (m (map clip ns)) ≡ in_limits t ns (m ns)
    at true h =
        ap (λ L. unless_fault L (m (map clip ns))) (long_fault (item_size t) (map clip ns) (clip_any ns ∙ h) ∙ ap either (length-map ns clip))
        ∙ refused_both (ltb 32 (length ns)) (m (map clip ns)) (m ns)
        ∙ sym (ap (λ L. unless_fault L (m ns)) (long_fault (item_size t) ns h))
    at false h = ap (λ s. in_limits t s (m s)) (none_long ns h)

same_then : {A B : Type 0} (r : Result A Fault) (f g : A → Result B Fault) → ((x : A) → f x ≡ g x) → refusing.◌>>=◌ r f ≡ refusing.◌>>=◌ r g
same_then (Ok x) f g h = h x
same_then (Err e) f g h = refl

filled_clip : (f : Fill) (dtype : Option DType) (ns : List ℕ) → filled_array f dtype (map clip ns) ≡ filled_array f dtype ns
filled_clip f dtype ns =
    same_then (type_or dtype (Err (Ufunc FloatResult))) _ _ (λ t. same_then (fill_content f t) _ _ (λ c. clip_limits t ns (λ s. Ok (uniform t s c))))

full_clip : (dtype : Option DType) (o : Operand) (ns : List ℕ) → full_array dtype (map clip ns) o ≡ full_array dtype ns o
full_clip dtype o ns = same_then (type_for dtype o) _ _ (λ t. clip_limits t ns (λ s. unless_misfit (operand_misfit t o) (Ok (uniform t s (converted_at t o [])))))

-- lengths that were read
read_lengths : (L : Result (List ℕ) Fault) (v : List ℕ) (go : List ℕ → Result Made Fault) → clip_lengths L ≡ Ok v → ((ns : List ℕ) → go (map clip ns) ≡ go ns)
    → refusing.◌>>=◌ L go ≡ go v
read_lengths (Ok ns) v go h same = sym (same ns) ∙ (let is : map clip ns ≡ v = cc in ap go is)
read_lengths (Err f) v go h same = absurd cc

not_read : (L : Result (List ℕ) Fault) (f : Fault) → clip_lengths L ≡ Err f → L ≡ Err f
not_read (Ok ns) f h = absurd cc
not_read (Err e) f h = h

pub filled_lengths : (f : Fill) (dtype : Option DType) (os : List Operand) (v : List ℕ) (o : Result New Stop) → clip_lengths (lengths_of os) ≡ Ok v
    → MakesNew o (filled_array f dtype v) → MakesNew o (refusing.◌>>=◌ (lengths_of os) (filled_array f dtype))
filled_lengths f dtype os v o h made = subst (MakesNew o) (sym (read_lengths (lengths_of os) v (filled_array f dtype) h (filled_clip f dtype))) made

pub full_lengths : (dtype : Option DType) (os : List Operand) (x : Operand) (v : List ℕ) (o : Result New Stop) → clip_lengths (lengths_of os) ≡ Ok v → without_axes x ≡ Ok x
    → MakesNew o (full_array dtype v x) → MakesNew o (full_of dtype os x)
full_lengths dtype os x v o h is made =
    subst (MakesNew o)
    (sym (read_lengths (lengths_of os) v (λ shape. refusing.◌>>=◌ (without_axes x) (λ n. full_array dtype shape n)) h
    (λ ns. same_then (without_axes x) _ _ (λ n. full_clip dtype n ns))
    ∙ ap (λ p. refusing.◌>>=◌ p (λ n. full_array dtype v n)) is)) made

-- what has axes fills no array
pub full_refused : (dtype : Option DType) (os : List Operand) (x : Operand) (v : List ℕ) (f : StmtFault) (o : Result New Stop) → IsErrAnd o (λ e. e ≡ Refused f)
    → clip_lengths (lengths_of os) ≡ Ok v → without_axes x ≡ Err (fault_of f) → MakesNew o (full_of dtype os x)
full_refused dtype os x v f o stops h is =
    new_refused (full_of dtype os x) f o stops
    (read_lengths (lengths_of os) v (λ shape. refusing.◌>>=◌ (without_axes x) (λ n. full_array dtype shape n)) h
    (λ ns. same_then (without_axes x) _ _ (λ n. full_clip dtype n ns))
    ∙ ap (λ p. refusing.◌>>=◌ p (λ n. full_array dtype v n)) is)

-- the exit by `?` there
pub lengths_exit : (os : List Operand) (go : List ℕ → Result Made Fault) (e : Stop) (o : Result New Stop) → IsErrAnd o (λ x. x ≡ e)
    → Makes {X = List ℕ} (λ v. v) (Err e) (clip_lengths (lengths_of os)) → MakesNew o (refusing.◌>>=◌ (lengths_of os) go)
lengths_exit os go e o is h = new_stops (refusing.◌>>=◌ (lengths_of os) go) e o is (at e h)
  where
    at : (e : Stop) → Makes {X = List ℕ} (λ v. v) (Err e) (clip_lengths (lengths_of os)) → MakesNew (Err e) (refusing.◌>>=◌ (lengths_of os) go)
    at (Memory m) h = tt
    at (Refused f) h = refuses_new (refusing.◌>>=◌ (lengths_of os) go) (fault_of f) (ap (λ r. refusing.◌>>=◌ r go) (not_read (lengths_of os) (fault_of f) h))

-- ---- lengths read from left to right

abbrev pub before : List ℕ → Result (List ℕ) Fault → Result (List ℕ) Fault
before done (Ok ns) = Ok (done ++ ns)
before done (Err f) = Err f

pub one_length : (o : Operand) (os : List Operand) (n : ℕ) (done : List ℕ) → clip_length (length_of o) ≡ Ok n
    → before done (clip_lengths (lengths_of (o ∷ os))) ≡ before (done ++ n ∷ []) (clip_lengths (lengths_of os))
one_length o os n done h = at (length_of o) (lengths_of os) h
  where
    at : (l : Result ℕ Fault) (r : Result (List ℕ) Fault) → clip_length l ≡ Ok n
        → before done (clip_lengths (refusing.◌>>=◌ l (λ m. refusing.◌>>=◌ r (λ ms. Ok (m ∷ ms))))) ≡ before (done ++ n ∷ []) (clip_lengths r)
    at (Ok m) (Ok ms) h = (let is : clip m ≡ n = cc in ap (λ k. Ok (done ++ k ∷ map clip ms)) is) ∙ ap Ok (sym (append_assoc done (n ∷ []) (map clip ms)))
    at (Ok m) (Err f) h = refl
    at (Err f) r h = absurd cc

-- ---- integers

abbrev pub before_integers : List ℤ → Result (List ℤ) Fault → Result (List ℤ) Fault
before_integers done (Ok zs) = Ok (done ++ zs)
before_integers done (Err f) = Err f

pub one_integer : (o : Operand) (os : List Operand) (z : ℤ) (done : List ℤ) → integer_of o ≡ Ok z
    → before_integers done (integers_of (o ∷ os)) ≡ before_integers (done ++ z ∷ []) (integers_of os)
one_integer o os z done h = ap (λ r. before_integers done (refusing.◌>>=◌ r (λ y. refusing.◌>>=◌ (integers_of os) (λ ys. Ok (y ∷ ys))))) h ∙ at (integers_of os)
  where
    at : (r : Result (List ℤ) Fault) → before_integers done (refusing.◌>>=◌ r (λ ys. Ok (z ∷ ys))) ≡ before_integers (done ++ z ∷ []) r
    at (Ok ys) = ap Ok (sym (append_assoc done (z ∷ []) ys))
    at (Err f) = refl

-- ---- an array of zeros or ones over the limits

pub filled_over : (f : Fill) (d : DType) (dtype : Option DType) (shape : List ℕ) (t : ElementType) (c : Content) (e : Fault) → dtype ≡ Some d → element_type d ≡ Ok t → fill_content f t ≡ Ok c
    → unless_fault (limit_fault (item_size t) shape) (Ok (tt {0})) ≡ Err e → filled_array f dtype shape ≡ Err e
filled_over f d dtype shape t c e is typed content limits =
    ap (λ x. filled_array f x shape) is
    ∙ ap (λ r. refusing.◌>>=◌ r (λ t. refusing.◌>>=◌ (fill_content f t) (λ c. in_limits t shape (Ok (uniform t shape c))))) typed
    ∙ ap (λ r. refusing.◌>>=◌ r (λ c. in_limits t shape (Ok (uniform t shape c)))) content
    ∙ over (limit_fault (item_size t) shape) (Ok (uniform t shape c)) e limits

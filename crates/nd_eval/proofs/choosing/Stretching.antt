-- `np.broadcast_to`: the lengths of its shape, and what is made of one element.
use Rattle.std.proofs.Common.{◌≡◌, ℕ, Bool, true, false, List, [], ◌∷◌, length, map, None, Result, Ok, Err, IsErrAnd, refl, sym, ap, subst, ◌∙◌, arith, suc, ◌*◌, ◌≤◌, ◌^◌}
use Rattle.std.specs.Prelude.{◌==◌, nat_lt}
use Rattle.std.proofs.lemmas.Bool.Decides.{nat_tests}
use Rattle.std.proofs.lemmas.Result.{err_from_is_err_and}
use Rattle.nd_model.specs.Arrays.Element.{Kind, Element, size_of}
use Rattle.nd_model.specs.Arrays.View.{ElementType, One, Geo, item_size, contiguous}
use Rattle.nd_model.specs.Arrays.Content.{Content, Num, content_or, content_in_order, array_bytes}
use Rattle.nd_model.specs.Cells.Fault.{Fault, Shape, Stmt, BadArgument}
use Rattle.nd_model.specs.Indexing.ShapeFault.{ShapeMismatch}
use Rattle.nd_model.specs.Cells.Refusing as refusing
use Rattle.nd_model.specs.Arrays.Strides.{limit_fault}
use Rattle.nd_model.specs.Arrays.Broadcast.{broadcasts_to, broadcast_view, in_limits, unless_fault}
use Rattle.nd_model.specs.Making.Creation.{array_kind, little, without_axes}
use Rattle.nd_model.specs.Cells.Evaluation.{◌>>=◌, decide}
use Rattle.nd_model.specs.Making.Operand.{Number, Operand, Plain, Elements, Chosen, AView, Stretched, number_of}
use Rattle.nd_model.specs.Cells.Operation.{choose_of_number, stretch_content}
use Rattle.nd_model.specs.Indexing.ShapeChoices.{seen, stretch_operand, stretch_to}
use Rattle.nd_model.specs.Indexing.Stretching.{broadcast_to}
use Rattle.nd_model.specs.Making.Creation.{lengths_of}
use Rattle.nd_model.proofs.Transposed.{when_ok, ok_same}
use Rattle.nd_model.proofs.Stretched.{unless_ok}
use Rattle.nd_operation.specs.declared.operators.operand.New.{New}
use Rattle.nd_operation.specs.declared.operators.operand.New.TheVariants.{Array}
use Rattle.nd_operation.specs.declared.refusals.fault.StmtFault.{StmtFault}
use Rattle.nd_operation.specs.declared.refusals.stop.Stop.{Stop}
use Rattle.nd_operation.specs.declared.refusals.stop.Stop.TheVariants.{Memory, Refused}
use Rattle.nd_operation.specs.Refusals.Ends.{Makes}
use Rattle.nd_operation.specs.Refusals.Faults.{fault_of}
use Rattle.nd_operation.specs.Operators.New.{given, clip, clip_lengths}
use Rattle.nd_operation.proofs.operators.Creating.{clip_limits, over}
use Rattle.nd_eval.specs.Choosing.Shapes.{MakesStretched}

-- ---- lengths that are clipped

same_then : {A B : Type 0} (r : Result A Fault) (f g : A → Result B Fault) → ((x : A) → f x ≡ g x) → refusing.◌>>=◌ r f ≡ refusing.◌>>=◌ r g
same_then (Ok x) f g h = h x
same_then (Err e) f g h = refl

-- a shape of clipped lengths is refused where the shape is, and else it is the same
clip_stretch : (o : Operand) (ns : List ℕ) → stretch_operand o (map clip ns) ≡ stretch_operand o ns
clip_stretch (Plain n) ns = same_then (array_kind n) _ _ (λ k. clip_limits (One (little k)) ns (λ s. Ok (Stretched (One (little k)) (Num (number_of n)) s)))
clip_stretch (Elements true g cs) ns =
    same_then (without_axes (Elements true g cs)) _ _ (λ row. clip_limits g.element ns (λ s. Ok (Stretched g.element (content_or cs 0) s)))
clip_stretch (Elements false g cs) ns = ap seen (clip_limits g.element ns (λ s. refusing.when (broadcasts_to g.shape s) (Shape ShapeMismatch) (Ok (broadcast_view g s))))

pub of_lengths : (o : Operand) (os : List Operand) (items : List ℕ) → clip_lengths (lengths_of os) ≡ Ok items → stretch_to o os ≡ stretch_operand o items
of_lengths o os items e = by (lengths_of os) e
  where
    by : (r : Result (List ℕ) Fault) → clip_lengths r ≡ Ok items → refusing.◌>>=◌ r (stretch_operand o) ≡ stretch_operand o items
    by (Ok ns) e = sym (clip_stretch o ns) ∙ ap (stretch_operand o) (ok_same (map clip ns) items e)
    by (Err f) e = absurd (cc)

pub no_lengths : (o : Operand) (os : List Operand) (f : Fault) → clip_lengths (lengths_of os) ≡ Err f → stretch_to o os ≡ Err f
no_lengths o os f e = by (lengths_of os) e
  where
    by : (r : Result (List ℕ) Fault) → clip_lengths r ≡ Err f → refusing.◌>>=◌ r (stretch_operand o) ≡ Err f
    by (Ok ns) e = absurd (cc)
    by (Err g) e = let same : g ≡ f = cc in ap Err same

-- ---- views

pub seen_makes : (r : Result Geo Stop) (m : Result Geo Fault) → Makes (λ v. v) r m → Makes (λ v. AView v) r (seen m)
seen_makes (Ok v) m h = ap seen h
seen_makes (Err (Memory want)) m h = tt
seen_makes (Err (Refused f)) m h = ap seen h

-- ---- new arrays of one element

pub gives_stretched : (t : ElementType) (c : Content) (shape : List ℕ) (view : Geo) (block : List ℕ) → limit_fault (item_size t) [] ≡ None → limit_fault (item_size t) shape ≡ None
    → broadcast_to shape (contiguous t []) ≡ Ok view → block ≡ array_bytes t [] (λ i. c) → stretch_content t c shape ≡ given (Array view block)
gives_stretched t c shape view block alone limits made bytes =
    let fits = unless_ok (limit_fault (item_size t) shape) _ view made in
    let is = when_ok (broadcasts_to [] shape) _ (Ok (broadcast_view (contiguous t []) shape)) view fits.1 in
    rw (alone, limits, sym (ok_same (broadcast_view (contiguous t []) shape) view is.1), bytes) refl

stretched_stops : (m : Result Chosen Fault) (e : Stop) (o : Result New Stop) → IsErrAnd o (λ x. x ≡ e) → MakesStretched (Err e) m → MakesStretched o m
stretched_stops m e o is h =
    let p : (x : Stop) × (o ≡ Err x) × (x ≡ e) = err_from_is_err_and o is in
    subst (λ (o : Result New Stop). MakesStretched o m) (sym (p.1 ∙ ap Err p.2)) h

pub stretched_refused : (m : Result Chosen Fault) (f : StmtFault) (o : Result New Stop) → IsErrAnd o (λ x. x ≡ Refused f) → m ≡ Err (fault_of f) → MakesStretched o m
stretched_refused m f o is h = stretched_stops m (Refused f) o is (ap (λ m. decide m >>= choose_of_number) h)

-- no axes
pub no_axes : (shape : List ℕ) (b : Bool) → b ≡ (length shape == 0) → b ≡ true → shape ≡ []
no_axes [] b e is = refl
no_axes (n ∷ shape) b e is = absurd (by (length shape) (sym e ∙ is))
  where
    by : (n : ℕ) → (suc n == 0) ≡ true → ⊥
    by n e = grind (arith, nat_tests)

-- an element alone is in the limits of arrays
pub alone_in_limits : (size : ℕ) → size ≤ 65536 → limit_fault size [] ≡ None
alone_in_limits size le =
    let bytes : nat_lt (2 ^ 27) (1 * size) ≡ false = small size le in
    rw bytes refl
  where
    small : (size : ℕ) → size ≤ 65536 → nat_lt (2 ^ 27) (1 * size) ≡ false
    small size le = grind (arith, nat_tests)

pub number_stretched : (n : Number) (k : Kind) (e : Element) (shape : List ℕ) (element view : Geo) (block : List ℕ) → array_kind n ≡ Ok k → e ≡ little k → limit_fault (size_of e.kind) shape ≡ None
    → limit_fault (size_of e.kind) [] ≡ None → element ≡ contiguous (One e) [] → block ≡ array_bytes (One e) element.shape (λ t. Num (number_of n)) → broadcast_to shape element ≡ Ok view
    → (decide (stretch_operand (Plain n) shape) >>= choose_of_number) ≡ given (Array view block)
number_stretched n k e shape element view block kind is limits alone one bytes made =
    let t : ElementType = One e in
    let same : little k ≡ e = sym is in
    ap (λ r. decide (refusing.◌>>=◌ r (λ k. in_limits (One (little k)) shape (Ok (Stretched (One (little k)) (Num (number_of n)) shape)))) >>= choose_of_number) kind
    ∙ ap (λ e. decide (in_limits (One e) shape (Ok (Stretched (One e) (Num (number_of n)) shape))) >>= choose_of_number) same
    ∙ ap (λ L. decide (unless_fault L (Ok (Stretched t (Num (number_of n)) shape))) >>= choose_of_number) limits
    ∙ gives_stretched t (Num (number_of n)) shape view block alone limits (ap (broadcast_to shape) (sym one) ∙ made)
    (bytes ∙ ap (λ s. array_bytes t s (λ i. Num (number_of n))) (ap (λ (g : Geo). g.shape) one))

pub row_stretched : (is_row : Bool) (g : Geo) (cs : List Content) (shape : List ℕ) (element view : Geo) (block : List ℕ) → is_row ≡ true → g.shape ≡ [] → limit_fault (item_size g.element) shape ≡ None
    → limit_fault (item_size g.element) [] ≡ None → element ≡ contiguous g.element [] → block ≡ array_bytes g.element g.shape (content_in_order g.shape cs) → broadcast_to shape element ≡ Ok view
    → (decide (stretch_operand (Elements is_row g cs) shape) >>= choose_of_number) ≡ given (Array view block)
row_stretched is_row g cs shape element view block row none limits alone one bytes made =
    let c : Content = content_or cs 0 in
    ap (λ r. decide (stretch_operand (Elements r g cs) shape) >>= choose_of_number) row
    ∙ ap (λ (s : List ℕ). decide (refusing.◌>>=◌ (refusing.when (length s == 0) (Stmt BadArgument) (Ok (Elements true g cs))) (λ row. in_limits g.element shape (Ok (Stretched g.element c shape)))) >>= choose_of_number) none
    ∙ ap (λ L. decide (unless_fault L (Ok (Stretched g.element c shape))) >>= choose_of_number) limits
    ∙ gives_stretched g.element c shape view block alone limits (ap (broadcast_to shape) (sym one) ∙ made) (bytes ∙ ap (λ s. array_bytes g.element s (content_in_order s cs)) none)

-- a row over the limits
pub row_over : (is_row : Bool) (g : Geo) (cs : List Content) (shape : List ℕ) (f : Fault) → is_row ≡ true → g.shape ≡ [] → unless_fault (limit_fault (item_size g.element) shape) (Ok (tt {0})) ≡ Err f
    → stretch_operand (Elements is_row g cs) shape ≡ Err f
row_over is_row g cs shape f row none limits =
    ap (λ r. stretch_operand (Elements r g cs) shape) row
    ∙ ap (λ (s : List ℕ). refusing.◌>>=◌ (refusing.when (length s == 0) (Stmt BadArgument) (Ok (Elements true g cs))) (λ row. in_limits g.element shape (Ok (Stretched g.element (content_or cs 0) shape)))) none
    ∙ over (limit_fault (item_size g.element) shape) (Ok (Stretched g.element (content_or cs 0) shape)) f limits

-- Evaluations, cells and notebooks under two labellings: a relation between evaluations, which `>>=` keeps.
use Rattle.std.proofs.Common.{◌≡◌, ℕ, zero, suc, ◌+◌, Bool, true, false, cond, ◌&&◌, ◌||◌, eqb, leb, eq-eqb, ne_eqb, List, [], ◌∷◌, ◌++◌, map, length, get_or, Option, Some, None, Result, Ok, Err, refl, sym, ap, ap₂, subst, ◌∙◌, inl, inr}
use Rattle.std.specs.Prelude.{bytes_eq}
use Rattle.std.specs.List.{flat_map}
use Rattle.std.proofs.lemmas.Bool.{cases_Bool, cases_eq}
use Rattle.nd_model.specs.Arrays.View.{ElementType, One, Structure, Geo, item_size, contiguous}
use Rattle.nd_model.specs.Arrays.Value.{Base, same_base, Value, lies_in}
use Rattle.nd_model.specs.Cells.Session.{Names, lookup, bind, unbind, is_held, Session, no_session, put}
use Rattle.nd_model.specs.Arrays.Content.{Content, contents_in, content_in_order}
use Rattle.nd_model.specs.Cells.Running.{Key, Source, Inputs, Rule, Python, Atomic, World, Running, start, having_read, Lookup, Ask, Use, Make, reply, made, after, Effect, Nothing, Prints, Saves, Binding, Unbinding, Storing, done, Output, output}
use Rattle.nd_model.specs.Cells.Fault.{Fault, Refusal, ViewFault, BadArgument}
use Rattle.nd_model.specs.Cells.Fault as fault
use Rattle.nd_model.specs.Cells.InputName.{is_input_name}
use Rattle.nd_model.specs.Arrays.Strides.{limit_fault}
use Rattle.nd_model.specs.Grammar.Syntax.{Stmt, Line, Parsed}
use Rattle.nd_model.specs.Cells.Evaluation.{Eval, Gives, Refuses, Asks, run, ◌>>=◌, decide}
use Rattle.nd_model.specs.Making.Operand as operand
use Rattle.nd_model.specs.Making.Operand.{Operand, Usage, Made, ANumber, AnArray, Loaded, AFile, ABuffer, Chosen, AnElement, AView, ACopy, Stretched, Deed, NoDeed, PrintsText, SavesFile, BindsFirst, BindsMade, Unbinds, Writes, MakesAndWrites}
use Rattle.nd_model.specs.Indexing.Viewing.{choose}
use Rattle.nd_model.specs.Cells.Operation
use Rattle.nd_model.specs.Cells.Operation.{operands, Operation, Computes, Views, perform, Plan, Named, FromInput, Does, Plans, Done, And, evaluate, with_values, evaluate_all, Work, Acts, ActsOn}
use Rattle.nd_model.specs.Cells.Meaning
use Rattle.nd_model.specs.Cells.Cell.{Saved, Ended, had, statement, most_text, with_save, and_then, statements, ran, under, cell, session_after, notebook}
use Rattle.nd_model.specs.Book.Renaming
use Rattle.nd_model.specs.Book.Renaming.{IsOneToOne, AreRelabelled, SameBase, SameValue, int, truth, scalar, array, row, SameNames, no_name, entry, LikeSessions, Like, LikeEnds, Shown, shown_element, shown, shown_names, Told, told, Rename}

abbrev is : {A : Type 0} → A → A → Type 0
is x y = x ≡ y

module _ (r : ℕ → ℕ → Bool) where
  -- THE SAME BUT FOR LABELS
  data SameFound : Option Value → Option Value → Type 0 where
    none : SameFound None None
    some : (v w : Value) → (SameValue r) v w → SameFound (Some v) (Some w)

  data SameOperands : List (Usage × Value) → List (Usage × Value) → Type 0 where
    no_operand : SameOperands [] []
    operand_more : (u : Usage) (v w : Value) (vs ws : List (Usage × Value)) → (SameValue r) v w → SameOperands vs ws → SameOperands ((u, v) ∷ vs) ((u, w) ∷ ws)

  data SameEffect : Effect → Effect → Type 0 where
    nothing : SameEffect Nothing Nothing
    prints : (text : List ℕ) → SameEffect (Prints text) (Prints text)
    writes_file : (name file : List ℕ) → SameEffect (Saves name file) (Saves name file)
    binding : (n : List ℕ) (v w : Value) → (SameValue r) v w → SameEffect (Binding n v) (Binding n w)
    unbinding : (n : List ℕ) → SameEffect (Unbinding n) (Unbinding n)
    storing : (b c : Base) (ws : List (ℕ × ℕ)) → SameBase r b c → SameEffect (Storing b ws) (Storing c ws)

  data SameResult (A : Type 0) (R : A → A → Type 0) : Result A Fault → Result A Fault → Type 0 where
    ok : (x y : A) → R x y → SameResult A R (Ok x) (Ok y)
    err : (f : Fault) → SameResult A R (Err f) (Err f)

  -- they ask the same but for labels, and go on alike at answers that are the same but for labels
  data Same (A : Type 0) (R : A → A → Type 0) : Eval A → Eval A → Type 0 where
    gives : (x y : A) → R x y → Same A R (Gives x) (Gives y)
    refuses : (f : Fault) → Same A R (Refuses f) (Refuses f)
    looks : (n : List ℕ) (go go' : Option Value → Eval A) → ((o p : Option Value) → SameFound o p → Same A R (go o) (go' p)) → Same A R (Asks (Lookup n) go) (Asks (Lookup n) go')
    asks : (n : List ℕ) (go go' : Option Source → Eval A) → ((o : Option Source) → Same A R (go o) (go' o)) → Same A R (Asks (Ask n) go) (Asks (Ask n) go')
    uses : (b c : Base) (ps : List ℕ) (go go' : List ℕ → Eval A) → SameBase r b c → ((l : List ℕ) → Same A R (go l) (go' l)) → Same A R (Asks (Use b ps) go) (Asks (Use c ps) go')
    makes : (l : List ℕ) (go go' : Base → Eval A) → ((b c : Base) → SameBase r b c → Same A R (go b) (go' c)) → Same A R (Asks (Make l) go) (Asks (Make l) go')

  same_bind : {A B : Type 0} (R : A → A → Type 0) (S : B → B → Type 0) (t t' : Eval A) (k k' : A → Eval B) → Same A R t t' → ((x y : A) → R x y → Same B S (k x) (k' y)) → Same B S (t >>= k) (t' >>= k')
  same_bind R S _ _ k k' (gives x y e) s = s x y e
  same_bind R S _ _ k k' (refuses f) s = refuses f
  same_bind R S _ _ k k' (looks n go go' h) s = looks n _ _ (λ o p e. same_bind R S (go o) (go' p) k k' (h o p e) s)
  same_bind R S _ _ k k' (asks n go go' h) s = asks n _ _ (λ o. same_bind R S (go o) (go' o) k k' (h o) s)
  same_bind R S _ _ k k' (uses b c ps go go' e h) s = uses b c ps _ _ e (λ l. same_bind R S (go l) (go' l) k k' (h l) s)
  same_bind R S _ _ k k' (makes l go go' h) s = makes l _ _ (λ b c e. same_bind R S (go b) (go' c) k k' (h b c e) s)

  -- where both give the very same
  same_then : {A B : Type 0} (S : B → B → Type 0) (t t' : Eval A) (k k' : A → Eval B) → Same A is t t' → ((x : A) → Same B S (k x) (k' x)) → Same B S (t >>= k) (t' >>= k')
  same_then {A} {B} S t t' k k' h s = same_bind is S t t' k k' h (λ x y e. subst (λ y. Same B S (k x) (k' y)) e (s x))

  -- WHAT ASKS FOR BYTES, AND WHAT MAKES BASES
  at_decided : {A B : Type 0} (S : B → B → Type 0) (x : Result A Fault) (k k' : A → Eval B) → ((x : A) → Same B S (k x) (k' x)) → Same B S (decide x >>= k) (decide x >>= k')
  at_decided S (Ok x) k k' h = h x
  at_decided S (Err f) k k' h = refuses f

  at_elements : (t is_row : Bool) (b c : Base) (g : Geo) → SameBase r b c → Same Operand is (Operation.elements t is_row b g) (Operation.elements t is_row c g)
  at_elements true is_row b c g e = uses b c _ _ _ e (λ l. gives _ _ refl)
  at_elements false is_row b c g e = gives _ _ refl

  at_used : (u : Usage) (v w : Value) → (SameValue r) v w → Same Operand is (Operation.use_operand u v) (Operation.use_operand u w)
  at_used u _ _ (int z) = gives _ _ refl
  at_used u _ _ (truth t) = gives _ _ refl
  at_used u _ _ (scalar k z) = gives _ _ refl
  at_used u _ _ (array b c g e) = at_elements (operand.is_used u false) false b c g e
  at_used u _ _ (row b c g e) = at_elements (operand.is_used u true) true b c g e

  at_number : (n : operand.Number) → (SameValue r) (Operation.number_value n) (Operation.number_value n)
  at_number (operand.Int z) = int z
  at_number (operand.Truth t) = truth t
  at_number (operand.Scalar k z) = scalar k z

  at_limits : {A : Type 0} (R : A → A → Type 0) (f : Option ViewFault) (t t' : Eval A) → Same A R t t' → Same A R (Operation.unless_too_large f t) (Operation.unless_too_large f t')
  at_limits R None t t' s = s
  at_limits R (Some f) t t' s = refuses _

  at_fresh : (t : ElementType) (shape : List ℕ) (f : List ℕ → Content) → Same Value (SameValue r) (Operation.fresh_array t shape f) (Operation.fresh_array t shape f)
  at_fresh t shape f = at_limits (SameValue r) (limit_fault (item_size t) shape) _ _ (makes _ _ _ (λ b c e. gives _ _ (array b c (contiguous t shape) e)))

  at_given : (m : Made) → Same Value (SameValue r) (Operation.give m) (Operation.give m)
  at_given (ANumber n) = gives _ _ (at_number n)
  at_given (AnArray t shape f) = at_fresh t shape f

  at_over : (bytes : List ℕ) (o : Result Geo ViewFault) → Same Value (SameValue r) (Operation.array_over bytes o) (Operation.array_over bytes o)
  at_over bytes (Ok g) = makes _ _ _ (λ b c e. gives _ _ (array b c g e))
  at_over bytes (Err f) = refuses _

  at_loaded : (l : Loaded) → Same Value (SameValue r) (Operation.give_loaded l) (Operation.give_loaded l)
  at_loaded (AFile t shape f) = at_fresh t shape f
  at_loaded (ABuffer t shape strides offset bytes) = at_over bytes _

  at_element : (b c : Base) (t : Bool) (e : ElementType) (p : ℕ) → SameBase r b c → Same Value (SameValue r) (Operation.element_of b t e p) (Operation.element_of c t e p)
  at_element b c t (One e) p s = uses b c _ _ _ s (λ l. gives _ _ (scalar _ _))
  at_element b c t (Structure fields size) p s = at_limits (SameValue r) (limit_fault size []) _ _ (gives _ _ (row b c _ s))

  at_stretched : (t : ElementType) (x : Content) (shape : List ℕ) → Same Value (SameValue r) (Operation.stretch_content t x shape) (Operation.stretch_content t x shape)
  at_stretched t x shape = at_limits (SameValue r) (limit_fault (item_size t) []) _ _ (makes _ _ _ (λ b c e. at_limits (SameValue r) (limit_fault (item_size t) shape) _ _ (gives _ _ (array b c _ e))))

  at_chosen_in : (b c : Base) (g : Geo) (x : Chosen) → SameBase r b c → Same Value (SameValue r) (Operation.choose_in b g x) (Operation.choose_in c g x)
  at_chosen_in b c g (AnElement t p) s = at_element b c g.writable t p s
  at_chosen_in b c g (AView h) s = at_limits (SameValue r) (limit_fault (item_size h.element) h.shape) _ _ (gives _ _ (array b c h s))
  at_chosen_in b c g (ACopy h) s = uses b c _ _ _ s (λ l. at_fresh h.element h.shape (content_in_order h.shape (contents_in h.element (length h.places) l)))
  at_chosen_in b c g (Stretched t x shape) s = at_stretched t x shape

  at_alone : (x : Chosen) → Same Value (SameValue r) (Operation.choose_of_number x) (Operation.choose_of_number x)
  at_alone (Stretched t x shape) = at_stretched t x shape
  at_alone x = refuses _

  at_chosen_of : (v w : Value) (x : Chosen) → (SameValue r) v w → Same Value (SameValue r) (Operation.choose_of v x) (Operation.choose_of w x)
  at_chosen_of _ _ x (int z) = at_alone x
  at_chosen_of _ _ x (truth t) = at_alone x
  at_chosen_of _ _ x (scalar k z) = at_alone x
  at_chosen_of _ _ x (array b c g e) = at_chosen_in b c g x e
  at_chosen_of _ _ x (row b c g e) = at_chosen_in b c g x e

  at_stored : (ws : List (ℕ × ℕ)) (v w : Value) → (SameValue r) v w → Same Effect SameEffect (Operation.store_in ws v) (Operation.store_in ws w)
  at_stored ws _ _ (int z) = refuses _
  at_stored ws _ _ (truth t) = refuses _
  at_stored ws _ _ (scalar k z) = refuses _
  at_stored ws _ _ (array b c g e) = gives _ _ (storing b c ws e)
  at_stored ws _ _ (row b c g e) = gives _ _ (storing b c ws e)

  -- OPERATIONS
  at_operands : {A : Type 0} (R : A → A → Type 0) (vs ws : List (Usage × Value)) (k k' : List Operand → Eval A) → SameOperands vs ws → ((os : List Operand) → Same A R (k os) (k' os))
      → Same A R (operands vs k) (operands ws k')
  at_operands R _ _ k k' no_operand h = h []
  at_operands R _ _ k k' (operand_more u v w vs ws e s) h =
      same_then R _ _ _ _ (at_used u v w e) (λ o. at_operands R vs ws (λ os. k (o ∷ os)) (λ os. k' (o ∷ os)) s (λ os. h (o ∷ os)))

  at_with : {A : Type 0} (R : A → A → Type 0) (vs ws : List (Usage × Value)) (n : ℕ) (k k' : Value → Eval A) → SameOperands vs ws → ((v w : Value) → SameValue r v w → Same A R (k v) (k' w))
      → Same A R (Operation.with_value vs n k) (Operation.with_value ws n k')
  at_with R _ _ n k k' no_operand h = refuses _
  at_with R _ _ zero k k' (operand_more u v w vs ws e s) h = h v w e
  at_with R _ _ (suc n) k k' (operand_more u v w vs ws e s) h = at_with R vs ws n k k' s h

  at_performed : (op : Operation) (vs ws : List (Usage × Value)) → SameOperands vs ws → Same Value (SameValue r) (perform op vs) (perform op ws)
  at_performed (Computes f) vs ws s = at_operands (SameValue r) vs ws _ _ s (λ os. at_decided (SameValue r) (f os) _ _ at_given)
  at_performed (Views w) vs ws s = at_operands (SameValue r) vs ws _ _ s (λ os. at_decided (SameValue r) (choose w os) _ _ (λ x. at_with (SameValue r) vs ws 0 _ _ s (λ v w e. at_chosen_of v w x e)))

  -- EXPRESSIONS: plans, and no word on their forms
  at_bound : (n : List ℕ) (o p : Option Value) → SameFound o p → Same Value (SameValue r) (Operation.bound_value n o) (Operation.bound_value n p)
  at_bound n _ _ none = refuses _
  at_bound n _ _ (some v w e) = gives v w e

  at_name : (n : List ℕ) → Same Value (SameValue r) (Operation.name n) (Operation.name n)
  at_name n = looks n _ _ (λ o p e. at_bound n o p e)

  at_input : (n : List ℕ) (f : Option Source → Result Loaded Fault) → Same Value (SameValue r) (Operation.input_value n f) (Operation.input_value n f)
  at_input n f =
      let read : Eval Value = Asks (Ask n) (λ source. decide (f source) >>= Operation.give_loaded) in
      let refused : Eval Value = Refuses (fault.Stmt BadArgument) in
      elim (is_input_name n) as (λ t. Same Value (SameValue r) (cond t read refused) (cond t read refused)) [
        | true ↦ asks n _ _ (λ source. at_decided (SameValue r) (f source) _ _ at_loaded)
        | false ↦ refuses _
      ]

  mutual
    at_plan : (p : Plan) → Same Value (SameValue r) (evaluate p) (evaluate p)
    at_plan (Named n) = at_name n
    at_plan (FromInput n f) = at_input n f
    at_plan (Does op ps) = at_values ps (perform op) (perform op) (at_performed op)

    at_values : (ps : Plans) (k k' : List (Usage × Value) → Eval Value) → ((vs ws : List (Usage × Value)) → SameOperands vs ws → Same Value (SameValue r) (k vs) (k' ws))
        → Same Value (SameValue r) (with_values ps k) (with_values ps k')
    at_values Done k k' h = h [] [] no_operand
    at_values (And u p ps) k k' h =
        same_bind (SameValue r) (SameValue r) _ _ _ _ (at_plan p) (λ v w e. at_values ps (λ vs. k ((u, v) ∷ vs)) (λ vs. k' ((u, w) ∷ vs)) (λ vs ws s. h ((u, v) ∷ vs) ((u, w) ∷ ws) (operand_more u v w vs ws e s)))

  at_all : (ps : Plans) (k k' : List (Usage × Value) → Eval Effect) → ((vs ws : List (Usage × Value)) → SameOperands vs ws → Same Effect SameEffect (k vs) (k' ws)) → Same Effect SameEffect (evaluate_all ps k) (evaluate_all ps k')
  at_all Done k k' h = h [] [] no_operand
  at_all (And u p ps) k k' h =
      same_bind (SameValue r) SameEffect _ _ _ _ (at_plan p) (λ v w e. at_all ps (λ vs. k ((u, v) ∷ vs)) (λ vs. k' ((u, w) ∷ vs)) (λ vs ws s. h ((u, v) ∷ vs) ((u, w) ∷ ws) (operand_more u v w vs ws e s)))

  -- STATEMENTS
  at_deed : (vs ws : List (Usage × Value)) (d : Deed) → SameOperands vs ws → Same Effect SameEffect (Operation.do_deed vs d) (Operation.do_deed ws d)
  at_deed vs ws NoDeed s = gives _ _ nothing
  at_deed vs ws (PrintsText text) s = gives _ _ (prints text)
  at_deed vs ws (SavesFile n file) s = gives _ _ (writes_file n file)
  at_deed vs ws (BindsFirst n) s = at_with SameEffect vs ws 0 _ _ s (λ v w e. gives _ _ (binding n v w e))
  at_deed vs ws (BindsMade n m) s = same_bind (SameValue r) SameEffect _ _ _ _ (at_given m) (λ v w e. gives _ _ (binding n v w e))
  at_deed vs ws (Unbinds n) s = gives _ _ (unbinding n)
  at_deed vs ws (Writes k bytes) s = at_with SameEffect vs ws k _ _ s (at_stored bytes)
  at_deed vs ws (MakesAndWrites m k bytes) s = same_bind (SameValue r) SameEffect _ _ _ _ (at_given m) (λ v w e. at_with SameEffect vs ws k _ _ s (at_stored bytes))

  at_acted : (f : List Operand → Result Deed Fault) (vs ws : List (Usage × Value)) → SameOperands vs ws → Same Effect SameEffect (Operation.act_on f vs) (Operation.act_on f ws)
  at_acted f vs ws s = at_operands SameEffect vs ws _ _ s (λ os. at_decided SameEffect (f os) _ _ (λ d. at_deed vs ws d s))

  at_work : (w : Work) → Same Effect SameEffect (Operation.do_work w) (Operation.do_work w)
  at_work (Acts f ps) = at_all ps _ _ (at_acted f)
  at_work (ActsOn f w ps p) = at_all ps _ _ (λ vs ws s. same_bind (SameValue r) SameEffect _ _ _ _ (at_performed (Views w) vs ws s) (λ x x' d. same_bind (SameValue r) SameEffect _ _ _ _ (at_plan p) (λ y y' e.
      at_acted f _ _ (operand_more operand.Whole y y' _ _ e (operand_more operand.Whole x x' _ _ d s)))))

  at_meaning : (s : Stmt) → Same Effect SameEffect (Meaning.meaning s) (Meaning.meaning s)
  at_meaning s = at_work (Meaning.work s)

  -- SESSIONS
  same_lookup : (n : List ℕ) (es ds : Names) → SameNames r es ds → SameFound (lookup n es) (lookup n ds)
  same_lookup n _ _ no_name = none
  same_lookup n _ _ (entry m v w es ds e s) = elim (cases_Bool (bytes_eq n m)) [ inl here ↦ rw here (some v w e) | inr other ↦ rw other (same_lookup n es ds s) ]

  same_bound : (n : List ℕ) (v w : Value) (es ds : Names) → (SameValue r) v w → SameNames r es ds → SameNames r (bind n v es) (bind n w ds)
  same_bound n v w _ _ e no_name = entry n v w [] [] e no_name
  same_bound n v w _ _ e (entry m u t es ds d s) = elim (cases_Bool (bytes_eq n m)) [
    | inl here ↦ rw here (entry m v w es ds e s)
    | inr other ↦ rw other (entry m u t (bind n v es) (bind n w ds) d (same_bound n v w es ds e s))
  ]

  same_unbound : (n : List ℕ) (es ds : Names) → SameNames r es ds → SameNames r (unbind n es) (unbind n ds)
  same_unbound n _ _ no_name = no_name
  same_unbound n _ _ (entry m u t es ds d s) = elim (cases_Bool (bytes_eq n m)) [
    | inl here ↦ rw here (same_unbound n es ds s)
    | inr other ↦ rw other (entry m u t (unbind n es) (unbind n ds) d (same_unbound n es ds s))
  ]

  module _ (one : IsOneToOne r) where
    same_label : (a b c d : ℕ) → r a c ≡ true → r b d ≡ true → eqb a b ≡ eqb c d
    same_label a b c d p q = elim (cases_eq a b) [
      | inl e ↦ eq-eqb a b e ∙ sym (eq-eqb c d (one.one b c d (subst (λ x. r x c ≡ true) e p) q))
      | inr other ↦ ne_eqb a b other ∙ sym (ne_eqb c d (λ e. other (one.other a b d (subst (λ x. r a x ≡ true) e p) q)))
    ]

    same_bases : (b b' c c' : Base) → SameBase r b c → SameBase r b' c' → same_base b b' ≡ same_base c c'
    same_bases b b' c c' e f = ap₂ (λ x y. x && y) (same_label b.label b'.label c.label c'.label e.label f.label) (ap₂ eqb e.number f.number)

    like_made : (l : List ℕ) (x y : Running) → Like r x y → Like r (made (Make l) x) (made (Make l) y)
    like_made l x y h = record {
      names = h.names;
      label = h.label;
      next = ap (λ n. n + 1) h.next;
      bytes = λ b c e. ap₂ (λ t m. cond t l m) (same_bases (record { label = x.label; number = x.next }) b (record { label = y.label; number = y.next }) c (record { label = h.label; number = h.next }) e) (h.bytes b c e);
    }

    like_read : (j k : Key → Bool) (x y : Running) → Like r x y → Like r (having_read j x) (having_read k y)
    like_read j k x y h = record { names = h.names; bytes = h.bytes; label = h.label; next = h.next }

    same_run : {A : Type 0} (R : A → A → Type 0) (i : Inputs) (t t' : Eval A) (x y : Running) → Same A R t t' → Like r x y → SameResult A R (run i t x).0 (run i t' y).0 × Like r (run i t x).1 (run i t' y).1
    same_run R i _ _ x y (gives v w e) h = (ok v w e, h)
    same_run R i _ _ x y (refuses f) h = (err f, h)
    same_run R i _ _ x y (looks n go go' s) h =
        same_run R i _ _ (after (Lookup n) x) (after (Lookup n) y) (s (lookup n x.names) (lookup n y.names) (same_lookup n x.names y.names h.names)) (like_read _ _ x y h)
    same_run R i _ _ x y (asks n go go' s) h = same_run R i _ _ (after (Ask n) x) (after (Ask n) y) (s (i n)) (like_read _ _ x y h)
    same_run {A} R i _ _ x y (uses b c ps go go' e s) h =
        let same : reply i (Use b ps) x ≡ reply i (Use c ps) y = ap (λ l. map (λ p. get_or l p 0) ps) (h.bytes b c e) in
        subst (λ (l : List ℕ). SameResult A R (run i (go (reply i (Use b ps) x)) (after (Use b ps) x)).0 (run i (go' l) (after (Use c ps) y)).0 × Like r (run i (go (reply i (Use b ps) x)) (after (Use b ps) x)).1 (run i (go' l) (after (Use c ps) y)).1) same
        (same_run R i _ _ (after (Use b ps) x) (after (Use c ps) y) (s (reply i (Use b ps) x)) (like_read _ _ x y h))
    same_run R i _ _ x y (makes l go go' s) h =
        same_run R i _ _ (after (Make l) x) (after (Make l) y) (s (reply i (Make l) x) (reply i (Make l) y) (record { label = h.label; number = h.next })) (like_made l _ _ (like_read (λ k. false) (λ k. false) x y h))

    like_done : (e d : Effect) (x y : Running) → SameEffect e d → Like r x y → Like r (done e x) (done d y)
    like_done _ _ x y nothing h = h
    like_done _ _ x y (prints text) h = h
    like_done _ _ x y (writes_file name file) h = h
    like_done _ _ x y (binding n v w e) h = record { names = same_bound n v w x.names y.names e h.names; bytes = h.bytes; label = h.label; next = h.next }
    like_done _ _ x y (unbinding n) h = record { names = same_unbound n x.names y.names h.names; bytes = h.bytes; label = h.label; next = h.next }
    like_done _ _ x y (storing b c ws e) h = record {
      names = h.names;
      label = h.label;
      next = h.next;
      bytes = λ b' c' s. ap₂ (λ t l. cond t (put ws l) l) (same_bases b b' c c' e s) (h.bytes b' c' s);
    }

    same_output : (e d : Effect) → SameEffect e d → output e ≡ output d
    same_output _ _ nothing = refl
    same_output _ _ (prints text) = refl
    same_output _ _ (writes_file name file) = refl
    same_output _ _ (binding n v w e) = refl
    same_output _ _ (unbinding n) = refl
    same_output _ _ (storing b c ws e) = refl

    same_had : (o p : Result Effect Fault) (x y : Running) → SameResult Effect SameEffect o p → Like r x y → ((had (o, x)).0 ≡ (had (p, y)).0) × Like r (had (o, x)).1 (had (p, y)).1
    same_had _ _ x y (ok e d s) h = (ap Ok (same_output e d s), like_done e d x y s h)
    same_had _ _ x y (err f) h = (refl, h)

    same_statement : (i : Inputs) (s : Stmt) (x y : Running) → Like r x y → ((statement i s x).0 ≡ (statement i s y).0) × Like r (statement i s x).1 (statement i s y).1
    same_statement i s x y h =
        let both : SameResult Effect SameEffect (run i (Meaning.meaning s) x).0 (run i (Meaning.meaning s) y).0 × Like r (run i (Meaning.meaning s) x).1 (run i (Meaning.meaning s) y).1 = same_run SameEffect i _ _ x y (at_meaning s) h in
        same_had (run i (Meaning.meaning s) x).0 (run i (Meaning.meaning s) y).0 (run i (Meaning.meaning s) x).1 (run i (Meaning.meaning s) y).1 both.0 both.1

    same_rest : (line : ℕ) (text : List ℕ) (saves : Saved) (o p : Result Output Fault × Running) (rest : List ℕ → Saved → Running → Ended) → o.0 ≡ p.0 → Like r o.1 p.1
        → ((text : List ℕ) (saves : Saved) (x y : Running) → Like r x y → LikeEnds r (rest text saves x) (rest text saves y)) → LikeEnds r (and_then line text saves o rest) (and_then line text saves p rest)
    same_rest line text saves (o, x) (p, y) rest e h more = subst (λ p. LikeEnds r (and_then line text saves (o, x) rest) (and_then line text saves (p, y) rest)) e (go o)
      where
        either : (b : Bool) (e f e' f' : Ended) → LikeEnds r e f → LikeEnds r e' f' → LikeEnds r (cond b e e') (cond b f f')
        either true e f e' f' p q = p
        either false e f e' f' p q = q

        go : (o : Result Output Fault) → LikeEnds r (and_then line text saves (o, x) rest) (and_then line text saves (o, y) rest)
        go (Ok o) = either (leb (length (text ++ o.text)) most_text) _ _ _ _ (more (text ++ o.text) (with_save o.save saves) x y h) (record { text = refl; refusal = refl; saves = refl; running = h })
        go (Err f) = record { text = refl; refusal = refl; saves = refl; running = h }

    same_statements : (i : Inputs) (ls : List Line) (text : List ℕ) (saves : Saved) (x y : Running) → Like r x y → LikeEnds r (statements i ls text saves x) (statements i ls text saves y)
    same_statements i [] text saves x y h = record { text = refl; refusal = refl; saves = refl; running = h }
    same_statements i (l ∷ ls) text saves x y h =
        let both : ((statement i l.stmt x).0 ≡ (statement i l.stmt y).0) × Like r (statement i l.stmt x).1 (statement i l.stmt y).1 = same_statement i l.stmt x y h in
        same_rest l.line text saves (statement i l.stmt x) (statement i l.stmt y) (statements i ls) both.0 both.1 (λ u ss. same_statements i ls u ss)

    pub same_ran : (i : Inputs) (p : Parsed) (x y : Running) → Like r x y → LikeEnds r (ran i p x) (ran i p y)
    same_ran i (Ok ls) x y h = same_statements i ls [] [] x y h
    same_ran i (Err f) x y h = record { text = refl; refusal = refl; saves = refl; running = h }

    like_reading : (x y : Running) (f g : Key → Bool) → Like r x y → Like r (record x { read = f }) (record y { read = g })
    like_reading x y f g h = record { names = h.names; bytes = h.bytes; label = h.label; next = h.next }

    same_under : (rule : Rule) (o : Option (ℕ × Refusal)) (began beginning : Running) (x y : Ended) → Like r began beginning → LikeEnds r x y → LikeEnds r (under rule began o x) (under rule beginning o y)
    same_under rule None began beginning x y first h = h
    same_under Python (Some f) began beginning x y first h = record { text = h.text; refusal = h.refusal; saves = h.saves; running = like_reading x.running y.running _ _ h.running }
    same_under Atomic (Some f) began beginning x y first h = record { text = h.text; refusal = h.refusal; saves = refl; running = like_reading began beginning _ _ first }

    pub same_cell : (i : World) (p : Parsed) (l m : ℕ) (s t : Session) → Like r (start l s) (start m t) → LikeEnds r (cell l p i s) (cell m p i t)
    same_cell i p l m s t first =
        let x : Ended = ran i.inputs p (start l s) in
        let y : Ended = ran i.inputs p (start m t) in
        let ends : LikeEnds r x y = same_ran i.inputs p (start l s) (start m t) first in
        subst (λ o. LikeEnds r (cell l p i s) (under i.rule (start m t) o y)) (sym ends.refusal) (same_under i.rule x.refusal (start l s) (start m t) x y first ends)

    -- NOTEBOOKS
    same_lies : (b c : Base) (v w : Value) → SameBase r b c → (SameValue r) v w → lies_in b v ≡ lies_in c w
    same_lies b c _ _ s (int z) = refl
    same_lies b c _ _ s (truth t) = refl
    same_lies b c _ _ s (scalar k z) = refl
    same_lies b c _ _ s (array d e g f) = same_bases b d c e s f
    same_lies b c _ _ s (row d e g f) = same_bases b d c e s f

    same_held : (b c : Base) (es ds : Names) → SameBase r b c → SameNames r es ds → is_held b es ≡ is_held c ds
    same_held b c _ _ s no_name = refl
    same_held b c _ _ s (entry n v w es ds e f) = ap₂ (λ x y. x || y) (same_lies b c v w s e) (same_held b c es ds s f)

    pub like_after : (x y : Ended) → LikeEnds r x y → LikeSessions r (session_after x) (session_after y)
    like_after x y h = record {
      names = h.running.names;
      bytes = λ b c e. ap₂ (λ t l. cond t l []) (same_held b c x.running.names y.running.names e h.running.names) (h.running.bytes b c e);
    }

    pub like_start : (l m : ℕ) (s t : Session) → r l m ≡ true → LikeSessions r s t → Like r (start l s) (start m t)
    like_start l m s t e h = record {
      names = h.names;
      label = e;
      next = refl;
      bytes = λ b c e. ap₂ (λ t l. cond t l []) (same_held b c s.names t.names e h.names) (h.bytes b c e);
    }

    same_shown : (s t : Session) → LikeSessions r s t → (v w : Value) → (SameValue r) v w → shown t w ≡ shown s v
    same_shown s t h _ _ (int z) = refl
    same_shown s t h _ _ (truth b) = refl
    same_shown s t h _ _ (scalar k z) = refl
    same_shown s t h _ _ (array b c g e) = ap (λ l. Renaming.ShownArray g.element g.shape (flat_map (shown_element g.element l) g.places)) (sym (h.bytes b c e))
    same_shown s t h _ _ (row b c g e) = ap (λ l. Renaming.ShownRow g.element (flat_map (shown_element g.element l) g.places)) (sym (h.bytes b c e))

    same_shown_names : (s t : Session) → LikeSessions r s t → (es ds : Names) → SameNames r es ds → shown_names t ds ≡ shown_names s es
    same_shown_names s t h _ _ no_name = refl
    same_shown_names s t h _ _ (entry n v w es ds e f) = ap₂ (λ v r. (n, v) ∷ r) (same_shown s t h v w e) (same_shown_names s t h es ds f)

    same_notebook : (cs ds : List (ℕ × Parsed)) (i : World) (s t : Session) → AreRelabelled r cs ds → LikeSessions r s t → told (notebook ds i t) ≡ told (notebook cs i s)
    same_notebook [] [] i s t are h = refl
    same_notebook [] (d ∷ ds) i s t are h = elim are [ ]
    same_notebook (c ∷ cs) [] i s t are h = elim are [ ]
    same_notebook (c ∷ cs) (d ∷ ds) i s t are h =
        let ends : LikeEnds r (cell c.0 c.1 i s) (cell d.0 d.1 i t) = subst (λ p. LikeEnds r (cell c.0 c.1 i s) (cell d.0 p i t)) are.1 (same_cell i c.1 c.0 d.0 s t (like_start c.0 d.0 s t are.0 h)) in
        let next : LikeSessions r (session_after (cell c.0 c.1 i s)) (session_after (cell d.0 d.1 i t)) = like_after _ _ ends in
        let shows : shown_names (session_after (cell d.0 d.1 i t)) (session_after (cell d.0 d.1 i t)).names ≡ shown_names (session_after (cell c.0 c.1 i s)) (session_after (cell c.0 c.1 i s)).names =
        same_shown_names _ _ next (session_after (cell c.0 c.1 i s)).names (session_after (cell d.0 d.1 i t)).names next.names in
        let rest : told (notebook ds i (session_after (cell d.0 d.1 i t))) ≡ told (notebook cs i (session_after (cell c.0 c.1 i s))) = same_notebook cs ds i _ _ are.2 next in
        λ k. record { text = ends.text k; refusal = ends.refusal k; saves = ends.saves k; names = shows k } ∷ rest k

pub alike_nothing : (r : ℕ → ℕ → Bool) → LikeSessions r no_session no_session
alike_nothing r = record { names = no_name; bytes = λ b c e. refl }

pub rename : Rename
rename r one = record {
  statement = same_statement r one;
  cell = λ i p l m s t e h. let ends : LikeEnds r (cell l p i s) (cell m p i t) = same_cell r one i p l m s t (like_start r one l m s t e h) in (ends, like_after r one _ _ ends);
  notebook = λ i cells others s t are h. same_notebook r one cells others i s t are h;
}

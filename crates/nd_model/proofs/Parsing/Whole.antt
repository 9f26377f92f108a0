-- Where one token of lookahead tells how to read, each text is read, each front is passed, and each opening refused.
use Rattle.std.proofs.Common.{◌≡◌, ℕ, zero, suc, ◌<◌, ◌≤◌, Bool, true, false, List, [], ◌∷◌, length, Result, Ok, Err, refl, sym, ap, subst, ◌∙◌, arith, inl, inr, ◌⊎◌}
use Rattle.std.specs.Prelude.{bit_or}
use Rattle.nd_model.specs.Grammar.Grammar.{Stop, Gram, Done, Here, One, Then, Or, Many, Shut, has, Repeats, Spans, Reaches, Opens}
use Rattle.nd_model.specs.Grammar.Predict.{◌>>=◌, next_in, stop, read_many, read, apart, look}
use Rattle.nd_model.proofs.Parsing.Sets.{true_false, which, apart_false, also_not_left, also_not_right, or_not_left, or_not_right, left_of, then_left, map_left}
use Rattle.nd_model.proofs.Parsing.Laws.{fits_then, fits_or, fits_many, front, front_many, at_same, whole, Starts, starts, starts_from, opens_first}

-- ---- never back

many_back : {T A : Type 0} (step : List T → Result (A × List T) Stop) (more : List T → Bool) → ((ts : List T) → left_of (step ts) ≤ length ts)
    → (n : ℕ) (ts : List T) → left_of (read_many step more n ts) ≤ length ts
many_back step more each zero ts = omega arith
many_back step more each (suc n) ts =
    elim (which (more ts)) [
      | inl p ↦ rw p (then_left (step ts) (λ x. read_many step more n x.1 >>= λ y. Ok (x.0 ∷ y.0, y.1)) (length ts) (each ts)
          (λ x. rw (map_left (read_many step more n x.1) (λ y. x.0 ∷ y)) (many_back step more each n x.1)))
      | inr p ↦ rw p (omega arith)
    ]

pub back : {T C : Type 0} (kind : List T → ℕ) (g : Gram T C) (ts : List T) → left_of (read kind g ts) ≤ length ts
back kind (Done c) ts = omega arith
back kind (Here f) ts = omega arith
back kind (One set f) [] = omega arith
back kind (One set f) (t ∷ ts) = elim (which (has set (kind (t ∷ ts)))) [ inl p ↦ rw p (omega arith) | inr p ↦ rw p (omega arith) ]
back kind (Then f a b) ts =
    then_left (read kind a ts) (λ x. read kind b x.1 >>= λ y. Ok (f x.0 y.0, y.1)) (length ts) (back kind a ts)
    (λ x. rw (map_left (read kind b x.1) (λ y. f x.0 y)) (back kind b x.1))
back kind (Or set a b) ts = elim (which (next_in kind set ts)) [ inl p ↦ rw p (back kind a ts) | inr p ↦ rw p (back kind b ts) ]
back kind (Many set f a) ts =
    rw (map_left (read_many (read kind a) (next_in kind set) (length ts) ts) f) (many_back (read kind a) (next_in kind set) (λ ts. back kind a ts) (length ts) ts)
back kind (Shut set why) ts = omega arith

-- ---- each text is read

-- one part more
many_once : {T A : Type 0} (step : List T → Result (A × List T) Stop) (more : List T → Bool) (n : ℕ) (ts mid rest : List T) (x : A) (xs : List A)
    → length ts ≤ n → more ts ≡ true → length mid < length ts → step ts ≡ Ok (x, mid) → ((k : ℕ) → length mid ≤ k → read_many step more k mid ≡ Ok (xs, rest))
    → read_many step more n ts ≡ Ok (x ∷ xs, rest)
many_once step more zero ts mid rest x xs le m lt one others = absurd (omega arith)
many_once step more (suc n) ts mid rest x xs le m lt one others = rw (m, one, others n (omega arith)) refl

many_next : {T A : Type 0} (step : List T → Result (A × List T) Stop) (more : List T → Bool) (n : ℕ) (ts mid : List T) (x : A) (most : ℕ)
    → length ts ≤ n → more ts ≡ true → length mid < length ts → step ts ≡ Ok (x, mid) → ((k : ℕ) → length mid ≤ k → left_of (read_many step more k mid) ≤ most)
    → left_of (read_many step more n ts) ≤ most
many_next step more zero ts mid x most le m lt one others = absurd (omega arith)
many_next step more (suc n) ts mid x most le m lt one others =
    rw (m, one, map_left (read_many step more n mid) (λ y. x ∷ y)) (others n (omega arith))

many_first : {T A : Type 0} (step : List T → Result (A × List T) Stop) (more : List T → Bool) (n : ℕ) (ts rest : List T)
    → length ts ≤ n → more ts ≡ true → 0 < length ts → left_of (step ts) ≤ length rest → ((k : ℕ) (ts : List T) → left_of (read_many step more k ts) ≤ length ts)
    → left_of (read_many step more n ts) ≤ length rest
many_first step more zero ts rest le m lt one others = absurd (omega arith)
many_first step more (suc n) ts rest le m lt one others =
    rw m (then_left (step ts) (λ x. read_many step more n x.1 >>= λ y. Ok (x.0 ∷ y.0, y.1)) (length rest) one
    (λ x. rw (map_left (read_many step more n x.1) (λ y. x.0 ∷ y)) (others n x.1)))

many_err : {T A : Type 0} (step : List T → Result (A × List T) Stop) (more : List T → Bool) (n : ℕ) (ts mid : List T) (x : A) (s : Stop)
    → length ts ≤ n → more ts ≡ true → length mid < length ts → step ts ≡ Ok (x, mid) → ((k : ℕ) → length mid ≤ k → read_many step more k mid ≡ Err s)
    → read_many step more n ts ≡ Err s
many_err step more zero ts mid x s le m lt one others = absurd (omega arith)
many_err step more (suc n) ts mid x s le m lt one others = rw (m, one, others n (omega arith)) refl

next_nonempty : {T : Type 0} (kind : List T → ℕ) (set : ℕ) (ts : List T) → next_in kind set ts ≡ true → 0 < length ts
next_nonempty kind set [] h = absurd cc
next_nonempty kind set (t ∷ ts) h = omega arith

starts_many : {T A : Type 0} (kind : List T → ℕ) (a : Gram T A) → (look a).fits ≡ true → (look a).empty ≡ false
    → (xs : List A) (ts mid rest : List T) → Repeats (Spans kind a) ts mid xs → (rest ≡ mid) ⊎ Reaches kind a mid rest → Starts kind (look a).first ts rest
starts_many kind a fit ne xs ts mid rest h q =
    elim (front_many kind (Spans kind a) (look a) ne (λ ts rest x s. front kind a ts rest x fit s) xs ts mid h) [
      | inl p ↦ elim q [ inl e ↦ inl (e ∙ p) | inr r ↦ starts_from kind _ ts mid rest p (starts kind a mid rest fit r) ]
      | inr p ↦ inr p.0
    ]

many_complete : {T A : Type 0} (kind : List T → ℕ) (a : Gram T A) → (look a).fits ≡ true → (look a).empty ≡ false → apart (look a).ext (look a).first ≡ true
    → ((ts rest : List T) (x : A) → Spans kind a ts rest x → next_in kind (look a).ext rest ≡ false → read kind a ts ≡ Ok (x, rest))
    → (n : ℕ) (xs : List A) (ts rest : List T) → length ts ≤ n → Repeats (Spans kind a) ts rest xs → next_in kind (look a).first rest ≡ false → next_in kind (look a).ext rest ≡ false
    → read_many (read kind a) (next_in kind (look a).first) n ts ≡ Ok (xs, rest)
many_complete kind a fit ne ap' each zero [] ts rest le h nf nx = ap (λ r. Ok ([], r)) (sym h)
many_complete kind a fit ne ap' each (suc n) [] ts rest le h nf nx =
    let p : next_in kind (look a).first ts ≡ false = subst (λ l. next_in kind (look a).first l ≡ false) h nf in
    rw p (ap (λ r. Ok ([], r)) (sym h))
many_complete {T} {A} kind a fit ne ap' each n (x ∷ xs) ts rest le h nf nx =
    elim (front kind a ts h.0 x fit h.1) [
      | inl p ↦ true_false _ p.1 ne
      | inr p ↦
          let stays : next_in kind (look a).ext h.0 ≡ false =
          elim (front_many kind (Spans kind a) (look a) ne (λ ts rest x s. front kind a ts rest x fit s) xs h.0 rest h.2) [
            | inl q ↦ subst (λ l. next_in kind (look a).ext l ≡ false) q nx
            | inr q ↦ apart_false kind _ _ h.0 ap' q.0
          ] in
          many_once (read kind a) (next_in kind (look a).first) n ts h.0 rest x xs le p.0 p.1 (each ts h.0 x h.1 stays)
          (λ k le. many_complete kind a fit ne ap' each k xs h.0 rest le h.2 nf nx)
    ]

pub complete : {T C : Type 0} (kind : List T → ℕ) (g : Gram T C) (ts rest : List T) (c : C) → (look g).fits ≡ true → Spans kind g ts rest c → next_in kind (look g).ext rest ≡ false → read kind g ts ≡ Ok (c, rest)
complete kind (Done c) ts rest d fit h nx = rw (h.0, h.1) refl
complete kind (Here f) ts rest d fit h nx = rw (h.0, h.1) refl
complete kind (One set f) ts rest d fit h nx = rw (h.1, h.2, h.3) refl
complete kind (Then f a b) ts rest d fit h nx =
    let fits = fits_then (look a) (look b) fit in
    let stays : next_in kind (look a).ext h.0 ≡ false =
    elim (front kind b h.0 rest h.2 fits.1 h.4) [
      | inl p ↦ subst (λ l. next_in kind (look a).ext l ≡ false) p.0 (also_not_right kind (look b).empty (look b).ext (look a).ext rest p.1 nx)
      | inr p ↦ apart_false kind _ _ h.0 fits.2 p.0
    ] in
    rw (complete kind a ts h.0 h.1 fits.0 h.3 stays, complete kind b h.0 rest h.2 fits.1 h.4 (also_not_left kind (look b).empty (look b).ext (look a).ext rest nx), h.5) refl
complete kind (Or set a b) ts rest d fit (inl h) nx =
    let fits = fits_or set (look a) (look b) fit in
    elim (front kind a ts rest d fits.0 h) [
      | inl p ↦ true_false _ p.1 fits.2
      | inr p ↦
          let m : next_in kind set ts ≡ true = subst (λ k. next_in kind k ts ≡ true) fits.3 p.0 in
          rw m (complete kind a ts rest d fits.0 h (or_not_left kind _ _ rest (also_not_left kind _ _ _ rest nx)))
    ]
complete kind (Or set a b) ts rest d fit (inr h) nx =
    let fits = fits_or set (look a) (look b) fit in
    let m : next_in kind (look a).first ts ≡ false =
    elim (front kind b ts rest d fits.1 h) [
      | inl p ↦ subst (λ l. next_in kind (look a).first l ≡ false) p.0 (also_not_right kind (look b).empty (bit_or (look a).ext (look b).ext) (look a).first rest p.1 nx)
      | inr p ↦ apart_false kind _ _ ts fits.4 p.0
    ] in
    let m' : next_in kind set ts ≡ false = subst (λ k. next_in kind k ts ≡ false) fits.3 m in
    rw m' (complete kind b ts rest d fits.1 h (or_not_right kind _ _ rest (also_not_left kind _ _ _ rest nx)))
complete kind (Many set f a) ts rest d fit h nx =
    let fits = fits_many set (look a) fit in
    let all = many_complete kind a fits.0 fits.1 fits.3 (λ ts rest x s nx. complete kind a ts rest x fits.0 s nx) (length ts) h.0 ts rest (omega arith) h.1
    (or_not_left kind _ _ rest nx) (or_not_right kind _ _ rest nx) in
    let all' : read_many (read kind a) (next_in kind set) (length ts) ts ≡ Ok (h.0, rest) =
    subst (λ k. read_many (read kind a) (next_in kind k) (length ts) ts ≡ Ok (h.0, rest)) fits.2 all in
    rw (all', h.2) refl
complete kind (Shut set why) ts rest d fit h nx = absurd h

-- ---- each front is passed

many_reach : {T A : Type 0} (kind : List T → ℕ) (a : Gram T A) → (look a).fits ≡ true → (look a).empty ≡ false → apart (look a).ext (look a).first ≡ true
    → ((ts rest : List T) → Reaches kind a ts rest → left_of (read kind a ts) ≤ length rest)
    → (n : ℕ) (xs : List A) (ts mid rest : List T) → length ts ≤ n → Repeats (Spans kind a) ts mid xs → (rest ≡ mid) ⊎ Reaches kind a mid rest
    → left_of (read_many (read kind a) (next_in kind (look a).first) n ts) ≤ length rest
many_reach {T} {A} kind a fit ne ap' each n [] ts mid rest le h q =
    let now : (rest ≡ ts) ⊎ Reaches kind a ts rest = elim q [ inl e ↦ inl (e ∙ h) | inr r ↦ inr (subst (λ m. Reaches kind a m rest) h r) ] in
    elim now [
      | inl e ↦ rw e (many_back (read kind a) (next_in kind (look a).first) (λ ts. back kind a ts) n ts)
      | inr r ↦ elim (starts kind a ts rest fit r) [
        | inl e ↦ rw e (many_back (read kind a) (next_in kind (look a).first) (λ ts. back kind a ts) n ts)
        | inr m ↦ many_first (read kind a) (next_in kind (look a).first) n ts rest le m (next_nonempty kind _ ts m) (each ts rest r) (λ k x. many_back (read kind a) (next_in kind (look a).first) (λ ts. back kind a ts) k x)
      ]
    ]
many_reach {T} {A} kind a fit ne ap' each n (x ∷ xs) ts mid rest le h q =
    elim (front kind a ts h.0 x fit h.1) [
      | inl p ↦ true_false _ p.1 ne
      | inr p ↦
          let tail : Starts kind (look a).first h.0 rest = starts_many kind a fit ne xs h.0 mid rest h.2 q in
          let stop_here : rest ≡ h.0 → left_of (read_many (read kind a) (next_in kind (look a).first) n ts) ≤ length rest =
          λ e. many_first (read kind a) (next_in kind (look a).first) n ts rest le p.0 (next_nonempty kind _ ts p.0) (rw e (each ts h.0 (whole kind a ts h.0 x h.1)))
          (λ k x. many_back (read kind a) (next_in kind (look a).first) (λ ts. back kind a ts) k x) in
          elim tail [
            | inl e ↦ stop_here e
            | inr m ↦
                let one = complete kind a ts h.0 x fit h.1 (apart_false kind _ _ h.0 ap' m) in
                many_next (read kind a) (next_in kind (look a).first) n ts h.0 x (length rest) le p.0 p.1 one
                (λ k le. many_reach kind a fit ne ap' each k xs h.0 mid rest le h.2 q)
          ]
    ]

pub reach : {T C : Type 0} (kind : List T → ℕ) (g : Gram T C) (ts rest : List T) → (look g).fits ≡ true → Reaches kind g ts rest → left_of (read kind g ts) ≤ length rest
reach kind (Done c) ts rest fit h = rw h (omega arith)
reach kind (Here f) ts rest fit h = rw h (omega arith)
reach kind (One set f) ts rest fit (inl h) = rw h (back kind (One set f) ts)
reach kind (One set f) ts rest fit (inr h) = rw (h.1, h.2) (omega arith)
reach kind (Then f a b) ts rest fit (inl h) =
    let fits = fits_then (look a) (look b) fit in
    then_left (read kind a ts) (λ x. read kind b x.1 >>= λ y. Ok (f x.0 y.0, y.1)) (length rest) (reach kind a ts rest fits.0 h)
    (λ x. rw (map_left (read kind b x.1) (λ y. f x.0 y)) (back kind b x.1))
reach kind (Then f a b) ts rest fit (inr h) =
    let fits = fits_then (look a) (look b) fit in
    let stop_here : rest ≡ h.0 → left_of (read kind (Then f a b) ts) ≤ length rest =
    λ e. then_left (read kind a ts) (λ x. read kind b x.1 >>= λ y. Ok (f x.0 y.0, y.1)) (length rest) (rw e (reach kind a ts h.0 fits.0 (whole kind a ts h.0 h.1 h.2)))
    (λ x. rw (map_left (read kind b x.1) (λ y. f x.0 y)) (back kind b x.1)) in
    elim (starts kind b h.0 rest fits.1 h.3) [
      | inl e ↦ stop_here e
      | inr m ↦
          let one = complete kind a ts h.0 h.1 fits.0 h.2 (apart_false kind _ _ h.0 fits.2 m) in
          rw (one, map_left (read kind b h.0) (λ y. f h.1 y)) (reach kind b h.0 rest fits.1 h.3)
    ]
reach kind (Or set a b) ts rest fit (inl h) =
    let fits = fits_or set (look a) (look b) fit in
    elim (starts kind a ts rest fits.0 h) [
      | inl e ↦ rw e (back kind (Or set a b) ts)
      | inr p ↦ let m : next_in kind set ts ≡ true = subst (λ k. next_in kind k ts ≡ true) fits.3 p in rw m (reach kind a ts rest fits.0 h)
    ]
reach kind (Or set a b) ts rest fit (inr h) =
    let fits = fits_or set (look a) (look b) fit in
    elim (starts kind b ts rest fits.1 h) [
      | inl e ↦ rw e (back kind (Or set a b) ts)
      | inr p ↦ let m : next_in kind set ts ≡ false = subst (λ k. next_in kind k ts ≡ false) fits.3 (apart_false kind _ _ ts fits.4 p) in rw m (reach kind b ts rest fits.1 h)
    ]
reach kind (Many {A} set f a) ts rest fit h =
    let fits = fits_many set (look a) fit in
    let all = many_reach kind a fits.0 fits.1 fits.3 (λ ts rest r. reach kind a ts rest fits.0 r) (length ts) h.1 ts h.0 rest (omega arith) h.2 h.3 in
    let all' : left_of (read_many (read kind a) (next_in kind set) (length ts) ts) ≤ length rest =
    subst (λ k. left_of (read_many (read kind a) (next_in kind k) (length ts) ts) ≤ length rest) fits.2 all in
    rw (map_left (read_many (read kind a) (next_in kind set) (length ts) ts) f) all'
reach kind (Shut set why) ts rest fit h = rw h (omega arith)

-- ---- each opening of a level too many is refused

many_refuses : {T A : Type 0} (kind : List T → ℕ) (a : Gram T A) (w : ℕ) → (look a).fits ≡ true → (look a).empty ≡ false → apart (look a).ext (look a).first ≡ true
    → ((ts rest : List T) → Opens kind a ts rest w → read kind a ts ≡ Err (stop w rest))
    → (n : ℕ) (xs : List A) (ts mid rest : List T) → length ts ≤ n → Repeats (Spans kind a) ts mid xs → Opens kind a mid rest w
    → read_many (read kind a) (next_in kind (look a).first) n ts ≡ Err (stop w rest)
many_refuses kind a w fit ne ap' each zero [] ts mid rest le h q =
    let lt = next_nonempty kind _ ts (at_same kind _ ts mid h (opens_first kind a mid rest w fit q)) in absurd (omega arith)
many_refuses kind a w fit ne ap' each (suc n) [] ts mid rest le h q =
    let now : Opens kind a ts rest w = subst (λ m. Opens kind a m rest w) h q in
    rw (opens_first kind a ts rest w fit now, each ts rest now) refl
many_refuses kind a w fit ne ap' each n (x ∷ xs) ts mid rest le h q =
    elim (front kind a ts h.0 x fit h.1) [
      | inl p ↦ true_false _ p.1 ne
      | inr p ↦
          let m : next_in kind (look a).first h.0 ≡ true =
          elim (front_many kind (Spans kind a) (look a) ne (λ ts rest x s. front kind a ts rest x fit s) xs h.0 mid h.2) [
            | inl e ↦ at_same kind _ h.0 mid e (opens_first kind a mid rest w fit q)
            | inr z ↦ z.0
          ] in
          let one = complete kind a ts h.0 x fit h.1 (apart_false kind _ _ h.0 ap' m) in
          many_err (read kind a) (next_in kind (look a).first) n ts h.0 x (stop w rest) le p.0 p.1 one
          (λ k le. many_refuses kind a w fit ne ap' each k xs h.0 mid rest le h.2 q)
    ]

pub refuses : {T C : Type 0} (kind : List T → ℕ) (g : Gram T C) (ts rest : List T) (w : ℕ) → (look g).fits ≡ true → Opens kind g ts rest w → read kind g ts ≡ Err (stop w rest)
refuses kind (Done c) ts rest w fit h = absurd h
refuses kind (Here f) ts rest w fit h = absurd h
refuses kind (One set f) ts rest w fit h = absurd h
refuses kind (Then f a b) ts rest w fit (inl h) = rw (refuses kind a ts rest w (fits_then (look a) (look b) fit).0 h) refl
refuses kind (Then f a b) ts rest w fit (inr h) =
    let fits = fits_then (look a) (look b) fit in
    let m = opens_first kind b h.0 rest w fits.1 h.3 in
    rw (complete kind a ts h.0 h.1 fits.0 h.2 (apart_false kind (look a).ext (look b).first h.0 fits.2 m), refuses kind b h.0 rest w fits.1 h.3) refl
refuses kind (Or set a b) ts rest w fit (inl h) =
    let fits = fits_or set (look a) (look b) fit in
    let m : next_in kind set ts ≡ true = subst (λ k. next_in kind k ts ≡ true) fits.3 (opens_first kind a ts rest w fits.0 h) in
    rw m (refuses kind a ts rest w fits.0 h)
refuses kind (Or set a b) ts rest w fit (inr h) =
    let fits = fits_or set (look a) (look b) fit in
    let m : next_in kind set ts ≡ false = subst (λ k. next_in kind k ts ≡ false) fits.3 (apart_false kind _ _ ts fits.4 (opens_first kind b ts rest w fits.1 h)) in
    rw m (refuses kind b ts rest w fits.1 h)
refuses kind (Many set f a) ts rest w fit h =
    let fits = fits_many set (look a) fit in
    let all = many_refuses kind a w fits.0 fits.1 fits.3 (λ ts rest r. refuses kind a ts rest w fits.0 r) (length ts) h.1 ts h.0 rest (omega arith) h.2 h.3 in
    let all' : read_many (read kind a) (next_in kind set) (length ts) ts ≡ Err (stop w rest) =
    subst (λ k. read_many (read kind a) (next_in kind k) (length ts) ts ≡ Err (stop w rest)) fits.2 all in
    rw all' refl
refuses kind (Shut set why) ts rest w fit h =
    let m : next_in kind set ts ≡ true = rw h.4 h.5 in
    rw (m, h.0) (ap (λ l. Err (stop w l)) (sym h.3))

-- Reading a rule as its function does.
use Rattle.std.proofs.Common.{◌≡◌, ◌≢◌, ◌-◌, ℕ, List, [], ◌∷◌, ◌++◌, map, Result, Ok, Err, refl, sym, ap, ◌∙◌}
use Rattle.nd_model.specs.Grammar.Grammar as grammar
use Rattle.nd_model.specs.Grammar.Grammar.{Gram, Then, Many}
use Rattle.nd_model.specs.Grammar.Predict.{◌>>=◌, Look, read}
use Rattle.nd_model.specs.Grammar.Token as model
use Rattle.nd_model.specs.Grammar.Syntax.{Expr, Item, Index, Method}
use Rattle.nd_model.specs.Grammar.Kinds.{kind, SUFFIX, OPEN, CLOSE}
use Rattle.nd_model.specs.Grammar.Cells.{Anywhere, Target, Suffix, AtIndex, OfMethod, suffixed, under, between, method, operand, expr, exprs, printed, saved}
use Rattle.nd_model.specs.Grammar.Factored.{Group, attributed, placed, place, group, groups, target}
use Rattle.nd_model.proofs.Parsing.Looks.{look_method, look_group, known}
use Rattle.nd_model.proofs.Parsing.Loops.{Shrinks, shrinks, mapped, fused, many_fuse}
use Rattle.nd_parse.specs.declared.reader.read.Failure.{Failure}
use Rattle.std.specs.Borrow.{Bor}
use Rattle.nd_token.specs.declared.token.Token as code
use Rattle.nd_parse.specs.Reader.Gives.{Fails, Gives, with_rest, tokens_of, paired}
use Rattle.nd_parse.proofs.reader.Levels.{enter_in}
use Rattle.nd_parse.proofs.reader.Stops.{fails_on}
use Rattle.nd_parse.specs.Cells.Readers.{collected, trailing, saved_body}

-- ---- levels

pub printed_is : (n : ℕ) (ts : List model.Token) → n ≢ 0
    → read kind (printed (under n)) ts ≡ read kind (between OPEN (exprs (expr Anywhere (under (n - 1))) (expr Anywhere (under (n - 1)))) CLOSE) ts
unfolding printed
printed_is n ts z = enter_in n OPEN (λ i. between OPEN (exprs (i.expr Anywhere) (i.expr Anywhere)) CLOSE) ts z

pub saved_is : (n : ℕ) (ts : List model.Token) → n ≢ 0 → read kind (saved (under n)) ts ≡ read kind (between OPEN (saved_body (expr Anywhere (under (n - 1)))) CLOSE) ts
unfolding saved
saved_is n ts z = enter_in n OPEN (λ i. between OPEN (saved_body (i.expr Anywhere)) CLOSE) ts z

-- ---- parts that take a token

pub method_shrinks : (levels : ℕ) → Shrinks kind (method (under levels))
method_shrinks levels =
    let looked = look_method (under levels) (known levels) in
    shrinks kind (method (under levels)) (ap (λ (l : Look). l.fits) looked) (ap (λ (l : Look). l.empty) looked)

pub group_shrinks : (levels : ℕ) → Shrinks kind (group (under levels))
group_shrinks levels =
    let looked = look_group (under levels) (known levels) in
    shrinks kind (group (under levels)) (ap (λ (l : Look). l.fits) looked) (ap (λ (l : Look). l.empty) looked)

-- ---- what is assigned to

-- one part read, and then another
then_ok : {A B C : Type 0} (f : A → B → C) (a : Gram model.Token A) (b : Gram model.Token B) (ts rest : List model.Token) (x : A) → read kind a ts ≡ Ok (x, rest) → read kind (Then f a b) ts ≡ mapped (f x) (read kind b rest)
then_ok f a b ts rest x e = rw e refl

in_two : {A B C : Type 0} (f : A → B → C) (a : Gram model.Token A) (b : Gram model.Token B) (ts : List model.Token) → read kind (Then f a b) ts ≡ mapped (λ (p : A × B). f p.0 p.1) (read kind (Then (λ x y. (x, y)) a b) ts)
in_two {A} {B} {C} f a b ts = go (read kind a ts)
  where
    go : (r : Result (A × List model.Token) grammar.Stop)
        → (r >>= λ x. read kind b x.1 >>= λ y. Ok (f x.0 y.0, y.1)) ≡ mapped (λ (p : A × B). f p.0 p.1) (r >>= λ x. read kind b x.1 >>= λ y. Ok ((x.0, y.0), y.1))
    go (Ok x) = sym (fused (λ (p : A × B). f p.0 p.1) (λ (y : B). (x.0, y)) (read kind b x.1))
    go (Err s) = refl

pub trailing_begin : (levels : ℕ) (ts rest : List model.Token) (g : Group) (before : List Suffix) → before ≡ map OfMethod g.0 → read kind (group (under levels)) ts ≡ Ok (g, rest)
    → read kind (Many SUFFIX (collected before g.1) (group (under levels))) rest ≡ read kind (trailing (under levels)) ts
trailing_begin levels ts rest g before is e = rw is (sym (rw e (many_fuse kind SUFFIX (collected (map OfMethod g.0) g.1) (λ (gs : List Group). gs) (group (under levels)) rest)))

pub trailing_fail : (levels : ℕ) (ts : List model.Token) (e : Failure) → Fails e (read kind (group (under levels)) ts) → Fails e (read kind (trailing (under levels)) ts)
trailing_fail levels ts e h = fails_on e _ _ h

suffixed_append : (ks ls : List Suffix) (t : Expr) → suffixed t (ks ++ ls) ≡ suffixed (suffixed t ks) ls
suffixed_append [] ls t = refl
suffixed_append (k ∷ ks) ls t = suffixed_append ks ls _

suffixed_methods : (ms : List Method) (t : Expr) → suffixed t (map OfMethod ms) ≡ attributed t ms
suffixed_methods [] t = refl
suffixed_methods (k ∷ ms) t = suffixed_methods ms _

-- groups behind an operand that already has something on it
placed_is : (t : Expr) (before : List Suffix) (ms : List Method) (x : Index) (gs : List Group)
    → placed (suffixed t before) ms x gs ≡ (suffixed t (collected (before ++ map OfMethod ms) x gs).0, (collected (before ++ map OfMethod ms) x gs).1)
placed_is t before ms x [] = ap (λ e. (e, x)) (sym (suffixed_append before (map OfMethod ms) t ∙ suffixed_methods ms (suffixed t before)))
placed_is t before ms x (g ∷ gs) =
    let done = (before ++ map OfMethod ms) ++ AtIndex x ∷ [] in
    let one : suffixed t done ≡ Item (attributed (suffixed t before) ms) x =
    suffixed_append (before ++ map OfMethod ms) (AtIndex x ∷ []) t ∙ ap (λ e. Item e x) (suffixed_append before (map OfMethod ms) t ∙ suffixed_methods ms (suffixed t before)) in
    ap (λ e. placed e g.0 g.1 gs) (sym one) ∙ placed_is t done g.0 g.1 gs

regrouped : (e : Expr) (r : Result ((Group × List Group) × List model.Token) grammar.Stop)
    → mapped (λ (p : Group × List Group). placed e p.0.0 p.0.1 p.1) r ≡ mapped (λ (q : List Suffix × Index). (suffixed e q.0, q.1)) (mapped (λ (p : Group × List Group). collected (map OfMethod p.0.0) p.0.1 p.1) r)
regrouped e (Ok p) = ap (λ q. Ok (q, p.1)) (placed_is e [] p.0.0.0 p.0.0.1 p.0.1)
regrouped e (Err s) = refl

target_is : (levels : ℕ) (ts mid : List model.Token) (e : Expr) → read kind (operand Target (under levels)) ts ≡ Ok (e, mid)
    → read kind (target (under levels)) ts ≡ mapped (λ (q : List Suffix × Index). (suffixed e q.0, q.1)) (read kind (trailing (under levels)) mid)
unfolding target place groups
target_is levels ts mid e d =
    let g = group (under levels) in
    let many : Gram model.Token (List Group) = Many SUFFIX (λ gs. gs) g in
    then_ok (λ t (p : Group × List Group). placed t p.0.0 p.0.1 p.1) (operand Target (under levels)) (Then (λ i is. (i, is)) g many) ts mid e d
    ∙ regrouped e (read kind (Then (λ i is. (i, is)) g many) mid)
    ∙ ap (mapped (λ (q : List Suffix × Index). (suffixed e q.0, q.1))) (sym (in_two (λ (i : Group) is. collected (map OfMethod i.0) i.1 is) g many mid))

pub target_ends : (levels : ℕ) (ts mid rest : List model.Token) (e : Expr) (before : List Suffix) (last : Index) → read kind (operand Target (under levels)) ts ≡ Ok (e, mid)
    → read kind (trailing (under levels)) mid ≡ Ok ((before, last), rest) → read kind (target (under levels)) ts ≡ Ok ((suffixed e before, last), rest)
target_ends levels ts mid rest e before last d h = rw (target_is levels ts mid e d, h) refl

pub target_fails : (levels : ℕ) (ts : List model.Token) (e : Failure) → Fails e (read kind (operand Target (under levels)) ts) → Fails e (read kind (target (under levels)) ts)
unfolding target place
target_fails levels ts e h = fails_on e _ _ h

pub target_fails_at : (levels : ℕ) (ts mid : List model.Token) (left : Expr) (e : Failure) → read kind (operand Target (under levels)) ts ≡ Ok (left, mid) → Fails e (read kind (trailing (under levels)) mid)
    → Fails e (read kind (target (under levels)) ts)
target_fails_at levels ts mid left e d h = rw (target_is levels ts mid left d) (fails_on e _ _ h)

-- ---- what was read first, with what was read second

module _ {X Y B : Type 0} (view : Y → B) (first : X) (second : Result (Y × Bor (List code.Token)) Failure)
    (r : Result (B × List model.Token) grammar.Stop) where
  pub pair_reads : (x : X) (y : Y) (rest : Bor (List code.Token)) → Ok ((x, y), rest) ≡ paired first second
      → Gives (with_rest view) second r → (r ≡ Ok (view y, tokens_of rest.now)) × (x ≡ first)
  pair_reads x y rest e g = go second e g
    where
      go : (s : Result (Y × Bor (List code.Token)) Failure) → Ok ((x, y), rest) ≡ paired first s
          → Gives (with_rest view) s r → (r ≡ Ok (view y, tokens_of rest.now)) × (x ≡ first)
      go (Ok z) e g =
          let p : ((x, y), rest) ≡ ((first, z.0), z.1) = cc in
          let b : y ≡ z.0 = ap (λ (q : (X × Y) × Bor (List code.Token)). q.0.1) p in
          let c : rest ≡ z.1 = ap (λ (q : (X × Y) × Bor (List code.Token)). q.1) p in
          (rw (b, c) g, ap (λ (q : (X × Y) × Bor (List code.Token)). q.0.0) p)
      go (Err f) e g = absurd cc

  pub pair_fails : (e : Failure) → Err e ≡ paired first second → Gives (with_rest view) second r → Fails e r
  pair_fails e h g = go second h g
    where
      go : (s : Result (Y × Bor (List code.Token)) Failure) → Err e ≡ paired first s → Gives (with_rest view) s r → Fails e r
      go (Ok z) h g = absurd cc
      go (Err f) h g = let same : e ≡ f = cc in rw same g

-- A target as it is published, and as it is read: (index | method)* index is (method* index)+.
use Rattle.std.proofs.Common.{ℕ, ◌≡◌, List, [], ◌∷◌, ◌++◌, map, inl, inr, ◌⊎◌, refl, sym, ap, subst, ◌∙◌}
use Rattle.nd_model.specs.Grammar.Grammar.{Gram, Then, Or, Many, Repeats, Spans, Reaches, Opens}
use Rattle.nd_model.specs.Grammar.Faults.{IsBelow}
use Rattle.nd_model.proofs.Parsing.Laws.{none, whole}
use Rattle.nd_model.specs.Grammar.Token.{Token}
use Rattle.nd_model.specs.Grammar.Syntax.{Expr, Index, Method, Item}
use Rattle.nd_model.specs.Grammar.Kinds.{kind, DOT, OPEN_BRACKET, SUFFIX}
use Rattle.nd_model.specs.Grammar.Cells.{mapped, Suffix, AtIndex, OfMethod, suffixed}
use Rattle.nd_model.specs.Grammar.Factored.{Group, attributed, placed}

module _ (m : Gram Token Method) (x : Gram Token Index) where
  abbrev trailer : Gram Token Suffix
  trailer = Or OPEN_BRACKET (mapped AtIndex x) (mapped OfMethod m)

  abbrev pub trailed_index : Gram Token Expr → Gram Token (Expr × Index)
  trailed_index a = Then (λ t i. (t, i)) (Then suffixed a (Many SUFFIX (λ xs. xs) trailer)) x

  abbrev pub one_group : Gram Token Group
  one_group = Then (λ ms i. (ms, i)) (Many DOT (λ ms. ms) m) x

  abbrev pub some_groups : Gram Token (Group × List Group)
  some_groups = Then (λ g gs. (g, gs)) one_group (Many SUFFIX (λ gs. gs) one_group)

  abbrev pub grouped_index : Gram Token Expr → Gram Token (Expr × Index)
  grouped_index a = Then (λ t gs. placed t gs.0.0 gs.0.1 gs.1) a some_groups

  -- ---- from the published target to groups

  record Grouped (ts rest : List Token) (ks : List Suffix) (i : Index) : Type 0 where
    mid : List Token
    first : Group
    others : List Group
    spans_first : Spans kind one_group ts mid first
    spans_others : Repeats (Spans kind one_group) mid rest others
    is_placed : (t : Expr) → (suffixed t ks, i) ≡ placed t first.0 first.1 others

  -- a method before a group is in it
  with_method : (ts mid rest : List Token) (k : Method) (g : Group) → Spans kind m ts mid k → Spans kind one_group mid rest g → Spans kind one_group ts rest (k ∷ g.0, g.1)
  with_method ts mid rest k g s h =
      let ms = h.3 in
      (h.0, k ∷ ms.0, h.2, (k ∷ ms.0, (mid, s, ms.1), refl), h.4, ap (λ (p : Group). (k ∷ p.0, p.1)) h.5 ∙ ap (λ ks. (k ∷ ks, h.2)) ms.2)

  place_more : (t : Expr) (k : Method) (ms : List Method) (i : Index) (gs : List Group) → placed (attributed t (k ∷ [])) ms i gs ≡ placed t (k ∷ ms) i gs
  place_more t k ms i [] = refl
  place_more t k ms i (g ∷ gs) = refl

  grouped : (ks : List Suffix) (ts mid rest : List Token) (i : Index) → Repeats (Spans kind trailer) ts mid ks → Spans kind x mid rest i → Grouped ts rest ks i
  grouped [] ts mid rest i h s = record {
    mid = rest;
    first = ([], i);
    others = [];
    spans_first = (mid, [], i, ([], h, refl), s, refl);
    spans_others = refl;
    is_placed = λ t. refl;
  }
  grouped (k ∷ ks) ts mid rest i h s =
      let g = grouped ks h.0 mid rest i h.2 s in
      go k g h.1
    where
      go : (k : Suffix) → Grouped h.0 rest ks i → Spans kind trailer ts h.0 k → Grouped ts rest (k ∷ ks) i
      go k g (inl j) =
          let back = j.4 in
          record {
            mid = h.0;
            first = ([], j.1);
            others = g.first ∷ g.others;
            spans_first = (ts, [], j.1, ([], refl, refl), subst (λ r. Spans kind x ts r j.1) (sym back.0) j.3, refl);
            spans_others = (g.mid, g.spans_first, g.spans_others);
            is_placed = λ t. ap (λ k. (suffixed t (k ∷ ks), i)) j.5 ∙ g.is_placed (Item t j.1);
          }
      go k g (inr j) =
          let back = j.4 in
          let one : Spans kind m ts h.0 j.1 = subst (λ r. Spans kind m ts r j.1) (sym back.0) j.3 in
          record {
            mid = g.mid;
            first = (j.1 ∷ g.first.0, g.first.1);
            others = g.others;
            spans_first = with_method ts h.0 g.mid j.1 g.first one g.spans_first;
            spans_others = g.spans_others;
            is_placed = λ t. ap (λ k. (suffixed t (k ∷ ks), i)) j.5 ∙ g.is_placed (attributed t (j.1 ∷ [])) ∙ place_more t j.1 g.first.0 g.first.1 g.others;
          }

  -- fronts
  after_group : (ts mid rest : List Token) (g : Group) → Spans kind one_group ts mid g → Reaches kind some_groups mid rest → Reaches kind some_groups ts rest
  after_group ts mid rest g s (inl r) = inr (mid, g, s, (mid, [], refl, inr r))
  after_group ts mid rest g s (inr r) = (let q = r.3 in inr (mid, g, s, (q.0, r.1 ∷ q.1, (r.0, r.2, q.2), q.3)))

  after_method : (ts mid rest : List Token) (k : Method) → Spans kind m ts mid k → Reaches kind some_groups mid rest → Reaches kind some_groups ts rest
  after_method ts mid rest k s (inl (inl r)) = inl (inl (r.0, k ∷ r.1, (mid, s, r.2), r.3))
  after_method ts mid rest k s (inl (inr r)) = (let ms = r.2 in inl (inr (r.0, k ∷ ms.0, (k ∷ ms.0, (mid, s, ms.1), refl), r.3)))
  after_method ts mid rest k s (inr r) = inr (r.0, (k ∷ r.1.0, r.1.1), with_method ts mid r.0 k r.1 s r.2, r.3)

  grouped_front : (ks : List Suffix) (ts mid rest : List Token) → Repeats (Spans kind trailer) ts mid ks → Reaches kind one_group mid rest → Reaches kind some_groups ts rest
  grouped_front [] ts mid rest h r = inl (subst (λ l. Reaches kind one_group l rest) h r)
  grouped_front (k ∷ ks) ts mid rest h r =
      let f = grouped_front ks h.0 mid rest h.2 r in
      elim h.1 [
        | inl i ↦ (let back = i.4 in after_group ts h.0 rest ([], i.1) (ts, [], i.1, ([], refl, refl), subst (λ r. Spans kind x ts r i.1) (sym back.0) i.3, refl) f)
        | inr j ↦ (let back = j.4 in after_method ts h.0 rest j.1 (subst (λ r. Spans kind m ts r j.1) (sym back.0) j.3) f)
      ]

  -- a front of what goes on an operand is one of a group
  one_front : (mid rest : List Token) → (rest ≡ mid) ⊎ Reaches kind trailer mid rest → Reaches kind one_group mid rest
  one_front mid rest (inl e) = subst (λ r. Reaches kind one_group mid r) (sym e) (none kind one_group mid)
  one_front mid rest (inr (inl (inl r))) = inr (mid, [], ([], refl, refl), r)
  one_front mid rest (inr (inl (inr r))) = inr (mid, [], ([], refl, refl), subst (λ l. Reaches kind x mid l) (sym r.3) (whole kind x mid r.0 r.1 r.2))
  one_front mid rest (inr (inr (inl r))) = inl (mid, [], refl, inr r)
  one_front mid rest (inr (inr (inr r))) = inl (mid, [], refl, inr (subst (λ l. Reaches kind m mid l) (sym r.3) (whole kind m mid r.0 r.1 r.2)))

  -- openings, likewise
  open_after_group : (w : ℕ) (ts mid rest : List Token) (g : Group) → Spans kind one_group ts mid g → Opens kind some_groups mid rest w → Opens kind some_groups ts rest w
  open_after_group w ts mid rest g s (inl r) = inr (mid, g, s, (mid, [], refl, r))
  open_after_group w ts mid rest g s (inr r) = (let q = r.3 in inr (mid, g, s, (q.0, r.1 ∷ q.1, (r.0, r.2, q.2), q.3)))

  open_after_method : (w : ℕ) (ts mid rest : List Token) (k : Method) → Spans kind m ts mid k → Opens kind some_groups mid rest w → Opens kind some_groups ts rest w
  open_after_method w ts mid rest k s (inl (inl r)) = inl (inl (r.0, k ∷ r.1, (mid, s, r.2), r.3))
  open_after_method w ts mid rest k s (inl (inr r)) = (let ms = r.2 in inl (inr (r.0, k ∷ ms.0, (k ∷ ms.0, (mid, s, ms.1), refl), r.3)))
  open_after_method w ts mid rest k s (inr r) = inr (r.0, (k ∷ r.1.0, r.1.1), with_method ts mid r.0 k r.1 s r.2, r.3)

  grouped_open : (w : ℕ) (ks : List Suffix) (ts mid rest : List Token) → Repeats (Spans kind trailer) ts mid ks → Opens kind one_group mid rest w → Opens kind some_groups ts rest w
  grouped_open w [] ts mid rest h r = inl (subst (λ l. Opens kind one_group l rest w) h r)
  grouped_open w (k ∷ ks) ts mid rest h r =
      let f = grouped_open w ks h.0 mid rest h.2 r in
      elim h.1 [
        | inl i ↦ (let back = i.4 in open_after_group w ts h.0 rest ([], i.1) (ts, [], i.1, ([], refl, refl), subst (λ r. Spans kind x ts r i.1) (sym back.0) i.3, refl) f)
        | inr j ↦ (let back = j.4 in open_after_method w ts h.0 rest j.1 (subst (λ r. Spans kind m ts r j.1) (sym back.0) j.3) f)
      ]

  one_open : (w : ℕ) (mid rest : List Token) → Opens kind trailer mid rest w → Opens kind one_group mid rest w
  one_open w mid rest (inl (inl r)) = inr (mid, [], ([], refl, refl), r)
  one_open w mid rest (inl (inr r)) = absurd r.3
  one_open w mid rest (inr (inl r)) = inl (mid, [], refl, r)
  one_open w mid rest (inr (inr r)) = absurd r.3

  pub target_up : (a : Gram Token Expr) → IsBelow kind (trailed_index a) (grouped_index a)
  target_up a = record {
    spans = λ ts rest c h. (let p = h.3 in let ks = p.4 in
        let g = grouped ks.0 p.0 h.0 rest h.2 ks.1 h.4 in (
          p.0,
          p.1,
          (g.first, g.others),
          p.3,
          (g.mid, g.first, g.others, g.spans_first, (g.others, g.spans_others, refl), refl),
          h.5 ∙ ap (λ t. (t, h.2)) (p.5 ∙ ap (λ ks. suffixed p.1 ks) ks.2) ∙ g.is_placed p.1,
        ));
    reaches = λ ts rest h. elim h [
      | inl (inl r) ↦ inl r
      | inl (inr r) ↦ (let q = r.3 in inr (r.0, r.1, r.2, grouped_front q.1 r.0 q.0 rest q.2 (one_front q.0 rest q.3)))
      | inr r ↦ (let p = r.2 in let ks = p.4 in inr (p.0, p.1, p.3, grouped_front ks.0 p.0 r.0 rest ks.1 (inr (r.0, [], ([], refl, refl), r.3))))
    ];
    opens = λ ts rest w h. elim h [
      | inl (inl r) ↦ inl r
      | inl (inr r) ↦ (let q = r.3 in inr (r.0, r.1, r.2, grouped_open w q.1 r.0 q.0 rest q.2 (one_open w q.0 rest q.3)))
      | inr r ↦ (let p = r.2 in let ks = p.4 in inr (p.0, p.1, p.3, grouped_open w ks.0 p.0 r.0 rest ks.1 (inr (r.0, [], ([], refl, refl), r.3))))
    ];
  }

  -- ---- from groups to the published target

  suffixed_append : (ks ls : List Suffix) (t : Expr) → suffixed t (ks ++ ls) ≡ suffixed (suffixed t ks) ls
  suffixed_append [] ls t = refl
  suffixed_append (k ∷ ks) ls t = suffixed_append ks ls _

  suffixed_methods : (ms : List Method) (t : Expr) → suffixed t (map OfMethod ms) ≡ attributed t ms
  suffixed_methods [] t = refl
  suffixed_methods (k ∷ ms) t = suffixed_methods ms _

  join : (ks ls : List Suffix) (ts mid rest : List Token) → Repeats (Spans kind trailer) ts mid ks → Repeats (Spans kind trailer) mid rest ls → Repeats (Spans kind trailer) ts rest (ks ++ ls)
  join [] ls ts mid rest h r = subst (λ l. Repeats (Spans kind trailer) l rest ls) h r
  join (k ∷ ks) ls ts mid rest h r = (h.0, h.1, join ks ls h.0 mid rest h.2 r)

  methods_as : (ms : List Method) (ts mid : List Token) → Repeats (Spans kind m) ts mid ms → Repeats (Spans kind trailer) ts mid (map OfMethod ms)
  methods_as [] ts mid h = h
  methods_as (k ∷ ms) ts mid h = (h.0, inr (h.0, k, tt, h.1, (refl, refl), refl), methods_as ms h.0 mid h.2)

  record Trailed (ts mid : List Token) (g : Group) : Type 0 where
    last : List Token
    methods : Repeats (Spans kind trailer) ts last (map OfMethod g.0)
    index : Spans kind x last mid g.1

  trailed : (ts mid : List Token) (g : Group) → Spans kind one_group ts mid g → Trailed ts mid g
  trailed ts mid g h =
      let ms = h.3 in
      let is : g ≡ (ms.0, h.2) = h.5 ∙ ap (λ ks. (ks, h.2)) ms.2 in
      subst (λ g. Trailed ts mid g) (sym is)
      (let r : Trailed ts mid (ms.0, h.2) = record { last = h.0; methods = methods_as ms.0 ts h.0 ms.1; index = h.4 } in r)

  -- a group as suffixes
  abbrev flat : Group → List Suffix
  flat g = map OfMethod g.0 ++ AtIndex g.1 ∷ []

  all_of : (ts mid : List Token) (g : Group) → Trailed ts mid g → Repeats (Spans kind trailer) ts mid (flat g)
  all_of ts mid g t = join (map OfMethod g.0) (AtIndex g.1 ∷ []) ts t.last mid t.methods (mid, inl (mid, g.1, tt, t.index, (refl, refl), refl), refl)

  flat_is : (g : Group) (t : Expr) → suffixed t (flat g) ≡ Item (attributed t g.0) g.1
  flat_is g t = suffixed_append (map OfMethod g.0) (AtIndex g.1 ∷ []) t ∙ ap (λ t. Item t g.1) (suffixed_methods g.0 t)

  record Ungrouped (ts rest : List Token) (g : Group) (gs : List Group) : Type 0 where
    last : List Token
    ks : List Suffix
    i : Index
    before : Repeats (Spans kind trailer) ts last ks
    index : Spans kind x last rest i
    is_placed : (t : Expr) → placed t g.0 g.1 gs ≡ (suffixed t ks, i)

  ungrouped : (gs : List Group) (g : Group) (ts mid rest : List Token) → Spans kind one_group ts mid g → Repeats (Spans kind one_group) mid rest gs → Ungrouped ts rest g gs
  ungrouped [] g ts mid rest s h =
      let t = trailed ts mid g s in
      record { last = t.last; ks = map OfMethod g.0; i = g.1; before = t.methods; index = subst (λ r. Spans kind x t.last r g.1) (sym h) t.index; is_placed = λ t. ap (λ t. (t, g.1)) (sym (suffixed_methods g.0 t)) }
  ungrouped (o ∷ gs) g ts mid rest s h =
      let t = trailed ts mid g s in
      let u = ungrouped gs o mid h.0 rest h.1 h.2 in
      record {
        last = u.last;
        ks = flat g ++ u.ks;
        i = u.i;
        before = join (flat g) u.ks ts mid u.last (all_of ts mid g t) u.before;
        index = u.index;
        is_placed = λ t. u.is_placed (Item (attributed t g.0) g.1) ∙ ap (λ t. (t, u.i)) (ap (λ t. suffixed t u.ks) (sym (flat_is g t)) ∙ sym (suffixed_append (flat g) u.ks t));
      }

  abbrev trailers : Gram Token (List Suffix)
  trailers = Many SUFFIX (λ ks. ks) trailer

  more_front : (ks : List Suffix) (ts mid rest : List Token) → Repeats (Spans kind trailer) ts mid ks → Reaches kind trailers mid rest → Reaches kind trailers ts rest
  more_front ks ts mid rest h r = (r.0, ks ++ r.1, join ks r.1 ts mid r.0 h r.2, r.3)

  more_open : (w : ℕ) (ks : List Suffix) (ts mid rest : List Token) → Repeats (Spans kind trailer) ts mid ks → Opens kind trailers mid rest w → Opens kind trailers ts rest w
  more_open w ks ts mid rest h r = (r.0, ks ++ r.1, join ks r.1 ts mid r.0 h r.2, r.3)

  group_front : (ts rest : List Token) → Reaches kind one_group ts rest → Reaches kind trailers ts rest
  group_front ts rest (inl r) = (r.0, map OfMethod r.1, methods_as r.1 ts r.0 r.2, elim r.3 [ inl e ↦ inl e | inr s ↦ inr (inr (inl s)) ])
  group_front ts rest (inr r) = (let ms = r.2 in (r.0, map OfMethod ms.0, methods_as ms.0 ts r.0 ms.1, inr (inl (inl r.3))))

  group_open : (w : ℕ) (ts rest : List Token) → Opens kind one_group ts rest w → Opens kind trailers ts rest w
  group_open w ts rest (inl r) = (r.0, map OfMethod r.1, methods_as r.1 ts r.0 r.2, inr (inl r.3))
  group_open w ts rest (inr r) = (let ms = r.2 in (r.0, map OfMethod ms.0, methods_as ms.0 ts r.0 ms.1, inl (inl r.3)))

  repeated_front : (gs : List Group) (ts mid rest : List Token) → Repeats (Spans kind one_group) ts mid gs → Reaches kind trailers mid rest → Reaches kind trailers ts rest
  repeated_front [] ts mid rest h r = subst (λ l. Reaches kind trailers l rest) h r
  repeated_front (g ∷ gs) ts mid rest h r = more_front (flat g) ts h.0 rest (all_of ts h.0 g (trailed ts h.0 g h.1)) (repeated_front gs h.0 mid rest h.2 r)

  repeated_open : (w : ℕ) (gs : List Group) (ts mid rest : List Token) → Repeats (Spans kind one_group) ts mid gs → Opens kind trailers mid rest w → Opens kind trailers ts rest w
  repeated_open w [] ts mid rest h r = subst (λ l. Opens kind trailers l rest w) h r
  repeated_open w (g ∷ gs) ts mid rest h r = more_open w (flat g) ts h.0 rest (all_of ts h.0 g (trailed ts h.0 g h.1)) (repeated_open w gs h.0 mid rest h.2 r)

  groups_front : (ts rest : List Token) → Reaches kind some_groups ts rest → Reaches kind trailers ts rest
  groups_front ts rest (inl r) = group_front ts rest r
  groups_front ts rest (inr r) =
      let q = r.3 in
      repeated_front (r.1 ∷ q.1) ts q.0 rest (r.0, r.2, q.2) (elim q.3 [ inl e ↦ (q.0, [], refl, inl e) | inr s ↦ group_front q.0 rest s ])

  groups_open : (w : ℕ) (ts rest : List Token) → Opens kind some_groups ts rest w → Opens kind trailers ts rest w
  groups_open w ts rest (inl r) = group_open w ts rest r
  groups_open w ts rest (inr r) = (let q = r.3 in repeated_open w (r.1 ∷ q.1) ts q.0 rest (r.0, r.2, q.2) (group_open w q.0 rest q.3))

  pub target_down : (a : Gram Token Expr) → IsBelow kind (grouped_index a) (trailed_index a)
  target_down a = record {
    spans = λ ts rest c h. (let g = h.4 in let gs = g.4 in
        let u = ungrouped gs.0 g.1 h.0 g.0 rest g.3 gs.1 in (
          u.last,
          suffixed h.1 u.ks,
          u.i,
          (h.0, h.1, u.ks, h.3, (u.ks, u.before, refl), refl),
          u.index,
          h.5 ∙ ap (λ (p : Group × List Group). placed h.1 p.0.0 p.0.1 p.1) (g.5 ∙ ap (λ l. (g.1, l)) gs.2) ∙ u.is_placed h.1,
        ));
    reaches = λ ts rest h. elim h [ inl r ↦ inl (inl r) | inr r ↦ inl (inr (r.0, r.1, r.2, groups_front r.0 rest r.3)) ];
    opens = λ ts rest w h. elim h [ inl r ↦ inl (inl r) | inr r ↦ inl (inr (r.0, r.1, r.2, groups_open w r.0 rest r.3)) ];
  }

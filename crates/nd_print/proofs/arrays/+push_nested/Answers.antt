use Rattle.std.proofs.Common.{◌≡◌, ℕ, [], ◌∷◌, ◌+◌, ◌-◌, ◌<◌, ◌++◌, List, length, get_or, take, drop, string_bytes, refl, ap, sym, ◌∙◌, arith, append-nil}
use Rattle.std.specs.List.{concat}
use Rattle.nd_model.specs.Arrays.Tuple.{elements_of}
use Rattle.nd_print.specs.Texts.{text_at}
use Rattle.nd_print.proofs.Sizes.{sizes, below_is, length_below}
use Rattle.nd_print.proofs.Nested.{part, gap, further, further_more, further_none, nested_is, even_below, even_above, left_more, left_all, whole_more, none_left, one_left, whole_first, open_and_closed, after_gap}
use Rattle.nd_print.proofs.arrays.+push_nested.Goals as goal

pub push_nested-requires : goal.push_nested-requires
push_nested-requires t c =
    let shape : List ℕ = c.args.shape.now in
    let several : 1 < length shape = omega (arith, c.requires.axes, c.if-shape-eq1.false) in
    let s = sizes shape c.requires.axes c.requires.some in
    let long = length_below shape in
    (omega (arith, long, c.decreases), (omega (arith, long), (omega (arith, long, c.requires.deep), (s.some, (even_below shape c.args.rows.now several c.requires.rows, omega (arith, s.part, c.requires.whole))))))

pub loop-init : goal.loop-init
loop-init t c =
    let shape : List ℕ = c.args.shape.now in
    let several : 1 < length shape = omega (arith, c.requires.axes, c.if-shape-eq1.false) in
    let s = sizes shape c.requires.axes c.requires.some in
    let each : ℕ = elements_of (take (length shape - 1) (drop 1 shape)) in
    record {
      text = refl;
      rest = refl;
      rows = even_above shape c.push_nested.new.rows several c.in_ok-push_nested.ensures.rows;
      whole = whole_more each (concat c.args.rows.now) (concat c.push_nested.new.rows) c.in_ok-push_nested.ensures.rest (get_or shape 0 0) 0 s.first
          (whole_first (get_or shape 0 0) each (elements_of shape) (length (concat c.args.rows.now)) s.first s.product c.requires.whole);
    }

pub push_nested-requires-in-loop : goal.push_nested-requires-in-loop
push_nested-requires-in-loop t c =
    let shape : List ℕ = c.args.shape.now in
    let several : 1 < length shape = omega (arith, c.requires.axes, c.if-shape-eq1.false) in
    let s = sizes shape c.requires.axes c.requires.some in
    let each : ℕ = elements_of (take (length shape - 1) (drop 1 shape)) in
    let long = length_below shape in
    let left : 0 < get_or shape 0 0 - c.loop.counter = omega (arith, c.loop-test.true) in (
      omega (arith, long, c.decreases),
      (
        omega (arith, long),
        (
          omega (arith, long, c.requires.deep),
          (
            s.some,
            (even_below shape c.loop.rows several c.loop.invariant.rows, one_left each (get_or shape 0 0 - c.loop.counter) (length (concat c.loop.rows)) left c.loop.invariant.whole),
          ),
        ),
      ),
    )

pub loop-preserved : goal.loop-preserved
loop-preserved t c =
    let shape : List ℕ = c.args.shape.now in
    let several : 1 < length shape = omega (arith, c.requires.axes, c.if-shape-eq1.false) in
    let below : List ℕ = take (length shape - 1) (drop 1 shape) in
    let f : ℕ → List ℕ = text_at c.args.layout.now.is_structure c.args.layout.now.columns.items c.args.bytes.now in
    let depth : ℕ = c.args.depth + 1 in
    let end : ℕ = get_or shape 0 0 in
    let i : ℕ = c.loop.counter in
    let ps : List ℕ = concat c.loop.rows in
    let rest : List ℕ = concat c.push_nested-in-loop.new.rows in
    let between : List ℕ = gap f depth below in
    let here : List ℕ = part f depth below (take (elements_of below) ps) in
    let behind : List ℕ = further f depth below (end - (i + 1)) rest in
    let is : rest ≡ drop (elements_of below) ps = c.in_ok-push_nested-2.ensures.rest in
    record {
      text = ap (λ s. s ++ behind) (c.in_ok-push_nested-2.ensures.text ∙ ap (λ s. s ++ here) c.in_ok-push_break.ensures)
          ∙ after_gap (string_bytes c.loop.line) between here behind
          ∙ ap (λ s. string_bytes c.loop.line ++ s) (sym (further_more f depth below end i ps rest c.loop-test.true is))
          ∙ c.loop.invariant.text;
      rest = left_more (elements_of below) ps rest is end i c.loop-test.true ∙ c.loop.invariant.rest;
      rows = even_above shape c.push_nested-in-loop.new.rows several c.in_ok-push_nested-2.ensures.rows;
      whole = whole_more (elements_of below) ps rest is end i c.loop-test.true c.loop.invariant.whole;
    }

pub returns-clause-text : goal.returns-clause-text
returns-clause-text t c =
    let shape : List ℕ = c.args.shape.now in
    let several : 1 < length shape = omega (arith, c.requires.axes, c.if-shape-eq1.false) in
    let s = sizes shape c.requires.axes c.requires.some in
    let below : List ℕ = take (length shape - 1) (drop 1 shape) in
    let f : ℕ → List ℕ = text_at c.args.layout.now.is_structure c.args.layout.now.columns.items c.args.bytes.now in
    let ps : List ℕ = concat c.args.rows.now in
    let behind : List ℕ = concat c.push_nested.new.rows in
    let before : List ℕ = string_bytes c.args.line.now in
    let end : ℕ = get_or shape 0 0 in
    let first : List ℕ = part f (c.args.depth + 1) below (take (elements_of below) ps) in
    let rest : List ℕ = further f (c.args.depth + 1) below (end - 1) behind in
    let opened : string_bytes c.push.new.self ≡ before ++ 91 ∷ [] = c.in_ok-push.ensures.bytes ∙ ap (λ s. before ++ s) (c.in_ok-push.ensures.ascii (omega arith)) in
    let started : string_bytes c.push_nested.new.line ≡ (before ++ 91 ∷ []) ++ first = c.in_ok-push_nested.ensures.text ∙ ap (λ s. s ++ first) opened in
    let all : string_bytes c.loop.line ≡ ((before ++ 91 ∷ []) ++ first) ++ rest
    = sym (append-nil (string_bytes c.loop.line))
    ∙ ap (λ s. string_bytes c.loop.line ++ s) (sym (further_none f (c.args.depth + 1) below end c.loop.counter (concat c.loop.rows) c.loop-test.false))
    ∙ c.loop.invariant.text ∙ ap (λ s. s ++ rest) started in
    c.in_ok-push-2.ensures.bytes ∙ ap (λ s. string_bytes c.loop.line ++ s) (c.in_ok-push-2.ensures.ascii (omega arith))
    ∙ ap (λ s. s ++ 93 ∷ []) all
    ∙ open_and_closed before (91 ∷ []) first rest (93 ∷ [])
    ∙ ap (λ s. before ++ s) (sym (nested_is f c.args.depth shape below ps behind several s.first (below_is shape) c.in_ok-push_nested.ensures.rest))

pub returns-clause-rest : goal.returns-clause-rest
returns-clause-rest t c =
    let shape : List ℕ = c.args.shape.now in
    let s = sizes shape c.requires.axes c.requires.some in
    let each : ℕ = elements_of (take (length shape - 1) (drop 1 shape)) in
    sym (none_left each (concat c.loop.rows) (get_or shape 0 0) c.loop.counter c.loop-test.false) ∙ c.loop.invariant.rest
    ∙ left_all each (concat c.args.rows.now) (concat c.push_nested.new.rows) c.in_ok-push_nested.ensures.rest (get_or shape 0 0) (elements_of shape) s.first s.product

use Rattle.std.proofs.Common.{◌≡◌, ◌+◌, ◌-◌, ◌≤◌, ℕ, List, [], ◌++◌, length, take, drop, sym, ap, ◌∙◌, arith, append_assoc, length-append}
use Rattle.std.specs.List.{flat_map}
use Rattle.std.proofs.Math.Nat.{mul-le-mul}
use Rattle.std.proofs.lemmas.Grind.{flat_map-append}
use Rattle.std.proofs.lemmas.List.{drop_all, length-take-le, length-drop}
use Rattle.nd_model.specs.Arrays.View.{One}
use Rattle.nd_model.proofs.Values.{few_bytes}
use Rattle.nd_element.specs.Elements.{canonical_at}
use Rattle.nd_places.specs.Forms.{trues_on}
use Rattle.nd_places.proofs.Found.{parts_of, trues_split}
use Rattle.nd_scatter.proofs.Chosen.{length-numbers}
use Rattle.nd_scatter.proofs.masked.append_each.Goals as goal

pub keep_on_line-kept-requires-clause-inside : goal.keep_on_line-kept-requires-clause-inside
keep_on_line-kept-requires-clause-inside c = λ k lt.
    let mask : List ℕ = c.args.mask.now in let at = c.loop-done.done in
    let n = c.min.result in let width : at + n - at ≡ n = omega arith in
    let fits : n ≤ length (drop at mask) = omega (arith, c.min.ensures, length-drop at mask) in
    let long : length (take (at + n - at) (drop at mask)) ≡ n = ap (λ m. length (take m (drop at mask))) width ∙ length-take-le n (drop at mask) fits in
    c.requires.inside k (omega (arith, lt, long, fits, length-drop at mask, c.loop-done.invariant.within))

pub keep_on_line-kept-requires-clause-room : goal.keep_on_line-kept-requires-clause-room
keep_on_line-kept-requires-clause-room c =
    let mask : List ℕ = c.args.mask.now in let at = c.loop-done.done in
    let n = c.min.result in let width : at + n - at ≡ n = omega arith in
    let fits : n ≤ length (drop at mask) = omega (arith, c.min.ensures, length-drop at mask) in
    let long : length (take (at + n - at) (drop at mask)) ≡ n = ap (λ m. length (take m (drop at mask))) width ∙ length-take-le n (drop at mask) fits in
    let few : length (take (at + n - at) (drop at mask)) ≤ 512 = omega (arith, long, c.min.ensures) in
    let small : c.args.size ≤ 8 = omega (arith, c.requires.size, few_bytes c.args.elem.kind) in
    omega (arith, mul-le-mul few small, c.loop-done.invariant.many)

pub loop-done-preserved : goal.loop-done-preserved
loop-done-preserved c =
    let a = c.args in let mask : List ℕ = a.mask.now in let at = c.loop-done.done in let n = c.min.result in let line = a.line in
    let F : ℕ → List ℕ = canonical_at (One a.elem) a.bytes.now in let out : List ℕ = c.loop-done.out.0 in
    let width : at + n - at ≡ n = omega arith in
    let fits : n ≤ length (drop at mask) = omega (arith, c.min.ensures, length-drop at mask) in
    let part : List ℕ = take n (drop at mask) in let rest : List ℕ = drop (at + n) mask in
    let long : length part ≡ n = length-take-le n (drop at mask) fits in
    let mine : List ℕ = trues_on line at part in let others : List ℕ = trues_on line (at + n) rest in
    let kept : take c.keep_on_line-kept.result c.keep_on_line-kept.new.out ≡ flat_map F mine
    = c.keep_on_line-kept.ensures.bytes ∙ ap (λ m. flat_map F (trues_on line at (take m (drop at mask)))) width in
    let split : trues_on line at (drop at mask) ≡ mine ++ others
    = ap (trues_on line at) (parts_of at n mask) ∙ trues_split line at part rest ∙ ap (λ k. mine ++ trues_on line (at + k) rest) long in
    let more = ap length c.push.ensures.written ∙ length-append out (take c.keep_on_line-kept.result c.keep_on_line-kept.new.out) in
    record {
      many = c.keep_on_line-kept.ensures.len ∙ c.loop-done.invariant.many;
      within = omega (arith, fits, length-drop at mask, c.loop-done.invariant.within);
      room = omega (arith, c.push.ensures.left, more, c.loop-done.invariant.room);
      written = ap (λ l. l ++ flat_map F others) (c.push.ensures.written ∙ ap (λ l. out ++ l) kept) ∙ append_assoc out (flat_map F mine) (flat_map F others)
          ∙ ap (λ l. out ++ l) (sym (flat_map-append F mine others)) ∙ ap (λ ps. out ++ flat_map F ps) (sym split) ∙ c.loop-done.invariant.written;
    }

pub push-requires : goal.push-requires
push-requires c =
    let a = c.args in let mask : List ℕ = a.mask.now in let at = c.loop-done.done in let n = c.min.result in let line = a.line in
    let F : ℕ → List ℕ = canonical_at (One a.elem) a.bytes.now in let out : List ℕ = c.loop-done.out.0 in
    let width : at + n - at ≡ n = omega arith in
    let fits : n ≤ length (drop at mask) = omega (arith, c.min.ensures, length-drop at mask) in
    let part : List ℕ = take n (drop at mask) in let rest : List ℕ = drop (at + n) mask in
    let long : length part ≡ n = length-take-le n (drop at mask) fits in
    let mine : List ℕ = trues_on line at part in let others : List ℕ = trues_on line (at + n) rest in
    let kept : take c.keep_on_line-kept.result c.keep_on_line-kept.new.out ≡ flat_map F mine
    = c.keep_on_line-kept.ensures.bytes ∙ ap (λ m. flat_map F (trues_on line at (take m (drop at mask)))) width in
    let split : trues_on line at (drop at mask) ≡ mine ++ others
    = ap (trues_on line at) (parts_of at n mask) ∙ trues_split line at part rest ∙ ap (λ k. mine ++ trues_on line (at + k) rest) long in
    let all : length out + (length (flat_map F mine) + length (flat_map F others)) ≡ length a.filling.0 + length (flat_map F (trues_on line 0 mask))
    = ap (λ m. length out + m) (sym (ap length (ap (flat_map F) split ∙ flat_map-append F mine others) ∙ length-append (flat_map F mine) (flat_map F others)))
    ∙ sym (length-append out (flat_map F (trues_on line at (drop at mask)))) ∙ ap length c.loop-done.invariant.written ∙ length-append a.filling.0 (flat_map F (trues_on line 0 mask)) in
    omega (arith, ap length kept, all, length-numbers a.elem a.bytes.now (trues_on line 0 mask), c.requires.room, c.loop-done.invariant.room)

pub returns-clause-room : goal.returns-clause-room
returns-clause-room c =
    let a = c.args in let mask : List ℕ = a.mask.now in let at = c.loop-done.done in let line = a.line in
    let F : ℕ → List ℕ = canonical_at (One a.elem) a.bytes.now in let out : List ℕ = c.loop-done.out.0 in
    let none : drop at mask ≡ [] = drop_all at mask (omega (arith, c.loop-done-test.false)) in
    let all : length out + length (flat_map F (trues_on line at (drop at mask))) ≡ length a.filling.0 + length (flat_map F (trues_on line 0 mask))
    = sym (length-append out (flat_map F (trues_on line at (drop at mask)))) ∙ ap length c.loop-done.invariant.written ∙ length-append a.filling.0 (flat_map F (trues_on line 0 mask)) in
    let left : length (flat_map F (trues_on line at (drop at mask))) ≡ 0 = ap (λ ms. length (flat_map F (trues_on line at ms))) none in
    omega (arith, all, left, length-numbers a.elem a.bytes.now (trues_on line 0 mask), c.loop-done.invariant.room)

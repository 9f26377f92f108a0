use Rattle.std.proofs.Common.{rules, ◌≡◌, ℕ, ℤ, ◌+◌, ◌*◌, ◌<◌, ◌^◌, ◌%◌, true, false, not, nat_lt, List, ◌++◌, map, length, drop, FitsSigned, to_z, of_z, sym, ap, ◌∙◌, subst, arith}
use Rattle.std.specs.Prelude.{◌&&◌}
use Rattle.std.specs.Int.{w128}
use Rattle.std.proofs.lemmas.List.{length-append, length-map}
use mir.Facts.{to_z-of_z}
use Rattle.nd_model.specs.Arrays.Content.{number_at}
use Rattle.nd_model.specs.Arrays.Element.{Kind, size_of}
use Rattle.nd_model.specs.Making.Elementwise.{little}
use Rattle.nd_model.specs.Making.Reductions.{best, best_place, greater}
use Rattle.nd_model.specs.Arrays.Tuple.{count_up}
use Rattle.nd_view.proofs.Tuples.{length-count_up}
use Rattle.nd_types.specs.Kinds.{kind_of}
use Rattle.nd_reduce.specs.Folds.Blocks.{block_in, first_index}
use Rattle.nd_reduce.specs.Folds.States.{IsBestPlace, IsPlaced, has_any}
use Rattle.nd_reduce.proofs.folds.Better.{greater_between, greater_apart}
use Rattle.nd_reduce.proofs.folds.Blockwise.{place_found}
use Rattle.nd_reduce.proofs.folds.Stepped.{place_joins, place_moves}
use Rattle.nd_reduce.proofs.folds.Taken.{has_numbers, none_of}
use Rattle.nd_reduce.proofs.folds.run_fold.ArgMaxRunFold.take.Goals as goal

pub returns-then-count-eq0 : goal.returns-then-count-eq0
returns-then-count-eq0 c = λ zs h.
    let kind : Kind = kind_of c.args.kind in let f : ℕ → ℤ = λ j. number_at (little kind) c.args.bytes.now (j * size_of kind) in
    subst (IsPlaced greater c.args.self.count c.args.self.place c.args.self.best) (none_of f c.args.count zs c.if-count-eq0.true) h

pub returns-then-keeps_greatest : goal.returns-then-keeps_greatest
returns-then-keeps_greatest c = λ zs h lt.
    let kind : Kind = kind_of c.args.kind in let f : ℕ → ℤ = λ j. number_at (little kind) c.args.bytes.now (j * size_of kind) in
    let n = c.args.count in let xs : List ℤ = map f (count_up 0 n) in let some : 0 < n = omega (arith, c.if-count-eq0.false) in
    let b : ℤ = c.args.self.best in let count = c.args.self.count in let fm : FitsSigned w128 c.greatest_block-greatest.result.best = search rules in
    let long : n ≡ length xs = sym (length-map (count_up 0 n) f ∙ length-count_up 0 n) in
    let short : length zs < 2 ^ 64 = omega (arith, length-append zs xs) in let fb : FitsSigned w128 b = (h short).fits in
    let is : (nat_lt 0 count && not (greater (best greater xs) b)) ≡ true
    = (λ i. nat_lt 0 count && not (greater (sym (to_z-of_z fm ∙ c.greatest_block-greatest.ensures.whole) i) (sym (to_z-of_z fb) i))) ∙ sym c.keeps_greatest.ensures ∙ c.if-keeps_greatest.true in
    subst (λ (x : ℤ). IsBestPlace greater ((count + n) % 2 ^ 64) c.args.self.place x (zs ++ xs)) (sym (to_z-of_z fb))
    (place_joins greater greater_between greater_apart zs xs (has_numbers f n some) b count c.args.self.place n long h (λ s. is) lt)

pub returns : goal.returns
returns c = λ zs h lt.
    let kind : Kind = kind_of c.args.kind in let f : ℕ → ℤ = λ j. number_at (little kind) c.args.bytes.now (j * size_of kind) in
    let n = c.args.count in let xs : List ℤ = map f (count_up 0 n) in let some : 0 < n = omega (arith, c.if-count-eq0.false) in
    let b : ℤ = c.args.self.best in let count = c.args.self.count in let long : n ≡ length xs = sym (length-map (count_up 0 n) f ∙ length-count_up 0 n) in
    let short : length zs < 2 ^ 64 = omega (arith, length-append zs xs) in let fb : FitsSigned w128 b = (h short).fits in
    let m : ℤ = c.greatest_block-greatest.result.best in let fm : FitsSigned w128 m = search rules in let first = c.greatest_block-greatest.ensures in
    let from = c.greatest_block-greatest.result.from in let size = c.greatest_block-greatest.result.count in let block : List ℤ = block_in kind c.args.bytes.now from size in
    let own : to_z w128 (of_z w128 m) ≡ best greater xs = to_z-of_z fm ∙ first.whole in
    let any : has_any block ≡ true = has_numbers (λ j. number_at (little kind) (drop (from * size_of kind) c.args.bytes.now) (j * size_of kind)) size first.some in
    let found : first_index m block ≡ best_place greater block = ap (λ z. first_index z block) first.own ∙ sym (place_found greater greater_between greater_apart block any) in
    let at : c.place.result ≡ best_place greater xs = c.place.ensures ∙ ap (λ l. from + l) found ∙ sym first.at in
    let is : (nat_lt 0 count && not (greater (best greater xs) b)) ≡ false
    = (λ i. nat_lt 0 count && not (greater (sym own i) (sym (to_z-of_z fb) i))) ∙ sym c.keeps_greatest.ensures ∙ c.if-keeps_greatest.false in
    subst (λ (x : ℤ). IsBestPlace greater ((count + n) % 2 ^ 64) ((count + c.place.result) % 2 ^ 64) x (zs ++ xs)) (sym own)
    (place_moves greater greater_between greater_apart zs xs (has_numbers f n some) b count c.args.self.place n c.place.result long at (subst (FitsSigned w128) first.whole fm) h (λ s. is) lt)

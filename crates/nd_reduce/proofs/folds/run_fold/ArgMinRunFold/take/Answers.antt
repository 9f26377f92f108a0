use Rattle.std.proofs.Common.{rules, ◌≡◌, ℕ, ℤ, ◌+◌, ◌*◌, ◌<◌, ◌^◌, ◌%◌, true, false, not, nat_lt, List, ◌++◌, map, length, drop, FitsSigned, to_z, of_z, sym, ap, ◌∙◌, subst, arith}
use Rattle.std.specs.Prelude.{int_lt, ◌&&◌}
use Rattle.std.specs.Int.{w128}
use Rattle.std.proofs.lemmas.List.{length-append, length-map}
use mir.Facts.{to_z-of_z}
use Rattle.nd_model.specs.Arrays.Content.{number_at}
use Rattle.nd_model.specs.Arrays.Element.{Kind, size_of}
use Rattle.nd_model.specs.Making.Elementwise.{little}
use Rattle.nd_model.specs.Making.Reductions.{best, best_place}
use Rattle.nd_model.specs.Arrays.Tuple.{count_up}
use Rattle.nd_view.proofs.Tuples.{length-count_up}
use Rattle.nd_types.specs.Kinds.{kind_of}
use Rattle.nd_reduce.specs.Folds.Blocks.{block_in, first_index}
use Rattle.nd_reduce.specs.Folds.States.{IsBestPlace, IsPlaced, has_any}
use Rattle.nd_reduce.proofs.folds.Better.{less_between, less_apart}
use Rattle.nd_reduce.proofs.folds.Blockwise.{place_found}
use Rattle.nd_reduce.proofs.folds.Stepped.{place_joins, place_moves}
use Rattle.nd_reduce.proofs.folds.Taken.{has_numbers, none_of}
use Rattle.nd_reduce.proofs.folds.run_fold.ArgMinRunFold.take.Goals as goal

pub returns-then-count-eq0 : goal.returns-then-count-eq0
returns-then-count-eq0 c = λ zs h.
    let kind : Kind = kind_of c.args.kind in let f : ℕ → ℤ = λ j. number_at (little kind) c.args.bytes.now (j * size_of kind) in
    subst (IsPlaced int_lt c.args.self.count c.args.self.place c.args.self.best) (none_of f c.args.count zs c.if-count-eq0.true) h

pub returns-then-keeps_least : goal.returns-then-keeps_least
returns-then-keeps_least c = λ zs h lt.
    let kind : Kind = kind_of c.args.kind in let f : ℕ → ℤ = λ j. number_at (little kind) c.args.bytes.now (j * size_of kind) in
    let n = c.args.count in let xs : List ℤ = map f (count_up 0 n) in let some : 0 < n = omega (arith, c.if-count-eq0.false) in
    let b : ℤ = c.args.self.best in let count = c.args.self.count in let fm : FitsSigned w128 c.least_block-least.result.best = search rules in
    let long : n ≡ length xs = sym (length-map (count_up 0 n) f ∙ length-count_up 0 n) in
    let short : length zs < 2 ^ 64 = omega (arith, length-append zs xs) in let fb : FitsSigned w128 b = (h short).fits in
    let is : (nat_lt 0 count && not (int_lt (best int_lt xs) b)) ≡ true
    = (λ i. nat_lt 0 count && not (int_lt (sym (to_z-of_z fm ∙ c.least_block-least.ensures.whole) i) (sym (to_z-of_z fb) i))) ∙ sym c.keeps_least.ensures ∙ c.if-keeps_least.true in
    subst (λ (x : ℤ). IsBestPlace int_lt ((count + n) % 2 ^ 64) c.args.self.place x (zs ++ xs)) (sym (to_z-of_z fb))
    (place_joins int_lt less_between less_apart zs xs (has_numbers f n some) b count c.args.self.place n long h (λ s. is) lt)

pub returns : goal.returns
returns c = λ zs h lt.
    let kind : Kind = kind_of c.args.kind in let f : ℕ → ℤ = λ j. number_at (little kind) c.args.bytes.now (j * size_of kind) in
    let n = c.args.count in let xs : List ℤ = map f (count_up 0 n) in let some : 0 < n = omega (arith, c.if-count-eq0.false) in
    let b : ℤ = c.args.self.best in let count = c.args.self.count in let long : n ≡ length xs = sym (length-map (count_up 0 n) f ∙ length-count_up 0 n) in
    let short : length zs < 2 ^ 64 = omega (arith, length-append zs xs) in let fb : FitsSigned w128 b = (h short).fits in
    let m : ℤ = c.least_block-least.result.best in let fm : FitsSigned w128 m = search rules in let first = c.least_block-least.ensures in
    let from = c.least_block-least.result.from in let size = c.least_block-least.result.count in let block : List ℤ = block_in kind c.args.bytes.now from size in
    let own : to_z w128 (of_z w128 m) ≡ best int_lt xs = to_z-of_z fm ∙ first.whole in
    let any : has_any block ≡ true = has_numbers (λ j. number_at (little kind) (drop (from * size_of kind) c.args.bytes.now) (j * size_of kind)) size first.some in
    let found : first_index m block ≡ best_place int_lt block = ap (λ z. first_index z block) first.own ∙ sym (place_found int_lt less_between less_apart block any) in
    let at : c.place.result ≡ best_place int_lt xs = c.place.ensures ∙ ap (λ l. from + l) found ∙ sym first.at in
    let is : (nat_lt 0 count && not (int_lt (best int_lt xs) b)) ≡ false
    = (λ i. nat_lt 0 count && not (int_lt (sym own i) (sym (to_z-of_z fb) i))) ∙ sym c.keeps_least.ensures ∙ c.if-keeps_least.false in
    subst (λ (x : ℤ). IsBestPlace int_lt ((count + n) % 2 ^ 64) ((count + c.place.result) % 2 ^ 64) x (zs ++ xs)) (sym own)
    (place_moves int_lt less_between less_apart zs xs (has_numbers f n some) b count c.args.self.place n c.place.result long at (subst (FitsSigned w128) first.whole fm) h (λ s. is) lt)

use Rattle.std.proofs.Common.{rules, ◌≡◌, ℕ, ◌+◌, ◌*◌, ◌<◌, ℤ, Bool, List, drop, FitsSigned, to_z, of_z, sym, ap, ◌∙◌, inl, inr, subst, arith}
use Rattle.std.specs.Prelude.{int_lt, if◌then◌else◌}
use Rattle.std.specs.Int.{w128}
use Rattle.std.proofs.lemmas.Bool.{cases_Bool}
use mir.Facts.{to_z-of_z}
use Rattle.nd_model.specs.Arrays.Element.{Kind}
use Rattle.nd_model.specs.Making.Reductions.{best}
use Rattle.nd_types.specs.Kinds.{kind_of}
use Rattle.nd_reduce.specs.Folds.Blocks.{IsFirstBlock, block_in}
use Rattle.nd_reduce.specs.Folds.Lanes.{numbers_in}
use Rattle.nd_reduce.specs.declared.folds.blocks.Block.{Block}
use Rattle.nd_reduce.proofs.folds.Better.{less_between, less_apart}
use Rattle.nd_reduce.proofs.folds.Blockwise.{block_changes, block_stays}
use Rattle.nd_reduce.proofs.folds.blocks.least_block.Goals as goal

pub loop-done-preserved : goal.loop-done-preserved
loop-done-preserved c =
    let k : Kind = kind_of c.args.kind in let bytes : List ℕ = c.args.bytes.now in let n = c.loop-done.done in let m = c.min-some.result in
    let found : Block = c.loop-done.found in let z : ℤ = found.best in let x : ℤ = c.least_in-in-loop-done.result in let y : ℤ = to_z w128 (of_z w128 x) in
    let fits : FitsSigned w128 x = search rules in let some : 0 < m = search rules in
    let own : y ≡ best int_lt (block_in k bytes n m)
    = to_z-of_z fits ∙ c.least_in-in-loop-done.ensures ∙ ap (λ l. best int_lt (numbers_in k l m)) (c.bytes_from.ensures ∙ ap (λ s. drop (n * s) bytes) c.size-size.ensures.value) in
    let next : Block = record { from = n; count = m; best = y } in
    let chosen : (b : Bool) → int_lt y z ≡ b → c.lesser_block-found.result ≡ (if b then next else found) = λ b e. c.lesser_block-found.ensures ∙ ap (λ t. if t then next else found) e in
    let IsFirst : Block → Type 0 = λ r. IsFirstBlock int_lt k bytes (n + m) r.from r.count r.best in record {
      within = omega (arith, c.min-some.ensures, c.loop-done-test.true);
      found = elim (cases_Bool (int_lt y z)) [
        | inl e ↦ subst IsFirst (sym (chosen _ e)) (block_changes int_lt less_between less_apart k bytes n m found.from found.count z y c.loop-done.invariant.found some own e)
        | inr e ↦ subst IsFirst (sym (chosen _ e)) (block_stays int_lt less_between less_apart k bytes n m found.from found.count z y c.loop-done.invariant.found some own e)
      ];
    }

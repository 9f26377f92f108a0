use Rattle.std.proofs.Common.{◌-◌, ◌+◌, ◌≡◌, sym, ap, subst, ◌∙◌, drop, arith, false, Bor}
use Rattle.nd_model.specs.Cells.Session as model
use Rattle.nd_model.specs.Arrays.Value as values
use Rattle.nd_heap.specs.Layers.{overridden}
use Rattle.nd_heap.specs.Values.{base_of, value_of, names_of}
use Rattle.nd_heap.proofs.Below.{free_below, free_between, has_none, has_some, held_below, newer_below}
use Rattle.nd_heap.proofs.NameLists.{SharedValue}
use Rattle.nd_heap.proofs.names.is_held_below.Goals as goal
use Rattle.nd_heap.proofs.names.is_held_below.Goals.{then-lies_in+else-is_none, else-lies_in}

pub returns-then-behind-eq0 : goal.returns-then-behind-eq0
returns-then-behind-eq0 c =
    let base = base_of c.args.base in
    let newer = names_of c.args.newer.now.entries in
    let older = c.args.older.now.entries in
    let free = free_between base newer older c.args.marks.now c.mark_of-mark.result c.behind_last-behind.result c.loop.behind c.requires.newer c.requires.marks (sym c.mark_of-mark.ensures)
    c.behind_last-behind.ensures.elsewhere c.behind_last-behind.ensures.within (omega (arith, c.loop.invariant.0)) c.loop.invariant.1 in
    sym (subst (λ j. model.is_held base (overridden newer (names_of (drop j older))) ≡ false) c.if-behind-eq0.true free)

pub returns-then-is_none : goal.returns-then-is_none
returns-then-is_none c =
    let lies = sym (ap (λ v. values.lies_in (base_of c.args.base) (value_of v)) c.as_ref.ensures) ∙ sym c.lies_in.ensures ∙ c.if-lies_in.true in
    let found = c.find.ensures ∙ ap (λ n. model.lookup n (names_of c.args.newer.now.entries)) c.as_str.ensures.value in
    sym (held_below (base_of c.args.base) (names_of c.args.newer.now.entries) c.args.older.now.entries (c.behind_last-behind.result - 1) _ (sym c.in-Some.ensures.entry)
    (has_none (λ (v : Bor SharedValue). value_of v.now.value) c.find.result _ c.is_none.result found c.is_none.ensures c.if-is_none.true) lies)

pub loop-preserved : goal.loop-preserved
loop-preserved c =
    let base = base_of c.args.base in
    let newer = names_of c.args.newer.now.entries in
    let older = c.args.older.now.entries in
    let behind = c.behind_last-behind.result in
    let free = free_between base newer older c.args.marks.now c.mark_of-mark.result behind c.loop.behind c.requires.newer c.requires.marks (sym c.mark_of-mark.ensures)
    c.behind_last-behind.ensures.elsewhere c.behind_last-behind.ensures.within (omega (arith, c.loop.invariant.0)) c.loop.invariant.1 in
    let next : behind ≡ behind - 1 + 1 = omega (arith, c.if-behind-eq0.false) in
    let front = subst (λ j. model.is_held base (overridden newer (names_of (drop j older))) ≡ false) next free in
    let at = sym c.in-Some.ensures.entry in (
      omega (arith, c.loop.invariant.0, c.behind_last-behind.ensures.within, c.if-behind-eq0.false),
      elim c.if-lies_in.branch [
        | then-lies_in+else-is_none w ↦
            let found = w.find.ensures ∙ ap (λ n. model.lookup n newer) w.as_str.ensures.value in
            newer_below base newer older (behind - 1) _ at c.requires.newer
            (has_some (λ (v : Bor SharedValue). value_of v.now.value) w.find.result _ w.is_none.result found w.is_none.ensures w.if-is_none.false) front
        | else-lies_in w ↦
            let lies = sym (ap (λ v. values.lies_in base (value_of v)) c.as_ref.ensures) ∙ sym c.lies_in.ensures ∙ w.if-lies_in.false in
            free_below base newer older (behind - 1) _ at c.requires.newer lies front
      ],
    )

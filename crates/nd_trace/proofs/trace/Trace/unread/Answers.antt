use Rattle.std.proofs.Common.{◌≡◌, ◌∙◌, ◌||◌, true, false, cond, nat_eq, None, Some, sym, ap, arith}
use Rattle.std.proofs.lemmas.Bool.{false≢true}
use Rattle.std.proofs.lemmas.Bool.Decides.{nat_tests}
use Rattle.nd_heap.specs.Live.{is_base_among}
use Rattle.nd_heap.specs.Values.{base_of}
use Rattle.nd_trace.specs.Events.{seen_in}
use Rattle.nd_trace.specs.Noted.{unread_base}
use Rattle.nd_trace.specs.Seen.{Seen}
use Rattle.nd_trace.proofs.Traces.{found_base, or_right}
use Rattle.nd_trace.proofs.trace.Trace.unread.Goals.{then-base-self, else-base-self}
use Rattle.nd_trace.proofs.trace.Trace.unread.Goals as goal

pub returns-then-contains-clause-base : goal.returns-then-contains-clause-base
returns-then-contains-clause-base c =
    let b = base_of c.args.base in
    let t = seen_in c.self.inside in
    let there : (nat_eq b.label t.label || is_base_among t.lengths b) ≡ true = elim c.if-base-self.branch [
      | then-base-self w ↦ let own : nat_eq b.label t.label ≡ true = grind (arith, nat_tests, w.if-base-self.true) in ap (λ o. o || is_base_among t.lengths b) own
      | else-base-self w ↦ or_right (nat_eq b.label t.label) (is_base_among t.lengths b) (found_base c.args.base c.self.inside.lengths.keys ∙ sym w.contains.ensures ∙ sym w.value-is ∙ c.if-contains.true)
    ] in
    sym (ap (λ x. cond x None (Some b)) there) ∙ ap (λ (t : Seen). unread_base t b) c.self.view_is

pub returns-else-contains-clause-base : goal.returns-else-contains-clause-base
returns-else-contains-clause-base c =
    let b = base_of c.args.base in
    let t = seen_in c.self.inside in
    let new : (nat_eq b.label t.label || is_base_among t.lengths b) ≡ false = elim c.if-base-self.branch [
      | then-base-self w ↦ let own : nat_eq c.args.base.label c.self.inside.label ≡ true = grind (arith, nat_tests, w.if-base-self.true) in absurd (false≢true (sym c.if-contains.false ∙ w.value-is ∙ own))
      | else-base-self w ↦
          let other : nat_eq b.label t.label ≡ false = grind (arith, nat_tests, w.if-base-self.false) in
          ap (λ o. o || is_base_among t.lengths b) other ∙ found_base c.args.base c.self.inside.lengths.keys ∙ sym w.contains.ensures ∙ sym w.value-is ∙ c.if-contains.false
    ] in
    sym (ap (λ x. cond x None (Some b)) new) ∙ ap (λ (t : Seen). unread_base t b) c.self.view_is

pub returns-else-contains-clause-new : goal.returns-else-contains-clause-new
returns-else-contains-clause-new c =
    let b = base_of c.args.base in
    sym (ap (λ (t : Seen). is_base_among t.lengths b) c.self.view_is) ∙ elim c.if-base-self.branch [
      | then-base-self w ↦ let own : nat_eq c.args.base.label c.self.inside.label ≡ true = grind (arith, nat_tests, w.if-base-self.true) in absurd (false≢true (sym c.if-contains.false ∙ w.value-is ∙ own))
      | else-base-self w ↦ found_base c.args.base c.self.inside.lengths.keys ∙ sym w.contains.ensures ∙ sym w.value-is ∙ c.if-contains.false
    ]

use Rattle.std.proofs.Common.{◌≡◌, ◌+◌, ◌-◌, ◌≤◌, ℕ, List, map, length, drop, refl, sym, ap, ◌∙◌, subst, arith, length-take, length-drop}
use Rattle.std.specs.List.{All}
use Rattle.std.specs.Prelude.{Some}
use Rattle.std.proofs.lemmas.List.{length-map}
use Rattle.nd_assign.specs.HeldFields.{HoldsFields}
use Rattle.nd_model.specs.Making.Conversion.{converts}
use Rattle.nd_model.specs.Arrays.View.{ElementType, item_size}
use Rattle.nd_assign.specs.Copies.{with_copies}
use Rattle.nd_assign.specs.Prepared.{Prepared, written_by}
use Rattle.nd_assign.proofs.Parted.{moved_inside, apart}
use Rattle.nd_assign.proofs.Readied.{copies_written}
use Rattle.nd_assign.proofs.within.prepare_copied.Goals as goal

pub new-requires : goal.new-requires
new-requires c =
    let a = c.args in let s = a.source.now in let g = a.target.now in let block : List ℕ = a.block.now in let first = c.min-first.result in let end = c.min-end.result in
    let size : c.size.result ≡ item_size s.element = c.size.ensures.value ∙ ap item_size c.elem-2.ensures in
    let begins : All (λ q. first ≤ q) s.places = λ k d lt. let low = c.extent_of-extent.ensures.first k d lt in omega (arith, low, c.min-first.ensures) in
    let ends : All (λ q. q + item_size s.element ≤ first + (end - first)) s.places = λ k d lt.
    let low = c.extent_of-extent.ensures.first k d lt in let high = c.extent_of-extent.ensures.last k d lt in let inside = c.requires.held k d lt in
    omega (arith, low, high, inside, size, c.min-last.ensures, c.min-end.ensures, c.min-first.ensures) in
    let moved : All (λ p. p + item_size s.element ≤ end - first) (map (λ p. p - first) s.places) = moved_inside s.places first (item_size s.element) (end - first) begins ends in
    let long : length c.in_ok-read.read ≡ end - first
    = ap length c.in_ok-read.ensures ∙ omega (arith, length-take (end - first) (drop first block), length-drop first block, c.min-end.ensures) in
    record {
      types = ap (λ t. converts t g.element) c.in_ok-moved.ensures.element ∙ c.requires.types;
      counts = ap length c.in_ok-moved.ensures.places ∙ length-map s.places (λ p. p - first) ∙ c.requires.counts;
      out = c.requires.out;
      leads = subst (λ n. All (λ p. p + item_size c.in_ok-moved.moved.element ≤ n) c.in_ok-moved.moved.places) (sym long)
          (subst (λ (t : ElementType). All (λ p. p + item_size t ≤ end - first) c.in_ok-moved.moved.places) (sym c.in_ok-moved.ensures.element)
          (subst (λ ps. All (λ p. p + item_size s.element ≤ end - first) ps) (sym c.in_ok-moved.ensures.places) moved));
    }

pub returns-clause-written : goal.returns-clause-written
returns-clause-written c =
    let a = c.args in let s = a.source.now in let g = a.target.now in let block : List ℕ = a.block.now in let first = c.min-first.result in let end = c.min-end.result in
    let ready : Prepared = record { target = g; source = c.in_ok-moved.moved; bytes = Some c.in_ok-read.read; len = length block } in
    let size : c.size.result ≡ item_size s.element = c.size.ensures.value ∙ ap item_size c.elem-2.ensures in
    let begins : All (λ q. first ≤ q) s.places = λ k d lt. let low = c.extent_of-extent.ensures.first k d lt in omega (arith, low, c.min-first.ensures) in
    let ends : All (λ q. q + item_size s.element ≤ first + (end - first)) s.places = λ k d lt.
    let low = c.extent_of-extent.ensures.first k d lt in let high = c.extent_of-extent.ensures.last k d lt in let inside = c.requires.held k d lt in
    omega (arith, low, high, inside, size, c.min-last.ensures, c.min-end.ensures, c.min-first.ensures) in
    let moved : All (λ p. p + item_size s.element ≤ end - first) (map (λ p. p - first) s.places) = moved_inside s.places first (item_size s.element) (end - first) begins ends in
    let holds : HoldsFields s.element = subst HoldsFields c.elem.ensures c.hold_fields.ensures in
    ap (λ (p : Prepared). written_by p block) c.new.ensures ∙ sym (copies_written ready block refl)
    ∙ (λ i. with_copies g.element (c.in_ok-moved.ensures.element i) (c.in_ok-read.ensures i) g.places (c.in_ok-moved.ensures.places i) block)
    ∙ apart g.element s.element block first g.places s.places (end - first) block holds begins moved

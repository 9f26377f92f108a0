use Rattle.std.proofs.Common.{◌≡◌, ◌+◌, ◌<◌, ◌||◌, ◌∙◌, ◌∷◌, [], length, length-append, ap, sym, arith}
use Rattle.std.proofs.lemmas.Grind.{common_steps}
use Rattle.nd_marks.specs.Marks.{has_bit, pages_of}
use Rattle.nd_marks.proofs.Paging.{page_added}
use Rattle.nd_marks.proofs.pages.add_pages.Goals as goal

pub loop-words-preserved : goal.loop-words-preserved
loop-words-preserved c =
    let vs = c.loop-words.pages.items in
    let us = c.pop.new.self.items in
    let w = c.in-Some.words in
    let k : c.len-in-Some.result ≡ length us = grind (arith, common_steps, c.len-in-Some.ensures) in
    let one : length c.loop-words.more.items ≡ length us + 1 = ap length c.in-Some.ensures.items ∙ length-append us (w ∷ []) in
    let lt : c.len-in-Some.result < length vs = omega (arith, k, one, c.loop-words.invariant.room) in
    record {
      room = grind (arith, common_steps, one, c.loop-words.invariant.room);
      bits = λ p.
          page_added vs us c.len-in-Some.result w c.index_mut.result.now c.add_page.new.words k lt c.index_mut.ensures.value c.add_page.ensures p
          ∙ ap (λ ms. has_bit (pages_of vs) p || has_bit (pages_of ms) p) (sym c.in-Some.ensures.items) ∙ c.loop-words.invariant.bits p;
    }

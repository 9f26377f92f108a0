use Rattle.std.proofs.Common.{◌≡◌, ◌∙◌, ◌+◌, ◌*◌, ◌≤◌, ◌||◌, ◌&&◌, nat_lt, length, ap, arith}
use Rattle.nd_marks.specs.Marks.{has_bit, in_trues, pages_of}
use Rattle.nd_marks.proofs.Chosen.{trues_longer, trues_all}
use Rattle.nd_marks.proofs.trues.set_line.Goals as goal

pub loop-at-preserved : goal.loop-at-preserved
loop-at-preserved c = record {
  inside = c.in_ok-at.ensures.more.1;
  bits = λ p.
      let before : c.loop-at.at ≤ c.in_ok-at.at = omega (arith, c.in_ok-at.ensures.more.0) in
      let up : c.loop-at.at * c.args.size ≤ c.in_ok-at.at * c.args.size = grind (arith, before) in
      trues_longer (has_bit (pages_of c.set_next.new.pages.items) p) (has_bit (pages_of c.loop-at.pages.items) p) (has_bit (pages_of c.args.pages.now.items) p) (in_trues c.args.start c.args.size c.args.mask.now p) p
      (c.args.start + c.loop-at.at * c.args.size) (c.args.start + c.in_ok-at.at * c.args.size) (omega (arith, up))
      (c.in_ok-at.ensures.bits p) (c.loop-at.invariant.bits p);
}

pub returns : goal.returns
returns c = λ p.
    let all : c.loop-at.at ≡ length c.args.mask.now = omega (arith, c.loop-at.invariant.inside) in
    c.loop-at.invariant.bits p ∙ ap (λ n. has_bit (pages_of c.args.pages.now.items) p || (nat_lt p (c.args.start + n * c.args.size) && in_trues c.args.start c.args.size c.args.mask.now p)) all
    ∙ ap (λ t. has_bit (pages_of c.args.pages.now.items) p || t) (trues_all c.args.mask.now c.args.start c.args.size p c.requires.size.0)

use Rattle.std.proofs.Common.{◌≡◌, ◌+◌, ◌-◌, ◌*◌, ◌<◌, ◌∙◌, ◌&&◌, Bool, nat_le, nat_lt, true, false, cond, length, slice_index, sym, ap, inl, inr, arith, refl}
use Rattle.std.proofs.lemmas.Bool.{cases_Bool}
use Rattle.std.proofs.lemmas.Bool.Decides.{nat_tests}
use Rattle.nd_marks.specs.Marks.{has_bit, in_word, pages_of}
use Rattle.nd_marks.proofs.Paging.{bit_within, cond_or, length-pages_of, words_more}
use Rattle.nd_marks.proofs.bytes.patch_pages.Goals as goal

pub loop-at-preserved : goal.loop-at-preserved
loop-at-preserved c = record {
  len = c.patch_word.ensures.len ∙ c.loop-at.invariant.len;
  bytes = λ p lt.
      let ps = pages_of c.args.pages.now in
      let at = c.loop-at.at in
      let s = slice_index c.args.source.now p in
      let o = slice_index c.args.target.now p in
      let now : Bool = (nat_le (at * 64) p && nat_lt p (at * 64 + 64)) && in_word c.word_of.result (p - at * 64) in
      let before : Bool = nat_lt p (at * 64) && has_bit ps p in
      let less : p < length c.loop-at.target = omega (arith, lt, c.patch_word.ensures.len) in
      c.patch_word.ensures.bytes p less ∙ ap (cond now s) (c.loop-at.invariant.bytes p less) ∙ cond_or before now s o
      ∙ ap (λ t. cond t s o) (sym (words_more ps at c.next_index-at.result p c.word_of.result c.next_index-at.ensures.more c.word_of.ensures c.next_index-at.ensures.none));
}

pub returns-clause-bytes : goal.returns-clause-bytes
returns-clause-bytes c = λ p lt.
    let ps = pages_of c.args.pages.now in
    let s = slice_index c.args.source.now p in
    let o = slice_index c.args.target.now p in
    c.loop-at.invariant.bytes p (omega (arith, lt, c.loop-at.invariant.len)) ∙ ap (λ t. cond t s o) (elim (cases_Bool (has_bit ps p)) [
      | inl set ↦ let a : nat_lt p (c.loop-at.at * 64) ≡ true = grind (arith, nat_tests, bit_within ps p set, c.loop-at-test.false, length-pages_of c.args.pages.now) in rw a refl
      | inr unset ↦ rw unset (nothing (nat_lt p (c.loop-at.at * 64)))
    ])
  where
    nothing : (a : Bool) → (a && false) ≡ false
    nothing true = refl
    nothing false = refl

use Rattle.std.proofs.Common.{◌≡◌, ◌∙◌, ◌/◌, Vec, ℕ, length, sym, ap, arith}
use Rattle.std.specs.Global.{Global}
use Rattle.nd_marks.specs.Marks.{page_at, pages_of}
use Rattle.nd_marks.proofs.Paging.{page_here, word_added}
use Rattle.nd_marks.proofs.pages.add_word.Goals as goal

pub put_word-requires : goal.put_word-requires
put_word-requires c =
    let vs = c.open_page.new.pages.items in
    let old = c.index_mut.result.now in
    let same : page_at (pages_of vs) (c.args.at / 512) ≡ old.items = page_here vs (c.args.at / 512) old c.in_ok-open_page.ensures.there ∙ ap (λ (v : Vec ℕ Global). v.items) (sym c.index_mut.ensures.value) in
    omega (arith, c.in_ok-open_page.ensures.room, ap length same)

pub returns : goal.returns
returns c = λ q i.
    word_added c.args.pages.now.items c.open_page.new.pages.items c.args.at c.args.word c.index_mut.result.now c.put_word.new.words c.in_ok-open_page.ensures.there c.index_mut.ensures.value c.open_page.ensures.same c.put_word.ensures.bits q i

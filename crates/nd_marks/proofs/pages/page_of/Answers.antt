use Rattle.std.proofs.Common.{◌∙◌, ◌<◌, Vec, ℕ, length, sym, ap, arith}
use Rattle.std.specs.Global.{Global}
use Rattle.nd_marks.specs.Marks.{pages_of}
use Rattle.nd_marks.proofs.Paging.{length-pages_of, page_here, page_past}
use Rattle.nd_marks.proofs.pages.page_of.Goals as goal

pub returns-then-page-pages : goal.returns-then-page-pages
returns-then-page-pages c = sym (page_past (pages_of c.args.pages.now) c.args.page (omega (arith, length-pages_of c.args.pages.now, c.if-page-pages.true)))

pub returns : goal.returns
returns c =
    let lt : c.args.page < length c.args.pages.now = omega (arith, c.if-page-pages.false) in
    c.as_slice.ensures.value ∙ ap (λ (v : Vec ℕ Global). v.items) c.index-pages-page.is ∙ sym (page_here c.args.pages.now c.args.page c.index-pages-page.result lt)

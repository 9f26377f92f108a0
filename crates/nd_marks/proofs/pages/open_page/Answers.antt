use Rattle.std.proofs.Common.{◌≤◌, length, ap, arith}
use Rattle.nd_marks.specs.Marks.{page_at, pages_of}
use Rattle.nd_marks.proofs.Paging.{page_within}
use Rattle.nd_marks.proofs.pages.open_page.Goals as goal

pub returns-then-page_of-count-clause-there : goal.returns-then-page_of-count-clause-there
returns-then-page_of-count-clause-there c =
    let full : c.args.count ≤ length (page_at (pages_of c.args.pages.now.items) c.args.page) = omega (arith, c.if-page_of-count.true, ap length c.page_of.ensures, ap (λ ps. length (page_at (pages_of ps) c.from.result)) c.deref.ensures.value, ap (λ k. length (page_at (pages_of c.args.pages.now.items) k)) c.from.ensures) in
    page_within c.args.pages.now.items c.args.page c.args.count c.requires.some full

use Rattle.std.proofs.Common.{◌<◌, ◌≤◌, ◌∙◌, length, slice_index, ap, arith}
use Rattle.nd_marks.proofs.Paging.{page_alike, page_put}
use Rattle.nd_marks.proofs.pages.new_page.Goals as goal

pub returns-clause-same : goal.returns-clause-same
returns-clause-same c = λ k q.
    let lt : c.args.page < length c.extend_pages.new.pages.items = omega (arith, c.in_ok-extend_pages.ensures.ok) in
    page_alike c.extend_pages.new.pages.items c.args.page c.index_mut.result.now c.fill_page.new.words lt c.index_mut.ensures.value c.fill_page.ensures.same k q
    ∙ ap (λ ws. slice_index ws q) (c.extend_pages.ensures.same k)

pub returns-in_err-fill_page-clause-same : goal.returns-in_err-fill_page-clause-same
returns-in_err-fill_page-clause-same c = λ k q.
    let lt : c.args.page < length c.extend_pages.new.pages.items = omega (arith, c.in_ok-extend_pages.ensures.ok) in
    page_alike c.extend_pages.new.pages.items c.args.page c.index_mut.result.now c.fill_page.new.words lt c.index_mut.ensures.value c.fill_page.ensures.same k q
    ∙ ap (λ ws. slice_index ws q) (c.extend_pages.ensures.same k)

pub returns-clause-room : goal.returns-clause-room
returns-clause-room c =
    let lt : c.args.page < length c.extend_pages.new.pages.items = omega (arith, c.in_ok-extend_pages.ensures.ok) in
    let le : c.args.count ≤ length c.fill_page.new.words.items = omega (arith, c.in_ok-fill_page.ensures.ok, c.rounded_up.ensures.least) in
    rw (page_put c.extend_pages.new.pages.items c.args.page c.fill_page.new.words lt) le

use Rattle.std.proofs.Common.{rules, ◌≡◌, ℕ, List, length, pos, sym, ap, ◌∙◌}
use Rattle.std.specs.Int.{w128, cast_signed, cast_unsigned}
use Rattle.std.specs.Int.RustNames.{FitsSigned}
use mir.Facts.{to_z-of_z}
use Rattle.nd_model.specs.Arrays.Element.{size_of}
use Rattle.nd_model.specs.Arrays.Runs.{place_at, run_places}
use Rattle.nd_model.specs.Arrays.View.{One}
use Rattle.nd_convert.proofs.conversion.Contiguous.{contiguous_is, contiguous_within}
use Rattle.nd_convert.proofs.conversion.Pieces.{run_is}
use Rattle.nd_assign.specs.Copies.{with_copies}
use Rattle.nd_assign.proofs.kernel.copy_run.Goals as goal

pub copy_each-requires-clause-out : goal.copy_each-requires-clause-out
copy_each-requires-clause-out c =
    let a = c.args in
    let f : FitsSigned w128 c.from-size.result = search rules in
    let s : cast_signed w128 (cast_unsigned w128 c.from-size.result) ≡ pos (size_of a.to.kind) = to_z-of_z f ∙ c.from-size.ensures ∙ ap pos c.size.ensures.value in
    contiguous_within a.run.now c.start-start.result c.count-count.result (size_of a.to.kind) c.size-3.result _ c.count-count.ensures.value c.start-start.ensures s
    c.size-3.ensures.value (c.is_long_contiguous-is_contiguous.ensures.0 c.if-is_contiguous.true).1 (length a.out.now) c.requires.out

pub copy_each-requires-clause-held : goal.copy_each-requires-clause-held
copy_each-requires-clause-held c =
    let a = c.args in
    let f : FitsSigned w128 c.from-from_size.result = search rules in
    let s : cast_signed w128 (cast_unsigned w128 c.from-from_size.result) ≡ pos (size_of a.from.kind) = to_z-of_z f ∙ c.from-from_size.ensures ∙ ap pos c.size-2.ensures.value in
    contiguous_within a.from_run.now c.start-from_start.result c.count-count.result (size_of a.from.kind) c.size-then-is_contiguous.result _
    (c.count-count.ensures.value ∙ sym c.requires.counts) c.start-from_start.ensures s
    c.size-then-is_contiguous.ensures.value (c.is_contiguous.ensures.0 c.if-is_contiguous-2.true) (length a.bytes.now) c.requires.held

pub copy_each-requires-then-from_step-eq0-clause-out : goal.copy_each-requires-then-from_step-eq0-clause-out
copy_each-requires-then-from_step-eq0-clause-out c =
    let a = c.args in
    let f : FitsSigned w128 c.from-size.result = search rules in
    let s : cast_signed w128 (cast_unsigned w128 c.from-size.result) ≡ pos (size_of a.to.kind) = to_z-of_z f ∙ c.from-size.ensures ∙ ap pos c.size.ensures.value in
    contiguous_within a.run.now c.start-start.result c.count-count.result (size_of a.to.kind) c.size-3.result _ c.count-count.ensures.value c.start-start.ensures s
    c.size-3.ensures.value (c.is_long_contiguous-is_contiguous.ensures.0 c.if-is_contiguous-3.true).1 (length a.out.now) c.requires.out

pub returns-then-is_contiguous-2-clause-bytes : goal.returns-then-is_contiguous-2-clause-bytes
returns-then-is_contiguous-2-clause-bytes c =
    let a = c.args in let ps : List ℕ = a.run.now in let qs : List ℕ = a.from_run.now in let n = c.count-count.result in
    let start = c.start-start.result in let from = c.start-from_start.result in
    let f : FitsSigned w128 c.from-size.result = search rules in let g : FitsSigned w128 c.from-from_size.result = search rules in
    let s : cast_signed w128 (cast_unsigned w128 c.from-size.result) ≡ pos (size_of a.to.kind) = to_z-of_z f ∙ c.from-size.ensures ∙ ap pos c.size.ensures.value in
    let t : cast_signed w128 (cast_unsigned w128 c.from-from_size.result) ≡ pos (size_of a.from.kind) = to_z-of_z g ∙ c.from-from_size.ensures ∙ ap pos c.size-2.ensures.value in
    let m : n ≡ length ps = c.count-count.ensures.value in let k : n ≡ length qs = m ∙ sym c.requires.counts in
    let p : run_places start (cast_signed w128 (cast_unsigned w128 c.from-size.result)) n ≡ ps
    = contiguous_is ps start n (size_of a.to.kind) c.size-3.result _ m c.start-start.ensures s c.size-3.ensures.value (c.is_long_contiguous-is_contiguous.ensures.0 c.if-is_contiguous.true).1 in
    let q : run_places from (cast_signed w128 (cast_unsigned w128 c.from-from_size.result)) n ≡ qs
    = contiguous_is qs from n (size_of a.from.kind) c.size-then-is_contiguous.result _ k c.start-from_start.ensures t c.size-then-is_contiguous.ensures.value (c.is_contiguous.ensures.0 c.if-is_contiguous-2.true) in
    c.copy_each.ensures.bytes ∙ (λ i. with_copies (One a.to) (One a.from) a.bytes.now (p i) (q i) a.out.now)

pub returns-then-from_step-eq0-clause-bytes : goal.returns-then-from_step-eq0-clause-bytes
returns-then-from_step-eq0-clause-bytes c =
    let a = c.args in let ps : List ℕ = a.run.now in let qs : List ℕ = a.from_run.now in let n = c.count-count.result in
    let start = c.start-start.result in let from = c.start-from_start.result in let other = c.step-from_step.result in
    let f : FitsSigned w128 c.from-size.result = search rules in let g : FitsSigned w128 other = search rules in
    let s : cast_signed w128 (cast_unsigned w128 c.from-size.result) ≡ pos (size_of a.to.kind) = to_z-of_z f ∙ c.from-size.ensures ∙ ap pos c.size.ensures.value in
    let t : pos 0 ≡ other = ap (cast_signed w128) (sym c.if-from_step-eq0.true) ∙ to_z-of_z g in
    let m : n ≡ length ps = c.count-count.ensures.value in let k : n ≡ length qs = m ∙ sym c.requires.counts in
    let p : run_places start (cast_signed w128 (cast_unsigned w128 c.from-size.result)) n ≡ ps
    = contiguous_is ps start n (size_of a.to.kind) c.size-3.result _ m c.start-start.ensures s c.size-3.ensures.value (c.is_long_contiguous-is_contiguous.ensures.0 c.if-is_contiguous-3.true).1 in
    let q : run_places from (pos 0) n ≡ qs = (λ i. run_places from (t i) (k i)) ∙ run_is qs from other (λ j lt. ap (λ z. place_at z other j) c.start-from_start.ensures ∙ c.step-from_step.ensures.places j lt) in
    c.copy_each-then-from_step-eq0.ensures.bytes ∙ (λ i. with_copies (One a.to) (One a.from) a.bytes.now (p i) (q i) a.out.now)

pub returns-else-is_contiguous-3-clause-bytes : goal.returns-else-is_contiguous-3-clause-bytes
returns-else-is_contiguous-3-clause-bytes c =
    let a = c.args in let ps : List ℕ = a.run.now in let qs : List ℕ = a.from_run.now in let n = c.count-count.result in
    let start = c.start-start.result in let step = c.step-step.result in let from = c.start-from_start.result in let other = c.step-from_step.result in
    let f : FitsSigned w128 step = search rules in let g : FitsSigned w128 other = search rules in
    let s : cast_signed w128 (cast_unsigned w128 step) ≡ step = to_z-of_z f in
    let t : cast_signed w128 (cast_unsigned w128 other) ≡ other = to_z-of_z g in
    let m : n ≡ length ps = c.count-count.ensures.value in let k : n ≡ length qs = m ∙ sym c.requires.counts in
    let p : run_places start (cast_signed w128 (cast_unsigned w128 step)) n ≡ ps = (λ i. run_places start (s i) (m i)) ∙ run_is ps start step (λ j lt. ap (λ z. place_at z step j) c.start-start.ensures ∙ c.step-step.ensures.places j lt) in
    let q : run_places from (cast_signed w128 (cast_unsigned w128 other)) n ≡ qs = (λ i. run_places from (t i) (k i)) ∙ run_is qs from other (λ j lt. ap (λ z. place_at z other j) c.start-from_start.ensures ∙ c.step-from_step.ensures.places j lt) in
    c.copy_each-else-is_contiguous-3.ensures.bytes ∙ (λ i. with_copies (One a.to) (One a.from) a.bytes.now (p i) (q i) a.out.now)

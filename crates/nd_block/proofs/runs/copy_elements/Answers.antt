use Rattle.std.proofs.Common.{◌≡◌, suc, ◌+◌, ◌-◌, ◌++◌, ℤ, length, take, drop, sym, ap, ◌∙◌, subst, arith}
use Rattle.std.specs.Int.{w128, cast_signed, cast_unsigned}
use mir.Facts.{to_z-of_z}
use Rattle.nd_model.specs.Arrays.Runs.{AreWithin, AreApart, copied}
use Rattle.nd_block.proofs.Copied.{next}
use Rattle.nd_block.proofs.Together.{step_is}
use Rattle.nd_block.proofs.runs.copy_elements.Goals as goal

pub loop-k-preserved : goal.loop-k-preserved
loop-k-preserved c =
    let a = c.args in let xs = a.bytes.now in let acc = c.loop-k.bytes in let k = c.loop-k.k in
    let ds : ℤ = cast_signed w128 (cast_unsigned w128 a.dst_step) in let ss : ℤ = cast_signed w128 (cast_unsigned w128 a.src_step) in
    let e : ds ≡ a.dst_step = to_z-of_z c.ranges.dst_step in let e' : ss ≡ a.src_step = to_z-of_z c.ranges.src_step in
    let to = subst (λ z. AreWithin a.dst z a.size a.n (length xs)) (sym e) c.requires.dst in
    let from = subst (λ z. AreWithin a.src z a.size a.n (length xs)) (sym e') c.requires.src in
    let apart : AreApart a.dst ds a.src ss a.size a.n = subst (λ (z : ℤ × ℤ). AreApart a.dst z.0 a.src z.1 a.size a.n) (λ i. (sym e i, sym e' i)) c.requires.apart in
    let p = c.spot-to.result in let q = c.spot-from.result in let m = q + a.size - q in
    let all : m ≡ a.size = omega arith in
    let more : k + 1 ≡ suc k = omega arith in
    c.copy_within.ensures.after
    ∙ (λ i. take (c.spot-to.ensures i) (c.loop-k.invariant i) ++ take m (drop (c.spot-from.ensures i) (c.loop-k.invariant i)) ++ drop (c.spot-to.ensures i + m) (c.loop-k.invariant i))
    ∙ next a.dst ds a.src ss a.size a.n xs to from k c.loop-k-test.true apart m all
    ∙ ap (λ j. copied a.dst ds a.src ss a.size j xs) (sym more)

pub copy_block-requires-clause-dst : goal.copy_block-requires-clause-dst
copy_block-requires-clause-dst c =
    let a = c.args in let is = step_is a.dst_step a.size c.ranges.dst_step c.ranges.size.fits c.if-dst_step-size.true in
    subst (λ z. AreWithin a.dst z a.size a.n (length a.bytes.now)) is c.requires.dst

pub copy_block-requires-clause-src : goal.copy_block-requires-clause-src
copy_block-requires-clause-src c =
    let a = c.args in let is = step_is a.src_step a.size c.ranges.src_step c.ranges.size.fits c.if-src_step-size.true in
    subst (λ z. AreWithin a.src z a.size a.n (length a.bytes.now)) is c.requires.src

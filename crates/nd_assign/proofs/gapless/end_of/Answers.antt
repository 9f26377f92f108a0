use Rattle.std.proofs.Common.{◌≡◌, ◌*◌, ◌<◌, ℕ, List, length, get_or, arith}
use Rattle.nd_model.specs.Arrays.Element.{size_of}
use Rattle.nd_assign.proofs.Bytewise.{end_held, small_bytes}
use Rattle.nd_assign.proofs.gapless.end_of.Goals as goal

pub overflow_mul-result : goal.overflow_mul-result
overflow_mul-result c =
    let run : List ℕ = c.args.run.now in
    let some : 0 < length run = omega (arith, c.count.ensures.value, c.count.ensures.some) in
    let all : c.count.result * c.size.result ≡ length run * size_of c.args.elem.kind = λ i. c.count.ensures.value i * c.size.ensures.value i in
    let end = end_held run (size_of c.args.elem.kind) (get_or run 0 0) (length c.args.bytes.now) some c.requires.gapless c.requires.held in
    omega (arith, all, end)

pub overflow_add-result : goal.overflow_add-result
overflow_add-result c =
    let run : List ℕ = c.args.run.now in
    let some : 0 < length run = omega (arith, c.count.ensures.value, c.count.ensures.some) in
    let all : c.count.result * c.size.result ≡ length run * size_of c.args.elem.kind = λ i. c.count.ensures.value i * c.size.ensures.value i in
    let end = end_held run (size_of c.args.elem.kind) (get_or run 0 0) (length c.args.bytes.now) some c.requires.gapless c.requires.held in
    omega (arith, all, end, c.start.ensures)

pub returns-clause-inside : goal.returns-clause-inside
returns-clause-inside c =
    let run : List ℕ = c.args.run.now in
    let some : 0 < length run = omega (arith, c.count.ensures.value, c.count.ensures.some) in
    let all : c.count.result * c.size.result ≡ length run * size_of c.args.elem.kind = λ i. c.count.ensures.value i * c.size.ensures.value i in
    let end = end_held run (size_of c.args.elem.kind) (get_or run 0 0) (length c.args.bytes.now) some c.requires.gapless c.requires.held in
    omega (arith, all, end, c.start.ensures)

pub returns-clause-small : goal.returns-clause-small
returns-clause-small c = small_bytes c.args.bytes.now c.type_inv.bytes

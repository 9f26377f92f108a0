use Rattle.std.proofs.Common.{◌≡◌, ℕ, ℤ, ◌+◌, ◌-◌, ◌*◌, ◌<◌, ◌≤◌, List, ◌++◌, length, take, drop, sym, ap, ◌∙◌, arith, length-append, length-drop}
use Rattle.std.proofs.Math.Nat.{mul-le-mul_left}
use Rattle.std.proofs.Math.Seq.{take-append_seam}
use Rattle.std.proofs.lemmas.List.{length-map, length-take-le}
use Rattle.nd_model.specs.Arrays.Content.{number_at}
use Rattle.nd_model.specs.Arrays.Element.{Element, Kind, size_of, wrap, with_bytes}
use Rattle.nd_model.specs.Making.Elementwise.{little}
use Rattle.nd_types.specs.Kinds.{kind_of}
use Rattle.nd_assign.proofs.Bytewise.{put_bytes}
use Rattle.nd_element.specs.Elements.{numbers_at}
use Rattle.nd_ufunc.specs.Elementwise.Beside.{left_beside}
use Rattle.nd_ufunc.specs.Elementwise.Replaced.{replaced}
use Rattle.nd_ufunc.specs.Loops.Results.{result_bytes}
use Rattle.nd_ufunc.proofs.elementwise.Given.{given, given_bytes, given_written, given_values, length-given}
use Rattle.nd_ufunc.proofs.loops.Zipped.{length-result}
use Rattle.nd_ufunc.proofs.elementwise.replacing.replace_chunk.Goals as goal

-- numbers whose bytes fit a buffer are no more than it has bytes
in_buffer : (n size : ℕ) → n * size ≤ 8192 → 0 < size → n ≤ 8192
in_buffer n size few some = let most : n * 1 ≤ n * size = mul-le-mul_left n (omega (arith, some)) in omega (arith, most, few)

pub overflow_mul-len : goal.overflow_mul-len
overflow_mul-len g c =
    let bytes : c.count-count.result * c.size.result ≡ length c.args.part.now * size_of (kind_of c.args.plan.now.kinds.results) = λ i. c.count-count.ensures.value i * c.size.ensures.value i in
    omega (arith, bytes, c.requires.results)

pub find_results-requires-clause-out : goal.find_results-requires-clause-out
find_results-requires-clause-out g c =
    let bytes : c.count-count.result * c.size.result ≡ length c.args.part.now * size_of (kind_of c.args.plan.now.kinds.results) = λ i. c.count-count.ensures.value i * c.size.ensures.value i in
    length-take-le (c.count-count.result * c.size.result) c.args.buffer.now (omega (arith, bytes, c.requires.results)) ∙ bytes

pub overflow_mul-end : goal.overflow_mul-end
overflow_mul-end g c =
    let wide : c.count-count.result * c.size-2.result ≡ length c.args.part.now * size_of c.args.plan.now.kinds.elem.kind = λ i. c.count-count.ensures.value i * c.size-2.ensures.value i in
    omega (arith, wide, c.requires.room)

pub overflow_add-end : goal.overflow_add-end
overflow_add-end g c =
    let wide : c.count-count.result * c.size-2.result ≡ length c.args.part.now * size_of c.args.plan.now.kinds.elem.kind = λ i. c.count-count.ensures.value i * c.size-2.ensures.value i in
    omega (arith, wide, c.start-start.ensures, c.requires.room)

pub slice_bounds-write_numbers-end : goal.slice_bounds-write_numbers-end
slice_bounds-write_numbers-end g c =
    let wide : c.count-count.result * c.size-2.result ≡ length c.args.part.now * size_of c.args.plan.now.kinds.elem.kind = λ i. c.count-count.ensures.value i * c.size-2.ensures.value i in
    omega (arith, wide, c.start-start.ensures, c.requires.room)

pub write_numbers-requires-clause-out : goal.write_numbers-requires-clause-out
write_numbers-requires-clause-out g c =
    let a = c.args in let s = size_of a.plan.now.kinds.elem.kind in let n = c.count-count.result in let bytes : List ℕ = a.bytes.now in
    let wide : n * c.size-2.result ≡ length a.part.now * s = λ i. c.count-count.ensures.value i * c.size-2.ensures.value i in
    let start : ℕ = c.start-start.result in
    let m : ℕ = start + n * c.size-2.result - start in
    let many : m ≡ length a.part.now * s = omega (arith, wide) in
    length-take-le m (drop start bytes) (omega (arith, length-drop start bytes, many, c.start-start.ensures, c.requires.room)) ∙ many ∙ ap (λ j. j * s) (sym c.count-count.ensures.value)

pub write_numbers-requires-clause-results : goal.write_numbers-requires-clause-results
write_numbers-requires-clause-results g c =
    let a = c.args in let k : Kind = kind_of a.plan.now.kinds.results in let n = c.count-count.result in let len : ℕ = n * c.size.result in
    let buffer = a.buffer.now in let results : List ℕ = c.find_results.new.out in
    let narrow : len ≡ length a.part.now * size_of k = λ i. c.count-count.ensures.value i * c.size.ensures.value i in
    let long : length results ≡ len = c.find_results.auto.out ∙ length-take-le len buffer (omega (arith, narrow, c.requires.results)) in
    length-take-le len (results ++ drop len buffer) (omega (arith, length-append results (drop len buffer), long)) ∙ (λ i. n * c.size.ensures.value i)

pub write_numbers-requires-clause-few : goal.write_numbers-requires-clause-few
write_numbers-requires-clause-few g c =
    let k : Kind = kind_of c.args.plan.now.kinds.results in
    let narrow : c.count-count.result * size_of k ≡ length c.args.part.now * size_of k = ap (λ j. j * size_of k) c.count-count.ensures.value in
    omega (arith, narrow, c.requires.results)

pub returns-clause-bytes : goal.returns-clause-bytes
returns-clause-bytes g c =
    let a = c.args in let e : Element = a.plan.now.kinds.elem in let s = size_of e.kind in let k : Kind = kind_of a.plan.now.kinds.results in
    let f : ℤ → ℤ → ℤ = g.O.Operation.gives k in
    let bytes : List ℕ = a.bytes.now in let part : List ℕ = a.part.now in let n = c.count-count.result in let len : ℕ = n * c.size.result in
    let X : List ℤ = numbers_at e bytes part in let Y : List ℤ = take (length part) (left_beside a.beside.now bytes) in
    let buffer = a.buffer.now in let results : List ℕ = c.find_results.new.out in let zs : List ℤ = given f X Y in
    let narrow : len ≡ length part * size_of k = λ i. c.count-count.ensures.value i * c.size.ensures.value i in
    let wide : n * c.size-2.result ≡ length part * s = λ i. c.count-count.ensures.value i * c.size-2.ensures.value i in
    let X_long : length X ≡ length part = length-map part (number_at e bytes) in
    let Y_long : length Y ≡ length part = length-take-le (length part) (left_beside a.beside.now bytes) c.requires.enough in
    let found : results ≡ result_bytes (little k) f X Y = c.find_results.ensures.out in
    let long : length results ≡ len = ap length found ∙ length-result (little k) f X Y (X_long ∙ sym Y_long) ∙ ap (λ j. j * size_of k) X_long ∙ sym narrow in
    let pushed : take len (results ++ drop len buffer) ≡ results = ap (λ j. take j (results ++ drop len buffer)) (sym long) ∙ take-append_seam results (drop len buffer) in
    let many : length zs ≡ n = length-given f X Y (X_long ∙ sym Y_long) ∙ X_long ∙ sym c.count-count.ensures.value in
    let W : List ℕ = c.write_numbers.new.out in
    let W_is : W ≡ replaced e f X Y
    = c.write_numbers.ensures zs (given_values f k X Y c.requires.wraps) many (pushed ∙ found ∙ given_bytes f (little k) X Y) ∙ given_written f e X Y in
    let start : ℕ = c.start-start.result in
    let m : ℕ = start + n * c.size-2.result - start in
    let W_long : length W ≡ m
    = ap length W_is ∙ length-result e (λ x y. wrap e.kind (f x y)) X Y (X_long ∙ sym Y_long) ∙ ap (λ j. j * s) X_long ∙ omega (arith, wide) in
    put_bytes start m bytes W W_long ∙ (λ i. with_bytes bytes (c.start-start.ensures i) (W_is i))

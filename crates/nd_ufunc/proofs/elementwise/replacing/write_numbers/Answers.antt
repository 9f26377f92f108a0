use Rattle.std.proofs.Common.{◌≡◌, ℕ, ◌+◌, ◌*◌, ◌<◌, ◌≤◌, List, Option, length, take, sym, ap, ◌∙◌, subst, arith}
use Rattle.std.specs.Prelude.{IfSome}
use Rattle.std.proofs.Math.Nat.{mul-le-mul_left}
use Rattle.std.proofs.lemmas.List.{length-map}
use Rattle.nd_model.specs.Arrays.Element.{Element, size_of}
use Rattle.nd_model.specs.Arrays.Tuple.{count_up}
use Rattle.nd_model.specs.Making.Elementwise.{little}
use Rattle.nd_model.proofs.Puts.{take-count_up}
use Rattle.nd_types.specs.Kinds.{kind_of}
use Rattle.nd_types.proofs.Sized.{some_bytes}
use Rattle.nd_view.proofs.Tuples.{length-count_up}
use Rattle.nd_view.specs.SideBySide.{side_by_side}
use Rattle.nd_convert.specs.Conversion.Converted.{converted_bytes}
use Rattle.nd_ufunc.specs.Elementwise.Replaced.{written_numbers}
use Rattle.nd_ufunc.proofs.elementwise.Given.{kept_values, converted_values}
use Rattle.nd_ufunc.proofs.elementwise.replacing.write_numbers.Goals as goal

-- numbers whose bytes fit a buffer are no more than it has bytes
in_buffer : (n size : ℕ) → n * size ≤ 8192 → 0 < size → n ≤ 8192
in_buffer n size few some = let most : n * 1 ≤ n * size = mul-le-mul_left n (omega (arith, some)) in omega (arith, most, few)

pub returns-then-is_elem : goal.returns-then-is_elem
returns-then-is_elem c = λ zs are many is.
    let own : c.args.elem ≡ little (kind_of c.args.to) = c.is_elem.ensures.0 c.if-is_elem.true ∙ c.little-own.ensures in
    c.copy_from_slice.ensures.after ∙ is ∙ kept_values (little (kind_of c.args.to)) zs are ∙ (λ i. written_numbers (sym own i) zs)

pub returns-in-Some : goal.returns-in-Some
returns-in-Some c = λ zs are many is.
    let from : Element = little (kind_of c.args.to) in let out : List ℕ = c.args.results.now in let s = size_of from.kind in let n = c.args.count in
    let all : c.in-Some.places ≡ side_by_side s 0 8192 = subst (λ (o : Option (List ℕ)). IfSome o (λ run. run ≡ side_by_side s 0 8192)) c.in-Some.is c.requires.places in
    let few : n ≤ 8192 = in_buffer n s c.requires.few (some_bytes (kind_of c.args.to)) in
    let places : c.part.result ≡ side_by_side s 0 (length zs)
    = c.part.ensures ∙ ap (take n) all ∙ take-count_up (λ k. 0 + k * s) 0 8192 n few ∙ ap (side_by_side s 0) (sym many) in
    c.convert.ensures ∙ (λ i. converted_bytes c.args.elem (c.little-own.ensures i) out (places i)) ∙ converted_values c.args.elem from zs out are is

pub returns-in-None : goal.returns-in-None
returns-in-None c = λ zs are many is.
    let from : Element = little (kind_of c.args.to) in let out : List ℕ = c.args.results.now in
    c.convert_each.ensures ∙ (λ i. converted_bytes c.args.elem (c.little-own.ensures i) out (side_by_side (size_of (c.little-own.ensures i).kind) 0 (sym many i)))
    ∙ converted_values c.args.elem from zs out are is

pub part-requires-clause-inside : goal.part-requires-clause-inside
part-requires-clause-inside c =
    let s = size_of (kind_of c.args.to) in
    let all : c.in-Some.places ≡ side_by_side s 0 8192 = subst (λ (o : Option (List ℕ)). IfSome o (λ run. run ≡ side_by_side s 0 8192)) c.in-Some.is c.requires.places in
    let long : length c.in-Some.places ≡ 8192 = ap length all ∙ length-map (count_up 0 8192) (λ k. 0 + k * s) ∙ length-count_up 0 8192 in
    let few : c.args.count ≤ 8192 = in_buffer c.args.count s c.requires.few (some_bytes (kind_of c.args.to)) in
    omega (arith, few, long)

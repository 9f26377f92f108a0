use Rattle.std.proofs.Common.{◌≡◌, ◌*◌, ◌++◌, ◌≤◌, ℕ, List, length, take, replicate, get_or, sym, ap, ◌∙◌, arith, append-nil, length-take}
use Rattle.std.proofs.Math.Nat.{mul-le-mul_right}
use Rattle.std.proofs.lemmas.List.{take-replicate}
use Rattle.nd_model.specs.Arrays.Element.{size_of}
use Rattle.nd_convert.specs.Conversion.Converted.{converted_bytes}
use Rattle.nd_assign.proofs.Rewritten.{chunk_more, chunk_less}
use Rattle.nd_assign.proofs.rewriting.repeat_number.Goals as goal

pub loop-left-init : goal.loop-left-init
loop-left-init c =
    let a = c.args in let qs : List ℕ = a.run.now in let q = get_or qs 0 0 in
    let f : List ℕ → List ℕ = converted_bytes a.to a.from a.bytes.now in
    record {
      inside = omega (arith, c.count-count.ensures.value);
      left = c.in_ok-out.ensures.1 ∙ ap (λ s. c.count-count.result * s) c.size-size.ensures.value;
      written = ap (λ l. l ++ f (replicate c.count-count.result q)) c.in_ok-out.ensures.0
          ∙ ap f (ap (λ n. replicate n q) c.count-count.ensures.value ∙ sym c.requires.equal);
    }

pub push-requires : goal.push-requires
push-requires c =
    let next = c.min-next.result in
    let few : next ≤ c.loop-left.left = omega (arith, c.min-next.ensures) in
    let most : next * c.size-size.result ≤ c.loop-left.left * c.size-size.result = mul-le-mul_right c.size-size.result few in
    let all : c.loop-left.left * c.size-size.result ≡ c.loop-left.out.1 = ap (λ s. c.loop-left.left * s) c.size-size.ensures.value ∙ sym c.loop-left.invariant.left in
    omega (arith, length-take {A = ℕ}, most, all)

pub loop-left-preserved : goal.loop-left-preserved
loop-left-preserved c =
    let a = c.args in let qs : List ℕ = a.run.now in let q = get_or qs 0 0 in let next = c.min-next.result in let some = c.min-some.result in
    let f : List ℕ → List ℕ = converted_bytes a.to a.from a.bytes.now in
    let few : next ≤ some = omega (arith, c.min-next.ensures) in
    let inside : next ≤ c.loop-left.left = omega (arith, c.min-next.ensures) in
    let bytes : next * c.size-size.result ≡ next * size_of a.to.kind = ap (λ s. next * s) c.size-size.ensures.value in
    let le : some ≤ length qs = omega (arith, c.min-some.ensures, c.count-count.ensures.value) in
    let is : c.convert.new.out ≡ f (replicate some q)
    = c.convert.ensures ∙ ap f (c.part-part.ensures ∙ ap (take some) c.requires.equal ∙ take-replicate some (length qs) q le) in
    record {
      inside = omega (arith, c.loop-left.invariant.inside);
      left = chunk_less a.to a.from a.bytes.now q some next (next * c.size-size.result) few bytes c.convert.new.out is c.loop-left.left c.push.new.self.1 c.loop-left.out.1 _ inside
          c.push.ensures.left c.loop-left.invariant.left;
      written = chunk_more a.to a.from a.bytes.now q some next (next * c.size-size.result) few bytes c.convert.new.out is c.loop-left.left c.loop-left.out.0 _ c.push.new.self.0 (f qs) inside
          c.push.ensures.written c.loop-left.invariant.written;
    }

pub finish-requires : goal.finish-requires
finish-requires c =
    let none : c.loop-left.left ≡ 0 = omega (arith, c.loop-left-test.false) in
    c.loop-left.invariant.left ∙ ap (λ n. n * size_of c.args.to.kind) none ∙ omega arith

pub returns : goal.returns
returns c =
    let a = c.args in let q = get_or a.run.now 0 0 in
    let none : 0 ≡ c.loop-left.left = omega (arith, c.loop-left-test.false) in
    c.finish.ensures ∙ sym (append-nil c.loop-left.out.0)
    ∙ ap (λ n. c.loop-left.out.0 ++ converted_bytes a.to a.from a.bytes.now (replicate n q)) none ∙ c.loop-left.invariant.written

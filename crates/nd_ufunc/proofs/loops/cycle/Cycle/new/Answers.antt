use Rattle.std.proofs.Common.{◌≡◌, ℕ, ◌+◌, ◌-◌, ◌*◌, ◌/◌, ◌%◌, ◌<◌, ◌≤◌, ◌++◌, List, map, length, take, drop, sym, ap, ◌∙◌, subst, arith, length-append, length-drop}
use Rattle.std.proofs.Math.Nat.{div-le_of_le-mul, div-mul-le_self}
use Rattle.std.proofs.lemmas.List.{length-take-le}
use Rattle.std.proofs.lemmas.Nat.{le-div}
use Rattle.nd_model.specs.Arrays.Content.{number_at}
use Rattle.nd_model.specs.Arrays.Element.{Element, Kind, size_of}
use Rattle.nd_model.specs.Making.Elementwise.{little}
use Rattle.nd_model.specs.Arrays.Tuple.{count_up}
use Rattle.nd_types.specs.Kinds.{kind_of}
use Rattle.nd_convert.specs.Conversion.Converted.{converted_bytes}
use Rattle.nd_ufunc.proofs.loops.Cycles.{first_again, all_are}
use Rattle.nd_ufunc.proofs.loops.cycle.Cycle.new.Goals as goal

pub invariant_of-result : goal.invariant_of-result
invariant_of-result c =
    let a = c.args in let size = c.size-size.result in let n = 8704 / size in let k : Kind = kind_of a.kind in let e : Element = little k in let s = size_of k in
    let places : List ℕ = a.view.now.places in let part : List ℕ = c.gather.new.out in let rest : List ℕ = drop (n * size) a.room.now in
    let width : size ≡ s = c.size-size.ensures.value in
    let most : n * size ≤ 8704 = div-mul-le_self 8704 size in
    let long : length part ≡ n * size = c.gather.auto.out ∙ length-take-le (n * size) a.room.now (omega (arith, most)) in
    let longs : length part ≡ n * s = long ∙ ap (λ w. n * w) width in
    let all : c.next-run.result ++ c.next-run.new.self ≡ places = sym c.next-run.ensures.split ∙ c.new-walk.ensures in
    let is : part ≡ converted_bytes e a.elem a.bytes.now (take n places) = c.gather.ensures.bytes ∙ ap (λ ps. converted_bytes e a.elem a.bytes.now (take n ps)) all in
    let enough : n ≤ length places = div-le_of_le-mul size (subst (λ w. 8704 ≤ w * length places) (sym width) c.requires.many) in
    let some : 0 < s = omega (arith, c.size-size.ensures.range, width) in
    let turns : 8704 / s ≡ n = ap (λ w. 8704 / w) (sym width) in
    record {
      some = c.requires.some;
      few = c.requires.few;
      within = omega arith;
      room = length-append part rest ∙ omega (arith, long, length-drop (n * size) a.room.now, most);
      again = λ j le. first_again e a.elem a.bytes.now places n enough part rest c.numbers_are_valid.ensures c.requires.keeps longs is a.period c.requires.some c.requires.turns j
          (omega (arith, le-div (j + 1) 8704 s some le, turns));
    }

pub returns-clause-numbers : goal.returns-clause-numbers
returns-clause-numbers c =
    let a = c.args in let size = c.size-size.result in let n = 8704 / size in let k : Kind = kind_of a.kind in let e : Element = little k in let s = size_of k in
    let places : List ℕ = a.view.now.places in let part : List ℕ = c.gather.new.out in let rest : List ℕ = drop (n * size) a.room.now in
    let width : size ≡ s = c.size-size.ensures.value in
    let most : n * size ≤ 8704 = div-mul-le_self 8704 size in
    let long : length part ≡ n * s = c.gather.auto.out ∙ length-take-le (n * size) a.room.now (omega (arith, most)) ∙ ap (λ w. n * w) width in
    let all : c.next-run.result ++ c.next-run.new.self ≡ places = sym c.next-run.ensures.split ∙ c.new-walk.ensures in
    let is : part ≡ converted_bytes e a.elem a.bytes.now (take n places) = c.gather.ensures.bytes ∙ ap (λ ps. converted_bytes e a.elem a.bytes.now (take n ps)) all in
    let enough : n ≤ length places = div-le_of_le-mul size (subst (λ w. 8704 ≤ w * length places) (sym width) c.requires.many) in
    let small : 64 * size ≤ 8704 = omega (arith, c.size-size.ensures.range) in
    let few : a.period ≤ n = omega (arith, le-div 64 8704 size (omega (arith, c.size-size.ensures.range)) small, c.requires.few) in
    let counted : c.count.result - 0 ≡ length places = omega (arith, c.count.ensures.value) in
    ap (λ m. map (λ k. number_at e (part ++ rest) (k % a.period * s)) (count_up 0 m)) counted
    ∙ all_are e a.elem a.bytes.now places n enough part rest c.numbers_are_valid.ensures c.requires.keeps long is a.period c.requires.some c.requires.turns few

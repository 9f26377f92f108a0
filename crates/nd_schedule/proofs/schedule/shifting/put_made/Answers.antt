use Rattle.std.proofs.Common.{◌≡◌, ℕ, ◌<◌, List, length, map, get_or, set, Option, Some, refl, ap, subst, ◌∙◌, arith}
use Rattle.std.specs.Prelude.{MatchOption}
use Rattle.std.proofs.lemmas.Grind.{get_or-set_at}
use Rattle.std.proofs.lemmas.List.{get_or-set_other, length-map}
use Rattle.nd_model.proofs.EditKept.{map-slice_set}
use Rattle.nd_change.specs.Steps.{IsWordOf}
use Rattle.nd_schedule.proofs.schedule.Kept.{word_one}
use Rattle.nd_schedule.proofs.schedule.Standing.{if_some}
use Rattle.nd_schedule.proofs.schedule.shifting.put_made.Goals as goal

match_some : {X : Type 0} (A : Type 0) (P : X → Type 0) (o : Option X) (x : X) → o ≡ Some x → MatchOption o A P → P x
match_some A P o x is h = subst (λ o. MatchOption o A P) is h

put_there : {X Y : Type 0} (f : X → Y) (xs : List X) (p : ℕ) (x : X) (d : Y) → p < length xs → get_or (map f (set xs p x)) p d ≡ f x
put_there f xs p x d lt = ap (λ ys. get_or ys p d) (map-slice_set f xs p x) ∙ get_or-set_at (map f xs) p p (f x) d refl (omega (arith, length-map xs f))

put_elsewhere : {X Y : Type 0} (f : X → Y) (xs : List X) (p k : ℕ) (x : X) (d : Y) → ¬ (k ≡ p) → get_or (map f (set xs p x)) k d ≡ get_or (map f xs) k d
put_elsewhere f xs p k x d ne = ap (λ ys. get_or ys k d) (map-slice_set f xs p x) ∙ get_or-set_other (map f xs) p k (f x) d ne

pub returns-in-Some-clause-there : goal.returns-in-Some-clause-there
returns-in-Some-clause-there g c = λ r x h.
    put_there (λ r. g.C.CellRunner.recorded r.value) c.args.records.now.items c.args.at c.in-Some.field-0.record r c.requires.at ∙ match_some _ (λ n. g.C.CellRunner.recorded n.record.value ≡ x) c.args.made _ c.in-Some.is h

pub returns-in-Some-clause-others : goal.returns-in-Some-clause-others
returns-in-Some-clause-others g c = λ k r other. put_elsewhere (λ r. g.C.CellRunner.recorded r.value) c.args.records.now.items c.args.at k c.in-Some.field-0.record r other

pub returns-in-Some-clause-words : goal.returns-in-Some-clause-words
returns-in-Some-clause-words g c = λ all.
    word_one g.C.CellRunner.covers (λ r. g.C.CellRunner.recorded r.value) c.args.records.now.items _ c.args.words.now.items _ c.in-Some.field-0.record c.in-Some.field-0.word c.args.at refl refl c.requires.at c.requires.many
    (if_some (λ n. IsWordOf g.C.CellRunner.covers n.word (g.C.CellRunner.recorded n.record.value)) c.args.made _ c.in-Some.is c.requires.worded) all

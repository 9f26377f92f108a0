-- Grammars with the same texts and fronts, part by part.
use Rattle.std.proofs.Common.{ℕ, List, inl, inr}
use Rattle.nd_model.specs.Grammar.Grammar.{Gram, Then, Or}
use Rattle.nd_model.specs.Grammar.Faults.{IsBelow}

pub below_refl : {T C : Type 0} (kind : List T → ℕ) (g : Gram T C) → IsBelow kind g g
below_refl kind g = record { spans = λ ts rest c h. h; reaches = λ ts rest h. h; opens = λ ts rest w h. h }

pub below_trans : {T C : Type 0} (kind : List T → ℕ) (f g h : Gram T C) → IsBelow kind f g → IsBelow kind g h → IsBelow kind f h
below_trans kind f g h p q = record {
  spans = λ ts rest c x. q.spans ts rest c (p.spans ts rest c x);
  reaches = λ ts rest x. q.reaches ts rest (p.reaches ts rest x);
  opens = λ ts rest w x. q.opens ts rest w (p.opens ts rest w x);
}

pub below_then : {T A B C : Type 0} (kind : List T → ℕ) (f : A → B → C) (a a' : Gram T A) (b b' : Gram T B) → IsBelow kind a a' → IsBelow kind b b' → IsBelow kind (Then f a b) (Then f a' b')
below_then kind f a a' b b' p q = record {
  spans = λ ts rest c h. (h.0, h.1, h.2, p.spans ts h.0 h.1 h.3, q.spans h.0 rest h.2 h.4, h.5);
  reaches = λ ts rest h. elim h [ inl x ↦ inl (p.reaches ts rest x) | inr x ↦ inr (x.0, x.1, p.spans ts x.0 x.1 x.2, q.reaches x.0 rest x.3) ];
  opens = λ ts rest w h. elim h [ inl x ↦ inl (p.opens ts rest w x) | inr x ↦ inr (x.0, x.1, p.spans ts x.0 x.1 x.2, q.opens x.0 rest w x.3) ];
}

-- The sets of Or and Many don't matter.
pub below_or : {T C : Type 0} (kind : List T → ℕ) (s s' : ℕ) (a a' b b' : Gram T C) → IsBelow kind a a' → IsBelow kind b b' → IsBelow kind (Or s a b) (Or s' a' b')
below_or kind s s' a a' b b' p q = record {
  spans = λ ts rest c h. elim h [ inl x ↦ inl (p.spans ts rest c x) | inr x ↦ inr (q.spans ts rest c x) ];
  reaches = λ ts rest h. elim h [ inl x ↦ inl (p.reaches ts rest x) | inr x ↦ inr (q.reaches ts rest x) ];
  opens = λ ts rest w h. elim h [ inl x ↦ inl (p.opens ts rest w x) | inr x ↦ inr (q.opens ts rest w x) ];
}

-- What is left is an end of the tokens, so no tokens have two faults.
use Rattle.std.proofs.Common.{◌≡◌, ◌≢◌, ℕ, suc, zero, List, [], ◌∷◌, ◌++◌, length, append_assoc, refl, sym, ap, subst, ◌∙◌, arith, inl, inr}
use Rattle.std.proofs.lemmas.List.{length-append}
use Rattle.nd_model.specs.Grammar.Grammar.{Stop, Gram, Done, Here, One, Then, Or, Many, Shut, Repeats, Spans, Reaches, Opens}
use Rattle.nd_model.specs.Grammar.Faults.{HasFault}

abbrev pub IsEnd : {T : Type 0} → List T → List T → Type 0
IsEnd {T} ts rest = (front : List T) × (ts ≡ front ++ rest)

end_then : {T : Type 0} (ts mid rest : List T) → IsEnd ts mid → IsEnd mid rest → IsEnd ts rest
end_then ts mid rest p q = (p.0 ++ q.0, p.1 ∙ ap (λ l. p.0 ++ l) q.1 ∙ sym (append_assoc p.0 q.0 rest))

end_same : {T : Type 0} (ts rest : List T) → rest ≡ ts → IsEnd ts rest
end_same ts rest e = ([], sym e)

end_many : {T A : Type 0} (R : List T → List T → A → Type 0) → ((ts rest : List T) (x : A) → R ts rest x → IsEnd ts rest) → (xs : List A) (ts rest : List T) → Repeats R ts rest xs → IsEnd ts rest
end_many R f [] ts rest h = end_same ts rest h
end_many R f (x ∷ xs) ts rest h = end_then ts h.0 rest (f ts h.0 x h.1) (end_many R f xs h.0 rest h.2)

pub text_end : {T C : Type 0} (kind : List T → ℕ) (g : Gram T C) (ts rest : List T) (c : C) → Spans kind g ts rest c → IsEnd ts rest
text_end kind (Done c) ts rest d h = end_same ts rest h.0
text_end kind (Here f) ts rest d h = end_same ts rest h.0
text_end kind (One set f) ts rest d h = (h.0 ∷ [], h.1)
text_end kind (Then f a b) ts rest d h = end_then ts h.0 rest (text_end kind a ts h.0 h.1 h.3) (text_end kind b h.0 rest h.2 h.4)
text_end kind (Or set a b) ts rest d (inl h) = text_end kind a ts rest d h
text_end kind (Or set a b) ts rest d (inr h) = text_end kind b ts rest d h
text_end kind (Many set f a) ts rest d h = end_many (Spans kind a) (λ ts rest x s. text_end kind a ts rest x s) h.0 ts rest h.1
text_end kind (Shut set why) ts rest d h = absurd h

pub front_end : {T C : Type 0} (kind : List T → ℕ) (g : Gram T C) (ts rest : List T) → Reaches kind g ts rest → IsEnd ts rest
front_end kind (Done c) ts rest h = end_same ts rest h
front_end kind (Here f) ts rest h = end_same ts rest h
front_end kind (One set f) ts rest (inl h) = end_same ts rest h
front_end kind (One set f) ts rest (inr h) = (h.0 ∷ [], h.1)
front_end kind (Then f a b) ts rest (inl h) = front_end kind a ts rest h
front_end kind (Then f a b) ts rest (inr h) = end_then ts h.0 rest (text_end kind a ts h.0 h.1 h.2) (front_end kind b h.0 rest h.3)
front_end kind (Or set a b) ts rest (inl h) = front_end kind a ts rest h
front_end kind (Or set a b) ts rest (inr h) = front_end kind b ts rest h
front_end kind (Many set f a) ts rest h =
    end_then ts h.0 rest (end_many (Spans kind a) (λ ts rest x s. text_end kind a ts rest x s) h.1 ts h.0 h.2)
    (elim h.3 [ inl e ↦ end_same h.0 rest e | inr r ↦ front_end kind a h.0 rest r ])
front_end kind (Shut set why) ts rest h = end_same ts rest h

-- ends of one length are one
same_end : {T : Type 0} (f g a b : List T) → f ++ a ≡ g ++ b → length a ≡ length b → a ≡ b
same_end [] [] a b e l = e
same_end [] (y ∷ g) a b e l = absurd (omega (arith, ap length e, length-append g b))
same_end (x ∷ f) [] a b e l = absurd (omega (arith, ap length e, length-append f a))
same_end (x ∷ f) (y ∷ g) a b e l = same_end f g a b (let t : f ++ a ≡ g ++ b = cc in t) l

same_why : (a b : ℕ) → (a ≢ 0 → b ≡ a) → (b ≢ 0 → a ≡ b) → a ≡ b
same_why zero zero f g = refl
same_why zero (suc b) f g = g (λ e. absurd (omega arith))
same_why (suc a) b f g = sym (f (λ e. absurd (omega arith)))

pub one_fault : {T C : Type 0} (kind : List T → ℕ) (g : Gram T C) (ts : List T) (s t : Stop) → HasFault kind g ts s → HasFault kind g ts t → s ≡ t
one_fault kind g ts s t p q =
    let up = p.at.longest q.rest q.at.front in
    let down = q.at.longest p.rest p.at.front in
    let left : length p.rest ≡ length q.rest = omega arith in
    let fp = front_end kind g ts p.rest p.at.front in
    let fq = front_end kind g ts q.rest q.at.front in
    let same : p.rest ≡ q.rest = same_end fp.0 fq.0 p.rest q.rest (sym fp.1 ∙ fq.1) left in
    let why : s.why ≡ t.why = same_why s.why t.why
    (λ d. (q.why s.why d).1 (subst (λ r. Opens kind g ts r s.why) same ((p.why s.why d).0 refl)))
    (λ d. (p.why t.why d).1 (subst (λ r. Opens kind g ts r t.why) (sym same) ((q.why t.why d).0 refl))) in
    let len : s.left ≡ t.left = sym p.left ∙ left ∙ q.left in
    λ i. record { left = len i; why = why i }

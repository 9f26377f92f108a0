-- What an evaluation leaves as it was: names, the bytes of all bases but the new ones, and what was read.
use Rattle.std.proofs.Common.{◌≡◌, ℕ, ◌<◌, ◌≤◌, true, false, cond, eqb, eqb-true, refl, sym, ap, ◌∙◌, inl, inr, arith}
use Rattle.std.proofs.lemmas.Bool.{cases_Bool, or_left}
use Rattle.nd_model.specs.Arrays.Value.{Base, same_base}
use Rattle.nd_model.specs.Cells.Running.{Inputs, Key, Running, Act, Lookup, Ask, Use, Make, reply, after}
use Rattle.nd_model.specs.Cells.Evaluation.{Eval, Gives, Refuses, Asks, run}

pub record Grows (x y : Running) : Type 0 where
  pub label : y.label ≡ x.label
  pub names : y.names ≡ x.names
  pub next : x.next ≤ y.next
  pub kept : (b : Base) → (b.label ≡ x.label → b.number < x.next) → y.bytes b ≡ x.bytes b
  pub read : (k : Key) → x.read k ≡ true → y.read k ≡ true

pub stays : (x : Running) → Grows x x
stays x = record { label = refl; names = refl; next = omega arith; kept = λ b h. refl; read = λ k h. h }

pub grows_on : (x y z : Running) → Grows x y → Grows y z → Grows x z
grows_on x y z g h = record {
  label = h.label ∙ g.label;
  names = h.names ∙ g.names;
  next = omega (arith, g.next, h.next);
  kept = λ b old. h.kept b (λ e. omega (arith, g.next, old (e ∙ g.label))) ∙ g.kept b old;
  read = λ k is. h.read k (g.read k is);
}

pub not_new : (l n : ℕ) (b : Base) → (b.label ≡ l → b.number < n) → same_base (record { label = l; number = n }) b ≡ false
not_new l n b old = elim (cases_Bool (eqb l b.label)) [
  | inl is ↦ let lt : b.number < n = old (sym (eqb-true _ _ is)) in rw is (elim (cases_Bool (eqb n b.number)) [
    | inl same ↦ let e : n ≡ b.number = eqb-true _ _ same in absurd (omega arith)
    | inr other ↦ other
  ])
  | inr other ↦ rw other refl
]

pub grows_after : (a : Act) (r : Running) → Grows r (after a r)
grows_after (Lookup n) r = record { label = refl; names = refl; next = omega arith; kept = λ b h. refl; read = λ k h. or_left _ _ h }
grows_after (Ask n) r = record { label = refl; names = refl; next = omega arith; kept = λ b h. refl; read = λ k h. or_left _ _ h }
grows_after (Use b ps) r = record { label = refl; names = refl; next = omega arith; kept = λ b h. refl; read = λ k h. or_left _ _ h }
grows_after (Make bytes) r = record {
  label = refl;
  names = refl;
  next = omega arith;
  kept = λ b old. ap (λ t. cond t bytes (r.bytes b)) (not_new r.label r.next b old);
  read = λ k h. or_left _ _ h;
}

pub grows_run : {A : Type 0} (i : Inputs) (t : Eval A) (r : Running) → Grows r (run i t r).1
grows_run i (Gives x) r = stays r
grows_run i (Refuses f) r = stays r
grows_run i (Asks a go) r = grows_on r (after a r) _ (grows_after a r) (grows_run i (go (reply i a r)) (after a r))

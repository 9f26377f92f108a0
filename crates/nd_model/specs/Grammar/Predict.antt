-- Reading by a grammar with one token of lookahead, and the test that such a grammar is fit for it.
use Rattle.std.specs.Prelude.{ℕ, zero, suc, ◌==◌, Bool, true, false, ◌&&◌, not, List, [], ◌∷◌, length, Result, Ok, Err, if◌then◌else◌, bit_and, bit_or}
use Rattle.nd_model.specs.Grammar.Grammar.{Stop, Gram, Done, Here, One, Then, Or, Many, Shut, has}

infixl 10 ◌>>=◌
abbrev pub ◌>>=◌ : {A B E : Type 0} → Result A E → (A → Result B E) → Result B E
(Ok x) >>= f = f x
(Err e) >>= f = Err e

-- whether the next token is in the set
abbrev pub next_in : {T : Type 0} → (List T → ℕ) → ℕ → List T → Bool
next_in kind set [] = false
next_in kind set (t ∷ ts) = has set (kind (t ∷ ts))

abbrev pub stop : {T : Type 0} → ℕ → List T → Stop
stop why ts = record { left = length ts; why = why }

-- a token of the set
abbrev pub take_one : {T C : Type 0} → (List T → ℕ) → ℕ → (T → C) → List T → Result (C × List T) Stop
take_one kind set f [] = Err (record { left = 0; why = 0 })
take_one kind set f (t ∷ ts) = if has set (kind (t ∷ ts)) then Ok (f t, ts) else Err (stop 0 (t ∷ ts))

-- parts as long as the next token is in the set, and n at most
abbrev pub read_many : {T A : Type 0} → (List T → Result (A × List T) Stop) → (List T → Bool) → ℕ → List T → Result (List A × List T) Stop
read_many step more zero ts = Ok ([], ts)
read_many step more (suc n) ts =
    if more ts
    then (step ts >>= λ x. read_many step more n x.1 >>= λ y. Ok (x.0 ∷ y.0, y.1))
    else Ok ([], ts)

-- The meaning of the front of ts that is a text of the grammar, and the tokens after it.
abbrev pub read : {T C : Type 0} → (List T → ℕ) → Gram T C → List T → Result (C × List T) Stop
read kind (Done c) ts = Ok (c, ts)
read kind (Here f) ts = Ok (f ts, ts)
read kind (One set f) ts = take_one kind set f ts
read kind (Then f a b) ts = read kind a ts >>= λ x. read kind b x.1 >>= λ y. Ok (f x.0 y.0, y.1)
read kind (Or set a b) ts = if next_in kind set ts then read kind a ts else read kind b ts
read kind (Many set f a) ts = read_many (read kind a) (next_in kind set) (length ts) ts >>= λ x. Ok (f x.0, x.1)
read kind (Shut set why) ts = Err (stop (if next_in kind set ts then why else 0) ts)

-- What a grammar's texts begin with, what may go on a text that is whole, whether one of them is empty, and whether
-- one token of lookahead tells how to read it.
pub record Look : Type 0 where
  pub first : ℕ
  pub ext : ℕ
  pub empty : Bool
  pub fits : Bool

abbrev pub apart : ℕ → ℕ → Bool
apart a b = bit_and a b == 0

abbrev pub also : Bool → ℕ → ℕ → ℕ
also b a c = if b then bit_or a c else a

abbrev pub look_then : Look → Look → Look
look_then a b = record {
  first = also a.empty a.first b.first;
  ext = also b.empty b.ext a.ext;
  empty = a.empty && b.empty;
  fits = a.fits && b.fits && apart a.ext b.first;
}

abbrev pub look_or : ℕ → Look → Look → Look
look_or set a b = record {
  first = bit_or a.first b.first;
  ext = also b.empty (bit_or a.ext b.ext) a.first;
  empty = b.empty;
  fits = a.fits && b.fits && not a.empty && (a.first == set) && apart a.first b.first;
}

abbrev pub look_many : ℕ → Look → Look
look_many set a = record {
  first = a.first;
  ext = bit_or a.first a.ext;
  empty = true;
  fits = a.fits && not a.empty && (a.first == set) && apart a.ext a.first;
}

abbrev pub look : {T C : Type 0} → Gram T C → Look
look (Done c) = record { first = 0; ext = 0; empty = true; fits = true }
look (Here f) = record { first = 0; ext = 0; empty = true; fits = true }
look (One set f) = record { first = set; ext = 0; empty = false; fits = true }
look (Then f a b) = look_then (look a) (look b)
look (Or set a b) = look_or set (look a) (look b)
look (Many set f a) = look_many set (look a)
look (Shut set why) = record { first = set; ext = 0; empty = false; fits = true }

-- the meaning of all of ts, or the fault
abbrev pub ended : {T C : Type 0} → C × List T → Result C Stop
ended {T} {C} x = done x.0 x.1
  where
    done : C → List T → Result C Stop
    done c [] = Ok c
    done c (t ∷ ts) = Err (stop 0 (t ∷ ts))

abbrev pub read_all : {T C : Type 0} → (List T → ℕ) → Gram T C → List T → Result C Stop
read_all kind g ts = read kind g ts >>= λ x. ended x

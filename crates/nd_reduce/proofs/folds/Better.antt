-- Which numbers are better: a number is between, where one is worse than another; and of two only one is better.
use Rattle.std.proofs.Common.{◌≡◌, true, false, refl, arith}
use Rattle.std.specs.Prelude.{ℤ, pos, negsuc, int_lt}
use Rattle.std.proofs.lemmas.Bool.Decides.{nat_tests}
use Rattle.nd_model.specs.Making.Reductions.{greater}

pub less_between : (a b c : ℤ) → int_lt a c ≡ true → int_lt b c ≡ false → int_lt a b ≡ true
less_between (pos a) (pos b) (pos c) is worse = grind (arith, nat_tests)
less_between (pos a) (pos b) (negsuc c) is worse = absurd (cc)
less_between (pos a) (negsuc b) (pos c) is worse = absurd (cc)
less_between (pos a) (negsuc b) (negsuc c) is worse = absurd (cc)
less_between (negsuc a) (pos b) (pos c) is worse = refl
less_between (negsuc a) (pos b) (negsuc c) is worse = refl
less_between (negsuc a) (negsuc b) (pos c) is worse = absurd (cc)
less_between (negsuc a) (negsuc b) (negsuc c) is worse = grind (arith, nat_tests)

pub greater_between : (a b c : ℤ) → greater a c ≡ true → greater b c ≡ false → greater a b ≡ true
greater_between (pos a) (pos b) (pos c) is worse = grind (arith, nat_tests)
greater_between (pos a) (pos b) (negsuc c) is worse = absurd (cc)
greater_between (pos a) (negsuc b) (pos c) is worse = refl
greater_between (pos a) (negsuc b) (negsuc c) is worse = refl
greater_between (negsuc a) (pos b) (pos c) is worse = absurd (cc)
greater_between (negsuc a) (pos b) (negsuc c) is worse = absurd (cc)
greater_between (negsuc a) (negsuc b) (pos c) is worse = absurd (cc)
greater_between (negsuc a) (negsuc b) (negsuc c) is worse = grind (arith, nat_tests)

pub less_apart : (a b : ℤ) → int_lt a b ≡ true → int_lt b a ≡ false
less_apart (pos a) (pos b) is = grind (arith, nat_tests)
less_apart (pos a) (negsuc b) is = absurd (cc)
less_apart (negsuc a) (pos b) is = refl
less_apart (negsuc a) (negsuc b) is = grind (arith, nat_tests)

pub greater_apart : (a b : ℤ) → greater a b ≡ true → greater b a ≡ false
greater_apart a b is = less_apart b a is

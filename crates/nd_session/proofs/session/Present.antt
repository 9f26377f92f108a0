-- What is there where something was found.
use Rattle.std.proofs.Common.{◌≡◌, ℕ, Option, Some, None, refl}
use Rattle.std.specs.Prelude.{IsTrue, is_some, option_map}
use Rattle.nd_session.specs.Session.Found as places
use Rattle.nd_session.specs.Session.Found.{byte_at}

pub something : {X P : Type 0} (o : Option X) → IsTrue (is_some o) → ((x : X) → o ≡ Some x → P) → P
something None there h = absurd (cc)
something (Some x) there h = h x refl

pub found_inside : {X Y : Type 0} (f : X → Y) (o : Option X) → IsTrue (is_some (option_map f o)) → IsTrue (is_some o)
found_inside f None there = there
found_inside f (Some x) there = refl

pub read_there : (o : Option places.Found) (p : ℕ) → IsTrue (is_some (byte_at o p)) → IsTrue (is_some o)
read_there None p there = there
read_there (Some e) p there = refl

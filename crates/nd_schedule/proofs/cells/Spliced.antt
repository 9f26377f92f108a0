-- What an insertion leaves for which there is room.
use Rattle.std.proofs.Common.{◌≡◌, List, Result, ap, ◌∙◌}
use Rattle.std.specs.Prelude.{if◌then◌else◌, is_ok}
use Rattle.std.specs.Result.{IsOk}

pub went_in : {X E Y : Type 0} (res : Result Y E) (old new more : List X) → IsOk res → new ≡ (if is_ok res then more else old) → new ≡ more
went_in res old new more ok is = is ∙ ap (λ b. if b then more else old) ok

-- A byte that is refused ends all.
use Rattle.std.proofs.Common.{◌≡◌, ◌<◌, ◌+◌, ℕ, List, ◌∷◌, Result, Err, length, drop, get_or, arith, ap, ◌∙◌, suc}
use Rattle.std.proofs.Math.Seq.{drop-cons}
use Rattle.nd_npy.specs.declared.pep3118.fault.FormatError.{FormatError}
use Rattle.nd_npy.specs.declared.pep3118.fault.FormatError.TheVariants as error
use Rattle.nd_model.specs.Formats.FormatFault.{FormatFault}
use Rattle.nd_model.specs.Formats.FormatReading.{Progress, take_byte, and_then, take_bytes}
use Rattle.nd_npy.specs.Pep3118.Gives.{progress_of, GoesOn}
use Rattle.nd_npy.proofs.pep3118.parse.take_bytes.Goals as goal

failing : (e : FormatError) (s t u : Progress) (at role byte : ℕ) (roles bytes : List ℕ) (x : Result Progress FormatFault) → x ≡ take_bytes s at (role ∷ roles) (byte ∷ bytes) → GoesOn (Err e) (take_byte s at role byte) t → GoesOn (Err e) x u
failing (error.Memory m) s t u at role byte roles bytes x e h = tt
failing (error.Fault f) s t u at role byte roles bytes x e h = e ∙ ap (λ r. and_then r (λ v. take_bytes v (at + 1) roles bytes)) h

pub returns-in-Err : goal.returns-in-Err
returns-in-Err c =
    let at = c.loop-at.at in
    let lt : at < length c.args.roles.now = c.loop-at-test.true in
    let le : at < length c.args.bytes.now = omega arith in
    let e =
    c.loop-at.invariant
    ∙ ap (λ l. take_bytes (progress_of c.loop-at.progress) at l (drop at c.args.bytes.now)) (drop-cons c.args.roles.now at 0 lt)
    ∙ ap (λ l. take_bytes (progress_of c.loop-at.progress) at (get_or c.args.roles.now at 0 ∷ drop (suc at) c.args.roles.now) l) (drop-cons c.args.bytes.now at 0 le) in
    failing c.in-Err.error (progress_of c.loop-at.progress) (progress_of c.take_byte.new.self) _ at (get_or c.args.roles.now at 0) (get_or c.args.bytes.now at 0) (drop (suc at) c.args.roles.now) (drop (suc at) c.args.bytes.now) _ e c.in-Err.ensures

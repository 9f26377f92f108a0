use Rattle.std.specs.Int.{w128}
use Rattle.std.specs.Int.RustNames.{FitsSigned}
use Rattle.std.proofs.lemmas.Int.{to_z-of_z}
use Rattle.std.proofs.Common.{rules, ◌≡◌, ◌++◌, List, [], ◌∷◌, ℕ, ℤ, Ok, Result, ap, ap₂, sym, ◌∙◌, append-nil}
use Rattle.nd_types.specs.Kinds.{kind_of}
use Rattle.nd_model.specs.Making.Creation.{little}
use Rattle.nd_model.specs.Arrays.Content.{Num}
use Rattle.nd_model.specs.Arrays.Element.{Element, Kind, bytes_of}
use Rattle.nd_model.specs.Cells.Fault.{Fault}
use Rattle.nd_model.specs.Formats.NpyWriting.{npy_front, npy_bytes}
use Rattle.nd_model.specs.Making.Operand.{number_of}
use Rattle.nd_model.specs.Cells.Refusing as refusing
use Rattle.nd_model.specs.Arrays.View.{One}
use Rattle.nd_model.proofs.Contents.{number_bytes}
use Rattle.nd_operation.specs.Operators.Contents.{num_of}
use Rattle.nd_eval.proofs.loading.save.number_file.Goals as goal

-- the file of one number
file_is : (e d : Element) (z y : ℤ) (bytes file : List ℕ) → d ≡ e → y ≡ z → bytes ≡ bytes_of d y → file ≡ npy_front (One d) [] ++ bytes → npy_bytes (One e) [] (Num z ∷ []) ≡ file
file_is e d z y bytes file same number is made =
    ap₂ (λ (a : Element) (bs : List ℕ). npy_front (One a) [] ++ bs) (sym same) (append-nil _ ∙ number_bytes e z ∙ ap₂ bytes_of (sym same) (sym number) ∙ sym is) ∙ sym made

pub returns : goal.returns
returns c =
    let z = number_of (num_of c.args.number) in
    let fits : FitsSigned w128 c.whole_number.result = search rules in
    ap (λ (k : Result Kind Fault). refusing.◌>>=◌ (refusing.◌>>=◌ k (λ k. Ok (One (little k)))) (λ t. Ok (npy_bytes t [] (Num z ∷ [])))) c.in_ok-array_kind.ensures
    ∙ ap Ok (file_is (little (kind_of c.in_ok-array_kind.field-0)) c.little-elem.result z c.whole_number.result c.deref.result.now c.in_ok-file.file.items
    c.little-elem.ensures c.whole_number.ensures (c.deref.ensures.value ∙ c.in_ok-push_bytes.ensures
    ∙ ap₂ (λ (xs : List ℕ) (n : ℤ). xs ++ bytes_of c.little-elem.result n) c.new-bytes.ensures.items (to_z-of_z w128 c.whole_number.result fits)) c.in_ok-file.ensures)

-- An array that is given is that of the file.
use Rattle.std.proofs.Common.{◌≡◌, ℕ, ◌*◌, List, subst}
use Rattle.std.specs.Prelude.{Result, Ok}
use Rattle.nd_model.specs.Formats.NpyFault.{NpyFault}
use Rattle.nd_model.specs.Formats.NpyHeader.{Header}
use Rattle.nd_model.specs.Formats.NpyReading.{split, array_of, elements_in}
use Rattle.nd_model.specs.Grammar.Predict.{◌>>=◌}
use Rattle.nd_model.specs.Arrays.Tuple.{elements_of}
use Rattle.nd_model.specs.Arrays.View.{item_size, contiguous}
use Rattle.nd_npy.specs.declared.header.file.NpyArray.{NpyArray}
use Rattle.nd_npy.specs.Header.Gives.{elements_block, GivesArray}

pub array_given : (h : Header) (bytes elements rest : List ℕ) (a : NpyArray) → Ok (elements, rest) ≡ split (elements_of h.shape * item_size h.element) bytes
    → a.view ≡ contiguous h.element h.shape → a.block ≡ elements_block h.element h.fortran h.shape elements → GivesArray (Ok a) (elements_in h bytes)
unfolding elements_in
array_given h bytes elements rest a e view block =
    subst (λ (r : Result (List ℕ × List ℕ) NpyFault). GivesArray (Ok a) (r >>= λ x. Ok (array_of h x.0))) e (record { view = view; block = block })

-- What an input stands for among the definitions.
use Rattle.std.specs.Prelude.{string_bytes}
use Rattle.nd_model.specs.Cells.Running as running
use Rattle.nd_input.specs.declared.Input.{Input}
use Rattle.nd_input.specs.declared.Input.TheVariants.{Npy, Buffer}

abbrev pub source_of : Input → running.Source
source_of (Npy bytes) = running.Npy bytes.items
source_of (Buffer format itemsize shape strides offset bytes) = running.Buffer (string_bytes format) itemsize shape.items strides.items offset bytes.items

use Rattle.std.proofs.Common.{◌≡◌, ℕ, List, Bool, true, false, Option, Some, None, refl, sym, ap, ◌∙◌}
use Rattle.std.proofs.lemmas.Slice.Eq.{bytes_eq-Decides}
use Rattle.std.specs.Prelude.{bytes_eq, codes, if◌then◌else◌, option_map, unwrap_or}
use Rattle.nd_model.specs.Arrays.Element as element
use Rattle.nd_model.specs.Arrays.Types.{kind_names}
use Rattle.nd_model.specs.Cells.Session.{lookup}
use Rattle.nd_model.specs.Grammar.Cells.{kind_named}
use Rattle.nd_types.specs.Kinds.{kind_of}
use Rattle.nd_types.specs.declared.kind.Kind.{Kind}
use Rattle.nd_types.specs.declared.kind.Kind.TheVariants as kind
use Rattle.nd_parse.proofs.reader.names.kind_named.Goals as goal

-- one name more
chosen : (b : Bool) (k j : element.Kind) (o : Option element.Kind) → unwrap_or o element.Boolean ≡ j → unwrap_or (if b then Some k else o) element.Boolean ≡ (if b then k else j)
chosen true k j o e = refl
chosen false k j o e = e

-- the name of a Boolean stands for what all other texts stand for
or_boolean : (b : Bool) (o : Option element.Kind) (j : element.Kind) → (b ≡ true → j ≡ element.Boolean) → unwrap_or o element.Boolean ≡ j → unwrap_or (if b then Some element.Boolean else o) element.Boolean ≡ j
or_boolean true o j is e = sym (is refl)
or_boolean false o j is e = e

kind_of_or : (o : Option Kind) → kind_of (unwrap_or o kind.Bool) ≡ unwrap_or (option_map kind_of o) element.Boolean
kind_of_or None = refl
kind_of_or (Some k) = refl

same_names : (n : List ℕ) → unwrap_or (lookup n kind_names) element.Boolean ≡ kind_named n
same_names n =
    or_boolean (bytes_eq n (codes "bool")) _ (kind_named n) (λ is. ap kind_named ((bytes_eq-Decides n (codes "bool")).0 is))
    (chosen (bytes_eq n (codes "int8")) element.Int8 _ _ (chosen (bytes_eq n (codes "int16")) element.Int16 _ _
    (chosen (bytes_eq n (codes "int32")) element.Int32 _ _ (chosen (bytes_eq n (codes "int64")) element.Int64 _ _
    (chosen (bytes_eq n (codes "uint8")) element.UInt8 _ _ (chosen (bytes_eq n (codes "uint16")) element.UInt16 _ _
    (chosen (bytes_eq n (codes "uint32")) element.UInt32 _ _ (chosen (bytes_eq n (codes "uint64")) element.UInt64 _ _ refl))))))))

pub returns : goal.returns
returns c =
    ap kind_of c.unwrap_or.ensures ∙ kind_of_or c.kind_named.result ∙ ap (λ o. unwrap_or o element.Boolean) c.kind_named.ensures ∙ same_names c.args.name.now

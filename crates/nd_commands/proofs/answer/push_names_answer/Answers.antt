use Rattle.std.proofs.Common.{◌++◌, map, string_bytes, sym, ap}
use Rattle.std.specs.Prelude.{codes, decimal}
use Rattle.std.proofs.lemmas.List.{length-map}
use Rattle.nd_model.specs.Book.Script.{name_lines}
use Rattle.nd_script.proofs.lines.Answers.{pushes_same, pushes_trans}
use Rattle.nd_commands.proofs.answer.push_names_answer.Goals as goal

pub returns : goal.returns
returns g c =
    let names = c.args.names.now in
    pushes_same (ap (λ n. codes "names " ++ decimal n ++ codes "\n" ++ name_lines (map string_bytes names)) (sym (length-map names string_bytes)))
    (pushes_trans c.push_count_line.ensures c.push_names.ensures)

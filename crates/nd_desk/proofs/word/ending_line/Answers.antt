use Rattle.std.proofs.Common.{◌≡◌, true, Some, rules, sym, ◌∙◌, bytes_eq, codes}
use Rattle.nd_model.specs.Book.Script.{number_word}
use Rattle.nd_desk.proofs.Lines.{input_path, save_path}
use Rattle.nd_desk.proofs.word.ending_line.Goals as goal

pub returns-in-input : goal.returns-in-input
returns-in-input c =
    let word = c.args.word.now in
    let second = c.args.second.now in
    let input : bytes_eq word (codes "input") ≡ true = search rules in
    let file : bytes_eq second (codes "file") ≡ true = search rules in
    c.file_line.ensures ∙ sym (input_path word c.args.first.now second c.args.rest.now input file)

pub returns-in_ok-number_of-in-save : goal.returns-in_ok-number_of-in-save
returns-in_ok-number_of-in-save c =
    let word = c.args.word.now in
    let at = c.in_ok-number_of-in-save.field-0 in
    let save : bytes_eq word (codes "save") ≡ true = search rules in
    let is : number_word c.args.first.now ≡ Some at = search rules in
    c.save_line.ensures ∙ sym (save_path word c.args.first.now c.args.second.now c.args.rest.now at save is)

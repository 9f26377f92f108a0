use Rattle.nd_model.specs.Book.Script.{Shows, ShowsSource, ShowsNames, ShowsValue, ShowsSave}
use Rattle.nd_commands.proofs.Carried.{asked}
use Rattle.nd_commands.proofs.line.answer_whole.Goals as goal

pub returns-in-Show : goal.returns-in-Show
returns-in-Show g c = rw c.in-Show.is (asked (Shows c.in-Show.at) c.args.notebook.now c.args.meter.now c.args.ran.now.items _ _ c.show_result.ensures)

pub returns-in-Source : goal.returns-in-Source
returns-in-Source g c = rw c.in-Source.is (asked (ShowsSource c.in-Source.at) c.args.notebook.now c.args.meter.now c.args.ran.now.items _ _ c.show_source.ensures)

pub returns-in-Names : goal.returns-in-Names
returns-in-Names g c = rw c.in-Names.is (asked (ShowsNames c.in-Names.at) c.args.notebook.now c.args.meter.now c.args.ran.now.items _ _ c.show_names.ensures)

pub returns-in-Value : goal.returns-in-Value
returns-in-Value g c = rw c.in-Value.is (asked (ShowsValue c.in-Value.at c.in-Value.name.now) c.args.notebook.now c.args.meter.now c.args.ran.now.items _ _ c.show_value.ensures)

pub returns-in-Saved : goal.returns-in-Saved
returns-in-Saved g c = rw c.in-Saved.is (asked (ShowsSave c.in-Saved.at c.in-Saved.name.now) c.args.notebook.now c.args.meter.now c.args.ran.now.items _ _ c.show_save.ensures)

use Rattle.nd_desk.proofs.line.answer_word.Goals as goal

pub returns-in-Reads : goal.returns-in-Reads
returns-in-Reads g c = rw c.in-Reads.is (c.show_reads.ensures c.args.meter.now c.args.ran.now.items)

pub returns-in-Dtype : goal.returns-in-Dtype
returns-in-Dtype g c = rw c.in-Dtype.is (c.show_type.ensures c.args.meter.now c.args.ran.now.items)

pub returns-in-Part : goal.returns-in-Part
returns-in-Part g c = rw c.in-Part.is (c.show_part.ensures c.args.meter.now c.args.ran.now.items)

pub returns-in-SaveFile : goal.returns-in-SaveFile
returns-in-SaveFile g c = rw c.in-SaveFile.is (c.save_file.ensures c.args.meter.now c.args.ran.now.items)

use Rattle.std.specs.Int.{from_le_bytes, to_le_bytes, w16, w32, w64}
use Rattle.nd_marks.proofs.Slices.{same_numbers}
use Rattle.nd_marks.proofs.bytes.is_same_row.Goals as goal

pub returns-in-2 : goal.returns-in-2
returns-in-2 c = same_numbers c.args.a.now c.args.b.now c.args.from c.args.width 2 c.bits16.result c.bits16-in-2.result (from_le_bytes w16) (to_le_bytes w16) c.in-2.is c.requires.0 c.requires.1
    c.bits16.ensures.value c.bits16-in-2.ensures.value c.bits16.ensures.bytes c.bits16-in-2.ensures.bytes

pub returns-in-4 : goal.returns-in-4
returns-in-4 c = same_numbers c.args.a.now c.args.b.now c.args.from c.args.width 4 c.bits32.result c.bits32-in-4.result (from_le_bytes w32) (to_le_bytes w32) c.in-4.is c.requires.0 c.requires.1
    c.bits32.ensures.value c.bits32-in-4.ensures.value c.bits32.ensures.bytes c.bits32-in-4.ensures.bytes

pub returns-in-8 : goal.returns-in-8
returns-in-8 c = same_numbers c.args.a.now c.args.b.now c.args.from c.args.width 8 c.bits64.result c.bits64-in-8.result (from_le_bytes w64) (to_le_bytes w64) c.in-8.is c.requires.0 c.requires.1
    c.bits64.ensures.value c.bits64-in-8.ensures.value c.bits64.ensures.bytes c.bits64-in-8.ensures.bytes

use Rattle.nd_script.proofs.lines.Answers.{pushes_trans}
use Rattle.nd_commands.proofs.fault.push_statement_error.Goals as goal

pub returns-in-NoName : goal.returns-in-NoName
returns-in-NoName g c = rw (c.in-NoName.is, ← c.as_str.ensures.value) (pushes_trans c.push_text.ensures c.push_text-in-NoName.ensures)

pub returns-in-NoInput : goal.returns-in-NoInput
returns-in-NoInput g c = rw (c.in-NoInput.is, ← c.as_str-in-NoInput.ensures.value) (pushes_trans c.push_text-in-NoInput.ensures c.push_text-in-NoInput-2.ensures)

pub returns-in-IntTooBig : goal.returns-in-IntTooBig
returns-in-IntTooBig g c = rw c.in-IntTooBig.is c.push_text-in-IntTooBig.ensures

pub returns-in-ZeroDivide : goal.returns-in-ZeroDivide
returns-in-ZeroDivide g c = rw c.in-ZeroDivide.is c.push_text-in-ZeroDivide.ensures

pub returns-in-NegativeShift : goal.returns-in-NegativeShift
returns-in-NegativeShift g c = rw c.in-NegativeShift.is c.push_text-in-NegativeShift.ensures

pub returns-in-NeedsType : goal.returns-in-NeedsType
returns-in-NeedsType g c = rw c.in-NeedsType.is c.push_text-in-NeedsType.ensures

pub returns-in-NotAnArray : goal.returns-in-NotAnArray
returns-in-NotAnArray g c = rw c.in-NotAnArray.is c.push_text-in-NotAnArray.ensures

pub returns-in-TextTooLong : goal.returns-in-TextTooLong
returns-in-TextTooLong g c = rw c.in-TextTooLong.is c.push_text-in-TextTooLong.ensures

pub returns-in-BadArgument : goal.returns-in-BadArgument
returns-in-BadArgument g c = rw c.in-BadArgument.is c.push_text-in-BadArgument.ensures

pub returns-in-BadType : goal.returns-in-BadType
returns-in-BadType g c = rw c.in-BadType.is c.push_text-in-BadType.ensures

pub returns-in-RaggedList : goal.returns-in-RaggedList
returns-in-RaggedList g c = rw c.in-RaggedList.is c.push_text-in-RaggedList.ensures

use Rattle.nd_commands.proofs.fault.push_format_fault.Goals as goal

pub returns-in-UnknownCode : goal.returns-in-UnknownCode
returns-in-UnknownCode g c = rw c.in-UnknownCode.is c.push_place.ensures

pub returns-in-Unclosed : goal.returns-in-Unclosed
returns-in-Unclosed g c = rw c.in-Unclosed.is c.push_place-in-Unclosed.ensures

pub returns-in-NoName : goal.returns-in-NoName
returns-in-NoName g c = rw c.in-NoName.is c.push_place-in-NoName.ensures

pub returns-in-DoubleName : goal.returns-in-DoubleName
returns-in-DoubleName g c = rw c.in-DoubleName.is c.push_place-in-DoubleName.ensures

pub returns-in-CountNotHere : goal.returns-in-CountNotHere
returns-in-CountNotHere g c = rw c.in-CountNotHere.is c.push_place-in-CountNotHere.ensures

pub returns-in-LargerThanItem : goal.returns-in-LargerThanItem
returns-in-LargerThanItem g c = rw c.in-LargerThanItem.is c.push_text.ensures

pub returns-in-TooManyFields : goal.returns-in-TooManyFields
returns-in-TooManyFields g c = rw c.in-TooManyFields.is c.push_text-in-TooManyFields.ensures

pub returns-in-BadItemSize : goal.returns-in-BadItemSize
returns-in-BadItemSize g c = rw c.in-BadItemSize.is c.push_text-in-BadItemSize.ensures

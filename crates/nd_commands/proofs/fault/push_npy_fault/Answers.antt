use Rattle.nd_commands.proofs.fault.push_npy_fault.Goals as goal

pub returns-in-BadMagic : goal.returns-in-BadMagic
returns-in-BadMagic g c = rw c.in-BadMagic.is c.push_text.ensures

pub returns-in-BadVersion : goal.returns-in-BadVersion
returns-in-BadVersion g c = rw c.in-BadVersion.is c.push_text-in-BadVersion.ensures

pub returns-in-Truncated : goal.returns-in-Truncated
returns-in-Truncated g c = rw c.in-Truncated.is c.push_text-in-Truncated.ensures

pub returns-in-NotText : goal.returns-in-NotText
returns-in-NotText g c = rw c.in-NotText.is c.push_place.ensures

pub returns-in-BadHeader : goal.returns-in-BadHeader
returns-in-BadHeader g c = rw c.in-BadHeader.is c.push_place-in-BadHeader.ensures

pub returns-in-BadKeys : goal.returns-in-BadKeys
returns-in-BadKeys g c = rw c.in-BadKeys.is c.push_text-in-BadKeys.ensures

pub returns-in-BadDescr : goal.returns-in-BadDescr
returns-in-BadDescr g c = rw c.in-BadDescr.is c.push_text-in-BadDescr.ensures

pub returns-in-TooLarge : goal.returns-in-TooLarge
returns-in-TooLarge g c = rw c.in-TooLarge.is c.push_text-in-TooLarge.ensures

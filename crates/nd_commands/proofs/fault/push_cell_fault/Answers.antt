use Rattle.nd_commands.proofs.fault.push_cell_fault.Goals as goal

pub returns-in-Parse : goal.returns-in-Parse
returns-in-Parse g c = rw c.in-Parse.is c.push_parse_fault.ensures

pub returns-in-Statement : goal.returns-in-Statement
returns-in-Statement g c = rw c.in-Statement.is c.push_statement_fault.ensures

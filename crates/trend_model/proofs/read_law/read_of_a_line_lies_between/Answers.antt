use Rattle.std.proofs.Common.{false}
use Rattle.trend_model.proofs.ReadLaw.{line_between, read_between, value_between}
use Rattle.trend_model.proofs.read_law.read_of_a_line_lies_between.Goals as goal

pub returns-clause-line : goal.returns-clause-line
returns-clause-line c = read_between false

pub returns-clause-between : goal.returns-clause-between
returns-clause-between c = line_between

pub returns-clause-rounded : goal.returns-clause-rounded
returns-clause-rounded c = value_between

use Rattle.plant_more.proofs.Shifting.{ends_of, keeps_for}
use Rattle.plant_more.proofs.shift_command.shifts.Goals as goal

pub returns-in-Some-clause-ends : goal.returns-in-Some-clause-ends
returns-in-Some-clause-ends g c = ends_of _ _ c.in-Some.ensures.words _ _ c.from_day.result c.from_day.ensures.ends

pub returns-in-Some-clause-devices : goal.returns-in-Some-clause-devices
returns-in-Some-clause-devices g c = keeps_for _ _ c.in-Some.ensures.words _ _ _ c.from_day.ensures.devices

use Rattle.plant_more.proofs.log_report.take_all.Given as goal

abbrev pub ghosts-take_on : goal.ghosts-take_on
ghosts-take_on a = record { name = a.blank.name; parts = a.blank.parts }

use Rattle.tag_core.proofs.restart.doors_fit.Given as goal

abbrev pub ghosts-slopes_fit : goal.ghosts-slopes_fit
ghosts-slopes_fit a = record { name = a.blank.name; parts = a.blank.parts }

use Rattle.store_commands.proofs.frame_names.place_of.Goals as goal

pub returns-clause-placed : goal.returns-clause-placed
returns-clause-placed c = rw (← c.deref.ensures.value) c.place_in.ensures.placed

pub returns-clause-refused : goal.returns-clause-refused
returns-clause-refused c = rw (← c.deref.ensures.value) c.place_in.ensures.refused

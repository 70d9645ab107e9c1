use Rattle.commit_log.proofs.Beginnings.{nothing_yet}
use Rattle.commit_log.proofs.opening.begin.Goals as goal

pub returns-in_err-parts-clause-any_moment : goal.returns-in_err-parts-clause-any_moment
returns-in_err-parts-clause-any_moment g c = nothing_yet c.args.plant.now _ c.requires.new c.requires.settled

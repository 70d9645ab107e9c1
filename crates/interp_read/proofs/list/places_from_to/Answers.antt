use Rattle.std.proofs.Common.{arith}
use Rattle.interp_read.proofs.Listing.{listed_places}
use Rattle.interp_read.proofs.list.places_from_to.Goals as goal

pub returns-clause-points : goal.returns-clause-points
returns-clause-points c = grind (arith, listed_places)

use Rattle.std.proofs.Common.{rules}
use Rattle.test_rig.proofs.Posters.{lone_posts}
use Rattle.cell_tests.proofs.boards.small.Goals as goal

pub returns-in-Some-Some-clause-posts : goal.returns-in-Some-Some-clause-posts
returns-in-Some-Some-clause-posts g c = search (rules, lone_posts)

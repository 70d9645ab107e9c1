use Rattle.std.proofs.Common.{rules}
use Rattle.test_rig.proofs.Posters.{all_look, lone_is_new, lone_posts}
use Rattle.test_rig.proofs.lone.lone_board.Goals as goal

pub returns-in-Some-clause-posts : goal.returns-in-Some-clause-posts
returns-in-Some-clause-posts g c = search (rules, lone_posts)

pub returns-in-Some-clause-unposted : goal.returns-in-Some-clause-unposted
returns-in-Some-clause-unposted g c = search (rules, lone_is_new)

pub returns-in-Some-clause-looks : goal.returns-in-Some-clause-looks
returns-in-Some-clause-looks g c = search (rules, all_look)

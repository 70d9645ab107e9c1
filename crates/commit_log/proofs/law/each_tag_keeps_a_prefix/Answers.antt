use Rattle.commit_log.proofs.Prefixes.{points_prefix, points_within}
use Rattle.commit_log.proofs.law.each_tag_keeps_a_prefix.Goals as goal

pub returns-clause-first : goal.returns-clause-first
returns-clause-first c = points_prefix

pub returns-clause-acknowledged : goal.returns-clause-acknowledged
returns-clause-acknowledged c = points_within

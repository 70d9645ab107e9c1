use Rattle.std.proofs.Common.{arith}
use Rattle.std.proofs.lemmas.Result.{err_from_is_err_and}
use Rattle.collector_pool.proofs.Endings.{ends_at_commit}
use Rattle.collector_pool.proofs.collector.commit_tags.Goals as goal

pub returns-in_err-commit_tag : goal.returns-in_err-commit_tag
returns-in_err-commit_tag g c = grind (arith, err_from_is_err_and, ends_at_commit)

use Rattle.std.proofs.Common.{map, take}
use Rattle.group_book.specs.{ArePullsOf, lists_at}
use Rattle.group_book.proofs.lists.pull_all.Given as goal

abbrev pub invariant-loop-input : goal.invariant-loop-input
invariant-loop-input l =
    ArePullsOf (take l.input (lists_at (map (λ r. r.now) l.records) l.tags)) (take l.input l.versions) l.pulled.items

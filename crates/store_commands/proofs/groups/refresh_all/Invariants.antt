use Rattle.std.proofs.Common.{map}
use Rattle.store_commands.proofs.Books.{AreRefreshedTo}
use Rattle.store_commands.proofs.groups.refresh_all.Given as goal

abbrev pub invariant-loop-place : goal.invariant-loop-place
invariant-loop-place g l = AreRefreshedTo (map (λ r. r.now) l.records) l.place l.initial.books.items l.books.items

use Rattle.std.proofs.Common.{arith, rules, ◌≡◌, sym, ap}
use Rattle.snapshot_table.proofs.Steps.{forks}
use Rattle.snapshot_table.proofs.Places.{seen_at}
use Rattle.snapshot_table.specs.{Posting}
use Rattle.snapshot_table.proofs.board.Board.onlooker.Goals as goal

pub split_pass-requires : goal.split_pass-requires
split_pass-requires c =
    let cell : c.args.poster.now.cell ≡ c.poster.inside.pass.table_id = sym (ap (λ (p : Posting). p.cell) c.poster.view_is) in (
      search rules,
      (
        search rules,
        (
          sym (grind (arith, seen_at)),
          forks _ _,
        ),
      ),
    )

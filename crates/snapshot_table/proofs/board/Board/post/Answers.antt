use Rattle.std.proofs.Common.{rules, ap, sym, ◌≡◌, ◌≤◌, subst, slice_get, Some, arith}
use Rattle.trend_num.specs.{Snap}
use Rattle.snapshot_table.specs.{View, Posting}
use Rattle.snapshot_table.proofs.Steps.{post_turns}
use Rattle.snapshot_table.proofs.Places.{seen_at}
use Rattle.snapshot_table.proofs.board.Board.post.Goals as goal

pub swap_as-requires : goal.swap_as-requires
swap_as-requires g c =
    let here : slice_get c.args.self.now c.poster.inside.tag ≡ Some c.poster.inside.pass.table_id =
    subst (λ (p : Posting). slice_get c.args.self.now p.tag ≡ Some p.cell) (sym c.poster.view_is) c.requires.here in
    let later : c.poster.inside.last.taken ≤ c.args.snap.taken =
    subst (λ (p : Posting). p.last.taken ≤ c.args.snap.taken) (sym c.poster.view_is) c.requires.no_earlier in
    let knows = ap (λ (v : View). v.snap.taken) c.poster.invariant in
    let same = ap (λ (s : Snap). s.taken) c.shown_of.ensures.value in (
      search rules,
      (
        search rules,
        (
          sym (grind (arith, seen_at)),
          post_turns _ _ _ (ap (λ (v : View). v.posts) c.poster.invariant) c.shown_of.ensures.fits (omega (arith, knows, same)),
        ),
      ),
    )

use Rattle.std.proofs.Common.{rules, List, ◌≡◌, ◌∙◌, sym, ap, slice_get, Some, subst, arith}
use Rattle.std.proofs.lemmas.List.{map-set}
use Rattle.std.proofs.Math.Seq.{map-set_same}
use Rattle.crossbeam_utils.specs.declared.atomic.seq_cell.Doing.{Doing}
use Rattle.atomic_table.specs.declared.shared.Seat.{Seat}
use Rattle.snapshot_table.specs.{Shown, View, Looking}
use Rattle.atomic_table.specs.Seated.{TableId}
use Rattle.trend_num.specs.{Snap}
use Rattle.snapshot_table.proofs.Steps.{look_turns}
use Rattle.snapshot_table.proofs.Places.{seen_at, stands_at}
use Rattle.snapshot_table.proofs.board.Board.look.Goals as goal

-- a pass of a board
abbrev Pass : Type 0
Pass = Seat Shown (Doing Shown View)

abbrev looking : List TableId → List Snap → Looking
looking cells seen = record { cells = cells; seen = seen }

-- what a looker is seen as, from its two lists
same_looking : (cells cells' : List TableId) (seen seen' : List Snap) → cells ≡ cells' → seen ≡ seen'
    → looking cells seen ≡ looking cells' seen'
same_looking cells cells' seen seen' a b = λ i. looking (a i) (b i)

pub load_as-requires : goal.load_as-requires
load_as-requires g c =
    let board : List TableId = c.args.self.now in
    let cells = ap (λ (l : Looking). l.cells) c.looker.view_is ∙ c.requires.here.cells in (
      search rules,
      (
        search rules,
        (
          sym (seen_at _ c.self.inside.shelves.items c.args.tag c.index-shelf.result.now c.index_mut.result.now.table_id c.index-shelf.ensures
              (subst (λ (b : List TableId). slice_get b c.args.tag ≡ Some c.index_mut.result.now.table_id) (sym c.self.view_is)
              (stands_at (λ (p : Pass). p.table_id) c.looker.inside.passes.items board c.args.tag c.index_mut.result.now cells c.index_mut.ensures.value c.requires.tag))),
          look_turns _ _,
        ),
      ),
    )

pub returns-clause-seen : goal.returns-clause-seen
returns-clause-seen g c = grind (arith, map-set_same, map-set, same_looking)

pub returns-clause-no_earlier : goal.returns-clause-no_earlier
returns-clause-no_earlier g c = grind (arith, stands_at)

use Rattle.std.proofs.Common.{◌≡◌, ℕ, ◌+◌, ◌<◌, ◌∷◌, [], None, get_or, length, length-append, map, sym, ap, ◌∙◌, subst, arith}
use Rattle.std.proofs.lemmas.Iterator.Adapters.{YieldsList-from_vec}
use Rattle.std.proofs.lemmas.Iterator.Consumers.{YieldsList-turn, YieldsList-end}
use Rattle.std.proofs.lemmas.Nat.{mul-le}
use Rattle.std.proofs.lemmas.List.{length-map, map-append}
use Rattle.group_layout.specs.{parts_of, AreRowsOf, block_lists_of, saved_value}
use Rattle.group_layout.proofs.SavedRows.{rows_push, vectors_are, vector_is}
use Rattle.group_layout.proofs.FewRows.{too_few}
use Rattle.group_layout.proofs.saved.rows_of.Goals as goal
use Rattle.group_layout.proofs.saved.rows_of.Goals.{In-Some}

pub returns-then-row_count-from-clause-missing : goal.returns-then-row_count-from-clause-missing
returns-then-row_count-from-clause-missing c = grind (arith, mul-le, too_few)

-- the cells that this iteration has
turn : (c : In-Some) → (length c.loop-calc_cells.yielded < c.args.calcs) × (length c.in-Some.calc_cells.items ≡ c.args.windows)
    × ((k : ℕ) → k < c.args.windows
    → get_or c.in-Some.calc_cells.items k None ≡ saved_value (map parts_of c.args.blocks.now) (length c.loop-calc_cells.yielded) k)
turn c =
    let cells = c.in_ok-cells.cells in
    let gives = c.into_iter-calc_cells-iterator.ensures.into_iter_gives in
    let before = c.loop-calc_cells in
    let t = YieldsList-turn (YieldsList-from_vec cells.items gives.0 (gives.1 ∙ cells.ok.0)) before.yielded before.calc_cells-iterator
    before.yielded_by c.next.result c.next.new.self c.in-Some.calc_cells c.in-Some.is c.next.ensures.steps in
    vector_is cells.items c.in-Some.calc_cells c.args.calcs c.args.windows (length before.yielded) (map parts_of c.args.blocks.now)
    t.1 t.0 c.in_ok-cells.ensures.lengths c.in_ok-cells.ensures.cells

pub returns-in_default-clause-missing : goal.returns-in_default-clause-missing
returns-in_default-clause-missing c = grind (arith, turn)

pub loop-calc_cells-init : goal.loop-calc_cells-init
loop-calc_cells-init c = grind (arith, vectors_are)

pub push_reserved-requires : goal.push_reserved-requires
push_reserved-requires c = grind (arith, turn, length-map)

pub loop-calc_cells-preserved : goal.loop-calc_cells-preserved
loop-calc_cells-preserved c =
    let x = c.args in
    let bs = map parts_of x.blocks.now in
    let before = c.loop-calc_cells.yielded in
    let v = c.in-Some.calc_cells in
    let rows = c.loop-calc_cells.rows.items in
    let row = c.in-Some-2.row in
    let is = turn (goal.at.loop-calc_cells-preserved c).In-Some in
    record {
      room = omega (arith, c.loop-calc_cells.invariant.room, c.push_reserved.ensures.capacity);
      rows = subst (λ n. AreRowsOf n x.windows bs (block_lists_of c.push_reserved.new.self.items)) (sym (length-append before (v ∷ [])))
          (subst (AreRowsOf (length before + 1) x.windows bs)
          (sym (ap block_lists_of c.push_reserved.ensures.items ∙ map-append (λ w. w.items) rows (row ∷ [])))
          (rows_push (length before) x.windows bs (block_lists_of rows) row.items v.items c.loop-calc_cells.invariant.rows
          ((rw c.in-Some-2.is at c.in_ok-row.ensures.whole) ∙ c.deref.ensures.value) is.1 is.2));
    }

pub returns-clause-rows : goal.returns-clause-rows
returns-clause-rows c =
    let x = c.args in
    let cells = c.in_ok-cells.cells in
    let gives = c.into_iter-calc_cells-iterator.ensures.into_iter_gives in
    let done = c.loop-calc_cells in
    let t = YieldsList-end (YieldsList-from_vec cells.items gives.0 (gives.1 ∙ cells.ok.0)) done.yielded done.calc_cells-iterator
    done.yielded_by c.next.result c.next.new.self c.in-None.is c.next.ensures.steps in
    subst (λ n. AreRowsOf n x.windows (map parts_of x.blocks.now) (block_lists_of done.rows.items))
    (t.1 ∙ vectors_are cells.items x.calcs x.windows c.in_ok-cells.ensures.lengths) done.invariant.rows

use Rattle.std.proofs.Common.{◌≡◌, ◌∷◌, ◌<◌, List, ℕ, IsTrue, length, get_or, string_bytes, refl, sym, ◌∙◌, ap, subst, arith}
use Rattle.std.specs.Vec.Iter.{into_iter_items, into_iter_len}
use Rattle.std.proofs.lemmas.List.{length-map}
use Rattle.std.proofs.lemmas.List.Elements.{All-get_or}
use Rattle.std.proofs.lemmas.Grind.{common_steps}
use Rattle.branded_disk.specs.{branded}
use Rattle.plant_store.specs.CellClosings.{AreGivenBack, AreHistoriesAt}
use Rattle.plant_store.specs.{texts}
use Rattle.plant_store.proofs.CellBacks.{all_closed, begun, one_closed}
use Rattle.plant_store.proofs.CellLabels.{text_at}
use Rattle.plant_store.proofs.cell_closing.close_cells.Goals as goal
use Rattle.plant_store.proofs.cell_closing.close_cells.Goals.{After-destroy_empty}

pub loop-cell-init : goal.loop-cell-init
loop-cell-init g c = record {
  closed = begun (branded g.S.Dev.Disk.device g.K.Begun.before) (texts c.args.names.now) c.args.cells.items
      (into_iter_items c.into_iter-rest.result) c.args.histories.now.items (g.S.Store.device_at c.args.store.now)
      (g.S.Store.fault_count c.args.store.now) c.into_iter-rest.ensures.rest c.requires.none;
  count = omega (arith, c.into_iter-rest.ensures.len, ap length c.requires.none, c.args.cells.ok.0);
  room = refl;
  places = λ n there. there;
}

pub close_cell-history-requires-after_bounds : goal.close_cell-history-requires-after_bounds
close_cell-history-requires-after_bounds g c κs within =
    let names = c.args.names.now in
    let i = c.len.result in
    let some : 0 < into_iter_len c.loop-cell.rest = omega (arith, c.in-Some.ensures.len) in
    let there : i < length names =
    omega (arith, c.len.ensures, c.loop-cell.histories.ok.0, some, c.loop-cell.invariant.count, c.requires.as_many, c.args.cells.ok.0) in
    let is = text_at names i c.index-names-len.result there c.index-names-len.is in
    subst (λ (n : List ℕ). IsTrue (g.S.Store.has_place c.loop-cell.store n)) (sym (c.as_str.ensures.value ∙ is))
    (c.loop-cell.invariant.places _ (All-get_or (λ (n : List ℕ). IsTrue (g.S.Store.has_place c.args.store.now n)) (texts names) i
    (string_bytes c.index-names-len.result) (omega (arith, there, length-map names string_bytes)) c.requires.places))

pub loop-cell-preserved : goal.loop-cell-preserved
loop-cell-preserved g c =
    let inv = c.loop-cell.invariant in
    let names = c.args.names.now in
    let histories = c.loop-cell.histories in
    let place : c.len.result ≡ length histories.items = omega (arith, c.len.ensures, histories.ok.0) in
    let long : length (texts names) ≡ length c.args.cells.items =
    omega (arith, length-map names string_bytes, c.requires.as_many, c.args.cells.ok.0) in
    let is : into_iter_items c.loop-cell.rest ≡ c.in-Some.cell ∷ into_iter_items c.next.new.self = c.in-Some.ensures.items in
    let some : 0 < into_iter_len c.loop-cell.rest = omega (arith, c.in-Some.ensures.len) in
    let there : c.len.result < length names =
    omega (arith, place, some, inv.count, c.requires.as_many, c.args.cells.ok.0) in
    let named = c.as_str.ensures.value ∙ (text_at names c.len.result c.index-names-len.result there c.index-names-len.is
    ∙ ap (λ k. get_or (texts names) k (string_bytes c.index-names-len.result)) place) in
    let at : c.as_str.result.now ≡ get_or (texts names) (length histories.items) c.as_str.result.now =
    named ∙ ap (λ d. get_or (texts names) (length histories.items) d) (sym c.as_str.ensures.value) in
    let more = one_closed (branded g.S.Dev.Disk.device g.K.Begun.before) (texts names) c.args.cells.items
    (into_iter_items c.loop-cell.rest) (into_iter_items c.next.new.self) histories.items (g.S.Store.device_at c.args.store.now)
    (g.S.Store.device_at c.loop-cell.store) (g.S.Store.device_at c.close_cell-history.new.store)
    (g.S.Store.fault_count c.args.store.now) (g.S.Store.fault_count c.loop-cell.store)
    (g.S.Store.fault_count c.close_cell-history.new.store) c.in-Some.cell c.close_cell-history.result c.as_str.result.now inv.closed
    is long c.requires.apart at c.close_cell-history.ensures.history c.close_cell-history.ensures.told
    c.close_cell-history.ensures.others c.close_cell-history.ensures.counted c.close_cell-history.ensures.faulty in
    record {
      closed = rw c.push_reserved.ensures.items more;
      count = omega (
        arith,
        inv.count,
        c.in-Some.ensures.len,
        c.push_reserved.ensures.len,
        histories.ok.0,
        c.push_reserved.new.self.ok.0,
      );
      room = c.push_reserved.ensures.capacity ∙ inv.room;
      places = λ n was. c.close_cell-history.ensures.places n (inv.places n was);
    }

-- all cells are closed
closed : (g : _) (c : After-destroy_empty g) → let now = g.S.Store.device_at c.loop-cell.store in
    AreGivenBack (branded g.S.Dev.Disk.device g.K.Begun.before) (texts c.args.names.now) c.args.cells.items (g.S.Store.device_at c.args.store.now) now
    × AreHistoriesAt g.K.Begun.before now (texts c.args.names.now) c.loop-cell.histories.items
closed g c =
    let none : into_iter_len c.loop-cell.rest ≡ 0 = grind (arith, common_steps) in
    all_closed _ _ _ _ _ _ _ _ _ c.loop-cell.invariant.closed (omega (arith, c.loop-cell.invariant.count, none))
    (omega (arith, length-map c.args.names.now string_bytes, c.requires.as_many, c.args.cells.ok.0)) g.K.Begun.before (λ d. refl)

pub returns-clause-given_back : goal.returns-clause-given_back
returns-clause-given_back g c = (closed g (goal.at.returns-clause-given_back g c).After-destroy_empty).0

pub returns-clause-devices : goal.returns-clause-devices
returns-clause-devices g c = (closed g (goal.at.returns-clause-devices g c).After-destroy_empty).1

use Rattle.std.proofs.Common.{length, take, ◌∙◌, sym, arith}
use Rattle.std.proofs.lemmas.List.{length-take-le}
use Rattle.branded_disk.specs.{branded}
use Rattle.plant_store.proofs.TagDevices.{still}
use Rattle.plant_store.proofs.TagEndings.{of_all}
use Rattle.plant_store.proofs.CellLabels.{apart_texts, as_many_names, places_front, places_whole}
use Rattle.plant_store.proofs.CellHalts.{IsGivenUp, given_up}
use Rattle.plant_store.proofs.cell_opening.open_cells.Goals as goal
use Rattle.plant_store.proofs.cell_opening.open_cells.Goals.{After-close_cells}

pub returns-in_default-clause-any_moment : goal.returns-in_default-clause-any_moment
returns-in_default-clause-any_moment g c = λ k d there. still _ _

pub returns-in_default-with_capacity-clause-any_moment :
    goal.returns-in_default-with_capacity-clause-any_moment
returns-in_default-with_capacity-clause-any_moment g c = λ k d there. still _ _

pub returns-in-Ok-open_all-clause-places : goal.returns-in-Ok-open_all-clause-places
returns-in-Ok-open_all-clause-places g c = places_whole (g.S.Store.has_place c.open_all.new.store) c.args.names.now c.args.tags.now
    (length c.open_all.new.cells.items) c.requires.names c.in-Ok-open_all.ensures.whole c.open_all.ensures.places

pub slice_bounds-close_cells-end : goal.slice_bounds-close_cells-end
slice_bounds-close_cells-end g c = sym (length-take-le c.len-opened.result c.args.names.now (omega (
  arith,
  c.len-opened.ensures,
  c.open_all.new.cells.ok.0,
  c.open_all.ensures.within,
  as_many_names c.args.names.now c.args.tags.now c.requires.names,
)))

pub close_cells-requires-clause-as_many : goal.close_cells-requires-clause-as_many
close_cells-requires-clause-as_many g c κs within = length-take-le c.len-opened.result c.args.names.now (omega (
  arith,
  c.len-opened.ensures,
  c.open_all.new.cells.ok.0,
  c.open_all.ensures.within,
  as_many_names c.args.names.now c.args.tags.now c.requires.names,
)) ∙ c.len-opened.ensures

pub close_cells-requires-clause-apart : goal.close_cells-requires-clause-apart
close_cells-requires-clause-apart g c κs within = apart_texts c.args.names.now c.args.tags.now c.len-opened.result c.requires.names
    c.requires.distinct (omega (arith, c.len-opened.ensures, c.open_all.new.cells.ok.0, c.open_all.ensures.within))

pub close_cells-requires-clause-places : goal.close_cells-requires-clause-places
close_cells-requires-clause-places g c κs within = places_front (g.S.Store.has_place c.open_all.new.store) c.args.names.now
    (length c.open_all.new.cells.items) c.len-opened.result (omega (arith, c.len-opened.ensures, c.open_all.new.cells.ok.0))
    c.open_all.ensures.places

-- the opened cells are given back
up : (g : _) (c : After-close_cells g)
    → IsGivenUp c.args.tags.now (take (length c.open_all.new.cells.items) c.args.tags.now) (g.S.Store.device_at c.args.store.now)
    (g.S.Store.device_at c.open_all.new.store) (g.S.Store.device_at c.close_cells.new.store) (g.S.Store.fault_count c.args.store.now)
    (g.S.Store.fault_count c.close_cells.new.store) c.in-Err.why
up g c = given_up (branded g.S.Dev.Disk.device g.K.Begun.before) c.args.names.now c.args.tags.now
    c.open_all.new.cells.items c.len-opened.result _ _ _ _ (g.S.Store.fault_count c.open_all.new.store) _ _ c.requires.names
    (omega (arith, c.len-opened.ensures, c.open_all.new.cells.ok.0)) c.open_all.ensures.opened c.in-Err.ensures.stopped
    c.close_cells.ensures.given_back c.close_cells.ensures.counts

pub returns-clause-refused : goal.returns-clause-refused
returns-clause-refused g c = (up g (goal.at.returns-clause-refused g c).After-close_cells).refused

pub returns-clause-any_moment : goal.returns-clause-any_moment
returns-clause-any_moment g c = (up g (goal.at.returns-clause-any_moment g c).After-close_cells).same

pub returns-clause-others : goal.returns-clause-others
returns-clause-others g c = λ n none.
    let up = up g (goal.at.returns-clause-others g c).After-close_cells in
    of_all c.args.tags.now (length c.open_all.new.cells.items) (g.S.Store.device_at c.open_all.new.store)
    (g.S.Store.device_at c.close_cells.new.store) up.others n none ∙ c.open_all.ensures.others n none

pub returns-clause-counts : goal.returns-clause-counts
returns-clause-counts g c = (up g (goal.at.returns-clause-counts g c).After-close_cells).counts

use Rattle.std.proofs.Common.{◌≡◌, ◌≢◌, ℕ, ◌+◌, ◌<◌, List, ◌∷◌, length, drop, sym, ◌∙◌, ap, subst, arith}
use Rattle.std.specs.Option.{IsSome}
use Rattle.std.specs.Arc.{arc_value}
use Rattle.std.specs.Vec.Iter.{into_iter_items, into_iter_len}
use Rattle.std.proofs.lemmas.List.{length-drop}
use Rattle.trend_num.specs.{Rec, TagDef}
use Rattle.trend_model.specs.State.{State}
use Rattle.tag_cell.specs.{device_name, ToldCell}
use Rattle.snapshot_table.specs.{new_posters}
use Rattle.snapshot_table.proofs.Places.{length-new_posters}
use Rattle.crash_recovery.specs.{StaysSame}
use Rattle.device_layout.specs.declared.failure.OpenNo.TheVariants.{DeviceFault}
use Rattle.device_layout.specs.{IsCause}
use Rattle.branded_disk.specs.{branded}
use Rattle.plant_store.specs.TagRefusals.{status_of}
use Rattle.plant_store.proofs.Counts.{counted_since}
use Rattle.plant_store.proofs.TagEndings.{of_all}
use Rattle.plant_store.specs.{records_opened, IsStopped}
use Rattle.plant_store.proofs.TagTurns.{reached}
use Rattle.plant_store.proofs.CellFronts.{posts_to}
use Rattle.plant_store.proofs.CellHalts.{opened_more, opened_since, records_more, rooms_more, still_unused, stopped_full, stopped_there}
use Rattle.plant_store.proofs.CellLabels.{as_many_names, named_at, places_more}
use Rattle.plant_store.proofs.CellLists.{next_of, no_some}
use Rattle.plant_store.proofs.cell_turns.open_all.Goals as goal

pub unreachable-requires : goal.unreachable-requires
unreachable-requires g c =
    let inv = c.loop-def.invariant in
    let board = arc_value c.args.board.now in
    let some : 0 < into_iter_len c.loop-def.posters = omega (
      arith,
      inv.posters_count,
      ap length inv.posters,
      length-drop c.loop-def.def-index (new_posters 0 board),
      length-new_posters 0 board,
      c.loop-def-test.true,
      c.requires.places,
    ) in
    let there : IsSome c.next.result = c.next.ensures.variant.1 some in
    no_some c.next.result there c.in_default.is

pub open_one-requires-clause-here : goal.open_one-requires-clause-here
open_one-requires-clause-here g c κs within =
    (posts_to (arc_value c.args.board.now) c.loop-def.def-index c.in-Some.poster (into_iter_items c.next.new.self)
    (omega (arith, c.loop-def-test.true, c.requires.places)) (sym c.loop-def.invariant.posters ∙ c.in-Some.ensures.items)).0

pub open_one-requires-clause-unposted : goal.open_one-requires-clause-unposted
open_one-requires-clause-unposted g c κs within =
    (posts_to (arc_value c.args.board.now) c.loop-def.def-index c.in-Some.poster (into_iter_items c.next.new.self)
    (omega (arith, c.loop-def-test.true, c.requires.places)) (sym c.loop-def.invariant.posters ∙ c.in-Some.ensures.items)).1

pub open_one-requires-clause-named : goal.open_one-requires-clause-named
open_one-requires-clause-named g c κs within =
    (named_at c.args.names.now c.args.tags.now c.loop-def.def-index c.len-tag.result c.index-names-tag.result
    c.as_str-name.result.now c.def-item.result c.requires.names c.loop-def-test.true c.def-item.is
    (omega (arith, c.len-tag.ensures, c.loop-def.cells.ok.0, c.loop-def.invariant.first.count)) c.index-names-tag.is
    c.as_str-name.ensures.value).named

pub open_one-requires-clause-unused : goal.open_one-requires-clause-unused
open_one-requires-clause-unused g c κs within =
    let inv = c.loop-def.invariant in
    let at = named_at c.args.names.now c.args.tags.now c.loop-def.def-index c.len-tag.result c.index-names-tag.result
    c.as_str-name.result.now c.def-item.result c.requires.names c.loop-def-test.true c.def-item.is
    (omega (arith, c.len-tag.ensures, c.loop-def.cells.ok.0, inv.first.count)) c.index-names-tag.is c.as_str-name.ensures.value in
    still_unused g.K.Begun.before c.args.tags.now c.loop-def.def-index c.def-item.result c.as_str-name.result.now
    (g.S.Store.device_at c.args.store.now) (g.S.Store.device_at c.loop-def.store) inv.others c.requires.distinct at.tag at.named
    c.requires.unused

pub returns-in-Err-clause-others : goal.returns-in-Err-clause-others
returns-in-Err-clause-others g c =
    let inv = c.loop-def.invariant in
    let at = named_at c.args.names.now c.args.tags.now c.loop-def.def-index c.len-tag.result c.index-names-tag.result
    c.as_str-name.result.now c.def-item.result c.requires.names c.loop-def-test.true c.def-item.is
    (omega (arith, c.len-tag.ensures, c.loop-def.cells.ok.0, inv.first.count)) c.index-names-tag.is c.as_str-name.ensures.value in
    of_all c.args.tags.now (c.loop-def.def-index + 1) (g.S.Store.device_at c.args.store.now) (g.S.Store.device_at c.open_one.new.store)
    (reached c.args.tags.now c.loop-def.def-index c.def-item.result (g.S.Store.device_at c.args.store.now)
    (g.S.Store.device_at c.loop-def.store) (g.S.Store.device_at c.open_one.new.store) inv.others at.tag
    (λ n apart. c.open_one.ensures.others n (λ e. apart (e ∙ at.named))))

pub returns-in-Err-clause-stopped : goal.returns-in-Err-clause-stopped
returns-in-Err-clause-stopped g c =
    let inv = c.loop-def.invariant in
    let i = c.loop-def.def-index in
    let def = c.def-item.result in
    let at = named_at c.args.names.now c.args.tags.now c.loop-def.def-index c.len-tag.result c.index-names-tag.result
    c.as_str-name.result.now c.def-item.result c.requires.names c.loop-def-test.true c.def-item.is
    (omega (arith, c.len-tag.ensures, c.loop-def.cells.ok.0, inv.first.count)) c.index-names-tag.is c.as_str-name.ensures.value in
    let now = g.S.Store.device_at c.loop-def.store in
    let new = g.S.Store.device_at c.open_one.new.store in
    let status : c.status_of.result ≡ status_of i c.in-Err.why =
    c.status_of.ensures ∙ ap (λ n. status_of n c.in-Err.why) at.place in
    subst (IsStopped (branded g.S.Dev.Disk.device g.K.Begun.before) c.args.tags.now c.loop-def.cells.items (g.S.Store.device_at c.args.store.now) new
    (g.S.Store.fault_count c.args.store.now) (g.S.Store.fault_count c.open_one.new.store)) (sym status)
    (stopped_there (branded g.S.Dev.Disk.device g.K.Begun.before) c.args.tags.now i def c.loop-def.cells.items
    (g.S.Store.device_at c.args.store.now) now new (g.S.Store.fault_count c.args.store.now)
    (g.S.Store.fault_count c.open_one.new.store) c.in-Err.why c.requires.distinct inv.first inv.others at.tag
    (λ n apart. c.open_one.ensures.others n (λ e. apart (e ∙ at.named)))
    (subst (λ (n : List ℕ). StaysSame def (now n) (new n)) at.named c.in-Err.ensures.same)
    (subst (λ (n : List ℕ). IsCause def (now n) c.in-Err.why) at.named c.in-Err.ensures.cause)
    (λ small. counted_since {U = ToldCell g.row.S-Dev.Denot} c.in-Err.why DeviceFault (g.S.Store.fault_count c.args.store.now)
    (g.S.Store.fault_count c.loop-def.store) (g.S.Store.fault_count c.open_one.new.store) inv.passed small c.in-Err.ensures.counts))

pub returns-then-records-gt-MAX_STORE_RECORDS-clause-others :
    goal.returns-then-records-gt-MAX_STORE_RECORDS-clause-others
returns-then-records-gt-MAX_STORE_RECORDS-clause-others g c =
    let inv = c.loop-def.invariant in
    let new = g.S.Store.device_at c.close_cell.new.store in
    let at = named_at c.args.names.now c.args.tags.now c.loop-def.def-index c.len-tag.result c.index-names-tag.result
    c.as_str-name.result.now c.def-item.result c.requires.names c.loop-def-test.true c.def-item.is
    (omega (arith, c.len-tag.ensures, c.loop-def.cells.ok.0, inv.first.count)) c.index-names-tag.is c.as_str-name.ensures.value in
    of_all c.args.tags.now (c.loop-def.def-index + 1) (g.S.Store.device_at c.args.store.now) new
    (reached c.args.tags.now c.loop-def.def-index c.def-item.result (g.S.Store.device_at c.args.store.now)
    (g.S.Store.device_at c.loop-def.store) new inv.others at.tag (λ n apart.
    let other : n ≢ c.as_str-name.result.now = λ e. apart (e ∙ at.named) in
    c.close_cell.ensures.others n other ∙ c.open_one.ensures.others n other))

pub returns-then-records-gt-MAX_STORE_RECORDS-clause-stopped :
    goal.returns-then-records-gt-MAX_STORE_RECORDS-clause-stopped
returns-then-records-gt-MAX_STORE_RECORDS-clause-stopped g c =
    let inv = c.loop-def.invariant in
    let i = c.loop-def.def-index in
    let def = c.def-item.result in
    let cell = c.in-Ok.cell in
    let tags = c.args.tags.now in
    let old = g.S.Store.device_at c.args.store.now in
    let now = g.S.Store.device_at c.loop-def.store in
    let new = g.S.Store.device_at c.close_cell.new.store in
    let at = named_at c.args.names.now c.args.tags.now c.loop-def.def-index c.len-tag.result c.index-names-tag.result
    c.as_str-name.result.now c.def-item.result c.requires.names c.loop-def-test.true c.def-item.is
    (omega (arith, c.len-tag.ensures, c.loop-def.cells.ok.0, inv.first.count)) c.index-names-tag.is c.as_str-name.ensures.value in
    let is = c.in-Ok.ensures.opened in
    let number_is : c.loop-def.records + length c.recs.result.now
    ≡ records_opened c.loop-def.cells.items + length cell.opening.recs.items =
    omega (arith, inv.records, ap (length {A = Rec}) c.recs.ensures.records, ap (λ (s : State). length s.records) is.state_is) in
    subst (IsStopped (branded g.S.Dev.Disk.device g.K.Begun.before) tags c.loop-def.cells.items old new (g.S.Store.fault_count c.args.store.now)
    (g.S.Store.fault_count c.close_cell.new.store)) (sym c.too_many.ensures)
    (stopped_full (branded g.S.Dev.Disk.device g.K.Begun.before) tags i def c.as_str-name.result.now
    c.loop-def.cells.items cell old now new (g.S.Store.fault_count c.args.store.now) (g.S.Store.fault_count c.open_one.new.store)
    (g.S.Store.fault_count c.close_cell.new.store) (c.loop-def.records + length c.recs.result.now) c.requires.distinct inv.first
    inv.others at.tag at.named
    (λ n other. c.close_cell.ensures.others n other ∙ c.open_one.ensures.others n other)
    (c.close_cell.ensures.told (at.named ∙ ap (λ (d : TagDef). device_name d.name) (sym is.def_is))) is number_is
    c.if-records-gt-MAX_STORE_RECORDS.true (c.in-Ok.ensures.passed ∙ inv.passed) c.close_cell.ensures.counted)

pub loop-def-preserved :
    goal.loop-def-preserved
loop-def-preserved g c =
    let inv = c.loop-def.invariant in
    let i = c.loop-def.def-index in
    let def = c.def-item.result in
    let cell = c.in-Ok.cell in
    let tags = c.args.tags.now in
    let names = c.args.names.now in
    let old = g.S.Store.device_at c.args.store.now in
    let now = g.S.Store.device_at c.loop-def.store in
    let new = g.S.Store.device_at c.open_one.new.store in
    let at = named_at c.args.names.now c.args.tags.now c.loop-def.def-index c.len-tag.result c.index-names-tag.result
    c.as_str-name.result.now c.def-item.result c.requires.names c.loop-def-test.true c.def-item.is
    (omega (arith, c.len-tag.ensures, c.loop-def.cells.ok.0, inv.first.count)) c.index-names-tag.is c.as_str-name.ensures.value in
    let others = reached tags i def old now new inv.others at.tag (λ n apart. c.open_one.ensures.others n (λ e. apart (e ∙ at.named))) in
    let is = opened_since tags i def c.as_str-name.result.now old now (branded g.S.Dev.Disk.device g.K.Begun.before cell.journal.dev) cell inv.others c.requires.distinct at.tag at.named
    c.in-Ok.ensures.opened in
    let more = opened_more (branded g.S.Dev.Disk.device g.K.Begun.before) tags i def c.loop-def.cells.items
    c.push_reserved.new.self.items cell old inv.first at.tag is c.push_reserved.ensures.items in
    let places = places_more (g.S.Store.has_place c.loop-def.store) (g.S.Store.has_place c.open_one.new.store) names i
    c.len-tag.result c.index-names-tag.result c.as_str-name.result.now inv.places c.open_one.ensures.kept_places
    c.in-Ok.ensures.place (omega (arith, at.tag.there, as_many_names names tags c.requires.names)) at.place c.index-names-tag.is
    c.as_str-name.ensures.value in
    let posters : drop i (new_posters 0 (arc_value c.args.board.now)) ≡ c.in-Some.poster ∷ into_iter_items c.next.new.self =
    sym inv.posters ∙ c.in-Some.ensures.items in
    let records = records_more c.loop-def.cells.items c.push_reserved.new.self.items cell c.push_reserved.ensures.items in
    let counted : c.loop-def.records + length c.recs.result.now ≡ records_opened c.push_reserved.new.self.items =
    omega (arith, inv.records, records, ap (length {A = Rec}) c.recs.ensures.records, ap (λ (s : State). length s.records) is.state_is) in
    record {
      first = record {
        opened = more.0;
        count = more.1;
        few = omega (arith, counted, c.if-records-gt-MAX_STORE_RECORDS.false);
      };
      records = counted;
      room = c.push_reserved.ensures.capacity ∙ inv.room;
      rooms = rooms_more c.loop-def.cells.items c.push_reserved.new.self.items cell c.args.rooms.now i c.len-tag.result
          c.push_reserved.ensures.items inv.rooms c.in-Ok.ensures.room at.place (omega (arith, at.tag.there, c.requires.rooms));
      others = others;
      places = places;
      kept_places = λ n was. c.open_one.ensures.kept_places n (inv.kept_places n was);
      posters = (next_of (new_posters 0 (arc_value c.args.board.now)) i c.in-Some.poster (into_iter_items c.next.new.self) posters).rest_is;
      posters_count = omega (arith, inv.posters_count, ap length c.in-Some.ensures.items, c.in-Some.ensures.len);
      passed = c.in-Ok.ensures.passed ∙ inv.passed;
    }

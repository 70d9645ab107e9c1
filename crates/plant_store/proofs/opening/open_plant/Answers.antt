use Rattle.std.proofs.Common.{◌≡◌, ◌∙◌, ◌<◌, ◌^◌, [], All, ap, arith, get_or, length, subst, sym}
use Rattle.std.specs.Prelude.{IsTrue, String}
use Rattle.std.specs.declared.alloc.Global.{Global}
use Rattle.std.proofs.lemmas.List.Elements.{All-weaker}
use Rattle.std.proofs.lemmas.Result.{err_from_is_err_and}
use Rattle.trend_num.specs.{TagDef}
use Rattle.tag_base.specs.{IsSoundGroup}
use Rattle.tag_cell.specs.{ToldCell}
use Rattle.branded_disk.specs.{branded}
use Rattle.plant_store.specs.TagRefusals as tags
use Rattle.plant_store.specs.Tags as tag
use Rattle.plant_store.proofs.TagDevices.{still}
use Rattle.plant_store.specs.CellClosings.{AreGivenBack}
use Rattle.plant_store.specs.{AreApart, HasPlaces, device_names_of, texts, AreCellsOpened, HavePlaces, OfTags, cell_records_in}
use Rattle.plant_store.specs.Groups as group
use Rattle.plant_store.specs.BookRefusals as groups
use Rattle.plant_store.proofs.BookDevices.{books_before, same_untouched}
use Rattle.plant_store.proofs.BookTurns.{still as still_group}
use Rattle.plant_store.proofs.Endings.{count_kept, given_up_counts, given_up_groups, given_up_refused, others_kept, rest_same, tags_count, tags_kept}
use Rattle.plant_store.proofs.Labels.{groups_same, groups_unused}
use Rattle.plant_store.proofs.opening.open_plant.Goals as goal

-- ---- there is no memory before a device is taken

pub returns-in_default-clause-refused : goal.returns-in_default-clause-refused
returns-in_default-clause-refused g c = OfTags tt

pub returns-in_default-clause-same_tags : goal.returns-in_default-clause-same_tags
returns-in_default-clause-same_tags g c = λ k d there. still _ _

pub returns-in_default-clause-same_groups : goal.returns-in_default-clause-same_groups
returns-in_default-clause-same_groups g c = λ k d there. still_group (get_or c.args.base.now.groups.items k d) _

-- ---- the tags

pub open_cells-requires-clause-names : goal.open_cells-requires-clause-names
open_cells-requires-clause-names g c κs within =
    ap texts c.deref-2.ensures.value ∙ c.requires.shelf.tag_names_are ∙ ap device_names_of (sym c.deref.ensures.value)

pub open_cells-requires-clause-unused : goal.open_cells-requires-clause-unused
open_cells-requires-clause-unused g c κs within =
    subst (λ l. tag.AreTagsUnused g.K.Begun.before l (g.S.Store.device_at c.args.store.now)) (sym c.deref.ensures.value) c.requires.unused

pub returns-in_err-cells-clause-refused : goal.returns-in_err-cells-clause-refused
returns-in_err-cells-clause-refused g c =
    let out = err_from_is_err_and c.from_residual.result c.from_residual.ensures.1 in
    rw (out.1, out.2)
    (OfTags (subst (λ l. tags.IsRefusal l (g.S.Store.device_at c.args.store.now) (g.S.Store.device_at c.open_cells.new.store)
    (g.S.Store.fault_count c.args.store.now) (g.S.Store.fault_count c.open_cells.new.store) c.in_err-cells.field-0.0) c.deref.ensures.value
    c.in_err-cells.ensures.refused))

pub returns-in_err-cells-clause-same_tags : goal.returns-in_err-cells-clause-same_tags
returns-in_err-cells-clause-same_tags g c =
    let out = err_from_is_err_and c.from_residual.result c.from_residual.ensures.1 in
    let old = g.S.Store.device_at c.args.store.now in
    let new = g.S.Store.device_at c.open_cells.new.store in
    rw out.1 (subst (λ l. tag.AllStaySame l old new) c.deref.ensures.value c.in_err-cells.ensures.any_moment)

pub returns-in_err-cells-clause-same_groups : goal.returns-in_err-cells-clause-same_groups
returns-in_err-cells-clause-same_groups g c =
    let out = err_from_is_err_and c.from_residual.result c.from_residual.ensures.1 in
    let ts = c.args.base.now.tags.items in
    let old = g.S.Store.device_at c.args.store.now in
    let new = g.S.Store.device_at c.open_cells.new.store in
    rw out.1
    (same_untouched c.args.base.now.groups.items [] old new
    (groups_same ts old new (subst (λ l. tag.AreOtherTagsSame l old new) c.deref.ensures.value c.open_cells.ensures.others)))

pub returns-in_err-cells-clause-others : goal.returns-in_err-cells-clause-others
returns-in_err-cells-clause-others g c =
    let old = g.S.Store.device_at c.args.store.now in
    let new = g.S.Store.device_at c.open_cells.new.store in
    λ n no_tag no_group. subst (λ l. tag.AreOtherTagsSame l old new) c.deref.ensures.value c.open_cells.ensures.others n no_tag

pub returns-in_err-cells-clause-counts : goal.returns-in_err-cells-clause-counts
returns-in_err-cells-clause-counts g c = λ small.
    let out = err_from_is_err_and c.from_residual.result c.from_residual.ensures.1 in
    rw (out.1, out.2)
    (tags_count (g.S.Store.fault_count c.args.store.now) (g.S.Store.fault_count c.open_cells.new.store) c.in_err-cells.field-0.0
    (c.in_err-cells.ensures.counts small))

-- ---- the groups

pub open_groups-requires-clause-sound : goal.open_groups-requires-clause-sound
open_groups-requires-clause-sound g c κs within =
    let many : length c.args.base.now.tags.items ≡ length c.deref-4.result.now = omega (
      arith,
      ap (length {A = ToldCell g.row.S-Dev.Denot}) c.deref-4.ensures.value,
      c.in_ok-cells.ensures.as_many,
      ap (length {A = TagDef}) c.deref.ensures.value,
    ) in
    subst (λ n. All (IsSoundGroup n) c.args.base.now.groups.items) many c.requires.sound

pub open_groups-requires-clause-names : goal.open_groups-requires-clause-names
open_groups-requires-clause-names g c κs within =
    subst (group.AreNamesOf c.args.base.now.groups.items) (sym c.deref-3.ensures.value) c.requires.shelf.group_names_are

pub open_groups-requires-clause-unused : goal.open_groups-requires-clause-unused
open_groups-requires-clause-unused g c κs within =
    groups_unused g.K.Begun.before c.args.base.now.tags.items c.args.base.now.groups.items (g.S.Store.device_at c.args.store.now)
    (g.S.Store.device_at c.open_cells.new.store)
    (subst (λ l. tag.AreOtherTagsSame l (g.S.Store.device_at c.args.store.now) (g.S.Store.device_at c.open_cells.new.store)) c.deref.ensures.value
    c.open_cells.ensures.others) c.requires.unused_groups

pub returns-in-Ok-open_groups-clause-tags : goal.returns-in-Ok-open_groups-clause-tags
returns-in-Ok-open_groups-clause-tags g c =
    subst (λ l. AreCellsOpened (branded g.S.Dev.Disk.device g.K.Begun.before) l (g.S.Store.device_at c.args.store.now) c.in_ok-cells.cells.items)
    c.deref.ensures.value c.in_ok-cells.ensures.opened

pub returns-in-Ok-open_groups-clause-as_many_cells : goal.returns-in-Ok-open_groups-clause-as_many_cells
returns-in-Ok-open_groups-clause-as_many_cells g c = c.in_ok-cells.ensures.as_many ∙ ap (length {A = TagDef}) c.deref.ensures.value

pub returns-in-Ok-open_groups-clause-groups : goal.returns-in-Ok-open_groups-clause-groups
returns-in-Ok-open_groups-clause-groups g c =
    let D = g.S.Dev.Disk in
    let ts = c.args.base.now.tags.items in
    let gs = c.args.base.now.groups.items in
    let cells = c.in_ok-cells.cells.items in
    let books = c.in-Ok-open_groups.books.items in
    let old = g.S.Store.device_at c.args.store.now in
    let mid = g.S.Store.device_at c.open_cells.new.store in
    books_before gs (cell_records_in cells) old mid
    (groups_same ts old mid (subst (λ l. tag.AreOtherTagsSame l old mid) c.deref.ensures.value c.open_cells.ensures.others))
    (branded D.device g.K.Begun.before) books
    (subst (λ l. group.AreBooksOpened (branded D.device g.K.Begun.before) gs (cell_records_in l) mid books) c.deref-4.ensures.value
    c.in-Ok-open_groups.ensures.opened)

pub returns-in-Ok-open_groups-clause-places : goal.returns-in-Ok-open_groups-clause-places
returns-in-Ok-open_groups-clause-places g c =
    let was = g.S.Store.has_place c.open_cells.new.store in
    let has = g.S.Store.has_place c.open_groups.new.store in
    record {
      for_tags = subst (λ l. HasPlaces has (texts l)) c.deref-2.ensures.value
          (All-weaker (λ n. IsTrue (was n)) (λ n. IsTrue (has n)) c.open_groups.ensures.kept_places (texts c.deref-2.result.now)
          c.in_ok-cells.ensures.places);
      for_groups = subst (λ n. HavePlaces n c.args.shelf.now.group_names.items has) (sym c.requires.shelf.as_many_groups)
          (subst (λ l. HavePlaces (length c.args.base.now.groups.items) l has) c.deref-3.ensures.value
          c.in-Ok-open_groups.ensures.places);
    }

pub returns-in-Ok-open_groups-clause-others : goal.returns-in-Ok-open_groups-clause-others
returns-in-Ok-open_groups-clause-others g c =
    let old = g.S.Store.device_at c.args.store.now in
    let mid = g.S.Store.device_at c.open_cells.new.store in
    λ n no_tag no_group. c.open_groups.ensures.others n no_group
    ∙ subst (λ l. tag.AreOtherTagsSame l old mid) c.deref.ensures.value c.open_cells.ensures.others n no_tag

pub returns-in-Ok-open_groups-clause-counts : goal.returns-in-Ok-open_groups-clause-counts
returns-in-Ok-open_groups-clause-counts g c = λ small.
    let passed = c.in_ok-cells.ensures.passed in
    c.in-Ok-open_groups.ensures.counts (subst (λ n. n < 2 ^ 64) (sym passed) small) ∙ passed

-- ---- a group is refused, and the devices of the tags are given back

pub close_cells-requires-clause-as_many : goal.close_cells-requires-clause-as_many
close_cells-requires-clause-as_many g c κs within = omega (
  arith,
  ap (length {A = String Global}) c.deref-in-Err.ensures.value,
  c.requires.shelf.as_many_tags,
  ap (length {A = TagDef}) c.deref.ensures.value,
  c.in_ok-cells.ensures.as_many,
  c.in_ok-cells.cells.ok.0,
)

pub close_cells-requires-clause-apart : goal.close_cells-requires-clause-apart
close_cells-requires-clause-apart g c κs within =
    subst (λ l. AreApart (texts l)) (sym c.deref-in-Err.ensures.value) c.requires.shelf.is_shelf.apart

pub close_cells-requires-clause-places : goal.close_cells-requires-clause-places
close_cells-requires-clause-places g c κs within =
    let was = g.S.Store.has_place c.open_cells.new.store in
    let has = g.S.Store.has_place c.open_groups.new.store in
    subst (λ l. HasPlaces has (texts l)) (c.deref-2.ensures.value ∙ sym c.deref-in-Err.ensures.value)
    (All-weaker (λ n. IsTrue (was n)) (λ n. IsTrue (has n)) c.open_groups.ensures.kept_places (texts c.deref-2.result.now)
    c.in_ok-cells.ensures.places)

pub returns-clause-refused : goal.returns-clause-refused
returns-clause-refused g c =
    let D = g.S.Dev.Disk in
    let ts = c.args.base.now.tags.items in
    let gs = c.args.base.now.groups.items in
    let cells = c.in_ok-cells.cells.items in
    let why = c.in-Err.why in
    let old = g.S.Store.device_at c.args.store.now in
    let mid = g.S.Store.device_at c.open_cells.new.store in
    let new = g.S.Store.device_at c.close_cells.new.store in
    let before = g.S.Store.fault_count c.args.store.now in
    let first = g.S.Store.fault_count c.open_cells.new.store in
    let last = g.S.Store.fault_count c.open_groups.new.store in
    let now = g.S.Store.fault_count c.close_cells.new.store in
    let passed = c.in_ok-cells.ensures.passed in
    let opened = subst (λ l. AreCellsOpened (branded D.device g.K.Begun.before) l old cells) c.deref.ensures.value
    c.in_ok-cells.ensures.opened in
    given_up_refused (branded D.device g.K.Begun.before) c.args.base.now cells old mid new before first last now why opened
    c.in_ok-cells.ensures.few_records
    (subst (λ l. tag.AreOtherTagsSame l old mid) c.deref.ensures.value c.open_cells.ensures.others) passed
    (count_kept (branded D.device g.K.Begun.before) ts old cells before first last now why opened passed c.in-Err.ensures.counts
    c.close_cells.ensures.counts)
    (subst (λ l. groups.IsRefusal gs (cell_records_in l) mid first last why) c.deref-4.ensures.value c.in-Err.ensures.refused)

pub returns-clause-same_tags : goal.returns-clause-same_tags
returns-clause-same_tags g c =
    let D = g.S.Dev.Disk in
    let cells = c.in_ok-cells.cells.items in
    let old = g.S.Store.device_at c.args.store.now in
    let after = g.S.Store.device_at c.open_groups.new.store in
    let new = g.S.Store.device_at c.close_cells.new.store in
    tags_kept (branded D.device g.K.Begun.before) c.args.shelf.now.tag_names.items c.args.base.now.tags.items cells old after new
    c.requires.shelf.tag_names_are
    (subst (λ l. AreCellsOpened (branded D.device g.K.Begun.before) l old cells) c.deref.ensures.value c.in_ok-cells.ensures.opened)
    (subst (λ l. AreGivenBack (branded D.device g.K.Begun.before) (texts l) cells after new) c.deref-in-Err.ensures.value c.close_cells.ensures.given_back)

pub returns-clause-same_groups : goal.returns-clause-same_groups
returns-clause-same_groups g c =
    let D = g.S.Dev.Disk in
    let cells = c.in_ok-cells.cells.items in
    let old = g.S.Store.device_at c.args.store.now in
    let mid = g.S.Store.device_at c.open_cells.new.store in
    let after = g.S.Store.device_at c.open_groups.new.store in
    let new = g.S.Store.device_at c.close_cells.new.store in
    given_up_groups (branded D.device g.K.Begun.before) c.args.base.now c.args.shelf.now.tag_names.items cells old mid after new c.requires.shelf.tag_names_are
    (subst (λ l. tag.AreOtherTagsSame l old mid) c.deref.ensures.value c.open_cells.ensures.others)
    (subst (λ l. AreGivenBack (branded D.device g.K.Begun.before) (texts l) cells after new) c.deref-in-Err.ensures.value c.close_cells.ensures.given_back)
    c.in-Err.ensures.any_moment

pub returns-clause-others : goal.returns-clause-others
returns-clause-others g c =
    let D = g.S.Dev.Disk in
    let ts = c.args.base.now.tags.items in
    let names = c.args.shelf.now.tag_names.items in
    let cells = c.in_ok-cells.cells.items in
    let old = g.S.Store.device_at c.args.store.now in
    let mid = g.S.Store.device_at c.open_cells.new.store in
    let after = g.S.Store.device_at c.open_groups.new.store in
    let new = g.S.Store.device_at c.close_cells.new.store in
    rest_same c.args.base.now old mid after new
    (subst (λ l. tag.AreOtherTagsSame l old mid) c.deref.ensures.value c.open_cells.ensures.others) c.open_groups.ensures.others
    (others_kept (branded D.device g.K.Begun.before) names ts cells after new c.requires.shelf.tag_names_are
    (subst (λ l. AreGivenBack (branded D.device g.K.Begun.before) (texts l) cells after new) c.deref-in-Err.ensures.value c.close_cells.ensures.given_back))

pub returns-clause-counts : goal.returns-clause-counts
returns-clause-counts g c =
    let D = g.S.Dev.Disk in
    let ts = c.args.base.now.tags.items in
    let cells = c.in_ok-cells.cells.items in
    let why = c.in-Err.why in
    let old = g.S.Store.device_at c.args.store.now in
    let before = g.S.Store.fault_count c.args.store.now in
    let first = g.S.Store.fault_count c.open_cells.new.store in
    let last = g.S.Store.fault_count c.open_groups.new.store in
    let now = g.S.Store.fault_count c.close_cells.new.store in
    let passed = c.in_ok-cells.ensures.passed in
    let opened = subst (λ l. AreCellsOpened (branded D.device g.K.Begun.before) l old cells) c.deref.ensures.value
    c.in_ok-cells.ensures.opened in
    given_up_counts before first last now why passed
    (count_kept (branded D.device g.K.Begun.before) ts old cells before first last now why opened passed c.in-Err.ensures.counts
    c.close_cells.ensures.counts) c.in-Err.ensures.counts

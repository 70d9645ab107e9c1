use Rattle.std.proofs.Common.{◌≡◌, ◌∙◌, ap, sym, subst, arith}
use Rattle.std.proofs.lemmas.List.{take_all}
use Rattle.calc_refresh.specs.{lists_of}
use Rattle.group_book.specs.{GroupHistory}
use Rattle.plant_status.specs.declared.unit.Unit.TheVariants.{Group}
use Rattle.session_report.specs.{group_asker, ArePlacesFilled, answer_place_of, query_in}
use Rattle.session_report.proofs.Filling.{groups_more}
use Rattle.session_report.proofs.places.fill_groups.Goals as goal

pub loop-group-preserved : goal.loop-group-preserved
loop-group-preserved c =
    let readers = lists_of c.args.readers.now in
    let i = c.loop-group.group in
    let group = c.index-groups-group.result in
    let old = lists_of c.loop-group.table.items in
    let new = lists_of c.fill.new.table.items in
    let tape : c.as_slice.result.now ≡ group.tape.items = c.as_slice.ensures.value ∙ ap (λ (h : GroupHistory). h.tape.items) (sym c.index-groups-group.is) in
    record {
      places = λ tags are. groups_more readers tags c.args.groups.now i group old new c.loop-group-test.true (sym c.index-groups-group.is)
          (c.loop-group.invariant.places tags are)
          (subst (λ t. ArePlacesFilled group_asker readers (Group i) t old new) tape c.fill.ensures.filled);
      shape = c.fill.ensures.shape;
    }

pub returns-clause-places : goal.returns-clause-places
returns-clause-places c = λ tags are reader k.
    let groups = c.args.groups.now in
    c.loop-group.invariant.places tags are reader k
    ∙ ap (λ l. answer_place_of tags l reader k (query_in (lists_of c.args.readers.now) reader k))
    (take_all c.loop-group.group groups (omega (arith, c.loop-group-test.false, c.loop-group.auto)))

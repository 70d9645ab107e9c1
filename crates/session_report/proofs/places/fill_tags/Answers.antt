use Rattle.std.proofs.Common.{◌≡◌, ◌∙◌, ap, sym, subst}
use Rattle.tag_cell.specs.{TagHistory}
use Rattle.calc_refresh.specs.{lists_of}
use Rattle.plant_status.specs.declared.unit.Unit.TheVariants.{Tag}
use Rattle.session_report.specs.{tag_asker, ArePlacesFilled}
use Rattle.session_report.proofs.Filling.{tags_more}
use Rattle.session_report.proofs.places.fill_tags.Goals as goal

pub loop-tag-preserved : goal.loop-tag-preserved
loop-tag-preserved c =
    let readers = lists_of c.args.readers.now in
    let i = c.loop-tag.tag in
    let tag = c.index-tags-tag.result in
    let old = lists_of c.loop-tag.table.items in
    let new = lists_of c.fill.new.table.items in
    let tape : c.as_slice.result.now ≡ tag.tape.items = c.as_slice.ensures.value ∙ ap (λ (h : TagHistory). h.tape.items) (sym c.index-tags-tag.is) in
    record {
      places = tags_more readers c.args.tags.now i tag old new c.loop-tag-test.true (sym c.index-tags-tag.is) c.loop-tag.invariant.places
          (subst (λ t. ArePlacesFilled tag_asker readers (Tag i) t old new) tape c.fill.ensures.filled);
      shape = c.fill.ensures.shape;
    }

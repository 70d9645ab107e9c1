use Rattle.std.proofs.Common.{◌≡◌, ◌<◌, ◌∙◌, [], length, None, Some, ap, sym, arith}
use Rattle.std.specs.Option.{option_map_or}
use Rattle.std.proofs.lemmas.Option.{slice_get-get_or, slice_get_past}
use Rattle.trend_num.specs.{Snap}
use Rattle.tag_cell.specs.{TagHistory}
use Rattle.session_report.specs.{tag_tape, checked, held_points}
use Rattle.session_report.proofs.Keeping.{list_at}
use Rattle.session_report.proofs.snap.snap_of.Goals as goal

pub checked-requires : goal.checked-requires
checked-requires c =
    let tags = c.args.tags.now in
    let tag = c.index-tags-place.result in
    let held = c.args.held.now in
    let within : c.args.tag < length held = omega (arith, c.if-place-tags.true, c.requires.as_many) in
    let tape : tag_tape tags c.args.tag ≡ tag.tape.items =
    ap (λ o. option_map_or (λ (h : TagHistory). h.tape.items) o []) (slice_get-get_or tags c.args.tag tag c.if-place-tags.true
    ∙ ap (λ h. Some h) (sym c.index-tags-place.is)) in
    c.as_slice.ensures.value ∙ sym (list_at held c.args.tag c.index-held-place.result within c.index-held-place.is)
    ∙ c.requires.held ∙ ap held_points tape

pub returns-then-place-tags : goal.returns-then-place-tags
returns-then-place-tags c =
    let none : Snap = record { taken = 0; held = None } in
    let tag = c.index-tags-place.result in
    c.checked.ensures ∙ sym (ap (λ o. option_map_or (λ h. checked h c.args.told) o none)
    (slice_get-get_or c.args.tags.now c.args.tag tag c.if-place-tags.true ∙ ap (λ h. Some h) (sym c.index-tags-place.is)))

pub returns-else-place-tags : goal.returns-else-place-tags
returns-else-place-tags c =
    let none : Snap = record { taken = 0; held = None } in
    sym (ap (λ o. option_map_or (λ h. checked h c.args.told) o none)
    (slice_get_past c.args.tags.now c.args.tag (omega (arith, c.if-place-tags.false))))

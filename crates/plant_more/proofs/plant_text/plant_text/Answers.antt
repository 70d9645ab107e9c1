use Rattle.std.proofs.Common.{◌≡◌, get_or}
use Rattle.plant_more.proofs.LogTexts.{text_more}
use Rattle.plant_more.proofs.plant_text.plant_text.Goals as goal

pub loop-place-preserved : goal.loop-place-preserved
loop-place-preserved c =
    let tags = c.args.tags.now in
    let place = c.loop-place.place in
    let d = c.index-tags-place.result in
    let name : c.bytes.result.now ≡ (get_or tags place d).name =
    c.bytes.ensures.same in
    text_more tags place d _ _ c.loop-place-test.true c.loop-place.invariant
    (λ none. rw name at (c.in_ok-put_name.ensures.first none)) (λ some. rw name at (c.in_ok-put_name.ensures.next some))

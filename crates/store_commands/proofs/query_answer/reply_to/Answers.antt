use Rattle.std.proofs.Common.{◌∙◌, ap, sym}
use Rattle.trend_report.specs.{value_text}
use Rattle.store_commands.specs.{rows_in}
use Rattle.store_commands.proofs.Answering.{row_told, snap_told, tag_told}
use Rattle.store_commands.proofs.Listing.{content_there}
use Rattle.store_commands.proofs.query_answer.reply_to.Goals as goal

pub answer_of-requires-clause-content : goal.answer_of-requires-clause-content
answer_of-requires-clause-content c =
    let asked = rw c.in-Tag.is at c.requires.asked in
    content_there c.args.cores.now c.args.contents.now c.in-Tag.tag c.index-cores-place.result
    c.index-contents-place.result c.requires.contents asked.0 c.index-cores-place.is c.index-contents-place.is

pub returns-in_ok-reply-in-Tag : goal.returns-in_ok-reply-in-Tag
returns-in_ok-reply-in-Tag c =
    let asked = rw c.in-Tag.is at c.requires.asked in
    rw c.in-Tag.is (c.in_ok-reply-in-Tag.ensures
    ∙ sym (tag_told c.args.cores.now (rows_in c.args.groups.now) c.in-Tag.tag c.index-cores-place.result c.in-Tag.query asked.0
    c.index-cores-place.is))

pub returns-in-Snap : goal.returns-in-Snap
returns-in-Snap c =
    let asked = rw c.in-Snap.is at c.requires.asked in
    rw (c.in-Snap.is, c.snapshot.ensures.taken, c.snapshot.ensures.held)
    (sym (snap_told c.args.cores.now (rows_in c.args.groups.now) c.in-Snap.tag c.index-cores-tag.result asked c.index-cores-tag.is))

pub returns-in-Row : goal.returns-in-Row
returns-in-Row c =
    let asked = rw c.in-Row.is at c.requires.asked in
    rw c.in-Row.is (ap value_text c.value_at-value.ensures
    ∙ sym (row_told c.args.cores.now c.args.groups.now c.in-Row.group c.in-Row.calc c.in-Row.k c.index-groups-group.result asked
    c.index-groups-group.is))

use Rattle.std.proofs.Common.{◌+◌, ◌++◌, ◌∙◌, ap, ap₂, sym}
use Rattle.store_commands.specs.{replies_from, rows_in}
use Rattle.store_commands.proofs.ReplyNumbers.{told_more}
use Rattle.store_commands.proofs.trend_lines.trend_text.Goals as goal

pub loop-place-preserved : goal.loop-place-preserved
loop-place-preserved c =
    let cores = c.args.cores.now in
    let groups = rows_in c.args.groups.now in
    let place = c.loop-place.place in
    let reader = c.index-readers-place in
    let more = told_more cores groups (λ queries. queries.items) c.args.readers.now place reader.result
    c.loop-place-test.true reader.is in
    c.in_ok-put_replies.ensures ∙ (ap₂ (λ a b. a ++ b) c.loop-place.invariant
    (ap (replies_from cores groups (place + 1) 1) c.as_slice-in-loop-place.ensures.value) ∙ sym more)

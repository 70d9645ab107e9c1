use Rattle.std.proofs.Common.{◌+◌, ◌++◌, ◌∙◌, ap, ap₂, get_or, sym, append_assoc, string_bytes, take}
use Rattle.trend_num.specs.declared.query.TagQuery.TheVariants.{At}
use Rattle.value_rows.specs.declared.asked.Query.TheVariants.{Tag}
use Rattle.store_commands.specs.{replies_from, reply_line, rows_in}
use Rattle.store_commands.proofs.ReplyNumbers.{line_told, replies_more}
use Rattle.store_commands.proofs.trend_lines.put_replies.Goals as goal

pub loop-place-preserved : goal.loop-place-preserved
loop-place-preserved c =
    let cores = c.args.cores.now in
    let groups = rows_in c.args.groups.now in
    let reader = c.args.reader in
    let queries = c.args.queries.now in
    let place = c.loop-place.place in
    let query = get_or queries place (Tag 0 (At 0)) in
    let line = line_told cores groups reader (place + 1) query c.in_ok-reply.reply c.in_ok-reply.ensures in
    let more = replies_more cores groups reader queries place (Tag 0 (At 0)) c.loop-place-test.true in
    let before = replies_from cores groups reader 1 (take place queries) in
    c.in_ok-put_text.ensures ∙ (ap₂ (λ a b. a ++ b) c.loop-place.invariant
    (c.as_str.ensures.value ∙ (c.in_ok-line.ensures ∙ line))
    ∙ (append_assoc (string_bytes c.args.text.now) before (reply_line cores groups reader (place + 1) query)
    ∙ ap (λ l. string_bytes c.args.text.now ++ l) (sym more)))

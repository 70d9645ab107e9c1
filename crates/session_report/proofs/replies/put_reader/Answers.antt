use Rattle.std.proofs.Common.{ℕ, ◌+◌, List, get_or, string_bytes}
use Rattle.std.proofs.lemmas.List.{get_or_default}
use Rattle.trend_num.specs.declared.query.TagQuery.TheVariants.{At}
use Rattle.value_rows.specs.{Query}
use Rattle.value_rows.specs.declared.asked.Query.TheVariants.{Tag}
use Rattle.trend_report.specs.{reply_text}
use Rattle.session_report.specs.{reply_to}
use Rattle.session_report.proofs.Placed.{text_more}
use Rattle.session_report.proofs.replies.put_reader.Goals as goal

pub loop-place-preserved : goal.loop-place-preserved
loop-place-preserved c =
    let reader = c.args.reader in
    let line : ℕ → Query → List ℕ = λ place asked.
    reply_text (reader + 1) (place + 1) (reply_to c.args.session.now c.args.notes reader place asked) in
    let queries = c.args.queries.now in
    let i = c.loop-place.place in
    let query = get_or queries i (Tag 0 (At 0)) in
    text_more line queries i query (string_bytes c.args.text.now) (string_bytes c.loop-place.text) (string_bytes c.put_reply.new.text)
    c.loop-place-test.true (get_or_default queries i (Tag 0 (At 0)) query c.loop-place-test.true) c.loop-place.invariant c.in_ok-put_reply.ensures

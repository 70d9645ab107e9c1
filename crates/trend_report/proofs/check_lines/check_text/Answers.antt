use Rattle.std.proofs.Common.{◌≡◌, [], ◌∷◌, ◌++◌, length, length-append, sym, ap, ap₂, ◌∙◌, ℕ, List}
use Rattle.std.specs.Iterator.Adapters.{zip_first, zip_second}
use Rattle.std.specs.Slice.Iter.{iter_rest}
use Rattle.std.proofs.lemmas.Slice.Zip.{zip_turn, zip_end}
use Rattle.trend_report.specs.{tag_line_of, tag_text}
use Rattle.trend_report.proofs.CheckLines.{lines_before, one_line, all_lines}
use Rattle.trend_report.proofs.check_lines.check_text.Goals as goal

pub loop-def-preserved : goal.loop-def-preserved
loop-def-preserved c =
    let first : iter_rest (zip_first c.into_iter-def-iterator.result) ≡ c.args.tags.now = cc in
    let second : iter_rest (zip_second c.into_iter-def-iterator.result) ≡ c.args.cores.now = cc in
    let turn = zip_turn c.args.tags.now c.args.cores.now c.loop-def.yielded c.into_iter-def-iterator.result
    c.loop-def.def-iterator
    c.next.new.self c.next.result first second c.loop-def.yielded_by
    (c.in-Some.def, c.in-Some.core) c.in-Some.is
    c.next.ensures.steps in
    c.in-Ok.ensures.bytes
    ∙ ap₂ (λ (a b : List ℕ). a ++ b) c.loop-def.invariant
    (c.as_str.ensures.value ∙ c.in_ok-line-2.ensures ∙ ap tag_text (c.in_ok-line.ensures
    ∙ ap₂ (λ rs summary. tag_line_of c.in-Some.def.now.name rs summary) c.recs.ensures.value c.summary-summary.ensures.value))
    ∙ sym (one_line c.args.tags.now c.args.cores.now
    (length c.loop-def.yielded) c.in-Some.def.now c.in-Some.core.now
    turn.0 turn.1 (turn.2 _) (turn.3 _))
    ∙ ap (lines_before c.args.tags.now c.args.cores.now)
    (sym (length-append c.loop-def.yielded ((c.in-Some.def, c.in-Some.core) ∷ [])))

pub returns : goal.returns
returns c =
    let first : iter_rest (zip_first c.into_iter-def-iterator.result) ≡ c.args.tags.now = cc in
    let second : iter_rest (zip_second c.into_iter-def-iterator.result) ≡ c.args.cores.now = cc in
    c.loop-def.invariant ∙ all_lines c.args.tags.now c.args.cores.now (length c.loop-def.yielded)
    (zip_end c.args.tags.now c.args.cores.now c.loop-def.yielded c.into_iter-def-iterator.result
    c.loop-def.def-iterator
    c.next.new.self c.next.result first second c.loop-def.yielded_by c.in-None.is c.next.ensures.steps)

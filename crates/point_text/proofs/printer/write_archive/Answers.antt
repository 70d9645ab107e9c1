use Rattle.std.proofs.Common.{◌++◌, ◌-◌, take, drop, sym, ap, ◌∙◌, subst, arith, append-nil}
use Rattle.std.proofs.lemmas.List.{take_all}
use Rattle.std.proofs.lemmas.Result.{err_from_is_err_and, on_err_weaker, on_ok_weaker}
use Rattle.std.specs.List.{flat_map}
use Rattle.byte_io.specs.Outside.{IsWritten, IsCutShort}
use Rattle.point_text.specs.{held_line, record_line}
use Rattle.point_text.proofs.Printing.{cut_more, lines_more, text_from, written_more}
use Rattle.point_text.proofs.printer.write_archive.Goals as goal

pub loop-done-preserved : goal.loop-done-preserved
loop-done-preserved g c =
    let meaning = g.O.Sink.meaning in
    let recs = c.args.recs.now in
    let done = c.loop-done.done in
    let next = c.min-next.result in
    record {
      within = omega arith;
      written = subst (IsWritten (meaning c.args.out.now) (meaning c.write_records.new.out)) (lines_more recs done next (omega arith))
          (grind (arith, written_more));
    }

pub returns-in_err-write_records-clause-cut_short : goal.returns-in_err-write_records-clause-cut_short
returns-in_err-write_records-clause-cut_short g c =
    let meaning = g.O.Sink.meaning in
    let recs = c.args.recs.now in
    let done = c.loop-done.done in
    let n = c.min-next.result - done in
    let rest = drop done recs in
    let text = text_from done recs c.args.held ∙ ap (λ l. flat_map record_line (take done recs) ++ l) (text_from n rest c.args.held) in
    let out = err_from_is_err_and c.from_residual.result c.from_residual.ensures.1 in
    let cut = subst (IsCutShort (meaning c.args.out.now) (meaning c.write_records.new.out)) (sym text)
    (grind (arith, cut_more)) in
    rw out.1 cut

pub returns-clause-whole : goal.returns-clause-whole
returns-clause-whole g c = grind (arith, take_all, on_ok_weaker, written_more)

pub returns-clause-cut_short : goal.returns-clause-cut_short
returns-clause-cut_short g c =
    let meaning = g.O.Sink.meaning in
    let recs = c.args.recs.now in
    let done = c.loop-done.done in
    let text = ap (λ l. flat_map record_line (take done recs) ++ l) (append-nil (held_line c.args.held))
    ∙ ap (λ l. flat_map record_line l ++ held_line c.args.held) (take_all done recs (omega arith)) in
    on_err_weaker c.write_held.result
    (λ cut. grind (arith, cut_more)) c.write_held.ensures.cut_short

use Rattle.std.proofs.Common.{◌≡◌, ◌-◌, [], length, get_or, fold, take, drop, sym, ap, ◌∙◌, subst, arith}
use Rattle.std.proofs.Math.Seq.{take-add}
use Rattle.std.proofs.lemmas.List.{length-drop, take_all}
use Rattle.std.proofs.lemmas.List.Sums.{fold-append}
use Rattle.trend_model.specs.{placed, listed}
use Rattle.trend_model.proofs.Placing.{time, AllBefore}
use Rattle.late_insert.proofs.Filling.{listed_in_order, next_behind}
use Rattle.late_insert.proofs.Finding.{no_rec}
use Rattle.late_insert.proofs.Growing.{full_more}
use Rattle.late_insert.proofs.content.Content.from_records.Goals as goal

pub loop-done-preserved : goal.loop-done-preserved
loop-done-preserved c =
    let recs = c.args.recs.now in
    let done = c.loop-done.done in
    let n = c.put_front-done.result in
    let put = c.put_front-done.ensures in
    let was = c.loop-done.invariant in
    let rest : take (length recs - done) (drop done recs) ≡ drop done recs = take_all (length recs - done)
    (drop done recs) (omega (arith, length-drop done recs)) in
    record {
      records = put.records ∙ (ap (λ l. fold (λ m r. placed r m) c.loop-done.content.records (take n l)) rest
          ∙ ap (λ l. fold (λ m r. placed r m) l (take n (drop done recs))) was.records
          ∙ (sym (fold-append (λ m r. placed r m) [] (take done recs) (take n (drop done recs)))
          ∙ ap listed (sym (take-add done n recs))));
      within = omega (arith, put.within, ap length rest, length-drop done recs, was.within);
      spare = omega (arith, put.spare, was.spare);
      filled = λ rises.
          let same = was.records ∙ listed_in_order recs done rises in
          let next = subst (λ l. AllBefore c.loop-done.content.records (time (get_or l 0 no_rec))) (sym rest)
          (subst (λ l. AllBefore l (time (get_or (drop done recs) 0 no_rec))) (sym same)
          (next_behind recs done no_rec rises c.loop-done-test.true)) in
          full_more _ n _ (put.behind no_rec next) (was.filled rises);
      room = put.room ∙ was.room;
    }

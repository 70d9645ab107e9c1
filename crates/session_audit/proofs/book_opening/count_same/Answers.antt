use Rattle.std.proofs.Common.{◌≡◌, ◌∙◌, ◌+◌, ◌<◌, [], ℕ, List, Vec, cond, Some, length, get_or, ap, sym, subst, arith}
use Rattle.std.specs.Prelude.{slice_get}
use Rattle.std.proofs.lemmas.List.{get_or-map, length-map}
use Rattle.std.proofs.lemmas.Option.{slice_get-get_or}
use Rattle.std.specs.declared.alloc.Global.{Global}
use Rattle.trend_num.specs.{CalcValue}
use Rattle.calc_refresh.specs.{lists_of}
use Rattle.session_audit.specs.BookOpenings.{AgreeIn}
use Rattle.session_audit.proofs.Marks.{agree_more}
use Rattle.session_audit.proofs.book_opening.count_same.Goals.{then-same_row, else-same_row}
use Rattle.session_audit.proofs.book_opening.count_same.Goals as goal

pub loop-i-preserved : goal.loop-i-preserved
loop-i-preserved c =
    let i = c.loop-i.i in
    let found = lists_of c.args.found.now in
    let known = lists_of c.args.known.now in
    let a : slice_get found i ≡ Some c.deref.result.now = row_at c.args.found.now i c.index-found-i.result c.deref.result.now
    (omega (arith, c.loop-i-test.true, c.requires.as_many)) c.index-found-i.is c.deref.ensures.value in
    let b : slice_get known i ≡ Some c.deref-in-loop-i.result.now = row_at c.args.known.now i c.index-known-i.result
    c.deref-in-loop-i.result.now c.loop-i-test.true c.index-known-i.is c.deref-in-loop-i.ensures.value in
    let more = agree_more i c.loop-i.count found known c.same_row.result
    ((λ yes. a ∙ (ap Some (c.same_row.ensures.0 yes) ∙ sym b)), (λ alike. c.same_row.ensures.1 (held _ _ (sym a ∙ (alike ∙ b)))))
    c.loop-i.invariant.agree in
    elim c.if-same_row.branch [
      | then-same_row w ↦ record {
        agree = subst (AgreeIn (i + 1) found known) (ap (λ m. c.loop-i.count + cond m 1 0) w.if-same_row.true ∙ sym w.count-is) more;
        within = omega (arith, w.count-is, c.loop-i.invariant.within);
      }
      | else-same_row w ↦ record {
        agree = subst (AgreeIn (i + 1) found known) (ap (λ m. c.loop-i.count + cond m 1 0) w.if-same_row.false ∙ (omega arith ∙ sym w.count-is)) more;
        within = omega (arith, w.count-is, c.loop-i.invariant.within);
      }
    ]
  where
    held : (x y : List CalcValue) → Some x ≡ Some y → x ≡ y
    held x y e = cc

    row_at : (rows : List (Vec CalcValue Global)) (i : ℕ) (v : Vec CalcValue Global) (row : List CalcValue) → i < length rows → v ≡ get_or rows i v → row ≡ v.items
        → slice_get (lists_of rows) i ≡ Some row
    row_at rows i v row within is value =
        slice_get-get_or (lists_of rows) i [] (omega (arith, within, length-map rows (λ (w : Vec CalcValue Global). w.items)))
        ∙ ap Some (get_or-map (λ (w : Vec CalcValue Global). w.items) rows i v [] within ∙ sym (value ∙ ap (λ (w : Vec CalcValue Global). w.items) is))

use Rattle.std.proofs.Common.{List, sym, subst, arith, Vec}
use Rattle.std.specs.declared.alloc.Global.{Global}
use Rattle.std.proofs.lemmas.List.{length-map}
use Rattle.trend_num.specs.{CalcValue}
use Rattle.calc_refresh.specs.{lists_of}
use Rattle.session_audit.specs.BookOpenings.{AgreeIn}
use Rattle.session_audit.proofs.Marks.{agree_all}
use Rattle.session_audit.proofs.book_opening.compare_rows.Goals as goal

pub returns-clause-same : goal.returns-clause-same
returns-clause-same c =
    let items : Vec CalcValue Global → List CalcValue = λ v. v.items in
    let found = length-map c.args.found.now items in
    let known = length-map c.args.known.now items in
    agree_all (lists_of c.args.found.now) (lists_of c.args.known.now) c.count_same-agreeing.result
    (omega (arith, found, known, c.requires.as_many)) (omega (arith, known, c.if-agreeing-known.false))
    (subst (λ n. AgreeIn n (lists_of c.args.found.now) (lists_of c.args.known.now) c.count_same-agreeing.result) (sym known)
    c.count_same-agreeing.ensures.agree)

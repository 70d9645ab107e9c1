use Rattle.std.proofs.Common.{refl, sym, ap, Some, ◌∙◌, arith, rules, Option, None}
use Rattle.std.specs.Prelude.{FitsSigned, IfNone}
use Rattle.weighted_total.specs.{Ends}
use Rattle.std.proofs.lemmas.Int.{to_z-of_z}
use mir.Syntax.{w64}
use Rattle.interp_read.specs.{points_closed_by}
use Rattle.weighted_total.proofs.EndsOf.{covered_by, found_shape, not_true, uncovered_end, value_there}
use Rattle.weighted_total.proofs.shape.ends_of.Goals as goal

-- what holds in any case, holds where there is none
if_none : (P : Type 0) (o : Option Ends) → P → IfNone o P
if_none P None p = p
if_none P (Some e) p = tt

pub returns-in_err-_later-clause-uncovered : goal.returns-in_err-_later-clause-uncovered
returns-in_err-_later-clause-uncovered c =
    let cs = points_closed_by c.args.held c.args.content.now.records in
    if_none _ _ (uncovered_end cs c.args.from c.args.to _ _ c.neighbours_at-stop.ensures.neighbours
    c.in_err-_later.was)

pub returns-in_err-start-clause-uncovered : goal.returns-in_err-start-clause-uncovered
returns-in_err-start-clause-uncovered c = grind (arith, if_none, not_true, value_there)

pub returns-in_err-end-clause-uncovered : goal.returns-in_err-end-clause-uncovered
returns-in_err-end-clause-uncovered c = grind (arith, if_none, not_true, value_there)

pub returns-clause-shape : goal.returns-clause-shape
returns-clause-shape c =
    let cs = points_closed_by c.args.held c.args.content.now.records in
    let start = c.in_ok-start.start in
    let end = c.in_ok-end.end in
    let start_fits : FitsSigned w64 start = search rules in
    let end_fits : FitsSigned w64 end = search rules in
    let value = sym c.value_at.ensures ∙ c.in_ok-start.was in
    let start_is = value ∙ ap Some (sym (to_z-of_z w64 start start_fits)) in
    let end_is = sym c.value_at-2.ensures ∙ (c.in_ok-end.was ∙ ap Some (sym (to_z-of_z w64 end end_fits))) in
    let near = rw c.in_ok-_later.was at c.neighbours_at-stop.ensures.neighbours in
    let covered = covered_by c.args.step cs c.args.from c.args.to start _ c.in_ok-_later._later value near in
    found_shape c.args.step c.args.held c.args.content.now.records c.args.from c.args.to _
    c.len-len.ensures.rising c.len-len.ensures.range
    c.requires.range c.requires.last c.requires.order c.requires.reach covered refl refl start_is end_is
    c.neighbours_at-begin.ensures.upto c.neighbours_at-stop.ensures.below

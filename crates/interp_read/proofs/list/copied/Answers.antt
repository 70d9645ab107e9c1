use Rattle.std.proofs.Common.{◌≡◌, ◌+◌, ◌++◌, [], ◌∷◌, ap, sym, ◌∙◌, arith}
use Rattle.std.specs.Prelude.{slice_range}
use Rattle.std.proofs.lemmas.List.{length-map}
use Rattle.std.proofs.lemmas.List.Edits.{between_more}
use Rattle.std.proofs.lemmas.Option.{get_or_from_slice_get}
use Rattle.trend_model.specs.{points_of}
use Rattle.interp_read.proofs.list.copied.Goals as goal

pub loop-i-preserved : goal.loop-i-preserved
loop-i-preserved c =
    let ps = points_of c.args.content.now.records in
    let p = c.point.result in
    let i = c.loop-i.i in
    let is = get_or_from_slice_get ps i p p c.point.ensures.value in
    let long = length-map c.args.content.now.records (λ r. r.point) in
    let more = between_more ps c.args.start i p c.loop-i.auto.i (omega arith) in
    let last : slice_range ps c.args.start (i + 1) ≡ slice_range ps c.args.start i ++ p ∷ [] = grind arith in
    record {
      items = c.in_ok-push_point.ensures ∙ (ap (λ l. l ++ p ∷ []) c.loop-i.invariant.items ∙ sym last);
      reach = omega arith;
    }

pub returns : goal.returns
returns c = grind arith

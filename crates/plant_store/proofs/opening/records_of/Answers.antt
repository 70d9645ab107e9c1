use Rattle.std.proofs.Common.{◌≡◌, ◌∙◌, ◌++◌, [], ◌∷◌, All, ap, arith, map, subst, sym, take}
use Rattle.std.proofs.lemmas.Grind.{common_steps}
use Rattle.std.proofs.lemmas.List.{map_push, take_more}
use Rattle.std.proofs.lemmas.List.Elements.{All-push}
use Rattle.calc_refresh.specs.{IsCopy}
use Rattle.plant_store.specs.{cell_records_in}
use Rattle.plant_store.proofs.opening.records_of.Goals as goal

pub loop-cell-preserved : goal.loop-cell-preserved
loop-cell-preserved g c =
    let i = c.loop-cell.cell-index in
    let cells = c.args.cells.now in
    let cell = c.cell-item.result in
    let old = c.loop-cell.records.items in
    let new = c.recs.result in
    let grown : c.push.new.self.items ≡ old ++ new ∷ [] = grind (arith, common_steps) in
    let is = c.recs.ensures.records ∙ ap (λ t. t.state.records) c.cell-item.is in
    record {
      lists = ap (map (λ r. r.now)) grown ∙ map_push (λ r. r.now) old new
          ∙ ap (λ l. l ++ new.now ∷ []) c.loop-cell.invariant.lists
          ∙ ap (λ r. cell_records_in (take i cells) ++ r ∷ []) is
          ∙ sym (ap cell_records_in (take_more cells i cell c.loop-cell-test.true) ∙ map_push (λ t. t.state.records) (take i cells) _);
      copied = subst (All (λ r. IsCopy r.now)) (sym grown)
          (All-push (λ r. IsCopy r.now) old new c.loop-cell.invariant.copied
          (record { short = c.recs.ensures.short; range = c.recs.ensures.range }));
    }

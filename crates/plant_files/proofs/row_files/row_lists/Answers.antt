use Rattle.std.proofs.Common.{◌≡◌, ◌+◌, ◌∙◌, ◌++◌, ◌∷◌, [], All, ap, map, sym, subst, take, arith}
use Rattle.std.proofs.lemmas.Grind.{common_steps}
use Rattle.std.proofs.lemmas.List.{map_push}
use Rattle.std.proofs.lemmas.List.Elements.{All-push}
use Rattle.std.proofs.lemmas.Result.{err_from_is_err_and}
use Rattle.value_rows.specs.{rows_of_text}
use Rattle.plant_files.specs.{AreRowFiles, IsRowFile, IsRowRefusal}
use Rattle.plant_files.proofs.InOrder.{AreRowFiles-more, first_refused}
use Rattle.plant_files.proofs.row_files.row_lists.Goals as goal

pub returns-in_err-rows-clause-refused : goal.returns-in_err-rows-clause-refused
returns-in_err-rows-clause-refused g c =
    let most = g.K.RowFiles.most c.args.kind.now in
    let reads = rows_of_text (g.K.RowFiles.row_of c.args.kind.now) most in
    let IsRefusal = IsRowRefusal (g.K.RowFiles.what c.args.kind.now) most reads in
    let file_at = g.K.RowFiles.file_at c.args.kind.now in
    let told = g.F.Files.told c.args.files.now in
    let i = c.loop-name.name-index in
    let name = c.name-item.result in
    let why = c.in_err-rows.field-0.0 in
    let place : c.len.result ≡ i = omega arith in
    let numbered = subst (λ f. IsRefusal f (g.F.Files.told c.loop-name.files name) why)
    (c.file_at-file.ensures ∙ ap file_at place) c.in_err-rows.ensures.refused in
    let refused = subst (λ t. IsRefusal (file_at i) (t name) why) c.loop-name.invariant.stays numbered in
    let p = err_from_is_err_and c.from_residual.result c.from_residual.ensures.1 in
    rw (p.1, p.2) (λ _. first_refused (IsRowFile reads) told (λ place. IsRefusal (file_at place)) c.args.names.now i name
    (map (λ rows. rows.items) c.loop-name.lists.items) why c.loop-name-test.true c.name-item.is c.loop-name.invariant.read refused)

pub loop-name-preserved : goal.loop-name-preserved
loop-name-preserved g c =
    let IsFile = IsRowFile (rows_of_text (g.K.RowFiles.row_of c.args.kind.now) (g.K.RowFiles.most c.args.kind.now)) in
    let IsRow = g.K.RowFiles.is_row c.args.kind.now in
    let told = g.F.Files.told c.args.files.now in
    let names = c.args.names.now in
    let i = c.loop-name.name-index in
    let name = c.name-item.result in
    let lists = c.loop-name.lists.items in
    let rows = c.in_ok-rows.rows in
    let one : IsFile (told name) rows.items =
    subst (λ t. IsFile (t name) rows.items) c.loop-name.invariant.stays c.in_ok-rows.ensures.rows in
    let grown : c.push.new.self.items ≡ lists ++ rows ∷ [] = grind (arith, common_steps) in
    record {
      read = subst (λ ls. AreRowFiles IsFile told (take (i + 1) names) (map (λ r. r.items) ls)) (sym grown)
          (subst (AreRowFiles IsFile told (take (i + 1) names)) (sym (map_push (λ r. r.items) lists rows))
          (AreRowFiles-more IsFile told names i name (map (λ r. r.items) lists) rows.items
          c.loop-name-test.true c.name-item.is c.loop-name.invariant.read one));
      are_rows = subst (All (λ r. All IsRow r.items)) (sym grown)
          (All-push (λ r. All IsRow r.items) lists rows c.loop-name.invariant.are_rows c.in_ok-rows.ensures.are_rows);
      as_many = grind (arith, common_steps);
      stays = c.in_ok-rows.ensures.stays ∙ c.loop-name.invariant.stays;
      no_fault = c.in_ok-rows.ensures.faults ∙ c.loop-name.invariant.no_fault;
    }

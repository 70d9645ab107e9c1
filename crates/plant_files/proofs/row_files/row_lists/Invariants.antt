use Rattle.std.proofs.Common.{◌≡◌, All, map, take, vec_len}
use Rattle.value_rows.specs.{rows_of_text}
use Rattle.plant_files.specs.{AreRowFiles, IsRowFile}
use Rattle.plant_files.proofs.row_files.row_lists.Given as goal

abbrev pub invariant-loop-name : goal.invariant-loop-name
invariant-loop-name g l = record {
  read : AreRowFiles (IsRowFile (rows_of_text (g.K.RowFiles.row_of l.kind) (g.K.RowFiles.most l.kind)))
      (g.F.Files.told l.initial.files) (take l.name-index l.names) (map (λ rows. rows.items) l.lists.items);
  are_rows : All (λ rows. All (g.K.RowFiles.is_row l.kind) rows.items) l.lists.items;
  as_many : vec_len l.lists ≡ l.name-index;
  stays : g.F.Files.told l.files ≡ g.F.Files.told l.initial.files;
  no_fault : g.F.Files.fault_count l.files ≡ g.F.Files.fault_count l.initial.files;
}

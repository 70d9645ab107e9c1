use Rattle.std.proofs.Common.{◌≡◌, ◌∙◌, List, length, map, sym, ap, subst, arith}
use Rattle.std.proofs.lemmas.List.{length-map}
use Rattle.calc_refresh.specs.{lists_of, IsRefreshToldOf, shape_fault, grid_of}
use Rattle.sheet_law.specs.{complete_windows}
use Rattle.group_book.specs.{cut}
use Rattle.group_book.proofs.Loaded.{copies_copied, copies_many, rows_short}
use Rattle.group_book.proofs.loading.rebuild.Goals as goal

pub from_saved-requires : goal.from_saved-requires
from_saved-requires c =
    let saved = c.args.saved.now in
    let recovered = lists_of c.args.recovered.now in
    let copies = c.in_ok-copies.copies.items in
    let are : lists_of copies ≡ cut saved.versions.items recovered
    = c.in_ok-copies.ensures.cut ∙ ap (λ (l : List _). cut l recovered) c.deref.ensures.value in
    let long = subst (λ (l : List _). map length (cut l recovered) ≡ l) c.deref.ensures.value c.in_ok-copies.ensures.within in
    let rows = c.in_ok-rows.ensures ∙ ap lists_of c.deref-2.ensures.value in
    record {
      group = c.requires.group;
      grid = c.requires.grid;
      inputs = omega (arith, copies_many saved.versions.items recovered copies are long, c.requires.shape.versions_are, c.in_ok-copies.copies.ok.0);
      calcs = omega (
        arith,
        ap length rows,
        length-map c.in_ok-rows.rows.items (λ v. v.items),
        length-map saved.rows.items (λ v. v.items),
        c.requires.shape.calcs_are,
        c.in_ok-rows.rows.ok.0,
      );
      copied = copies_copied saved.versions.items recovered copies are long c.requires.copied;
      short = rows_short c.in_ok-rows.rows.items (lists_of saved.rows.items) saved.windows c.requires.few rows c.requires.shape.windows_are;
    }

pub returns-in-Err-Shape-clause-refused : goal.returns-in-Err-Shape-clause-refused
returns-in-Err-Shape-clause-refused c =
    let def = c.args.def.now in
    let saved = c.args.saved.now in
    let grid = grid_of def.start def.period in
    let recovered = lists_of c.args.recovered.now in
    let copies = c.in_ok-copies.copies.items in
    let are : lists_of copies ≡ cut saved.versions.items recovered
    = c.in_ok-copies.ensures.cut ∙ ap (λ (l : List _). cut l recovered) c.deref.ensures.value in
    let rows = c.in_ok-rows.ensures ∙ ap lists_of c.deref-2.ensures.value in
    record {
      within = subst (λ (l : List _). map length (cut l recovered) ≡ l) c.deref.ensures.value c.in_ok-copies.ensures.within;
      shape = ap (λ l. shape_fault (complete_windows grid l) (lists_of saved.rows.items)) (sym are)
          ∙ ap (shape_fault (complete_windows grid (lists_of copies))) (sym rows)
          ∙ subst (IsRefreshToldOf (shape_fault (complete_windows grid (lists_of copies)) (lists_of c.in_ok-rows.rows.items)))
          c.in-Err-Shape.field-0-is c.in-Err-Shape.ensures.fault;
    }

use Rattle.std.proofs.Common.{◌≡◌, ◌∙◌, [], false, None, refl, sym, ap, subst, arith, replicate, length}
use Rattle.std.proofs.lemmas.List.{length-map}
use Rattle.calc_check.specs.Group.{calculation}
use Rattle.calc_refresh.specs.{lists_of, SheetState, grid_of}
use Rattle.group_book.specs.{IsBookSafe, AreRowsEvaluated, IsBookLegal, IsKept, LeftOf, Saved, GroupOpening}
use Rattle.group_book.proofs.Fresh.{fresh_defined, fresh_evaluated, fresh_kept, fresh_legal, fresh_safe}
use Rattle.group_book.proofs.Flags.{flagged_fresh}
use Rattle.group_book.proofs.making.new_book.Goals as goal

pub invariant_of-result : goal.invariant_of-result
invariant_of-result g c =
    let def = c.args.def.now in
    let made = c.in_ok-def.def in
    let s = c.in_ok-sheet.sheet in
    let o : GroupOpening = record { versions = c.in_ok-zeros.field-0; rows = c.in_ok-empty_rows.field-0; moment = 0; faults = 0 } in
    let saved : Saved = record {
      number = 0;
      versions = c.in_ok-saved_versions.saved_versions.items;
      rows = lists_of c.in_ok-saved_rows.saved_rows.items;
      end = 0;
    } in
    let inputs : made.inputs ≡ def.inputs = ap (λ d. d.inputs) c.in_ok-def.ensures in
    let calcs = sym (length-map c.defs.result.now calculation) ∙ ap length c.defs.ensures.calcs in
    let made_calcs = sym (length-map c.defs-2.result.now calculation) ∙ ap length c.defs-2.ensures.calcs
    ∙ ap (λ d. length d.calcs.calcs) c.in_ok-def.ensures in
    let versions = c.in_ok-versions.ensures ∙ ap (λ n. replicate n 0) inputs in
    let rows = c.in_ok-empty_rows.ensures ∙ ap (λ n. replicate n []) calcs in
    let saved_versions = c.in_ok-saved_versions.ensures ∙ ap (λ n. replicate n 0) inputs in
    let saved_rows = c.in_ok-saved_rows.ensures ∙ ap (λ n. replicate n []) made_calcs in
    let empty = sym c.new-2.ensures.items in (
      fresh_defined def made c.in_ok-def.ensures o s c.in_ok-versions.versions.items saved c.in_ok-sheet.ensures.empty
          c.in_ok-sheet.ensures.scratch versions c.in_ok-zeros.ensures rows saved_versions saved_rows c.args.tags.items
          c.requires.group c.requires.grid (omega (arith, c.requires.tags)),
      subst (λ tape. IsBookLegal made.calcs (grid_of made.start made.period) o tape c.in_ok-versions.versions.items s.copies s.rows) empty
          (fresh_legal def made c.in_ok-def.ensures o s c.in_ok-versions.versions.items saved c.in_ok-sheet.ensures.empty
          c.in_ok-sheet.ensures.scratch versions c.in_ok-zeros.ensures rows saved_versions saved_rows),
      subst (λ tape. IsKept c.new.result.items made o tape s.copies saved false None 0 0) empty
          (fresh_kept def made c.in_ok-def.ensures o s c.in_ok-versions.versions.items saved c.in_ok-sheet.ensures.empty
          c.in_ok-sheet.ensures.scratch versions c.in_ok-zeros.ensures rows saved_versions saved_rows c.in_ok-sheet.ensures.whole
          c.new.result.items 0 0 (omega arith) refl),
      subst (λ tape. IsBookSafe c.new.result.items made.calcs (grid_of made.start made.period) o s.copies tape (LeftOf None)) empty
          (fresh_safe def made c.in_ok-def.ensures o s c.in_ok-versions.versions.items saved c.in_ok-sheet.ensures.empty
          c.in_ok-sheet.ensures.scratch versions c.in_ok-zeros.ensures rows saved_versions saved_rows c.new.result.items),
      ((λ some. absurd (some c.new.ensures.items), tt), tt),
      subst (λ tape. AreRowsEvaluated made.calcs (grid_of made.start made.period) o tape s.copies s.rows s.evals) empty
          (fresh_evaluated def made c.in_ok-def.ensures o s c.in_ok-versions.versions.items saved c.in_ok-sheet.ensures.empty
          c.in_ok-sheet.ensures.scratch versions c.in_ok-zeros.ensures rows saved_versions saved_rows c.in_ok-sheet.ensures.whole),
      flagged_fresh c.new-3.result.items (lists_of c.in_ok-saved_rows.saved_rows.items) s c.new-3.ensures.items
          (saved_rows ∙ sym (ap (λ (x : SheetState). replicate (length x.group.calcs) []) c.in_ok-sheet.ensures.empty)),
    )

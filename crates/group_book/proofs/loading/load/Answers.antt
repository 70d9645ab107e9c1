use Rattle.std.proofs.Common.{◌≡◌, ◌∙◌, ℕ, All, [], Err, Some, false, List, length, map, refl, sym, ap, subst, arith}
use Rattle.std.proofs.lemmas.List.{length-map}
use Rattle.disk_model.specs.{Shows, During, LeftSince, FitsName, moment}
use Rattle.trend_num.specs.{CalcValue}
use Rattle.calc_check.specs.Group.{calculation}
use Rattle.calc_refresh.specs.{GroupDefParts, lists_of, SheetState, grid_of}
use Rattle.group_layout.specs.{StandsFor, IsLeftOrSame, IsReadOf}
use Rattle.group_book.specs.{GroupOpening, Turn, IsBookSafe, AreRowsEvaluated, IsBookLegal, BookStaysSame, IsBookCause, StandsForGroup, AreFlagged, IsDefined, IsKept, IsWellHeld, Saved, device_name_of}
use Rattle.sheet_law.specs.{Grid, complete_windows}
use Rattle.group_book.proofs.Begun.{began_well}
use Rattle.group_book.proofs.Evaluations.{evaluated_first}
use Rattle.group_book.proofs.Flags.{flagged_saved}
use Rattle.group_book.proofs.Loaded.{loaded_holds, loaded_ready, opened_kept, opened_legal, opened_safe, scan_cause}
use Rattle.group_book.proofs.loading.load.Goals as goal

pub returns-in-Err-clause-cause : goal.returns-in-Err-clause-cause
returns-in-Err-clause-cause g c =
    let def = c.args.def.now in
    let recovered = lists_of c.args.recovered.now in
    let o = (g.D.Disk.device c.args.dev).trace in
    let calcs = sym (length-map c.defs.result.now calculation) ∙ ap length c.defs.ensures.calcs in
    subst (IsBookCause c.args.text.now def recovered o) (sym c.refusal_of.ensures)
    (scan_cause c.args.text.now def recovered _ calcs o c.in-Err.why (λ a byte is. c.in-Err.ensures.damaged a byte (ap Err is)))

pub returns-clause-held : goal.returns-clause-held
returns-clause-held g c =
    let def = c.args.def.now in
    let D = g.D.Disk in
    let dev = c.open_group.new.dev in
    let g' = c.in-Ok.saved in
    let calcs = sym (length-map c.defs.result.now calculation) ∙ ap length c.defs.ensures.calcs in
    loaded_holds c.args.text.now def g' (D.device dev).trace
    (subst (λ (n : ℕ). Shows (D.device dev).trace (λ x. IsReadOf c.args.text.now def.inputs n x g')) calcs c.in-Ok.ensures.holds)

pub returns-clause-any_moment : goal.returns-clause-any_moment
returns-clause-any_moment g c = λ d is.
    let text = c.args.text.now in
    let def = c.args.def.now in
    let dev = c.open_group.new.dev in
    let o = (g.D.Disk.device c.args.dev).trace in
    let calcs = sym (length-map c.defs.result.now calculation) ∙ ap length c.defs.ensures.calcs in
    let same : dev ≡ d = cc is in
    subst (λ x. During o (g.D.Disk.device x).trace (BookStaysSame text def o)) same
    (subst (λ (n : ℕ). During o (g.D.Disk.device dev).trace (IsLeftOrSame text def.inputs n o)) calcs c.open_group.ensures.any_moment)

pub invariant_of-result : goal.invariant_of-result
invariant_of-result g c =
    let def = c.args.def.now in
    let D = g.D.Disk in
    let dev = c.open_group.new.dev in
    let g' = c.in-Ok.saved in
    let r = c.in-Ok-restore.restored in
    let is = c.in-Ok-restore.ensures in
    let s = r.sheet in
    let vs = r.versions.items in
    let o : GroupOpening
    = record { versions = r.opening_versions; rows = r.opening_rows; moment = c.clock.result; faults = c.faults.result } in
    let saved : Saved = record { number = g'.number; versions = g'.versions.items; rows = lists_of g'.rows.items; end = g'.end } in
    let calcs = sym (length-map c.defs.result.now calculation) ∙ ap length c.defs.ensures.calcs in
    let rows = ap (λ (x : SheetState). x.rows) is.sheet in
    let copied : map length s.copies ≡ vs = ap (λ (x : SheetState). map length x.copies) is.sheet ∙ is.within ∙ sym is.versions in
    let opened = is.opening_versions ∙ sym is.versions in
    let opened_rows = is.opening_rows ∙ sym rows in
    let saved_versions = sym is.versions in
    let saved_rows = sym rows in
    let inputs : length vs ≡ def.inputs = ap length is.versions ∙ c.in-Ok.ensures.shape.versions_are in
    let ready = loaded_ready g'.end (D.device dev).trace c.in-Ok.ensures.settled c.in-Ok.ensures.ready in
    let holds = loaded_holds c.args.text.now def g' (D.device dev).trace
    (subst (λ (n : ℕ). Shows (D.device dev).trace (λ x. IsReadOf c.args.text.now def.inputs n x g')) calcs c.in-Ok.ensures.holds) in
    let first = evaluated_first def.calcs (grid_of def.start def.period) o s.copies s.rows s.evals (opened ∙ sym copied) opened_rows
    (is.whole.calcs ∙ ap (λ (x : SheetState). length x.group.calcs) is.sheet)
    (subst (λ (w : Grid). All (λ row. length row ≡ complete_windows w s.copies) s.rows) (ap (λ (x : SheetState). x.grid) is.sheet)
    is.whole.windows)
    (ap (λ (x : SheetState). x.evals) is.sheet) in
    let stood : Shows (D.device c.args.dev).trace (StandsForGroup c.args.text.now def o.versions.items (lists_of o.rows.items)) =
    subst (λ (l : List ℕ). Shows (D.device c.args.dev).trace (StandsForGroup c.args.text.now def l (lists_of o.rows.items))) (sym is.opening_versions)
    (subst (λ (l : List (List CalcValue)). Shows (D.device c.args.dev).trace (StandsForGroup c.args.text.now def g'.versions.items l)) (sym is.opening_rows)
    (subst (λ (n : ℕ). Shows (D.device c.args.dev).trace (λ x. StandsFor c.args.text.now def.inputs n x g'.versions.items (lists_of g'.rows.items)))
    calcs c.in-Ok.ensures.stood)) in
    let began = began_well D.device c.args.text.now def o c.args.dev dev c.requires.unused c.open_group.ensures.handed stood
    (subst (λ (n : ℕ). During (D.device c.args.dev).trace (D.device dev).trace (IsLeftOrSame c.args.text.now def.inputs n (D.device c.args.dev).trace))
    calcs c.open_group.ensures.any_moment) c.clock.ensures in
    let left = LeftSince (D.device dev).trace in
    let tape : [] ≡ c.new.result.items = sym c.new.ensures.items in
    let defined : IsDefined def c.args.tags.items s = record {
      group = c.requires.group;
      grid = c.requires.grid;
      same_group = ap (λ (x : SheetState). x.group) is.sheet;
      same_grid = ap (λ (x : SheetState). x.grid) is.sheet;
      copies = sym (length-map s.copies length) ∙ ap length copied ∙ inputs;
      tags_are = omega (arith, c.requires.tags, c.args.tags.ok.0);
    } in
    subst (λ (d : GroupDefParts). IsDefined d c.args.tags.items s
    × IsBookLegal d.calcs (grid_of d.start d.period) o c.new.result.items vs s.copies s.rows
    × IsKept r.text.items d o c.new.result.items s.copies saved false (Some (D.device dev).trace) (moment (D.device dev).trace) (D.device dev).faults
    × IsBookSafe r.text.items d.calcs (grid_of d.start d.period) o s.copies c.new.result.items left
    × IsWellHeld D.device r.text.items d o (Some dev)
    × AreRowsEvaluated d.calcs (grid_of d.start d.period) o c.new.result.items s.copies s.rows s.evals
    × AreFlagged r.unsaved.items saved.rows s) (sym is.def)
    (subst (λ (l : List Turn). IsDefined def c.args.tags.items s
    × IsBookLegal def.calcs (grid_of def.start def.period) o l vs s.copies s.rows
    × IsKept r.text.items def o l s.copies saved false (Some (D.device dev).trace) (moment (D.device dev).trace) (D.device dev).faults
    × IsBookSafe r.text.items def.calcs (grid_of def.start def.period) o s.copies l left
    × IsWellHeld D.device r.text.items def o (Some dev)
    × AreRowsEvaluated def.calcs (grid_of def.start def.period) o l s.copies s.rows s.evals
    × AreFlagged r.unsaved.items saved.rows s) tape
    (subst (λ (t : List ℕ). IsDefined def c.args.tags.items s
    × IsBookLegal def.calcs (grid_of def.start def.period) o [] vs s.copies s.rows
    × IsKept t def o [] s.copies saved false (Some (D.device dev).trace) (moment (D.device dev).trace) (D.device dev).faults
    × IsBookSafe t def.calcs (grid_of def.start def.period) o s.copies [] left
    × IsWellHeld D.device t def o (Some dev)
    × AreRowsEvaluated def.calcs (grid_of def.start def.period) o [] s.copies s.rows s.evals
    × AreFlagged r.unsaved.items saved.rows s) (sym is.text) (
      defined,
      opened_legal c.args.text.now def o s.copies s.rows vs saved copied opened opened_rows saved_versions saved_rows first.rows_are,
      opened_kept c.args.text.now def o s.copies s.rows vs saved copied opened opened_rows saved_versions saved_rows first.rows_are (D.device dev).trace ready
          holds (moment (D.device dev).trace) (D.device dev).faults c.clock.ensures inputs (sym c.faults.ensures),
      opened_safe c.args.text.now def o s.copies s.rows vs saved copied opened opened_rows saved_versions saved_rows first.rows_are (D.device dev).trace ready
          holds (moment (D.device dev).trace) (D.device dev).faults c.clock.ensures c.requires.group.named refl,
      ((λ some. refl, subst (FitsName (device_name_of c.args.text.now)) (sym c.open_group.ensures.handed) c.requires.named), began),
      first,
      flagged_saved r.unsaved.items saved.rows s is.flags saved_rows is.whole,
    )))

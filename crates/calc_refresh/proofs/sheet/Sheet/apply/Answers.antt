use Rattle.std.proofs.Common.{◌≡◌, ℕ, ◌+◌, ◌*◌, ◌<◌, ◌≤◌, true, map, List, Some, None, All, length, subst, sym, ap, ap₂, ◌∙◌, arith}
use Rattle.std.specs.Prelude.{Vec}
use Rattle.std.specs.declared.alloc.Global.{Global}
use Rattle.std.specs.Vec.{with_items}
use Rattle.std.proofs.lemmas.List.{length-map, with_items_is}
use Rattle.trend_num.specs.{Rec, CalcValue}
use Rattle.sheet_law.specs.{complete_windows, longer, IsScratch, column, due_below, is_due, values_at}
use Rattle.calc_refresh.specs.{lists_of, total_length, IsSheetAfter, cells_after, due_windows, evaluated, fault_after, limit_fault, most_cells, IsCopy, SheetState}
use Rattle.calc_refresh.proofs.Inputs.{length-longer}
use Rattle.calc_refresh.proofs.Applying.{cells_fit, copies_longer, due_counted, due_few, few_windows, limits_hold, part_fits, ranges_longer}
use Rattle.calc_refresh.proofs.sheet.Sheet.apply.Goals as goal

pub overflow_mul-windows : goal.overflow_mul-windows
overflow_mul-windows g c =
    let s = c.self.inside in
    let inv = c.self.invariant in
    let copies = lists_of s.copies.items in
    let mores = lists_of c.args.deltas.now in
    let win = c.windows_after-windows.ensures copies (c.deref.ensures.value ∙ inv.ended) in
    let few = few_windows s.grid (longer copies mores) inv.grid.some
    (omega (arith, length-longer copies mores, inv.group.some_inputs)) (ranges_longer copies mores inv.copied c.requires.copied) in
    let calcs : c.len-calcs.result ≤ 64 =
    omega (arith, c.len-calcs.ensures, s.rows.ok.0, inv.calcs, length-map s.rows.items (λ v. v.items), inv.group.few_calcs) in
    let fits = cells_fit c.windows_after-windows.result c.len-calcs.result (omega (arith, win, few)) calcs in
    omega (arith, fits)

pub bring-requires-clause-short : goal.bring-requires-clause-short
bring-requires-clause-short g c =
    let s = c.self.inside in
    let inv = c.self.invariant in
    let copies = lists_of s.copies.items in
    let mores = lists_of c.args.deltas.now in
    let total : c.records_after.result ≡ total_length (longer copies mores) =
    c.records_after.ensures ∙ ap (λ (vs : List (Vec Rec Global)). total_length (longer (lists_of vs) mores)) c.deref-2.ensures.value in
    let within = limits_hold (c.windows_after-windows.result * c.len-calcs.result) c.records_after.result c.in_ok-within_limits.ensures in
    subst (λ (vs : List (Vec Rec Global)). All IsCopy (longer (lists_of vs) mores)) (sym c.as_mut_slice.ensures.value)
    (copies_longer copies mores inv.copied c.requires.copied (omega (arith, within.1, total)))

pub overflow_mul-due : goal.overflow_mul-due
overflow_mul-due g c =
    let s = c.self.inside in
    let inv = c.self.invariant in
    let copies = lists_of s.copies.items in
    let mores = lists_of c.args.deltas.now in
    let win = c.windows_after-windows.ensures copies (c.deref.ensures.value ∙ inv.ended) in
    let within = limits_hold (c.windows_after-windows.result * c.len-calcs.result) c.records_after.result c.in_ok-within_limits.ensures in
    let held = lists_of c.as_mut_slice.result.now in
    let count : complete_windows s.grid (longer held mores) ≡ complete_windows s.grid (longer copies mores) =
    ap (λ (vs : List (Vec Rec Global)). complete_windows s.grid (longer (lists_of vs) mores)) c.as_mut_slice.ensures.value in
    let after = c.in_ok-bring.ensures.after in
    let windows = lists_of c.bring.new.copies in
    let few = due_few s.grid held mores (complete_windows s.grid windows) in
    let many : length c.bring.new.due.items ≡ length (due_windows s.grid held mores (complete_windows s.grid windows)) =
    ap length after.told in
    let part = part_fits c.len-due.result c.len-calcs.result c.windows_after-windows.result most_cells
    (omega (arith, c.len-due.ensures, c.bring.new.due.ok.0, many, few, ap (complete_windows s.grid) after.copied, count, win)) within.0 in
    omega (arith, part)

pub returns-clause-refreshed : goal.returns-clause-refreshed
returns-clause-refreshed g c =
    let s = c.self.inside in
    let inv = c.self.invariant in
    let mores = lists_of c.args.deltas.now in
    let due = c.bring.new.due.items in
    let now = c.args.self.now in
    let copies = c.bring.new.copies in
    let rows = c.bring.new.rows in
    let one = subst (λ (vs : List (Vec Rec Global)). IsSheetAfter s.calcs s.grid (lists_of vs) (lists_of c.as_mut_slice-4.result.now) (lists_of copies) (lists_of rows) mores due)
    c.as_mut_slice.ensures.value c.in_ok-bring.ensures.after in
    let two = subst (λ (vs : List (Vec CalcValue Global)). IsSheetAfter s.calcs s.grid (lists_of s.copies.items) (lists_of vs) (lists_of copies) (lists_of rows) mores due)
    c.as_mut_slice-4.ensures.value one in
    let three = subst (λ (vs : List (Vec Rec Global)). IsSheetAfter s.calcs s.grid (lists_of s.copies.items) (lists_of s.rows.items) (lists_of vs) (lists_of rows) mores due)
    (sym (with_items_is s.copies copies (omega (arith, c.bring.auto.copies, c.as_mut_slice.ensures.len)))) two in
    let copies_new = (with_items s.copies copies).items in
    let four = subst (λ (vs : List (Vec CalcValue Global)). IsSheetAfter s.calcs s.grid (lists_of s.copies.items) (lists_of s.rows.items) (lists_of copies_new) (lists_of vs) mores due)
    (sym (with_items_is s.rows rows (omega (arith, c.bring.auto.rows, c.as_mut_slice-4.ensures.len)))) three in
    let rows_new = (with_items s.rows rows).items in
    let five = subst (λ (u : SheetState). IsSheetAfter u.group u.grid u.copies u.rows (lists_of copies_new) (lists_of rows_new) mores due) c.self.view_is four in
    let group = ap (λ (u : SheetState). u.group) c.self.view_is in
    let grid = ap (λ (u : SheetState). u.grid) c.self.view_is in
    let calcs : c.len-calcs.result ≡ length s.calcs.calcs =
    omega (arith, c.len-calcs.ensures, s.rows.ok.0, inv.calcs, length-map s.rows.items (λ v. v.items)) in
    let count : c.len-calcs.result ≡ length now.group.calcs = calcs ∙ ap (λ (u : SheetState). length u.group.calcs) c.self.view_is in
    let many : c.len-due.result
    ≡ due_below now.grid now.copies mores (complete_windows now.grid (longer now.copies mores)) =
    omega (arith, c.len-due.ensures, c.bring.new.due.ok.0)
    ∙ (ap length five.told
    ∙ (due_counted now.grid now.copies mores (complete_windows now.grid (lists_of copies_new))
    ∙ ap (λ (l : List (List Rec)). due_below now.grid now.copies mores (complete_windows now.grid l)) five.copied)) in
    let cells : c.len-due.result * c.len-calcs.result ≡ evaluated now mores = ap₂ (λ a b. a * b) many count in
    let evals = ap (λ (u : SheetState). u.evals) c.self.view_is in
    let sheet = c.bring.ensures.sheet in
    let win = c.windows_after-windows.ensures (lists_of s.copies.items) (c.deref.ensures.value ∙ inv.ended) in
    let held : lists_of copies_new ≡ lists_of copies =
    ap lists_of (with_items_is s.copies copies (omega (arith, c.bring.auto.copies, c.as_mut_slice.ensures.len))) in
    let made : lists_of rows_new ≡ lists_of rows =
    ap lists_of (with_items_is s.rows rows (omega (arith, c.bring.auto.rows, c.as_mut_slice-4.ensures.len))) in
    record {
      group = group;
      grid = grid;
      copies = five.copied;
      within =
          ap (λ (l : List (List Rec)). limit_fault (complete_windows s.grid l * length s.calcs.calcs) (total_length l))
          (five.copied ∙ ap (λ (u : SheetState). longer u.copies mores) (sym c.self.view_is))
          ∙ sym (ap₂ limit_fault (ap₂ (λ a b. a * b) win calcs)
          (c.records_after.ensures ∙ ap (λ (vs : List (Vec Rec Global)). total_length (longer (lists_of vs) mores)) c.deref-2.ensures.value))
          ∙ c.in_ok-within_limits.ensures;
      whole = record {
        calcs = ap length made ∙ sheet.calcs;
        windows = subst (λ (l : List (List Rec)). All (λ row. length row ≡ complete_windows s.grid l) (lists_of rows_new)) (sym held)
            (subst (All (λ row. length row ≡ complete_windows s.grid (lists_of copies))) (sym made) sheet.windows);
      };
      due_are = subst (λ (u : SheetState). (k : ℕ) → k < complete_windows u.grid (lists_of copies_new)
          → is_due now.grid now.copies mores k ≡ true
          → column k (lists_of rows_new) ≡ map Some (values_at u.group u.grid (lists_of copies_new) k)) (sym c.self.view_is) five.due_are;
      scratch = λ was. subst (λ (u : SheetState). IsScratch u.group u.grid (lists_of copies_new) (lists_of rows_new))
          (sym c.self.view_is) (five.scratch was);
      others = five.others;
      evals = omega (arith, c.saturating_add-self-inside.ensures, cells, evals);
      due_told = subst (λ (u : SheetState). due ≡ due_windows now.grid now.copies mores (complete_windows u.grid (lists_of copies_new)))
          (sym c.self.view_is) five.told;
    }

pub returns-clause-steps : goal.returns-clause-steps
returns-clause-steps g c =
    let s = c.self.inside in
    let mores = lists_of c.args.deltas.now in
    let now = c.args.self.now in
    let after = c.in_ok-bring.ensures.after in
    let old = lists_of c.as_mut_slice.result.now in
    let counted = ap length after.told
    ∙ (due_counted s.grid old mores (complete_windows s.grid (lists_of c.bring.new.copies))
    ∙ ap (λ (l : List (List Rec)). due_below s.grid old mores (complete_windows s.grid l)) after.copied) in
    let held : due_below s.grid old mores (complete_windows s.grid (longer old mores))
    ≡ due_below now.grid now.copies mores (complete_windows now.grid (longer now.copies mores)) =
    ap (λ (vs : List (Vec Rec Global)). due_below s.grid (lists_of vs) mores (complete_windows s.grid (longer (lists_of vs) mores))) c.as_mut_slice.ensures.value
    ∙ ap (λ (u : SheetState). due_below u.grid u.copies mores (complete_windows u.grid (longer u.copies mores))) c.self.view_is in
    c.in_ok-bring.ensures.steps
    ∙ ap (λ n. c.args.steps.now + n)
    (ap₂ (λ a b. a * b) (counted ∙ held) (ap (λ (u : SheetState). length u.group.calcs) c.self.view_is))

pub returns-clause-limit : goal.returns-clause-limit
returns-clause-limit g c = λ why told.
    let s = c.self.inside in
    let inv = c.self.invariant in
    let copies = lists_of s.copies.items in
    let mores = lists_of c.args.deltas.now in
    let now = c.args.self.now in
    let win = c.windows_after-windows.ensures copies (c.deref.ensures.value ∙ inv.ended) in
    let calcs : c.len-calcs.result ≡ length s.calcs.calcs =
    omega (arith, c.len-calcs.ensures, s.rows.ok.0, inv.calcs, length-map s.rows.items (λ v. v.items)) in
    let cells : c.windows_after-windows.result * c.len-calcs.result ≡ cells_after now mores =
    ap₂ (λ a b. a * b) win calcs ∙ ap (λ (u : SheetState). cells_after u mores) c.self.view_is in
    let total : c.records_after.result ≡ total_length (longer now.copies mores) =
    c.records_after.ensures ∙ (ap (λ (vs : List (Vec Rec Global)). total_length (longer (lists_of vs) mores)) c.deref-2.ensures.value
    ∙ ap (λ (u : SheetState). total_length (longer u.copies mores)) c.self.view_is) in
    let none : fault_after now mores ≡ None = sym (ap₂ limit_fault cells total) ∙ c.in_ok-within_limits.ensures in
    let clash : None ≡ Some why = sym none ∙ told in
    absurd (cc)

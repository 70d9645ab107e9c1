use Rattle.std.proofs.Common.{◌≡◌, ◌<◌, length, subst, ap, ◌∙◌}
use Rattle.std.specs.Prelude.{◌↔◌, IsSome, option_and_then, slice_get}
use Rattle.sheet_law.specs.{complete_windows}
use Rattle.calc_refresh.specs.{lists_of, SheetState}
use Rattle.calc_refresh.proofs.Beginning.{row_there}
use Rattle.calc_refresh.proofs.sheet.Sheet.row.Goals as goal

pub returns-clause-there : goal.returns-clause-there
returns-clause-there c =
    let s = c.self.inside in
    let inv = c.self.invariant in
    let value : c.value_at.result ≡ option_and_then (λ row. slice_get row c.args.k) (slice_get (lists_of s.rows.items) c.args.calc) =
    c.value_at.ensures ∙ ap (λ vs. option_and_then (λ row. slice_get row c.args.k) (slice_get (lists_of vs) c.args.calc)) c.deref.ensures.value in
    let there = row_there (lists_of s.rows.items) (length s.calcs.calcs) (complete_windows s.grid (lists_of s.copies.items)) c.args.calc c.args.k
    c.value_at.result value inv.calcs inv.windows in
    subst (λ (u : SheetState). IsSome c.value_at.result ↔ ((c.args.calc < length u.group.calcs) × (c.args.k < complete_windows u.grid u.copies)))
    c.self.view_is there

use Rattle.std.proofs.Common.{◌≡◌, ◌↔◌, ◌<◌, ◌++◌, ◌∷◌, [], IsSome, length, sym, ap, ◌∙◌, subst}
use Rattle.calc_refresh.specs.{lists_of, grid_of}
use Rattle.group_layout.specs.{cell_of}
use Rattle.group_book.specs.declared.turn.Turn.TheVariants.{Ask}
use Rattle.group_book.specs.{IsBookSafe, AreRowsEvaluated, IsBookLegal, IsKept, LeftOf, Saved, faults_of, moment_of, trace_of}
use Rattle.calc_check.specs.Group.{Group}
use Rattle.sheet_law.specs.{Grid, complete_windows}
use Rattle.group_book.proofs.Evaluations.{evaluated_asked}
use Rattle.group_book.proofs.LegalTurns.{kept_asked, legal_asked, safe_asked}
use Rattle.group_book.proofs.book.Book.ask.Goals as goal

pub invariant_of-self-2 : goal.invariant_of-self-2
invariant_of-self-2 g c =
    let b = c.self.inside in
    let a = c.args in
    let grid = grid_of b.def.start b.def.period in
    let tape = b.tape.items in
    let reply = cell_of b.sheet.rows a.calc a.k in
    let saved : Saved = record { number = b.number; versions = b.saved_versions.items; rows = lists_of b.saved_rows.items; end = b.end } in
    let told : c.push_reserved.new.self.items ≡ tape ++ Ask a.reader a.row a.calc a.k reply ∷ []
    = c.push_reserved.ensures.items ∙ ap (λ l. l ++ Ask a.reader a.row a.calc a.k c.row-reply.result ∷ []) c.make_place.ensures.same
    ∙ ap (λ r. tape ++ Ask a.reader a.row a.calc a.k r ∷ []) c.row-reply.ensures.value in
    let left = LeftOf (trace_of g.D.Disk.device b.dev) in (
      c.self.invariant.0,
      subst (λ l. IsBookLegal b.def.calcs grid b.opening l b.versions.items b.sheet.copies b.sheet.rows) (sym told)
          (legal_asked b.def.calcs grid b.opening tape b.versions.items b.sheet.copies b.sheet.rows c.self.invariant.1 a.reader a.row
          a.calc a.k (subst (λ r. IsSome r ↔ ((a.calc < length b.def.calcs.calcs) × (a.k < complete_windows grid b.sheet.copies)))
          c.row-reply.ensures.value (subst (λ (h : Group). IsSome c.row-reply.result
          ↔ ((a.calc < length h.calcs) × (a.k < complete_windows grid b.sheet.copies))) c.self.invariant.0.same_group
          (subst (λ (w : Grid). IsSome c.row-reply.result
          ↔ ((a.calc < length b.sheet.group.calcs) × (a.k < complete_windows w b.sheet.copies))) c.self.invariant.0.same_grid
          c.row-reply.ensures.there))) c.self.invariant.5.rows_are),
      subst (λ l. IsKept b.text.items b.def b.opening l b.sheet.copies saved b.failed (trace_of g.D.Disk.device b.dev)
          (moment_of g.D.Disk.device b.dev) (faults_of g.D.Disk.device b.dev)) (sym told)
          (kept_asked b.text.items b.def b.opening tape b.sheet.copies saved b.failed (trace_of g.D.Disk.device b.dev)
          (moment_of g.D.Disk.device b.dev) (faults_of g.D.Disk.device b.dev) a.reader a.row a.calc a.k reply c.self.invariant.2),
      subst (λ l. IsBookSafe b.text.items b.def.calcs grid b.opening b.sheet.copies l left) (sym told)
          (safe_asked b.text.items b.def.calcs grid b.opening b.sheet.copies tape left a.reader a.row a.calc a.k reply
          c.self.invariant.3),
      c.self.invariant.4,
      subst (λ l. AreRowsEvaluated b.def.calcs grid b.opening l b.sheet.copies b.sheet.rows b.sheet.evals) (sym told)
          (evaluated_asked b.def.calcs grid b.opening b.sheet.copies b.sheet.rows b.sheet.evals tape a.reader a.row a.calc a.k reply
          c.self.invariant.5),
      c.self.invariant.6,
    )

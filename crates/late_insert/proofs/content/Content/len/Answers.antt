use Rattle.std.proofs.Common.{◌≤◌, All, sum, sym, ap, ◌∙◌, subst}
use Rattle.trend_num.specs.{InRange}
use Rattle.trend_model.specs.{points_of}
use Rattle.late_insert.proofs.Growing.{sum_lengths, most_lengths}
use Rattle.late_insert.proofs.Keeping.{points_in_range}
use Rattle.late_insert.proofs.content.Content.len.Goals as goal

pub returns-clause-range : goal.returns-clause-range
returns-clause-range c =
    subst (λ l. All InRange (points_of l)) (ap (λ s. s.records) c.self.view_is)
    (points_in_range c.self.inside.pool 0 c.self.inside.pages.items c.self.invariant.paged.each)

pub returns-clause-pages : goal.returns-clause-pages
returns-clause-pages c =
    ap (λ s. sum s.pages) (sym c.self.view_is)
    ∙ (sum_lengths c.self.inside.pool c.self.inside.pages.items ∙ sym c.self.invariant.counted)

pub returns-clause-most : goal.returns-clause-most
returns-clause-most c =
    subst (λ s. All (λ n. n ≤ 128) s.pages) c.self.view_is
    (most_lengths c.self.inside.pool 0 c.self.inside.pages.items c.self.invariant.paged.each)

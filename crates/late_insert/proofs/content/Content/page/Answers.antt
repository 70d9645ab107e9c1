use Rattle.std.proofs.Common.{false, ℕ, ◌+◌, ◌-◌, ◌<◌, ◌≤◌, take, drop, ap, sym, ◌∙◌, get_or, length, subst, rules}
use Rattle.std.specs.Prelude.{FitsSigned}
use Rattle.std.specs.Int.{w64, w128}
use Rattle.std.proofs.lemmas.Int.{to_z-of_z}
use Rattle.trend_model.specs.{points_of, area}
use Rattle.page_pool.specs.{Frame}
use Rattle.late_insert.specs.declared.content.PageTotals.{PageTotals}
use Rattle.late_insert.specs.{least_of, greatest_of, lengths_of, IsPageOf, IsOneOf}
use Rattle.late_insert.proofs.Finding.{no_page, firsts_rise}
use Rattle.late_insert.proofs.Growing.{length_at, first_at}
use Rattle.late_insert.proofs.Reading.{frame_page, page_from, page_upto, end_within, points_read}
use mir.Val.{of_z, to_z}
use Rattle.late_insert.proofs.content.Content.page.Goals as goal

-- the totals that are handed out
abbrev totals_in : Frame → ℕ → PageTotals
totals_in f n = record {
  first = n;
  len = f.len;
  area = to_z w128 (of_z w128 f.area);
  low = to_z w64 (of_z w64 f.low);
  high = to_z w64 (of_z w64 f.high);
}

pub page_of-k-requires-clause-rising : goal.page_of-k-requires-clause-rising
page_of-k-requires-clause-rising c =
    firsts_rise c.self.inside.pool 0 c.self.inside.pages.items c.self.invariant.paged.each

pub returns-clause-page : goal.returns-clause-page
returns-clause-page c =
    let is = c.frame_of-frame.ensures.read no_page in
    let last = c.page_of-k.ensures.last in
    let inside = subst (λ s. c.args.i < length s.records) (sym c.self.view_is) c.requires in
    let seen = ap (λ s. s.records) c.self.view_is in
    let f = c.frame_of-frame.result.now in
    let first = (get_or c.self.inside.pages.items c.page_of-k.result no_page).first in
    let page = frame_page _ _ _ _ _ is in
    let points = ap (λ l. take (first + f.len - first) (drop first (points_of l))) (sym seen)
    ∙ points_read _ _ _ _ _ is c.args.i inside last in
    let fits : FitsSigned w128 f.area = search rules in
    let low : FitsSigned w64 f.low = search rules in
    let high : FitsSigned w64 f.high = search rules in
    subst (λ n. IsPageOf c.args.self.now.records c.args.i (totals_in f n)) (c.first.ensures no_page) (record {
      from = page_from _ _ _ _ _ is c.args.i inside last;
      upto = page_upto _ _ _ _ _ is c.args.i inside last;
      within = subst (λ l. first + f.len ≤ length l) seen (end_within _ _ _ _ _ is);
      area = to_z-of_z w128 f.area fits ∙ (page.area ∙ ap (area false) (sym points));
      low = to_z-of_z w64 f.low low ∙ (page.low ∙ ap least_of (sym points));
      high = to_z-of_z w64 f.high high ∙ (page.high ∙ ap greatest_of (sym points));
    })

pub returns-clause-one : goal.returns-clause-one
returns-clause-one c =
    let is = c.frame_of-frame.ensures.read no_page in
    let f = c.frame_of-frame.result.now in
    subst (λ n. IsOneOf c.args.self.now.pages (totals_in f n)) (c.first.ensures no_page) (record {
      front = lengths_of c.self.inside.pool (take c.page_of-k.result c.self.inside.pages.items);
      back = lengths_of c.self.inside.pool (drop (c.page_of-k.result + 1) c.self.inside.pages.items);
      are = ap (λ s. s.pages) (sym c.self.view_is) ∙ length_at _ _ _ _ _ is;
      first = first_at _ _ _ _ _ is;
    })

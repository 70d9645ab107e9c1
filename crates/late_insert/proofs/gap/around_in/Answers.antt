use Rattle.std.proofs.Common.{◌≡◌, ◌≢◌, Some, sym, ◌∙◌}
use Rattle.std.specs.Prelude.{slice_get}
use Rattle.trend_num.specs.{Point}
use Rattle.trend_model.specs.{points_of}
use Rattle.late_insert.specs.{page_records_of}
use Rattle.late_insert.proofs.Reading.{count_gap}
use Rattle.late_insert.proofs.Nearest.{upto_there, upto_gap}
use Rattle.late_insert.proofs.gap.around_in.Goals as goal

pub returns-in-Some-clause-below : goal.returns-in-Some-clause-below
returns-in-Some-clause-below c =
    let l = page_records_of c.args.pool.now c.args.pages.now.items in
    let gap = c.gap_in-gap.ensures in
    count_gap c.args.t c.gap_in-gap.result.place l gap.bound gap.before gap.after

pub returns-in_default-clause-below : goal.returns-in_default-clause-below
returns-in_default-clause-below c =
    let l = page_records_of c.args.pool.now c.args.pages.now.items in
    let gap = c.gap_in-gap.ensures in
    count_gap c.args.t c.gap_in-gap.result.place l gap.bound gap.before gap.after

pub returns-in_default-2-clause-below : goal.returns-in_default-2-clause-below
returns-in_default-2-clause-below c =
    let l = page_records_of c.args.pool.now c.args.pages.now.items in
    let gap = c.gap_in-gap.ensures in
    count_gap c.args.t c.gap_in-gap.result.place l gap.bound gap.before gap.after

pub returns-in-Some-clause-upto : goal.returns-in-Some-clause-upto
returns-in-Some-clause-upto c =
    let l = page_records_of c.args.pool.now c.args.pages.now.items in
    let gap = c.gap_in-gap.ensures in
    upto_there l c.args.t c.gap_in-gap.result.place c.requires.pages.rising gap.bound gap.before gap.after
    c.in-Some.q
    (sym c.first_from.ensures.value ∙ c.in-Some.is) c.if-q-t.true

pub returns-in_default-clause-upto : goal.returns-in_default-clause-upto
returns-in_default-clause-upto c =
    let l = page_records_of c.args.pool.now c.args.pages.now.items in
    let gap = c.gap_in-gap.ensures in
    let other : (q : Point) → slice_get (points_of l) c.gap_in-gap.result.place ≡ Some q → q.t ≢ c.args.t =
    λ q is. let found = sym c.first_from.ensures.value
    ∙ c.in-Some.is in let same : c.in-Some.q ≡ q = cc in rw (← same) c.if-q-t.false in
    upto_gap l c.args.t c.gap_in-gap.result.place c.requires.pages.rising gap.bound gap.before gap.after other

pub returns-in_default-2-clause-upto : goal.returns-in_default-2-clause-upto
returns-in_default-2-clause-upto c =
    let l = page_records_of c.args.pool.now c.args.pages.now.items in
    let gap = c.gap_in-gap.ensures in
    let other : (q : Point) → slice_get (points_of l) c.gap_in-gap.result.place ≡ Some q → q.t ≢ c.args.t =
    λ q is. let found = sym c.first_from.ensures.value ∙ c.in_default.is in cc in
    upto_gap l c.args.t c.gap_in-gap.result.place c.requires.pages.rising gap.bound gap.before gap.after other

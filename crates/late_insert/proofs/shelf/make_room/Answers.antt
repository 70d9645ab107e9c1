use Rattle.std.proofs.Common.{inl, inr, arith}
use Rattle.late_insert.proofs.Growing.{halved_at}
use Rattle.late_insert.proofs.Finding.{no_page, starts_rise, found_for}
use Rattle.late_insert.proofs.Reading.{frame_page, page_len}
use Rattle.late_insert.proofs.Shelving.{half_found, within_split}
use Rattle.late_insert.proofs.shelf.make_room.Goals as goal

pub page_for-k-requires-clause-rising : goal.page_for-k-requires-clause-rising
page_for-k-requires-clause-rising c =
    starts_rise c.args.pool.now c.args.pages.now.items c.requires.pages

pub split-requires-clause-full : goal.split-requires-clause-full
split-requires-clause-full c = λ d.
    let is = c.frame_of.ensures.read no_page in
    let page = frame_page _ _ _ _ _ is in
    omega (arith, page_len _ _ _ _ _ is d, page.recorded.few, c.if-frame_of-lt-PAGE.false)

pub returns-then-frame_of-lt-PAGE-clause-found : goal.returns-then-frame_of-lt-PAGE-clause-found
returns-then-frame_of-lt-PAGE-clause-found c =
    found_for c.args.pool.now c.args.pages.now.items c.page_for-k.result c.args.t c.requires.pages
    c.page_for-k.ensures.within c.page_for-k.ensures.last

pub returns-then-frame_of-lt-PAGE-clause-not_full : goal.returns-then-frame_of-lt-PAGE-clause-not_full
returns-then-frame_of-lt-PAGE-clause-not_full c = λ d.
    let is = c.frame_of.ensures.read no_page in
    omega (arith, page_len _ _ _ _ _ is d, c.if-frame_of-lt-PAGE.true)

pub half_for-requires-clause-within : goal.half_for-requires-clause-within
half_for-requires-clause-within c =
    within_split c.split.new.pages.items c.args.pages.now.items c.page_for-k.result c.split.ensures.list
    c.page_for-k.ensures.within

pub returns-clause-lengths : goal.returns-clause-lengths
returns-clause-lengths c =
    let is = c.frame_of.ensures.read no_page in
    let found = found_for c.args.pool.now c.args.pages.now.items c.page_for-k.result c.args.t c.requires.pages
    c.page_for-k.ensures.within c.page_for-k.ensures.last in
    inr (halved_at _ _ _ c.args.t _ _ is found c.if-frame_of-lt-PAGE.false _ c.split.ensures.lengths)

pub returns-clause-found : goal.returns-clause-found
returns-clause-found c =
    half_found c.split.new.pool c.split.new.pages.items c.args.pages.now.items c.page_for-k.result c.args.t
    no_page
    c.split.ensures.pages c.split.ensures.list c.page_for-k.ensures.within c.page_for-k.ensures.last
    c.half_for.result c.half_for.ensures

pub returns-clause-not_full : goal.returns-clause-not_full
returns-clause-not_full c = λ d.
    elim (c.half_for.ensures no_page) [
      | inl upper ↦ rw upper.0 (omega (arith, c.split.ensures.upper d))
      | inr lower ↦ rw lower.0 (omega (arith, c.split.ensures.lower d))
    ]

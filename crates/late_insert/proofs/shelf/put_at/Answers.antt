use Rattle.std.proofs.Common.{◌+◌, ◌<◌, get_or, subst, ap, sym, ◌∙◌, length, rules, arith, ◌≡◌}
use Rattle.std.specs.Prelude.{FitsSigned, is_some}
use Rattle.page_pool.proofs.Stored.{spare-written}
use Rattle.std.proofs.lemmas.Int.{to_z-of_z}
use mir.Syntax.{w128}
use Rattle.trend_model.specs.{points_of}
use Rattle.late_insert.specs.{summary_of, frame_records_in, IsPageRead, Listed}
use Rattle.std.proofs.lemmas.List.{get_or_default, length-set}
use Rattle.late_insert.proofs.Moving.{length-moved}
use Rattle.late_insert.proofs.Finding.{no_page}
use Rattle.late_insert.proofs.Reading.{held_by, read_by, frame_page, frame_rises, page_stair, page_len}
use Rattle.late_insert.proofs.Shelving.{IsShelved, pages_shelved, records-shelved, len-shelved, small_places, grown-shelved}
use Rattle.late_insert.proofs.shelf.put_at.Goals as goal

pub frame_mut-frame-requires : goal.frame_mut-frame-requires
frame_mut-frame-requires c = held_by c.args.pool.now c.args.pages.now.items c.args.k c.id.result.now c.requires.pages
    c.requires.page.within (c.id.ensures.value no_page)

pub put_rec-grown-requires-clause-page : goal.put_rec-grown-requires-clause-page
put_rec-grown-requires-clause-page c =
    let is = read_by c.args.pool.now c.args.pages.now.items c.args.k c.id.result.now c.frame_mut-frame.result.now
    c.requires.pages c.requires.page.within (c.id.ensures.value no_page) c.frame_mut-frame.ensures.value in
    frame_page _ _ _ _ _ is

pub put_rec-grown-requires-clause-rising : goal.put_rec-grown-requires-clause-rising
put_rec-grown-requires-clause-rising c =
    let is = read_by c.args.pool.now c.args.pages.now.items c.args.k c.id.result.now c.frame_mut-frame.result.now
    c.requires.pages c.requires.page.within (c.id.ensures.value no_page) c.frame_mut-frame.ensures.value in
    frame_rises _ _ _ _ _ is

pub put_rec-grown-requires-clause-room : goal.put_rec-grown-requires-clause-room
put_rec-grown-requires-clause-room c =
    let is = read_by c.args.pool.now c.args.pages.now.items c.args.k c.id.result.now c.frame_mut-frame.result.now
    c.requires.pages c.requires.page.within (c.id.ensures.value no_page) c.frame_mut-frame.ensures.value in
    omega (arith, page_len _ _ _ _ _ is no_page, c.requires.room no_page)

pub put_rec-grown-requires-clause-stair : goal.put_rec-grown-requires-clause-stair
put_rec-grown-requires-clause-stair c =
    let is = read_by c.args.pool.now c.args.pages.now.items c.args.k c.id.result.now c.frame_mut-frame.result.now
    c.requires.pages c.requires.page.within (c.id.ensures.value no_page) c.frame_mut-frame.ensures.value in
    let fits : FitsSigned w128 c.stair.result = search rules in
    to_z-of_z w128 c.stair.result fits ∙ (sym (c.stair.ensures no_page) ∙ page_stair _ _ _ _ _ is)

pub move_on-requires-clause-within : goal.move_on-requires-clause-within
move_on-requires-clause-within c =
    subst (λ n. c.args.k < n) (sym (ap (λ (s : Listed). length s.items) (c.write.ensures no_page)
    ∙ length-set c.args.pages.now.items c.args.k _)) c.requires.page.within

pub move_on-requires-clause-small : goal.move_on-requires-clause-small
move_on-requires-clause-small c =
    small_places c.args.pool.now c.args.pages.now.items c.write.new.self.items c.args.k
    c.put_rec-grown.result.by (get_or c.args.pages.now.items c.args.k no_page) _ _
    c.requires.pages c.requires.page.within
    (get_or_default c.args.pages.now.items c.args.k no_page _ c.requires.page.within)
    (ap (λ (s : Listed). s.items) (c.write.ensures no_page))
    c.requires.few c.put_rec-grown.ensures.by_one

-- the page that is written, its summary, and the pages after that
read_here : (c : goal.After-move_on)
    → IsPageRead c.args.pool.now c.args.pages.now.items c.args.k (get_or c.args.pages.now.items c.args.k no_page)
    c.frame_mut-frame.result.now
read_here c = read_by c.args.pool.now c.args.pages.now.items c.args.k c.id.result.now c.frame_mut-frame.result.now
    c.requires.pages c.requires.page.within (c.id.ensures.value no_page) c.frame_mut-frame.ensures.value

summary_here : (c : goal.After-move_on)
    → c.summary_in-summary.result ≡ summary_of (points_of (frame_records_in c.put_rec-grown.new.frame))
summary_here c = c.summary_in-summary.ensures.value

shelved_here : (c : goal.After-move_on)
    → IsShelved c.args.pages.now.items c.move_on.new.self.items c.write.new.self.items c.args.k
    c.put_rec-grown.result.by (get_or c.args.pages.now.items c.args.k no_page) c.put_rec-grown.new.frame
    c.summary_in-summary.result
shelved_here c = record {
  again = get_or_default c.args.pages.now.items c.args.k no_page _ c.requires.page.within;
  wrote = ap (λ (s : Listed). s.items) (c.write.ensures no_page);
  moves = ap (λ (s : Listed). s.items) c.move_on.ensures;
}

pub returns-clause-pages : goal.returns-clause-pages
returns-clause-pages c =
    rw (sym (c.id.ensures.value no_page)) (pages_shelved _ _ _ _ _ _ _ _ _ _ c.args.rec _ (summary_here c) (read_here c)
    c.requires.page c.put_rec-grown.ensures.page c.put_rec-grown.ensures.records c.put_rec-grown.ensures.grown
    (shelved_here c))

pub returns-clause-records : goal.returns-clause-records
returns-clause-records c =
    rw (sym (c.id.ensures.value no_page)) (records-shelved _ _ _ _ _ _ _ _ _ _ c.args.rec _ (summary_here c) (read_here c)
    c.requires.page c.put_rec-grown.ensures.page c.put_rec-grown.ensures.records c.put_rec-grown.ensures.grown
    (shelved_here c))

pub returns-clause-grown : goal.returns-clause-grown
returns-clause-grown c =
    rw (sym (c.id.ensures.value no_page)) (len-shelved _ _ _ _ _ _ _ _ _ _ c.args.rec _ (summary_here c) (read_here c)
    c.requires.page c.put_rec-grown.ensures.page c.put_rec-grown.ensures.records c.put_rec-grown.ensures.grown
    (shelved_here c))

pub returns-clause-lengths : goal.returns-clause-lengths
returns-clause-lengths c =
    let is = read_here c in
    let short = c.requires.room no_page in
    rw (sym (c.id.ensures.value no_page)) (grown-shelved _ _ _ _ _ _ _ _ _ _ c.args.rec _ (summary_here c) is
    c.requires.page c.put_rec-grown.ensures.page c.put_rec-grown.ensures.records c.put_rec-grown.ensures.grown
    (shelved_here c) (omega (arith, page_len _ _ _ _ _ is no_page)))

pub returns-clause-frames : goal.returns-clause-frames
returns-clause-frames c = spare-written c.args.pool.now c.id.result.now c.put_rec-grown.new.frame
    (ap is_some c.frame_mut-frame.ensures.value)

pub returns-clause-pages_len : goal.returns-clause-pages_len
returns-clause-pages_len c =
    ap (λ (s : Listed). length s.items) c.move_on.ensures
    ∙ (length-moved c.put_rec-grown.result.by (c.args.k + 1) c.write.new.self.items
    ∙ (ap (λ (s : Listed). length s.items) (c.write.ensures no_page)
    ∙ length-set c.args.pages.now.items c.args.k _))

pub returns-clause-capacity : goal.returns-clause-capacity
returns-clause-capacity c =
    ap (λ (s : Listed). s.places) c.move_on.ensures ∙ ap (λ (s : Listed). s.places) (c.write.ensures no_page)

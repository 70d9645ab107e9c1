use Rattle.std.proofs.Common.{◌≡◌, ◌+◌, ◌-◌, ◌<◌, get_or, ap, sym, ◌∙◌, length, rules, arith}
use Rattle.std.specs.Prelude.{FitsSigned, is_some}
use Rattle.page_pool.proofs.Stored.{spare-written}
use Rattle.std.proofs.lemmas.Int.{to_z-of_z}
use mir.Syntax.{w128}
use Rattle.trend_model.specs.{placed, points_of}
use Rattle.late_insert.specs.{summary_of, frame_records_in, IsFor, IsPageRead, Listed}
use Rattle.std.proofs.lemmas.List.{get_or_default, length_push, length-set}
use Rattle.late_insert.proofs.Finding.{no_page}
use Rattle.late_insert.proofs.Reading.{before_on, held_by, read_by, read_last, frame_page, page_stair, page_len}
use Rattle.late_insert.proofs.Sorted.{grown_by, placed_end}
use Rattle.late_insert.proofs.Shelving.{IsShelved, last_for, none_moved, pages_shelved, records-shelved, len-shelved, grown-shelved}
use Rattle.late_insert.proofs.shelf.put_behind.Goals as goal
use Rattle.late_insert.proofs.shelf.put_behind.Goals.{After-id, After-stair}

-- the last page is one of them
within : (c : After-id) → c.len-last.result - 1 < length c.args.pages.now.items
within c = omega (arith, c.len-last.ensures, c.requires.pages.some)

pub frame_mut-frame-requires : goal.frame_mut-frame-requires
frame_mut-frame-requires c =
    held_by c.args.pool.now c.args.pages.now.items (c.len-last.result - 1) c.id.result.now c.requires.pages
    (within (goal.at.frame_mut-frame-requires c).After-id) (c.id.ensures.value no_page)

-- it is read
read : (c : After-stair) → IsPageRead c.args.pool.now c.args.pages.now.items (c.len-last.result - 1)
    (get_or c.args.pages.now.items (c.len-last.result - 1) no_page) c.frame_mut-frame.result.now
read c = read_by c.args.pool.now c.args.pages.now.items (c.len-last.result - 1) c.id.result.now
    c.frame_mut-frame.result.now c.requires.pages (omega (arith, c.len-last.ensures, c.requires.pages.some))
    (c.id.ensures.value no_page) c.frame_mut-frame.ensures.value

pub append-stair-requires-clause-page : goal.append-stair-requires-clause-page
append-stair-requires-clause-page c =
    frame_page _ _ _ _ _ (read (goal.at.append-stair-requires-clause-page c).After-stair)

pub append-stair-requires-clause-some : goal.append-stair-requires-clause-some
append-stair-requires-clause-some c =
    let is = read_last _ _ _ _ c.len-last.ensures (read (goal.at.append-stair-requires-clause-some c).After-stair) in
    omega (arith, page_len _ _ _ _ _ is no_page, c.requires.some no_page)

pub append-stair-requires-clause-room : goal.append-stair-requires-clause-room
append-stair-requires-clause-room c =
    let is = read_last _ _ _ _ c.len-last.ensures (read (goal.at.append-stair-requires-clause-room c).After-stair) in
    omega (arith, page_len _ _ _ _ _ is no_page, c.requires.room no_page)

pub append-stair-requires-clause-stair : goal.append-stair-requires-clause-stair
append-stair-requires-clause-stair c =
    let is = read (goal.at.append-stair-requires-clause-stair c).After-stair in
    let fits : FitsSigned w128 c.stair.result = search rules in
    to_z-of_z w128 c.stair.result fits ∙ (sym (c.stair.ensures no_page) ∙ page_stair _ _ _ _ _ is)

-- the page that is written, with its records and its summary
read_here : (c : goal.After-write) → IsPageRead c.args.pool.now c.args.pages.now.items (c.len-last.result - 1)
    (get_or c.args.pages.now.items (c.len-last.result - 1) no_page) c.frame_mut-frame.result.now
read_here c = read_by c.args.pool.now c.args.pages.now.items (c.len-last.result - 1) c.id.result.now
    c.frame_mut-frame.result.now c.requires.pages (omega (arith, c.len-last.ensures, c.requires.pages.some))
    (c.id.ensures.value no_page) c.frame_mut-frame.ensures.value

found : (c : goal.After-write)
    → IsFor c.args.pool.now c.args.pages.now.items (c.len-last.result - 1) c.args.rec.point.t
found c = last_for c.args.pool.now c.args.pages.now.items c.len-last.result c.args.rec.point.t c.requires.pages
    c.len-last.ensures c.requires.before

records : (c : goal.After-write) → frame_records_in c.append-stair.new.frame
    ≡ placed c.args.rec (frame_records_in c.frame_mut-frame.result.now)
records c = c.append-stair.ensures.records ∙ placed_end c.frame_mut-frame.result.now c.args.rec
    (λ k less. before_on _ _ _ _ _ (read_here c) c.args.rec.point.t k less c.requires.before)

grown : (c : goal.After-write) → c.append-stair.new.frame.len ≡ c.frame_mut-frame.result.now.len + 1
grown c = grown_by c.frame_mut-frame.result.now c.append-stair.new.frame c.args.rec 1
    (ap length c.append-stair.ensures.records ∙ length_push (frame_records_in c.frame_mut-frame.result.now) c.args.rec)

summary_here : (c : goal.After-write) → c.summary_in-summary.result
    ≡ summary_of (points_of (frame_records_in c.append-stair.new.frame))
summary_here c = c.summary_in-summary.ensures.value

-- there are as many pages as before, so none is after it
as_many : (c : goal.After-write) → length c.write.new.self.items ≡ length c.args.pages.now.items
as_many c = ap (λ (s : Listed). length s.items) (c.write.ensures no_page)
    ∙ length-set c.args.pages.now.items (c.len-last.result - 1) _

shelved_here : (c : goal.After-write)
    → IsShelved c.args.pages.now.items c.write.new.self.items c.write.new.self.items (c.len-last.result - 1) 1
    (get_or c.args.pages.now.items (c.len-last.result - 1) no_page) c.append-stair.new.frame
    c.summary_in-summary.result
shelved_here c = record {
  again = get_or_default c.args.pages.now.items (c.len-last.result - 1) no_page _
      (omega (arith, c.len-last.ensures, c.requires.pages.some));
  wrote = ap (λ (s : Listed). s.items) (c.write.ensures no_page);
  moves = none_moved 1 c.write.new.self.items (c.len-last.result - 1) (omega (arith, c.len-last.ensures, as_many c));
}

pub returns-clause-pages : goal.returns-clause-pages
returns-clause-pages c =
    rw (sym (c.id.ensures.value no_page)) (pages_shelved _ _ _ _ _ _ _ _ _ _ c.args.rec _ (summary_here c) (read_here c)
    (found c) c.append-stair.ensures.page (records c) (grown c) (shelved_here c))

pub returns-clause-records : goal.returns-clause-records
returns-clause-records c =
    rw (sym (c.id.ensures.value no_page)) (records-shelved _ _ _ _ _ _ _ _ _ _ c.args.rec _ (summary_here c) (read_here c)
    (found c) c.append-stair.ensures.page (records c) (grown c) (shelved_here c))

pub returns-clause-grown : goal.returns-clause-grown
returns-clause-grown c =
    rw (sym (c.id.ensures.value no_page)) (len-shelved _ _ _ _ _ _ _ _ _ _ c.args.rec _ (summary_here c) (read_here c)
    (found c) c.append-stair.ensures.page (records c) (grown c) (shelved_here c))

pub returns-clause-lengths : goal.returns-clause-lengths
returns-clause-lengths c =
    let is = read_last _ _ _ _ c.len-last.ensures (read_here c) in
    rw (sym (c.id.ensures.value no_page)) (grown-shelved _ _ _ _ _ _ _ _ _ _ c.args.rec _ (summary_here c) (read_here c)
    (found c) c.append-stair.ensures.page (records c) (grown c) (shelved_here c)
    (omega (arith, page_len _ _ _ _ _ is no_page, c.requires.room no_page)))

pub returns-clause-frames : goal.returns-clause-frames
returns-clause-frames c = spare-written c.args.pool.now c.id.result.now c.append-stair.new.frame
    (ap is_some c.frame_mut-frame.ensures.value)

pub returns-clause-pages_len : goal.returns-clause-pages_len
returns-clause-pages_len = as_many

pub returns-clause-capacity : goal.returns-clause-capacity
returns-clause-capacity c = ap (λ (s : Listed). s.places) (c.write.ensures no_page)

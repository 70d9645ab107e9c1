use Rattle.std.proofs.Common.{◌≡◌, Some, Result, Ok, Err, true, ℕ, ◌+◌, ap, ap₂, sym, ◌∙◌, get_or, length, set, subst, refl, arith}
use Rattle.std.specs.Prelude.{insert, IsOk, is_err, is_some}
use Rattle.std.proofs.lemmas.List.{get_or_default, length-set}
use Rattle.late_insert.specs.{Page, summary_of, frame_records_in, IsPageRead, Listed, rewritten}
use Rattle.page_pool.specs.{TakesFrame}
use Rattle.page_pool.proofs.Stored.{spare-written}
use Rattle.trend_model.specs.{points_of}
use Rattle.late_insert.proofs.Finding.{no_page}
use Rattle.late_insert.proofs.Reading.{held_by, read_by, frame_page}
use Rattle.late_insert.proofs.Shelving.{IsCut, cut_in_two, first_small, full_frame}
use Rattle.late_insert.proofs.shelf.split.Goals as goal
use Rattle.late_insert.proofs.shelf.split.Goals.{After-write}

-- what is no error is a value
ok_from : {A E : Type 0} (r : Result A E) → (is_err r ≡ true → ⊥) → IsOk r
ok_from (Ok x) none = refl
ok_from (Err e) none = absurd (none refl)

-- the frame of the page that is cut is there
pub frame_mut-lower-requires : goal.frame_mut-lower-requires
frame_mut-lower-requires c = held_by c.args.pool.now c.args.pages.now.items c.args.k c.id.result.now c.requires.pages
    c.requires.within (c.id.ensures.value no_page)

pub cut-halves-requires-clause-page : goal.cut-halves-requires-clause-page
cut-halves-requires-clause-page c =
    let is = read_by c.args.pool.now c.args.pages.now.items c.args.k c.id.result.now c.frame_mut-lower.result.now
    c.requires.pages c.requires.within (c.id.ensures.value no_page) c.frame_mut-lower.ensures.value in
    frame_page _ _ _ _ _ is

pub cut-halves-requires-clause-full : goal.cut-halves-requires-clause-full
cut-halves-requires-clause-full c =
    let is = read_by c.args.pool.now c.args.pages.now.items c.args.k c.id.result.now c.frame_mut-lower.result.now
    c.requires.pages c.requires.within (c.id.ensures.value no_page) c.frame_mut-lower.ensures.value in
    full_frame _ _ _ _ _ is (c.requires.full _)

pub unwrap-id-requires : goal.unwrap-id-requires
unwrap-id-requires c =
    let stays = spare-written c.args.pool.now c.id.result.now c.cut-halves.new.frame
    (ap is_some c.frame_mut-lower.ensures.value) in
    ok_from c.take_frame.result (λ err. let none = c.take_frame.ensures.none_spare.0 err in absurd
    (omega (arith, c.requires.spare)))

pub overflow_add-first : goal.overflow_add-first
overflow_add-first c =
    let is = read_by c.args.pool.now c.args.pages.now.items c.args.k c.id.result.now c.frame_mut-lower.result.now
    c.requires.pages c.requires.within (c.id.ensures.value no_page) c.frame_mut-lower.ensures.value in
    let full = full_frame _ _ _ _ _ is (c.requires.full _) in
    omega (
      arith,
      c.first-first.ensures no_page,
      first_small _ _ _ _ (get_or c.args.pages.now.items c.args.k no_page) _ is full is.read c.requires.few,
    )

-- a page that is written is one of as many
written : (c : After-write) → length c.write.new.self.items ≡ length c.args.pages.now.items
written c =
    ap (λ (s : Listed). length s.items) (c.write.ensures no_page)
    ∙ length-set c.args.pages.now.items c.args.k (rewritten c.start-start.result
    c.summary_in-summary.result (get_or c.args.pages.now.items c.args.k no_page))

pub insert-requires-clause-within : goal.insert-requires-clause-within
insert-requires-clause-within c =
    omega (arith, written (goal.at.insert-requires-clause-within c).After-write, c.requires.within)

pub insert-requires-clause-room : goal.insert-requires-clause-room
insert-requires-clause-room c =
    let long = written (goal.at.insert-requires-clause-room c).After-write in
    omega (arith, ap (λ (s : Listed). s.places) (c.write.ensures no_page), c.requires.room)

pub returns-clause-capacity : goal.returns-clause-capacity
returns-clause-capacity c =
    ap (λ (s : Listed). s.places) c.insert.ensures ∙ ap (λ (s : Listed). s.places) (c.write.ensures no_page)

pub returns-clause-frames : goal.returns-clause-frames
returns-clause-frames c =
    omega (
      arith,
      spare-written c.args.pool.now c.id.result.now c.cut-halves.new.frame (ap is_some c.frame_mut-lower.ensures.value),
      spare-written c.take_frame.new.self c.unwrap-id.result c.cut-halves.result.upper
          (ap is_some c.frame_mut.ensures.value),
      rw c.unwrap-id.ensures at c.take_frame.ensures.spare,
    )

-- the page that is cut, the frame that is taken, and the summaries of the halves
read_here : (c : goal.After-insert)
    → IsPageRead c.args.pool.now c.args.pages.now.items c.args.k (get_or c.args.pages.now.items c.args.k no_page)
    c.frame_mut-lower.result.now
read_here c = read_by c.args.pool.now c.args.pages.now.items c.args.k c.id.result.now c.frame_mut-lower.result.now
    c.requires.pages c.requires.within (c.id.ensures.value no_page) c.frame_mut-lower.ensures.value

takes_here : (c : goal.After-insert)
    → TakesFrame (set c.args.pool.now (get_or c.args.pages.now.items c.args.k no_page).id (Some c.cut-halves.new.frame))
    c.unwrap-id.result c.take_frame.new.self
takes_here c =
    subst (λ id. TakesFrame (set c.args.pool.now id (Some c.cut-halves.new.frame)) c.unwrap-id.result c.take_frame.new.self)
    (sym (c.id.ensures.value no_page)) (rw c.unwrap-id.ensures at c.take_frame.ensures.taken)

lower_here : (c : goal.After-insert)
    → c.summary_in-summary.result ≡ summary_of (points_of (frame_records_in c.cut-halves.new.frame))
lower_here c = c.summary_in-summary.ensures.value

upper_here : (c : goal.After-insert)
    → c.summary_in.result ≡ summary_of (points_of (frame_records_in c.cut-halves.result.upper))
upper_here c = c.summary_in.ensures.value

-- the pages after the split
list_here : (c : goal.After-insert) → c.insert.new.self.items ≡ insert (set c.args.pages.now.items c.args.k
    (rewritten (get_or c.args.pages.now.items c.args.k no_page).start
    c.summary_in-summary.result
    (get_or c.args.pages.now.items c.args.k no_page))) (c.args.k + 1) (record {
      id = c.unwrap-id.result;
      first = (get_or c.args.pages.now.items c.args.k no_page).first + 64;
      start = get_or c.cut-halves.result.upper.times 0 0;
      summary = c.summary_in.result;
    })
list_here c =
    let q = get_or c.args.pages.now.items c.args.k no_page in
    let half : ℕ → Page = λ n. record {
      id = c.unwrap-id.result;
      first = n + 64;
      start = get_or c.cut-halves.result.upper.times 0 0;
      summary = c.summary_in.result;
    } in
    ap (λ (s : Listed). s.items) c.insert.ensures
    ∙ (ap (λ (s : Listed). insert s.items (c.args.k + 1) (half c.first-first.result)) (c.write.ensures no_page)
    ∙ ap₂ (λ n m. insert (set c.args.pages.now.items c.args.k (rewritten n
    c.summary_in-summary.result q))
    (c.args.k + 1) (half m)) (sym (c.start-start.ensures no_page)) (sym (c.first-first.ensures no_page)))

-- the page is cut
cut_here : (c : goal.After-insert) → IsCut c.args.pool.now
    (set c.take_frame.new.self c.unwrap-id.result (Some c.cut-halves.result.upper)) c.args.pages.now.items
    c.insert.new.self.items c.args.k
cut_here c =
    let is = read_here c in
    let full = full_frame _ _ _ _ _ is (c.requires.full _) in
    rw (list_here c)
    (cut_in_two _ _ _ _ _ _ _ _ _ _ _ _ (lower_here c) (upper_here c) is full
    c.cut-halves.ensures.lower c.cut-halves.ensures.upper c.cut-halves.ensures.lower_records
    c.cut-halves.ensures.upper_records (takes_here c) is.read)

pub returns-clause-pages : goal.returns-clause-pages
returns-clause-pages c = (cut_here c).pages

pub returns-clause-records : goal.returns-clause-records
returns-clause-records c = (cut_here c).records

pub returns-clause-lengths : goal.returns-clause-lengths
returns-clause-lengths c = (cut_here c).lengths

pub returns-clause-lower : goal.returns-clause-lower
returns-clause-lower c = (cut_here c).lower

pub returns-clause-upper : goal.returns-clause-upper
returns-clause-upper c = (cut_here c).upper

pub returns-clause-list : goal.returns-clause-list
returns-clause-list c = record {
  lower = _;
  upper = _;
  list = list_here c;
  start = ap (λ (p : Page). p.start) (get_or_default c.args.pages.now.items c.args.k no_page _ c.requires.within);
}

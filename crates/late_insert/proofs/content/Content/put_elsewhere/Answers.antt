use Rattle.std.proofs.Common.{◌-◌, ◌∷◌, [], ◌++◌, get_or, length, fold, take, subst, sym, ap, ◌∙◌, arith}
use Rattle.std.proofs.lemmas.List.{get_or_default, length-take-le}
use Rattle.late_insert.specs.{page_records_of, lengths_of, ArePagesFilled, IsPutAmong, place_in}
use Rattle.late_insert.proofs.Growing.{filled_fresh, one_among, one_behind}
use Rattle.trend_model.proofs.Placing.{time, AllBefore}
use Rattle.trend_model.specs.{placed}
use Rattle.late_insert.proofs.Filling.{listed_run, run_behind}
use Rattle.late_insert.proofs.Finding.{no_rec}
use Rattle.late_insert.proofs.Keeping.{frame_spare}
use Rattle.late_insert.proofs.content.Content.put_elsewhere.Goals as goal

pub open_page-requires-clause-spare : goal.open_page-requires-clause-spare
open_page-requires-clause-spare c = frame_spare c.self.inside.pool c.self.inside.pages.items _ _ _
    c.self.invariant

pub open_page-requires-clause-room : goal.open_page-requires-clause-room
open_page-requires-clause-room c =
    let spare = frame_spare c.self.inside.pool c.self.inside.pages.items _ _ _ c.self.invariant in
    omega (arith, c.self.invariant.reserved)

pub open_page-requires-clause-rising : goal.open_page-requires-clause-rising
open_page-requires-clause-rising c =
    run_behind (page_records_of c.self.inside.pool c.self.inside.pages.items) c.args.recs.now c.run_len-n.result no_rec
    c.self.invariant.paged.rising c.run_len-n.ensures.rising c.run_len-n.ensures.some
    (c.is_full_before.ensures.before c.if-is_full_before.true)

pub returns-then-is_full_before-clause-records : goal.returns-then-is_full_before-clause-records
returns-then-is_full_before-clause-records c =
    let run = take c.run_len-n.result c.args.recs.now in
    let behind = run_behind (page_records_of c.self.inside.pool c.self.inside.pages.items) c.args.recs.now
    c.run_len-n.result no_rec c.self.invariant.paged.rising c.run_len-n.ensures.rising c.run_len-n.ensures.some
    (c.is_full_before.ensures.before c.if-is_full_before.true) in
    let seen = ap (λ s. s.records) c.self.view_is in
    c.open_page.ensures.records
    ∙ (sym (listed_run (page_records_of c.self.inside.pool c.self.inside.pages.items) run behind)
    ∙ ap (λ l. fold (λ m r. placed r m) l run) seen)

pub make_room-k-requires-clause-spare : goal.make_room-k-requires-clause-spare
make_room-k-requires-clause-spare c = frame_spare c.self.inside.pool c.self.inside.pages.items _ _ _
    c.self.invariant

pub make_room-k-requires-clause-room : goal.make_room-k-requires-clause-room
make_room-k-requires-clause-room c =
    let spare = frame_spare c.self.inside.pool c.self.inside.pages.items _ _ _ c.self.invariant in
    omega (arith, c.self.invariant.reserved)

pub returns-then-is_full_before-clause-behind : goal.returns-then-is_full_before-clause-behind
returns-then-is_full_before-clause-behind c = λ d before.
    let pool = c.self.inside.pool in
    let pages = c.self.inside.pages.items in
    let now = c.open_page.ensures.lengths ∙ ap (λ n. lengths_of pool pages ++ n ∷ [])
    (length-take-le c.run_len-n.result c.args.recs.now c.run_len-n.ensures.within) in
    let full = c.is_full_before.ensures.full c.if-is_full_before.true in
    subst (λ ns. ArePagesFilled ns c.run_len-n.result (lengths_of c.open_page.new.pool c.open_page.new.pages.items))
    (ap (λ s. s.pages) c.self.view_is)
    (filled_fresh pool pages c.self.invariant.paged c.run_len-n.result _ full now)

pub returns-then-is_full_before-clause-among : goal.returns-then-is_full_before-clause-among
returns-then-is_full_before-clause-among c = λ d late.
    let before = c.is_full_before.ensures.before c.if-is_full_before.true in
    let seen = subst (λ l. AllBefore l (time (get_or c.args.recs.now 0 no_rec))) (ap (λ s. s.records) c.self.view_is)
    before in
    absurd (late (subst (λ r. AllBefore c.args.self.now.records (time r))
    (get_or_default c.args.recs.now 0 no_rec d c.requires.some) seen))

pub returns-clause-behind : goal.returns-clause-behind
returns-clause-behind c = λ d before.
    let pool = c.self.inside.pool in
    let pages = c.self.inside.pages.items in
    let r = get_or c.args.recs.now 0 no_rec in
    let early : AllBefore (page_records_of pool pages) (time r) = subst (λ l. AllBefore l (time r))
    (sym (ap (λ s. s.records) c.self.view_is)) (subst (λ x. AllBefore c.args.self.now.records (time x))
    (get_or_default c.args.recs.now 0 d no_rec c.requires.some) before) in
    let short = c.is_full_before.ensures.room c.if-is_full_before.false early in
    subst (λ ns. ArePagesFilled ns 1 (lengths_of c.put_at.new.pool c.put_at.new.pages.items))
    (ap (λ s. s.pages) c.self.view_is)
    (one_behind pool c.make_room-k.new.pool c.put_at.new.pool pages c.make_room-k.new.pages.items
    c.put_at.new.pages.items r c.put_at.result c.make_room-k.ensures.records c.make_room-k.ensures.lengths
    c.put_at.ensures.records c.put_at.ensures.grown c.put_at.ensures.lengths c.self.invariant.paged early short)

pub returns-clause-among : goal.returns-clause-among
returns-clause-among c = λ d late.
    let pool = c.self.inside.pool in
    let pages = c.self.inside.pages.items in
    let r = get_or c.args.recs.now 0 no_rec in
    let new = lengths_of c.put_at.new.pool c.put_at.new.pages.items in
    let total = length (page_records_of c.put_at.new.pool c.put_at.new.pages.items) in
    let among = one_among pool c.make_room-k.new.pool c.put_at.new.pool pages c.make_room-k.new.pages.items
    c.put_at.new.pages.items r c.put_at.result c.make_room-k.ensures.records c.make_room-k.ensures.lengths
    c.put_at.ensures.records c.put_at.ensures.grown c.put_at.ensures.lengths in
    subst (λ x. IsPutAmong c.args.self.now.pages (place_in c.args.self.now.records (time x))
    (total - length c.args.self.now.records) new) (get_or_default c.args.recs.now 0 no_rec d c.requires.some)
    (subst (λ s. IsPutAmong s.pages (place_in s.records (time r)) (total - length s.records) new) c.self.view_is among)

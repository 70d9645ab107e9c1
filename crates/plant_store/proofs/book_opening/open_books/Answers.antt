use Rattle.std.proofs.Common.{◌≡◌, ◌∙◌, Err, ap, arith, get_or, length, map, subst, sym}
use Rattle.disk_model.specs.{CountsFault, Rose}
use Rattle.group_book.specs.declared.refusal.LoadNo.TheVariants.{DeviceFault}
use Rattle.branded_disk.specs.{branded}
use Rattle.plant_store.specs.BookRefusals.{CountsStore, IsRefusal, status_of}
use Rattle.plant_store.specs.{AreOtherNamesSame}
use Rattle.plant_store.proofs.BookCauses.{all_faultless, all_same, counted, fails, told_all}
use Rattle.plant_store.proofs.BookNames.{as_many, names_differ}
use Rattle.plant_store.proofs.Counts.{stays_small}
use Rattle.plant_store.proofs.BookTurns.{others_same, still}
use Rattle.plant_store.proofs.book_opening.open_books.Goals as goal

pub returns-in_default-clause-any_moment : goal.returns-in_default-clause-any_moment
returns-in_default-clause-any_moment g c = λ k d below. still (get_or c.args.groups.now k d) _

pub give_back_all-requires-clause-named : goal.give_back_all-requires-clause-named
give_back_all-requires-clause-named g c κs within =
    omega (arith, c.in-Err.ensures.some, as_many c.args.groups.now c.args.names.now c.requires.names, c.open_all.new.books.ok.0)

pub give_back_all-requires-clause-distinct : goal.give_back_all-requires-clause-distinct
give_back_all-requires-clause-distinct g c κs within =
    names_differ c.args.groups.now c.args.names.now c.requires.names c.requires.distinct

pub returns-in-Err-clause-refused : goal.returns-in-Err-clause-refused
returns-in-Err-clause-refused g c =
    let D = g.S.Dev.Disk in
    let books = c.open_all.new.books.items in
    let why = c.in-Err.why in
    let records = map (λ r. r.now) c.args.records.now in
    let old = g.S.Store.device_at c.args.store.now in
    let before = g.S.Store.fault_count c.args.store.now in
    let some = c.in-Err.ensures.some in
    let status : c.book_status.result ≡ status_of (length books) why = c.book_status.ensures
    ∙ ap (λ n. status_of n why) (c.len-group.ensures ∙ c.open_all.new.books.ok.0) in
    subst (IsRefusal c.args.groups.now records old before (g.S.Store.fault_count c.give_back_all.new.store)) (sym status)
    (told_all (branded D.device g.K.Begun.before) c.args.groups.now records old books before _ why c.open_all.ensures.opened some
    c.in-Err.ensures.cause (λ small is.
    let counts = c.in-Err.ensures.counts small in
    let same = c.give_back_all.ensures.counted
    ∙ all_faultless (branded D.device g.K.Begun.before) c.args.groups.now records old books _ (omega (arith, some)) c.open_all.ensures.opened
    (stays_small why DeviceFault before _ small counts) in
    subst (Rose before) (sym same) (fails why before _ counts is)))

pub returns-in-Err-clause-any_moment : goal.returns-in-Err-clause-any_moment
returns-in-Err-clause-any_moment g c =
    let D = g.S.Dev.Disk in
    let books = c.open_all.new.books.items in
    all_same (branded D.device g.K.Begun.before) c.args.groups.now c.args.names.now (map (λ r. r.now) c.args.records.now)
    (g.S.Store.device_at c.args.store.now) (g.S.Store.device_at c.open_all.new.store) (g.S.Store.device_at c.give_back_all.new.store) books
    c.requires.names c.requires.distinct (omega (arith, c.in-Err.ensures.some)) c.open_all.ensures.opened c.open_all.ensures.rest
    c.give_back_all.ensures.given
    (subst (λ n. AreOtherNamesSame n c.args.names.now (g.S.Store.device_at c.open_all.new.store)
    (g.S.Store.device_at c.give_back_all.new.store)) c.open_all.new.books.ok.0 c.give_back_all.ensures.others)

pub returns-in-Err-clause-others : goal.returns-in-Err-clause-others
returns-in-Err-clause-others g c = λ n none.
    others_same c.args.groups.now c.args.names.now _ (g.S.Store.device_at c.open_all.new.store)
    (g.S.Store.device_at c.give_back_all.new.store) c.requires.names
    (omega (arith, c.in-Err.ensures.some, c.open_all.new.books.ok.0)) c.give_back_all.ensures.others n none
    ∙ c.open_all.ensures.others n none

pub returns-in-Err-clause-counts : goal.returns-in-Err-clause-counts
returns-in-Err-clause-counts g c = λ small.
    let D = g.S.Dev.Disk in
    let books = c.open_all.new.books.items in
    let why = c.in-Err.why in
    let records = map (λ r. r.now) c.args.records.now in
    let old = g.S.Store.device_at c.args.store.now in
    let before = g.S.Store.fault_count c.args.store.now in
    let counts = c.in-Err.ensures.counts small in
    let same = c.give_back_all.ensures.counted
    ∙ all_faultless (branded D.device g.K.Begun.before) c.args.groups.now records old books _ (omega (arith, c.in-Err.ensures.some))
    c.open_all.ensures.opened (stays_small why DeviceFault before _ small counts) in
    let status : c.book_status.result ≡ status_of (length books) why = c.book_status.ensures
    ∙ ap (λ n. status_of n why) (c.len-group.ensures ∙ c.open_all.new.books.ok.0) in
    subst (λ s. CountsStore {T = Unit {0}} (Err s) before (g.S.Store.fault_count c.give_back_all.new.store)) (sym status)
    (counted (Unit {0}) (length books) before _ why (subst (λ n. CountsFault {T = Unit {0}} (Err why) DeviceFault before n) (sym same) counts))

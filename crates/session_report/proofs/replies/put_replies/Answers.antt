use Rattle.std.proofs.Common.{◌≡◌, ◌<◌, ◌∙◌, [], List, Vec, None, ap, sym, subst, get_or, length, arith, string_bytes}
use Rattle.std.specs.declared.alloc.Global.{Global}
use Rattle.std.specs.List.{slice_get}
use Rattle.std.proofs.lemmas.List.{get_or_default, length-map}
use Rattle.value_rows.specs.{Query}
use Rattle.calc_refresh.specs.{lists_of}
use Rattle.session_report.specs.{answer_place_of, replies_to, IsHeldFor, held_lists}
use Rattle.session_report.proofs.Keeping.{as_many_found, found_at, list_at}
use Rattle.session_report.proofs.Placed.{text_more}
use Rattle.session_report.proofs.Snapped.{as_many_held, held_for}
use Rattle.session_report.proofs.replies.put_replies.Goals as goal

pub put_reader-requires-clause-as_many : goal.put_reader-requires-clause-as_many
put_reader-requires-clause-as_many c =
    let i = c.loop-reader.reader in
    let found = c.index-table-reader.result in
    let is_row = c.index-table-reader.is ∙ ap (λ l. get_or l i found) c.as_slice-table.ensures.value in
    ap length c.as_slice-found.ensures.value
    ∙ as_many_found c.args.readers.now c.in_ok-places.places.items i c.index-readers-reader.result found c.in_ok-places.ensures.shape
    c.loop-reader-test.true c.index-readers-reader.is is_row
    ∙ sym (ap length c.as_slice-queries.ensures.value)

pub put_reader-requires-clause-found : goal.put_reader-requires-clause-found
put_reader-requires-clause-found c = λ k.
    let i = c.loop-reader.reader in
    let queries = c.index-readers-reader.result in
    let found = c.index-table-reader.result in
    let groups = c.deref-2.result.now in
    let is_row = c.index-table-reader.is ∙ ap (λ l. get_or l i found) c.as_slice-table.ensures.value in
    ap (λ l. get_or l k None) c.as_slice-found.ensures.value
    ∙ found_at c.args.readers.now c.in_ok-places.places.items i queries found c.in_ok-places.ensures.shape c.loop-reader-test.true
    c.index-readers-reader.is is_row c.deref.result.now groups c.in_ok-places.ensures.places k
    ∙ ap (λ ts. answer_place_of ts groups i k (slice_get queries.items k)) c.deref.ensures.value
    ∙ ap (λ gs. answer_place_of c.args.session.now.tags.items gs i k (slice_get queries.items k)) c.deref-2.ensures.value
    ∙ ap (λ l. answer_place_of c.args.session.now.tags.items c.args.session.now.groups.items i k (slice_get l k)) (sym c.as_slice-queries.ensures.value)

pub put_reader-requires-clause-held : goal.put_reader-requires-clause-held
put_reader-requires-clause-held c = λ k d below.
    let readers = lists_of c.args.readers.now in
    let i = c.loop-reader.reader in
    let queries = c.as_slice-queries.result.now in
    let tags = c.args.session.now.tags.items in
    let items : Vec Query Global → List Query = λ v. v.items in
    let there : get_or readers i [] ≡ queries =
    list_at c.args.readers.now i c.index-readers-reader.result c.loop-reader-test.true c.index-readers-reader.is
    ∙ sym c.as_slice-queries.ensures.value in
    let within : i < length readers = omega (arith, c.loop-reader-test.true, length-map c.args.readers.now items) in
    let lists : lists_of c.deref-in-loop-reader.result.now ≡ held_lists readers tags =
    ap lists_of c.deref-in-loop-reader.ensures.value ∙ c.in_ok-held.ensures ∙ ap (held_lists readers) c.deref-3.ensures.value in
    let in_row : k < length (get_or readers i []) = subst (λ l. k < length l) (sym there) below in
    subst (λ l. IsHeldFor (get_or queries k d) tags l) (sym lists)
    (subst (λ l. IsHeldFor (get_or l k d) tags (held_lists readers tags)) there (held_for readers tags i k d within in_row))

pub put_reader-requires-clause-as_many_tags : goal.put_reader-requires-clause-as_many_tags
put_reader-requires-clause-as_many_tags c =
    ap length c.deref-in-loop-reader.ensures.value
    ∙ as_many_held (lists_of c.args.readers.now) c.deref-3.result.now c.in_ok-held.held.items c.in_ok-held.ensures
    ∙ ap length c.deref-3.ensures.value

pub loop-reader-preserved : goal.loop-reader-preserved
loop-reader-preserved c =
    let readers = lists_of c.args.readers.now in
    let i = c.loop-reader.reader in
    let queries = c.as_slice-queries.result.now in
    let items : Vec Query Global → List Query = λ v. v.items in
    let there : get_or readers i [] ≡ queries =
    list_at c.args.readers.now i c.index-readers-reader.result c.loop-reader-test.true c.index-readers-reader.is
    ∙ sym c.as_slice-queries.ensures.value in
    let within : i < length readers = omega (arith, c.loop-reader-test.true, length-map c.args.readers.now items) in
    text_more (replies_to c.args.session.now c.args.notes) readers i queries (string_bytes c.args.text.now)
    (string_bytes c.loop-reader.text) (string_bytes c.put_reader.new.text) within
    (sym there ∙ get_or_default readers i [] queries within) c.loop-reader.invariant c.in_ok-put_reader.ensures

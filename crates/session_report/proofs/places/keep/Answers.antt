use Rattle.std.proofs.Common.{◌≡◌, [], set, ◌<◌, ◌+◌, ◌&&◌, None, Some, sym, subst, get_or, length, nat_eq, cond, arith}
use Rattle.std.specs.Option.{option_or}
use Rattle.std.proofs.lemmas.List.{length-map, length-set}
use Rattle.calc_refresh.specs.{lists_of}
use Rattle.session_report.specs.{HasPlaceOfEach, kept_first, place_in, query_in}
use Rattle.session_report.proofs.Keeping.{kept_some, lists_kept}
use Rattle.session_report.proofs.Tables.{HasShape_set}
use Rattle.session_report.proofs.places.keep.Goals as goal

pub returns-in-Some-clause-kept : goal.returns-in-Some-clause-kept
returns-in-Some-clause-kept c = λ r k.
    let vs = c.args.table.now.items in
    let by = c.args.by in
    let about = c.in-Some.ensures.about in
    let within : by.reader < length vs = omega (arith, about.reader, c.requires.shape.as_many, length-map vs (λ v. v.items)) in
    subst (λ t. place_in t r k ≡ kept_first c.args.unit (query_in (lists_of c.args.readers.now) r k) (place_in (lists_of vs) r k)
    (cond (nat_eq by.reader r && nat_eq by.row (k + 1)) (Some c.args.place) None))
    (sym (lists_kept vs by c.args.place c.in-Some.k c.index_mut.result.now c.keep_first.new.places within c.index_mut.ensures.value
    c.keep_first.ensures))
    (kept_some (lists_of c.args.readers.now) c.args.unit by c.args.place (lists_of vs) c.in-Some.k c.requires.shape about r k)

pub returns-in-Some-clause-shape : goal.returns-in-Some-clause-shape
returns-in-Some-clause-shape c =
    let vs = c.args.table.now.items in
    let by = c.args.by in
    let n = c.in-Some.k in
    let about = c.in-Some.ensures.about in
    let within : by.reader < length vs = omega (arith, about.reader, c.requires.shape.as_many, length-map vs (λ v. v.items)) in
    let row = get_or (lists_of vs) by.reader [] in
    let place = option_or (place_in (lists_of vs) by.reader n) (Some c.args.place) in
    subst (HasPlaceOfEach (lists_of c.args.readers.now))
    (sym (lists_kept vs by c.args.place n c.index_mut.result.now c.keep_first.new.places within c.index_mut.ensures.value c.keep_first.ensures))
    (HasShape_set (lists_of c.args.readers.now) (lists_of vs) by.reader (set row n place) c.requires.shape (length-set row n place))

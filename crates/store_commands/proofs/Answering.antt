-- What a tag answers, and what a group does.
use Rattle.std.proofs.Common.{◌≡◌, ℕ, ◌<◌, Bool, List, [], length, get_or, nat_lt, refl, sym, ◌∙◌, ap, ap₂, arith}
use Rattle.std.specs.Prelude.{◌↔◌, IsTrue}
use Rattle.std.specs.Option.{option_map_or}
use Rattle.std.proofs.lemmas.Bool.Decides.{nat_tests}
use Rattle.std.proofs.lemmas.List.{get_or-map, length-map}
use Rattle.std.proofs.lemmas.Option.{slice_get_read}
use Rattle.trend_num.specs.{most_listed, TagQuery}
use Rattle.trend_num.specs.declared.query.TagQuery.TheVariants as ask
use Rattle.trend_model.specs.{points_from_to}
use Rattle.interp_read.specs.{Reply, Answers}
use Rattle.interp_read.specs.declared.query.Reply.TheVariants.{At, Points, Window}
use Rattle.value_rows.specs.declared.asked.Query.TheVariants.{Tag, Snap, Row}
use Rattle.tag_core.specs.Core.{Core}
use Rattle.calc_refresh.specs.{lists_of}
use Rattle.group_book.specs.{GroupHistory}
use Rattle.trend_report.specs.{answer_text, number_text, points_text, reading_text}
use Rattle.store_commands.specs.{Rows, answer_in, rows_in, snapshot_in, told, value_in}
use Rattle.plant_store.specs.{points_recovered}

-- an answer is printed as what a tag answers
pub answer_told : (core : Core) (query : TagQuery) (reply : Reply) → Answers core.step (points_recovered core) query reply
    → answer_text reply ≡ answer_in core query
answer_told core (ask.At t) (At r) is = ap reading_text is
answer_told core (ask.Points start end) (Points l) is =
    let ps = points_from_to (points_recovered core) start end in
    ap₂ points_text is.list (told_more l.more (length ps) is.more)
  where
    told_more : (b : Bool) (n : ℕ) → (IsTrue b ↔ (most_listed < n)) → b ≡ nat_lt most_listed n
    told_more b n more = grind (arith, nat_tests)
answer_told core (ask.Window m start end) (Window v) is = ap number_text is
answer_told core (ask.At t) (Points l) is = absurd is
answer_told core (ask.At t) (Window v) is = absurd is
answer_told core (ask.Points start end) (At r) is = absurd is
answer_told core (ask.Points start end) (Window v) is = absurd is
answer_told core (ask.Window m start end) (At r) is = absurd is
answer_told core (ask.Window m start end) (Points l) is = absurd is

-- the tag at a place answers
pub tag_told : (cores : List Core) (groups : List Rows) (i : ℕ) (core : Core) (query : TagQuery) → i < length cores
    → core ≡ get_or cores i core → told cores groups (Tag i query) ≡ answer_in core query
tag_told cores groups i core query within there =
    let found = slice_get_read cores (length cores) i core refl within there in
    ap (λ o. option_map_or (λ c. answer_in c query) o []) found

-- or gives its snapshot
pub snap_told : (cores : List Core) (groups : List Rows) (i : ℕ) (core : Core) → i < length cores
    → core ≡ get_or cores i core → told cores groups (Snap i) ≡ snapshot_in core
snap_told cores groups i core within there =
    let found = slice_get_read cores (length cores) i core refl within there in
    ap (λ o. option_map_or snapshot_in o []) found

-- the group at a place answers the value of a calculation in a window
pub row_told : (cores : List Core) (groups : List GroupHistory) (i calc k : ℕ) (group : GroupHistory) → i < length groups
    → group ≡ get_or groups i group → told cores (rows_in groups) (Row i calc k) ≡ value_in (lists_of group.rows.items) calc k
row_told cores groups i calc k group within there =
    let rows_of : GroupHistory → Rows = λ h. lists_of h.rows.items in
    let many = length-map groups rows_of in
    let here : rows_of group ≡ get_or (rows_in groups) i (rows_of group) =
    ap rows_of there ∙ sym (get_or-map rows_of groups i group (rows_of group) within) in
    let found = slice_get_read (rows_in groups) (length (rows_in groups)) i (rows_of group) refl (omega (arith, many, within)) here in
    ap (λ o. option_map_or (λ rows. value_in rows calc k) o []) found

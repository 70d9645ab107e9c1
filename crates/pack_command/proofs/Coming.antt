-- Lemmas on what the rows of an input have come to.
use Rattle.std.proofs.Common.{◌≡◌, ◌≢◌, ℕ, ◌+◌, ◌<◌, ◌≤◌, Bool, true, false, cond, min, ◌-◌, List, [], ◌∷◌, ◌++◌, length, drop, nat_eq, Result, Ok, Err, arith, refl, sym, ap, ◌∙◌, append-nil, append_assoc, length-append}
use Rattle.std.proofs.lemmas.Bool.{eqb-true, eqb-false}
use Rattle.std.proofs.lemmas.List.{drop_at, drop-drop, map-append}
use Rattle.trend_num.specs.{most_records, Point, Reason}
use Rattle.trend_model.specs.{Event, Origin, Raw}
use Rattle.trend_model.specs.State.{Stands}
use Rattle.tag_core.specs.Core.{Core}
use Rattle.point_text.specs.{HasNoFeed, IsFirstPoint, ReadSame, reads_of, point_of_line, line_points_of, RowNo}
use Rattle.point_text.specs.declared.failure.RowNo.TheVariants.{BadRow, TooMany}
use Rattle.point_text.proofs.RowList.{all_read, rows_from, rows_from-all, rows_from-bad, rows_from-more, rows_of-reads}
use Rattle.point_text.proofs.Split.{lines_begun, lines_fed}
use Rattle.std.specs.Str.Lines.{lines}
use Rattle.pack_command.specs.{history_of, most_rows, AreRefused, HasCome, IsNextRow, IsReadUpTo, IsReady, MayCome, numbered, point_of_row, Standing}
use Rattle.pack_command.proofs.History.{taken_more, full_at, full_after}
use Rattle.pack_command.specs.declared.intake.Standing.TheVariants.{Taken, Full, Refused}

-- before the end anything may follow
any : (more : List ℕ) → MayCome true more
any more = λ end. absurd (cc)

-- ---- what is left

-- a piece more came
up_more : (bytes rest piece : List ℕ) (found : List Point) → IsReadUpTo true bytes rest found → IsReadUpTo true (bytes ++ piece) (rest ++ piece) found
up_more bytes rest piece found up = grind (arith, append_assoc, any, all_read)

pub come_more : (o : Origin) (bytes rest piece : List ℕ) (core : Core) (rows : ℕ) (standing : Standing)
    → HasCome true o bytes rest core rows standing → HasCome true o (bytes ++ piece) (rest ++ piece) core rows standing
come_more o bytes rest piece core rows Taken come = (come.0, up_more bytes rest piece come.0 come.1, come.2, come.3)
come_more o bytes rest piece core rows (Full number) come = (come.0, up_more bytes rest piece come.0 come.1, come.2, come.3)
come_more o bytes rest piece core rows (Refused why) come = record {
  refused = λ more end. ap (line_points_of most_rows) (append_assoc bytes piece more) ∙ come.refused (piece ++ more) (any (piece ++ more));
}

-- what is left may be another text that reads the same
up_same : (further : Bool) (bytes a b : List ℕ) (found : List Point) → ReadSame a b → IsReadUpTo further bytes a found → IsReadUpTo further bytes b found
up_same further bytes a b found same up = record { reads = λ more come. up.reads more come ∙ ap (λ l. all_read found ++ l) (same.same more) }

pub come_same : (further : Bool) (o : Origin) (bytes a b : List ℕ) (core : Core) (rows : ℕ) (standing : Standing) → ReadSame a b
    → HasCome further o bytes a core rows standing → HasCome further o bytes b core rows standing
come_same further o bytes a b core rows Taken same come = (come.0, up_same further bytes a b come.0 same come.1, come.2, come.3)
come_same further o bytes a b core rows (Full number) same come = (come.0, up_same further bytes a b come.0 same come.1, come.2, come.3)
come_same further o bytes a b core rows (Refused why) same come = come

-- at the end nothing follows
up_end : (bytes rest : List ℕ) (found : List Point) → IsReadUpTo true bytes rest found → IsReadUpTo false bytes rest found
up_end bytes rest found up = record { reads = λ more come. up.reads more (any more) }

pub come_end : (o : Origin) (bytes rest : List ℕ) (core : Core) (rows : ℕ) (standing : Standing)
    → HasCome true o bytes rest core rows standing → HasCome false o bytes rest core rows standing
come_end o bytes rest core rows Taken come = (come.0, up_end bytes rest come.0 come.1, come.2, come.3)
come_end o bytes rest core rows (Full number) come = (come.0, up_end bytes rest come.0 come.1, come.2, come.3)
come_end o bytes rest core rows (Refused why) come = record { refused = λ more end. come.refused more (any more) }

-- ---- the next row

-- a line with its line feed is a row
pub next_fed : (further : Bool) (rest after : List ℕ) (read : Result Point Reason) → IsFirstPoint rest after read → IsNextRow further rest after read
next_fed further rest after read first = grind (arith, append_assoc, lines_fed)

-- so is the last line without one, at the end
pub next_last : (line : List ℕ) → HasNoFeed line → 0 < length line → IsNextRow false line [] (point_of_line line)
next_last line one some = grind (arith, append-nil, lines_begun)

number_read : (rows : ℕ) (read : Result Point Reason) (p : Point) → numbered rows read ≡ Ok p → read ≡ Ok p
number_read rows (Ok q) p e = cc
number_read rows (Err reason) p e = absurd (cc)

-- the row has a point
pub row_read : (rows : ℕ) (read : Result Point Reason) (p : Point) → point_of_row rows read ≡ Ok p → (read ≡ Ok p) × (rows ≢ most_rows)
row_read rows read p is = grind (arith, number_read, eqb-false)

-- fewer rows than there may be
below_most : (n : ℕ) → n ≤ most_rows → (n ≡ most_rows → ⊥) → n < most_rows
below_most n few other = omega arith

-- a line that has a point gives it, where it is not one too many
pub row_here : (rows : ℕ) (p : Point) → (rows ≡ most_rows → ⊥) → point_of_row rows (Ok p) ≡ Ok p
row_here rows p other = grind (arith, eqb-true)

-- the row is refused
number_refused : (found : List Point) (read : Result Point Reason) (tail : List (Result Point Reason)) (why : RowNo) → length found < most_rows
    → numbered (length found) read ≡ Err why → rows_from most_rows (all_read found ++ read ∷ tail) ≡ Err why
number_refused found (Ok p) tail why room e = absurd (cc)
number_refused found (Err reason) tail why room e =
    let same : BadRow (length found + 1) reason ≡ why = cc in
    rows_from-bad most_rows found reason tail room ∙ ap (λ (w : RowNo). Err w) same

answer_refused : (found : List Point) (read : Result Point Reason) (tail : List (Result Point Reason)) (why : RowNo) → length found ≤ most_rows
    → point_of_row (length found) read ≡ Err why → rows_from most_rows (all_read found ++ read ∷ tail) ≡ Err why
answer_refused found read tail why few is =
    elim (nat_eq (length found) most_rows) as (λ b. nat_eq (length found) most_rows ≡ b
    → cond b (Err (TooMany (most_rows + 1))) (numbered (length found) read) ≡ Err why
    → rows_from most_rows (all_read found ++ read ∷ tail) ≡ Err why) [
      | true ↦ λ full e.
          let same : TooMany (most_rows + 1) ≡ why = cc in
          rows_from-more most_rows found read tail (eqb-true _ _ full) ∙ ap (λ (w : RowNo). Err w) same
      | false ↦ λ room e. number_refused found read tail why (below_most (length found) few (eqb-false _ _ room)) e
    ] refl is

pub row_refused : (further : Bool) (bytes rest after : List ℕ) (found : List Point) (rows : ℕ) (read : Result Point Reason) (why : RowNo)
    → IsReadUpTo further bytes rest found → IsNextRow further rest after read → length found ≡ rows → rows ≤ most_rows
    → point_of_row rows read ≡ Err why → AreRefused further bytes why
row_refused further bytes rest after found rows read why up next count few is = record {
  refused = λ more come. rows_of-reads point_of_line most_rows (lines (bytes ++ more))
      ∙ ap (rows_from most_rows) (up.reads more come ∙ ap (λ l. all_read found ++ l) (next.reads more come))
      ∙ answer_refused found read (reads_of (after ++ more)) why (omega arith) (ap (λ n. point_of_row n read) count ∙ is);
}

-- the row is read
pub row_more : (further : Bool) (bytes rest after : List ℕ) (found : List Point) (read : Result Point Reason) (p : Point)
    → IsReadUpTo further bytes rest found → IsNextRow further rest after read → read ≡ Ok p → IsReadUpTo further bytes after (found ++ p ∷ [])
row_more further bytes rest after found read p up next is = grind (arith, all_read, append_assoc, map-append)

-- ---- the end

-- all rows were read, and these are their points
pub all_points : (bytes : List ℕ) (found : List Point) → IsReadUpTo false bytes [] found → length found ≤ most_rows → line_points_of most_rows bytes ≡ Ok found
all_points bytes found up few =
    rows_of-reads point_of_line most_rows (lines bytes)
    ∙ ap (λ l. rows_from most_rows (reads_of l)) (sym (append-nil bytes))
    ∙ ap (rows_from most_rows) (up.reads [] (λ end. refl) ∙ append-nil (all_read found))
    ∙ rows_from-all most_rows found few

-- refused, whatever comes, and nothing came
pub all_refused : (bytes : List ℕ) (why : RowNo) → AreRefused false bytes why → line_points_of most_rows bytes ≡ Err why
all_refused bytes why are = ap (line_points_of most_rows) (sym (append-nil bytes)) ∙ are.refused [] (λ end. refl)

-- ---- one row more

-- one row more, which is not the last that there may be
count_more : (found : List Point) (rows : ℕ) (p : Point) → length found ≡ rows → rows ≤ most_rows → (rows ≡ most_rows → ⊥)
    → length (found ++ p ∷ []) ≡ min (rows + 1) most_rows
count_more found rows p count few other = omega (arith, length-append found (p ∷ []))

-- its value is taken
pub row_taken : (further : Bool) (o : Origin) (bytes rest after : List ℕ) (old new : Core) (rows : ℕ) (read : Result Point Reason) (p : Point)
    → HasCome further o bytes rest old rows Taken → IsNextRow further rest after read → rows ≤ most_rows → point_of_row rows read ≡ Ok p
    → new.step ≡ old.step → ((h : List Event) → o.step ≡ old.step → Stands o h old.state → Stands o (Raw p ∷ h) new.state)
    → (most_records < length old.state.records + 2 → ⊥) → HasCome further o bytes after new (min (rows + 1) most_rows) Taken
row_taken further o bytes rest after old new rows read p come next few is kind stands fits =
    let found = come.0 in
    let row = row_read rows read p is in (
      found ++ p ∷ [],
      row_more further bytes rest after found read p come.1 next row.0,
      count_more found rows p come.2 few row.1,
      taken_more o found p old new come.3 kind (stands (history_of found) (sym come.3.kind) come.3.stands) fits,
    )

-- it finds no room
pub row_full : (further : Bool) (o : Origin) (bytes rest after : List ℕ) (old new : Core) (rows : ℕ) (read : Result Point Reason) (p : Point) (stood : ℕ)
    → HasCome further o bytes rest old rows Taken → IsNextRow further rest after read → rows ≤ most_rows → point_of_row rows read ≡ Ok p
    → most_records < length old.state.records + 2 → stood ≡ length old.state.records
    → HasCome further o bytes after new (min (rows + 1) most_rows) (Full stood)
row_full further o bytes rest after old new rows read p stood come next few is full stood_is =
    let found = come.0 in
    let row = row_read rows read p is in (
      found ++ p ∷ [],
      row_more further bytes rest after found read p come.1 next row.0,
      count_more found rows p come.2 few row.1,
      full_at o found p old stood come.3 full stood_is,
    )

-- none is taken after that
pub row_after_full : (further : Bool) (o : Origin) (bytes rest after : List ℕ) (old new : Core) (rows : ℕ) (read : Result Point Reason) (p : Point)
    (stood : ℕ) → HasCome further o bytes rest old rows (Full stood) → IsNextRow further rest after read → rows ≤ most_rows
    → point_of_row rows read ≡ Ok p → HasCome further o bytes after new (min (rows + 1) most_rows) (Full stood)
row_after_full further o bytes rest after old new rows read p stood come next few is =
    let found = come.0 in
    let row = row_read rows read p is in (
      found ++ p ∷ [],
      row_more further bytes rest after found read p come.1 next row.0,
      count_more found rows p come.2 few row.1,
      full_after o found p stood come.3,
    )

-- a core with room, after one row more
pub ready_more : (old new : Core) (rows added : ℕ) → IsReady old rows → rows ≢ most_rows
    → new.state.summary.taken ≡ old.state.summary.taken + 1 → length new.state.records ≡ length old.state.records + added → added ≤ 2
    → (most_records < length old.state.records + 2 → ⊥)
    → new.spare + length new.state.records ≡ old.spare + length old.state.records → IsReady new (min (rows + 1) most_rows)
ready_more old new rows added ready other counted grown few fits places = grind arith

-- ---- what is left of a text

-- an end of an end of the text is one of the text
pub end_further : (text rest end : List ℕ) → rest ≡ drop (length text - length rest) text → length rest ≤ length text
    → end ≡ drop (length rest - length end) rest → length end ≤ length rest → end ≡ drop (length text - length end) text
end_further text rest end tail within last few = grind (arith, drop-drop)

-- what follows the first line is still an end of the text
pub end_more : (text rest line after : List ℕ) → rest ≡ drop (length text - length rest) text → length rest ≤ length text → rest ≡ line ++ 10 ∷ after
    → after ≡ drop (length text - length after) text
end_more text rest line after tail within cut =
    let k = length line + 1 in
    let count : length rest ≡ length line + (length after + 1) = ap length cut ∙ length-append line (10 ∷ after) ∙ (omega arith) in
    let gone : drop k rest ≡ after =
    ap (drop k) (cut ∙ sym (append_assoc line (10 ∷ []) after)) ∙ drop_at (line ++ 10 ∷ []) after k (length-append line (10 ∷ [])) in
    sym gone ∙ ap (drop k) tail ∙ drop-drop k (length text - length rest) text ∙ ap (λ n. drop n text) (omega arith)

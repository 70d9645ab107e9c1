-- How workers end whose calls were refused.
use Rattle.std.proofs.Common.{◌≡◌, ℕ, ◌+◌, ◌<◌, ◌≤◌, Bool, true, false, nat_le, nat_lt, List, length, get_or, take, refl, sym, subst, inr, arith}
use Rattle.std.specs.Prelude.{slice_range, IfErr, MatchResult, None, Some, Result, Ok, Err, if◌then◌else◌}
use Rattle.std.specs.Option.{option_map}
use Rattle.std.proofs.lemmas.Bool.Decides.{nat_tests}
use Rattle.std.proofs.lemmas.Option.{none-some}
use Rattle.trend_num.specs.{most_records}
use Rattle.value_rows.specs.{Query, RawRow}
use Rattle.value_rows.specs.declared.asked.Query.TheVariants as ask
use Rattle.tag_cell.specs.{CommitNo, taken, ToldCell as CellTold, take_refusal}
use Rattle.tag_cell.specs.declared.entry.CommitNo.TheVariants as commit
use Rattle.tag_cell.specs.declared.entry.TakeNo.TheVariants.{Broken, RoomFull, Full}
use Rattle.collector_pool.specs.{TurnNo, CellNo, Ending, AsksGroup, EndsAtCommit, EndsAtQuery, EndsCollector, EndsReader, IsRefusedCommit, MayRefuseRow, RefusesRow, halts, refusal_of_take, ending_of_commit, ending_of_turn}
use Rattle.collector_pool.specs.declared.group_turns.TurnNo.TheVariants as turn
use Rattle.collector_pool.specs.declared.note.Ending.TheVariants.{Ended, Halted, Tag, Group, WantOfMemory}
use Rattle.collector_pool.proofs.Places.{any_at, any_of_range, found_at}

-- a row that was not taken was refused by its tag
pub refused_row : {D : Type 0} (row : RawRow) (cell : CellTold D) (r : Result (Unit {0}) CellNo)
    → MatchResult r (λ _. take_refusal cell ≡ None) (λ why. option_map refusal_of_take (take_refusal cell) ≡ Some why)
    → IfErr r (RefusesRow row row.tag)
refused_row row cell (Ok done) is = tt
refused_row row cell (Err why) is = record {
  tag_is = refl;
  may = by_test cell.journal.failed (nat_le cell.room (length (taken cell.tape))) (nat_lt most_records (length cell.state.records + 2)) refl is;
}
  where
    below : (a b : ℕ) → nat_lt a b ≡ true → a < b
    below a b h = grind (arith, nat_tests, h)

    by_test : (a b c : Bool) → nat_lt most_records (length cell.state.records + 2) ≡ c
        → option_map refusal_of_take (if a then Some Broken else (if b then Some (RoomFull cell.room) else (if c then Some (Full (length cell.state.records)) else None)))
        ≡ Some why → MayRefuseRow why
    by_test true b c many is = subst MayRefuseRow (held is) tt
      where
        held : Some (refusal_of_take Broken) ≡ Some why → refusal_of_take Broken ≡ why
        held e = cc
    by_test false true c many is = subst MayRefuseRow (held is) tt
      where
        held : Some (refusal_of_take (RoomFull cell.room)) ≡ Some why → refusal_of_take (RoomFull cell.room) ≡ why
        held e = cc
    by_test false false true many is = subst MayRefuseRow (held is) (below most_records (length cell.state.records + 2) many)
      where
        held : Some (refusal_of_take (Full (length cell.state.records))) ≡ Some why → refusal_of_take (Full (length cell.state.records)) ≡ why
        held e = cc
    by_test false false false many is = absurd (none-some why is)

-- a reader whom a group refused ends at its query
pub ends_at_row : (refuses : ℕ → TurnNo → Type 0) (group calc k : ℕ) (no : TurnNo) → refuses group no
    → EndsAtQuery refuses (ask.Row group calc k) (ending_of_turn group no)
ends_at_row refuses group calc k (turn.Ahead input version records) refused = (refl, tt, refused)
ends_at_row refuses group calc k (turn.CellLimit cells) refused = (refl, tt, refused)
ends_at_row refuses group calc k (turn.CopyLimit records) refused = (refl, tt, refused)
ends_at_row refuses group calc k turn.Broken refused = (refl, tt, refused)
ends_at_row refuses group calc k turn.DeviceFault refused = (refl, tt, refused)
ends_at_row refuses group calc k turn.WantOfMemory refused = tt

-- a reader that ends at its next query
pub ends_reader : (refuses : ℕ → TurnNo → Type 0) (queries : List Query) (i : ℕ) (d : Query) (ending : Ending)
    → i < length queries → EndsAtQuery refuses (get_or queries i d) ending → EndsReader refuses queries i ending
ends_reader refuses queries i d Ended within ends = absurd ends
ends_reader refuses queries i d Halted within ends = absurd ends
ends_reader refuses queries i d (Tag tag why) within ends = absurd ends
ends_reader refuses queries i d (Group group why) within ends =
    (found_at (AsksGroup group) queries i d within ends.0, ends.1, ends.2)
ends_reader refuses queries i d WantOfMemory within ends = within

-- and was not stopped
pub query_stops_none : (refuses : ℕ → TurnNo → Type 0) (query : Query) (ending : Ending) → EndsAtQuery refuses query ending
    → halts ending ≡ 0
query_stops_none refuses query Ended ends = refl
query_stops_none refuses query Halted ends = absurd ends
query_stops_none refuses query (Tag tag why) ends = refl
query_stops_none refuses query (Group group why) ends = refl
query_stops_none refuses query WantOfMemory ends = refl

-- a collector that ends at a commit of one of these rows
pub ends_at_commit : (rows : List RawRow) (i : ℕ) (d : RawRow) (ending : Ending) → i < length rows
    → IsRefusedCommit (get_or rows i d).tag ending → EndsAtCommit rows ending
ends_at_commit rows i d ending within refused = record {
  tag = (get_or rows i d).tag;
  of_a_row = any_at (λ (r : RawRow). r.tag ≡ (get_or rows i d).tag) rows i d within refl;
  refused = refused;
}

-- what a refused commit can end by
abbrev IsOfCommit : Ending → Type 0
IsOfCommit (Tag tag why) = Unit {0}
IsOfCommit WantOfMemory = Unit {0}
IsOfCommit ending = ⊥

is_of_commit : (tag : ℕ) (why : CommitNo) → IsOfCommit (ending_of_commit tag why)
is_of_commit tag commit.Broken = tt
is_of_commit tag commit.DeviceFault = tt
is_of_commit tag commit.WantOfMemory = tt

-- a collector that ends at a commit of some of the rows that it took
pub ends_collector : (rows : List RawRow) (since taken : ℕ) (ending : Ending) → since ≤ taken → taken ≤ length rows
    → EndsAtCommit (slice_range rows since taken) ending → EndsCollector rows taken ending
ends_collector rows since taken ending order within ends =
    let of_commit : IsOfCommit ending = subst IsOfCommit (sym ends.refused.ending_is) (is_of_commit ends.tag ends.refused.no) in
    let whole : EndsAtCommit (take taken rows) ending = record {
      tag = ends.tag;
      of_a_row = any_of_range (λ (r : RawRow). r.tag ≡ ends.tag) rows since taken order within ends.of_a_row;
      refused = ends.refused;
    } in
    by_ending ending of_commit whole
  where
    by_ending : (e : Ending) → IsOfCommit e → EndsAtCommit (take taken rows) e → EndsCollector rows taken e
    by_ending Ended of_commit whole = absurd of_commit
    by_ending Halted of_commit whole = absurd of_commit
    by_ending (Tag tag why) of_commit whole = inr whole
    by_ending (Group group why) of_commit whole = absurd of_commit
    by_ending WantOfMemory of_commit whole = within

-- and was not stopped
pub commit_stops_none : (rows : List RawRow) (ending : Ending) → EndsAtCommit rows ending → halts ending ≡ 0
commit_stops_none rows ending ends = grind arith

-- Archives that stand for the points of the first rows of a log, row by row.
use Rattle.std.proofs.Common.{◌≡◌, ℕ, zero, suc, ◌+◌, ◌^◌, ◌<◌, ◌≤◌, Bool, true, false, List, [], ◌∷◌, ◌++◌, length, get_or, map, take, refl, sym, ap, ◌∙◌, subst, inl, inr, arith, length-take}
use Rattle.std.specs.Prelude.{◌≢◌, ◌⊎◌, All, filter, nat_eq, slice_get, slice_set, Some, Result, Ok, Err, IsErr}
use Rattle.std.proofs.Math.Seq.{get_or-append_seam}
use Rattle.std.proofs.lemmas.Bool.{cases_eq, cases_lt}
use Rattle.std.proofs.lemmas.List.{append-nil, get_or-append-add, get_or_append_left, get_or-set_other, get_or-set_same, length-append, length-map, length-set, map-append, take_more}
use Rattle.std.proofs.lemmas.List.Elements.{filter-append}
use Rattle.std.proofs.lemmas.Option.{get_or_from_slice_get, slice_get_read, slice_get_within}
use Rattle.trend_num.specs.{most_records, Point, TagDef}
use Rattle.trend_model.specs.{Event, Origin, Raw}
use Rattle.trend_model.specs.State.{Stands, followed}
use Rattle.tag_core.specs.Core.{Core}
use Rattle.commit_log.specs.{LogHistory, LogTurn, LogRow, IsLogRow, log_points_of, puts}
use Rattle.commit_log.specs.declared.history.LogTurn.TheVariants.{Put, Commit}
use Rattle.commit_log.proofs.Tapes.{puts-append}
use Rattle.plant_status.proofs.Elements.{element}
use Rattle.plant_more.specs.{AreStanding, HasRoomAt, HasRoomBelow, IsTagFull, log_history_of, log_origin_of, log_rows}

-- one event more
followed-push : (h events : List Event) (e : Event) → followed h (events ++ e ∷ []) ≡ e ∷ followed h events
followed-push h [] e = refl
followed-push h (x ∷ events) e = followed-push (x ∷ h) events e

-- the events of a history
followed-length : (h events : List Event) → length (followed h events) ≡ length h + length events
followed-length h [] = omega arith
followed-length h (x ∷ events) = omega (arith, followed-length (x ∷ h) events)

-- the points of a tag with one row more
points_own : (tag : ℕ) (rows : List LogRow) (row : LogRow) → tag ≡ row.tag → log_points_of tag (rows ++ row ∷ []) ≡ log_points_of tag rows ++ row.point ∷ []
points_own tag rows row same =
    ap (map (λ (r : LogRow). r.point)) (filter-append (λ (r : LogRow). nat_eq r.tag tag) rows (row ∷ []))
    ∙ (map-append (λ (r : LogRow). r.point) (filter (λ r. nat_eq r.tag tag) rows) (filter (λ r. nat_eq r.tag tag) (row ∷ []))
    ∙ ap (λ (l : List Point). log_points_of tag rows ++ l) own)
  where
    own : map (λ (r : LogRow). r.point) (filter (λ r. nat_eq r.tag tag) (row ∷ [])) ≡ row.point ∷ []
    own = grind arith

points_other : (tag : ℕ) (rows : List LogRow) (row : LogRow) → tag ≢ row.tag → log_points_of tag (rows ++ row ∷ []) ≡ log_points_of tag rows
points_other tag rows row other =
    ap (map (λ (r : LogRow). r.point)) (filter-append (λ (r : LogRow). nat_eq r.tag tag) rows (row ∷ []) ∙ (ap (λ (l : List LogRow). filter (λ r. nat_eq r.tag tag) rows ++ l) none ∙ append-nil (filter (λ r. nat_eq r.tag tag) rows)))
  where
    none : filter (λ (r : LogRow). nat_eq r.tag tag) (row ∷ []) ≡ []
    none = grind arith

-- the history of its tag
history_own : (tag : ℕ) (rows : List LogRow) (row : LogRow) → tag ≡ row.tag → log_history_of tag (rows ++ row ∷ []) ≡ Raw row.point ∷ log_history_of tag rows
history_own tag rows row same =
    ap (λ (ps : List Point). followed [] (map Raw ps)) (points_own tag rows row same)
    ∙ (ap (followed []) (map-append Raw (log_points_of tag rows) (row.point ∷ []))
    ∙ followed-push [] (map Raw (log_points_of tag rows)) (Raw row.point))

-- and that of another one
history_other : (tag : ℕ) (rows : List LogRow) (row : LogRow) → tag ≢ row.tag → log_history_of tag (rows ++ row ∷ []) ≡ log_history_of tag rows
history_other tag rows row other = ap (λ (ps : List Point). followed [] (map Raw ps)) (points_other tag rows row other)

-- no more elements pass a test than there are
filter_few : {A : Type 0} (p : A → Bool) (xs : List A) → length (filter p xs) ≤ length xs
filter_few p [] = omega arith
filter_few p (x ∷ xs) = by_test (p x) refl (filter_few p xs)
  where
    by_test : (b : Bool) → p x ≡ b → length (filter p xs) ≤ length xs → length (filter p (x ∷ xs)) ≤ suc (length xs)
    by_test true is rest = rw is (omega (arith, rest))
    by_test false is rest = rw is (omega (arith, rest))

-- ---- the places of rows

-- the row at a place has a known tag
pub row_known : (tags : ℕ) (rows : List LogRow) (place : ℕ) (row : LogRow) → All (IsLogRow tags) rows → slice_get rows place ≡ Some row
    → row.tag < tags
row_known tags rows place row all there =
    subst (λ (r : LogRow). r.tag < tags) (get_or_from_slice_get rows place row row there)
    (all place row (slice_get_within rows place row there)).tag

-- the rows before it, and the row
rows_more : (rows : List LogRow) (place : ℕ) (row : LogRow) → slice_get rows place ≡ Some row
    → take (place + 1) rows ≡ take place rows ++ row ∷ []
rows_more rows place row there =
    take_more rows place row (slice_get_within rows place row there)
    ∙ ap (λ (r : LogRow). take place rows ++ r ∷ []) (get_or_from_slice_get rows place row row there)

-- a row that was put
put_there : (opening : List LogRow) (tape : List LogTurn) (turn : ℕ) (row : LogRow) (d : LogTurn) → turn < length tape
    → get_or tape turn d ≡ Put row → slice_get (opening ++ puts tape) (length opening + length (puts (take turn tape))) ≡ Some row
put_there opening tape turn row d few is =
    let place : ℕ = length (puts (take turn tape)) in
    let there : slice_get (puts tape) place ≡ Some row = among tape turn few is in
    slice_get_read (opening ++ puts tape) (length (opening ++ puts tape)) (length opening + place) row refl
    (omega (arith, length-append opening (puts tape), slice_get_within (puts tape) place row there))
    (sym (get_or-append-add opening (puts tape) place row ∙ get_or_from_slice_get (puts tape) place row row there))
  where
    among : (tape : List LogTurn) (turn : ℕ) → turn < length tape → get_or tape turn d ≡ Put row
        → slice_get (puts tape) (length (puts (take turn tape))) ≡ Some row
    among [] turn few is = absurd (omega (arith, few))
    among (e ∷ tape) zero few is = rw is refl
    among (Put first ∷ tape) (suc turn) few is = among tape turn (omega (arith, few)) is
    among (Commit moment acked ∷ tape) (suc turn) few is = among tape turn (omega (arith, few)) is

-- it is in the log at the place that was reached
pub log_there : (log : LogHistory) (turn place : ℕ) (row : LogRow) (d : LogTurn) → turn < length log.tape.items
    → get_or log.tape.items turn d ≡ Put row → place ≡ length log.opening.items + length (puts (take turn log.tape.items))
    → slice_get (log_rows log) place ≡ Some row
log_there log turn place row d few is reached = rw reached (put_there log.opening.items log.tape.items turn row d few is)

-- the place that is reached with one turn more
turn_counts : (tape : List LogTurn) (turn : ℕ) (e d : LogTurn) → turn < length tape → get_or tape turn d ≡ e
    → length (puts (take (turn + 1) tape)) ≡ length (puts (take turn tape)) + length (puts (e ∷ []))
turn_counts tape turn e d few is =
    ap (λ (l : List LogTurn). length (puts l)) (take_more tape turn d few ∙ ap (λ (x : LogTurn). take turn tape ++ x ∷ []) is)
    ∙ (ap length (puts-append (take turn tape) (e ∷ [])) ∙ length-append (puts (take turn tape)) (puts (e ∷ [])))

pub put_reached : (log : LogHistory) (turn place : ℕ) (row : LogRow) (d : LogTurn) → turn < length log.tape.items
    → get_or log.tape.items turn d ≡ Put row → place ≡ length log.opening.items + length (puts (take turn log.tape.items))
    → place + 1 ≡ length log.opening.items + length (puts (take (turn + 1) log.tape.items))
put_reached log turn place row d few is reached = omega (arith, reached, turn_counts log.tape.items turn (Put row) d few is)

pub other_reached : (log : LogHistory) (turn place : ℕ) (d : LogTurn) → turn < length log.tape.items
    → ((row : LogRow) → get_or log.tape.items turn d ≢ Put row)
    → place ≡ length log.opening.items + length (puts (take turn log.tape.items))
    → place ≡ length log.opening.items + length (puts (take (turn + 1) log.tape.items))
other_reached log turn place d few other reached =
    omega (arith, reached, turn_counts log.tape.items turn _ d few refl, none_put (get_or log.tape.items turn d) other)
  where
    none_put : (e : LogTurn) → ((row : LogRow) → e ≢ Put row) → length (puts (e ∷ [])) ≡ 0
    none_put (Put row) other = absurd (other row refl)
    none_put (Commit moment acked) other = refl

-- fewer rows are before a row of a log than can be counted
pub few_before : (log : LogHistory) (place : ℕ) (row : LogRow) → slice_get (log_rows log) place ≡ Some row → place + 1 < 2 ^ 64
few_before log place row there =
    omega (
      arith,
      log.opening.ok,
      log.opening.small,
      log.tape.ok,
      log.tape.small,
      slice_get_within (log_rows log) place row there,
      length-append log.opening.items (puts log.tape.items),
      puts_few log.tape.items,
    )
  where
    puts_few : (tape : List LogTurn) → length (puts tape) ≤ length tape
    puts_few [] = omega arith
    puts_few (Put row ∷ tape) = omega (arith, puts_few tape)
    puts_few (Commit moment acked ∷ tape) = omega (arith, puts_few tape)

-- a tag has taken fewer values than can be counted
pub taken_count : (tags : List TagDef) (rows : List LogRow) (cores : List Core) (place : ℕ) (row : LogRow) (core : Core)
    → All (IsLogRow (length tags)) rows → slice_get rows place ≡ Some row → AreStanding tags (take place rows) cores → place + 1 < 2 ^ 64
    → (get_or cores row.tag core).state.summary.taken < 18446744073709551615
taken_count tags rows cores place row core all there standing small =
    let known : row.tag < length tags = row_known (length tags) rows place row all there in
    let points : List Point = log_points_of row.tag (take place rows) in
    omega (
      arith,
      (standing.stand row.tag (element tags row.tag known) core known).taken,
      followed-length [] (map Raw points),
      length-map points Raw,
      length-map (filter (λ (r : LogRow). nat_eq r.tag row.tag) (take place rows)) (λ (r : LogRow). r.point),
      filter_few (λ (r : LogRow). nat_eq r.tag row.tag) (take place rows),
      length-take place rows,
      small,
    )

-- the core of a row's tag has taken its point
pub standing_more : (tags : List TagDef) (rows more : List LogRow) (row : LogRow) (old new : List Core) (core : Core) → AreStanding tags rows old
    → row.tag < length tags → more ≡ rows ++ row ∷ [] → new ≡ slice_set old row.tag core
    → ((def : TagDef) → core.step ≡ (get_or tags row.tag def).step)
    → ((def : TagDef) → Stands (log_origin_of (get_or tags row.tag def)) (Raw row.point ∷ log_history_of row.tag rows) core.state)
    → AreStanding tags more new
standing_more tags rows more row old new core standing within more_is changed step stands = record {
  as_many = ap length changed ∙ (length-set old row.tag core ∙ standing.as_many);
  steps = λ tag def d few. step_of tag def d few (cases_eq tag row.tag);
  stand = λ tag def d few. rw more_is (stand_of tag def d few (cases_eq tag row.tag));
}
  where
    there : row.tag < length old
    there = omega (arith, standing.as_many, within)

    own : (d : Core) → get_or new row.tag d ≡ core
    own d = ap (λ (l : List Core). get_or l row.tag d) changed ∙ get_or-set_same old row.tag core d there

    other : (tag : ℕ) (d : Core) → tag ≢ row.tag → get_or new tag d ≡ get_or old tag d
    other tag d differs = ap (λ (l : List Core). get_or l tag d) changed ∙ get_or-set_other old row.tag tag core d differs

    step_of : (tag : ℕ) (def : TagDef) (d : Core) → tag < length tags → (tag ≡ row.tag) ⊎ (tag ≢ row.tag)
        → (get_or new tag d).step ≡ (get_or tags tag def).step
    step_of tag def d few (inl same) = rw same (ap (λ (c : Core). c.step) (own d) ∙ step def)
    step_of tag def d few (inr differs) = ap (λ (c : Core). c.step) (other tag d differs) ∙ standing.steps tag def d few

    stand_of : (tag : ℕ) (def : TagDef) (d : Core) → tag < length tags → (tag ≡ row.tag) ⊎ (tag ≢ row.tag)
        → Stands (log_origin_of (get_or tags tag def)) (log_history_of tag (rows ++ row ∷ [])) (get_or new tag d).state
    stand_of tag def d few (inl same) =
        rw (same, own d, history_own row.tag rows row refl) (stands def)
    stand_of tag def d few (inr differs) =
        rw (other tag d differs, history_other tag rows row differs) (standing.stand tag def d few)

-- the core of the row at a place has taken its point
pub row_taken : (tags : List TagDef) (rows : List LogRow) (cores : List Core) (place : ℕ) (row : LogRow) (old core : Core)
    → All (IsLogRow (length tags)) rows → slice_get rows place ≡ Some row → AreStanding tags (take place rows) cores
    → core.step ≡ (get_or cores row.tag old).step
    → ((o : Origin) (h : List Event) → o.step ≡ (get_or cores row.tag old).step
    → Stands o h (get_or cores row.tag old).state → Stands o (Raw row.point ∷ h) core.state)
    → AreStanding tags (take (place + 1) rows) (slice_set cores row.tag core)
row_taken tags rows cores place row old core all there standing step stands =
    let known : row.tag < length tags = row_known (length tags) rows place row all there in
    standing_more tags (take place rows) (take (place + 1) rows) row cores (slice_set cores row.tag core) core standing known
    (rows_more rows place row there) refl
    (λ def. step ∙ standing.steps row.tag def old known)
    (λ def. stands (log_origin_of (get_or tags row.tag def)) (log_history_of row.tag (take place rows)) (sym (standing.steps row.tag def old known))
    (standing.stand row.tag def old known))

-- the core of the row at a place could have too many records
pub row_full : (tags : List TagDef) (rows : List LogRow) (cores : List Core) (place : ℕ) (row : LogRow) (old : Core) (number records : ℕ)
    → All (IsLogRow (length tags)) rows → slice_get rows place ≡ Some row → AreStanding tags (take place rows) cores
    → HasRoomBelow tags rows place → number ≡ records → records ≡ length (get_or cores row.tag old).state.records
    → most_records < length (get_or cores row.tag old).state.records + 2 → IsTagFull tags rows number
row_full tags rows cores place row old number records all there standing room same records_are many =
    let known : row.tag < length tags = row_known (length tags) rows place row all there in
    record {
      tag = row.tag;
      count = place;
      next = row;
      state = (get_or cores row.tag old).state;
      known = known;
      there = there;
      of_tag = refl;
      stands = λ def. standing.stand row.tag def old known;
      number_is = same ∙ records_are;
      many = rw (same ∙ records_are) many;
      first = room;
    }

-- a success is no refusal
no_err : {T E : Type 0} (r : Result T E) (x : T) → r ≡ Ok x → IsErr r → ⊥
no_err (Ok y) x is refused = cc
no_err (Err why) x is refused = cc

-- the core of the row at a place had room, as had those of the rows before it
pub row_fits : {T E : Type 0} (r : Result T E) (x : T) (tags : List TagDef) (rows : List LogRow) (cores : List Core) (place : ℕ) (row : LogRow) (old : Core)
    → All (IsLogRow (length tags)) rows → slice_get rows place ≡ Some row → AreStanding tags (take place rows) cores
    → HasRoomBelow tags rows place → r ≡ Ok x → (most_records < length (get_or cores row.tag old).state.records + 2 → IsErr r)
    → HasRoomBelow tags rows (place + 1)
row_fits r x tags rows cores place row old all there standing room is refused = λ k less. elim (cases_lt k place) [
  | inl below ↦ room k below
  | inr above ↦ subst (HasRoomAt tags rows) (omega (arith, less, above)) here
]
  where
    known : row.tag < length tags
    known = row_known (length tags) rows place row all there

    here : HasRoomAt tags rows place
    here = record {
      row = row;
      state = (get_or cores row.tag old).state;
      there = there;
      stands = λ def. standing.stand row.tag def old known;
      few = elim (cases_lt most_records (length (get_or cores row.tag old).state.records + 2)) [
        | inl many ↦ absurd (no_err r x is (refused many))
        | inr most ↦ most
      ];
    }

-- a core for one tag more
pub fresh_more : (tags : List TagDef) (place : ℕ) (d : TagDef) (old new : List Core) (core : Core) → place < length tags
    → AreStanding (take place tags) [] old → new ≡ old ++ core ∷ [] → core.step ≡ (get_or tags place d).step
    → Stands (log_origin_of (get_or tags place d)) [] core.state → AreStanding (take (place + 1) tags) [] new
fresh_more tags place d old new core few standing is step stands =
    rw (is, take_more tags place d few)
    (record {
      as_many = omega (arith, standing.as_many, length-append old (core ∷ []), length-append (take place tags) (get_or tags place d ∷ []));
      steps = λ tag def c within. by_place tag def c within (cases_lt tag (length (take place tags)));
      stand = λ tag def c within. stand_at tag def c within (cases_lt tag (length (take place tags)));
    })
  where
    by_place : (tag : ℕ) (def : TagDef) (c : Core) → tag < length (take place tags ++ get_or tags place d ∷ [])
        → (tag < length (take place tags)) ⊎ (length (take place tags) ≤ tag)
        → (get_or (old ++ core ∷ []) tag c).step ≡ (get_or (take place tags ++ get_or tags place d ∷ []) tag def).step
    by_place tag def c within (inl less) =
        rw (get_or_append_left old (core ∷ []) c tag (omega (arith, less, standing.as_many)), get_or_append_left (take place tags) (get_or tags place d ∷ []) def tag less)
        (standing.steps tag def c less)
    by_place tag def c within (inr past) =
        let here : tag ≡ length (take place tags) = omega (arith, within, past, length-append (take place tags) (get_or tags place d ∷ [])) in
        rw (here, get_or-append_seam (take place tags) (get_or tags place d) [] def, ← standing.as_many, get_or-append_seam old core [] c) step

    stand_at : (tag : ℕ) (def : TagDef) (c : Core) → tag < length (take place tags ++ get_or tags place d ∷ [])
        → (tag < length (take place tags)) ⊎ (length (take place tags) ≤ tag)
        → Stands (log_origin_of (get_or (take place tags ++ get_or tags place d ∷ []) tag def)) []
        (get_or (old ++ core ∷ []) tag c).state
    stand_at tag def c within (inl less) =
        rw (get_or_append_left old (core ∷ []) c tag (omega (arith, less, standing.as_many)), get_or_append_left (take place tags) (get_or tags place d ∷ []) def tag less)
        (standing.stand tag def c less)
    stand_at tag def c within (inr past) =
        let here : tag ≡ length (take place tags) = omega (arith, within, past, length-append (take place tags) (get_or tags place d ∷ [])) in
        rw (here, get_or-append_seam (take place tags) (get_or tags place d) [] def, ← standing.as_many, get_or-append_seam old core [] c) stands

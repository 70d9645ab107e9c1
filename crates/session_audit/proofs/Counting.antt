-- How many takes a tape has, worker by worker, and how many rows a tag has.
use Rattle.std.proofs.Common.{◌≡◌, ◌≢◌, ℕ, zero, suc, ◌+◌, ◌<◌, ◌≤◌, inl, inr, Bool, true, false, cond, nat_eq, List, [], ◌∷◌, ◌++◌, length, get_or, take, drop, length-append, Option, None, Some, IsSome, refl, sym, ap, ap₂, subst, ◌∙◌}
use Rattle.std.proofs.Common.{arith}
use Rattle.std.specs.Prelude.{slice_get}
use Rattle.std.specs.List.{count_by}
use Rattle.std.specs.Option.{option_map_or}
use Rattle.std.proofs.lemmas.Bool.{cases_eq, cases_lt, false≢true}
use Rattle.std.proofs.lemmas.Bool.Decides.{nat_tests}
use Rattle.std.proofs.lemmas.List.{take-append-drop}
use Rattle.std.proofs.lemmas.List.Elements.{filter_map-append}
use Rattle.std.proofs.lemmas.List.Sums.{sum_by-cons}
use Rattle.std.proofs.lemmas.Option.{slice_get-get_or, slice_get_past, slice_get_within}
use Rattle.value_rows.specs.{RawRow}
use Rattle.plant_status.specs.{Seen}
use Rattle.plant_status.specs.declared.mismatch.Seen.TheVariants as seen
use Rattle.tag_cell.specs.{Entry, taken}
use Rattle.tag_cell.specs.declared.entry.Entry.TheVariants.{Take, Ask, Pull, Commit}
use Rattle.session_audit.specs.{Item, AreFound, Reached, found, found_of, next_due, place_at, tape_shows, take_of, AreOver, file_due, tag_rows}
use Rattle.session_audit.specs.Agendas.{due, numbered, seen_at, phase_item}
use Rattle.session_audit.proofs.Walking.{next_shown}

-- ---- sums over workers

-- of n workers from one on
abbrev total : ℕ → ℕ → (ℕ → ℕ) → ℕ
total w zero f = 0
total w (suc n) f = f w + total (w + 1) n f

-- the same of each
total_same : (w n : ℕ) (f g : ℕ → ℕ) → ((v : ℕ) → f v ≡ g v) → total w n f ≡ total w n g
total_same w zero f g same = refl
total_same w (suc n) f g same = ap₂ (λ a b. a + b) (same w) (total_same (w + 1) n f g same)

-- one more of one of them
total_one : (w n c : ℕ) (f g : ℕ → ℕ) → w ≤ c → c < w + n → g c ≡ f c + 1 → ((v : ℕ) → v ≢ c → g v ≡ f v)
    → total w n g ≡ total w n f + 1
total_one w zero c f g from below more same = absurd (omega (arith, from, below))
total_one w (suc n) c f g from below more same = elim (cases_eq w c) [
  | inl is ↦
      let here : g w ≡ f w + 1 = subst (λ v. g v ≡ f v + 1) (sym is) more in
      let rest = total_rest (w + 1) n c f g (omega (arith, is)) same in
      omega (arith, here, rest)
  | inr other ↦
      let here = same w other in
      let rest = total_one (w + 1) n c f g (omega (arith, from, other)) (omega (arith, below)) more same in
      omega (arith, here, rest)
]
  where
    total_rest : (w n c : ℕ) (f g : ℕ → ℕ) → c < w → ((v : ℕ) → v ≢ c → g v ≡ f v) → total w n g ≡ total w n f
    total_rest w zero c f g before same = refl
    total_rest w (suc n) c f g before same =
        ap₂ (λ a b. a + b) (same w (λ is. omega (arith, before, is))) (total_rest (w + 1) n c f g (omega (arith, before)) same)

-- none has more, and one has fewer
total_less : (w n c : ℕ) (f g : ℕ → ℕ) → ((v : ℕ) → v < w + n → f v ≤ g v) → w ≤ c → c < w + n → f c < g c
    → total w n f < total w n g
total_less w zero c f g no_more from below fewer = absurd (omega (arith, from, below))
total_less w (suc n) c f g no_more from below fewer = elim (cases_eq w c) [
  | inl is ↦
      let here : f w < g w = subst (λ v. f v < g v) (sym is) fewer in
      let rest = total_most (w + 1) n f g (λ v small. no_more v (omega (arith, small))) in
      omega (arith, here, rest)
  | inr other ↦
      let here = no_more w (omega arith) in
      let rest = total_less (w + 1) n c f g (λ v small. no_more v (omega (arith, small))) (omega (arith, from, other))
      (omega (arith, below)) fewer in
      omega (arith, here, rest)
]
  where
    total_most : (w n : ℕ) (f g : ℕ → ℕ) → ((v : ℕ) → v < w + n → f v ≤ g v) → total w n f ≤ total w n g
    total_most w zero f g no_more = omega arith
    total_most w (suc n) f g no_more =
        let here = no_more w (omega arith) in
        let rest = total_most (w + 1) n f g (λ v small. no_more v (omega (arith, small))) in
        omega (arith, here, rest)

-- a sum over files
total_files : (tag : ℕ) (files : List (List RawRow)) (w : ℕ) (f : ℕ → ℕ)
    → ((i : ℕ) → i < length files → f (w + i) ≡ count_by (λ r. nat_eq r.tag tag) (get_or files i []))
    → total w (length files) f ≡ tag_rows tag files
total_files tag [] w f each = refl
total_files tag (rows ∷ rest) w f each =
    ap₂ (λ x y. x + y) (ap f (omega arith) ∙ each 0 (omega arith))
    (total_files tag rest (w + 1) f (λ i below. ap f (omega arith) ∙ each (suc i) (omega (arith, below))))

-- ---- one tape

-- a take shows one thing more of its collector
shown_here : (c row : ℕ) (e : Entry) (seen : Seen) (tape : List Entry) → take_of e ≡ Some (record { worker = c; seen = seen })
    → tape_shows take_of c (e ∷ tape) ≡ seen ∷ tape_shows take_of c tape
shown_here c row e seen tape is =
    let same : nat_eq c c ≡ true = grind (arith, nat_tests) in
    rw (is, same) refl

-- and nothing of another one
shown_beside : (c w : ℕ) (e : Entry) (seen : Seen) (tape : List Entry) → take_of e ≡ Some (record { worker = c; seen = seen })
    → w ≢ c → tape_shows take_of w (e ∷ tape) ≡ tape_shows take_of w tape
shown_beside c w e seen tape is other =
    let differ : nat_eq c w ≡ false = grind (arith, nat_tests, other) in
    rw (is, differ) refl

-- the takes of a tape are those of its collectors
taken_total : (n : ℕ) (tape : List Entry) → ((w : ℕ) → n ≤ w → tape_shows take_of w tape ≡ [])
    → length (taken tape) ≡ total 0 n (λ w. length (tape_shows take_of w tape))
taken_total n [] none = sym (nothing 0 n)
  where
    nothing : (w n : ℕ) → total w n (λ v. length (tape_shows take_of v [])) ≡ 0
    nothing w zero = refl
    nothing w (suc n) = (let rest = nothing (w + 1) n in omega (arith, rest))
taken_total n (Take c row p h k ∷ tape) none =
    let e = Take c row p h k in
    let seen = seen.Take c row p in
    let here = shown_here c row e seen tape refl in
    let known : c < n = elim (cases_lt c n) [
      | inl below ↦ below
      | inr past ↦ absurd (some_none seen (tape_shows take_of c tape) (sym here ∙ none c past))
    ] in
    let rest = taken_total n tape (λ w past. sym (shown_beside c w e seen tape refl (λ is. omega (arith, past, known, is)))
    ∙ none w past) in
    let more = total_one 0 n c (λ w. length (tape_shows take_of w tape)) (λ w. length (tape_shows take_of w (e ∷ tape)))
    (omega arith) (omega (arith, known)) (ap length here ∙ omega arith)
    (λ v other. ap length (shown_beside c v e seen tape refl other)) in
    omega (arith, rest, more)
  where
    some_none : (s : Seen) (l : List Seen) → s ∷ l ≡ [] → ⊥
    some_none s l e = cc
taken_total n (Ask reader row q reply ∷ tape) none =
    taken_total n tape none ∙ refl
taken_total n (Pull group from upto ∷ tape) none =
    taken_total n tape none ∙ refl
taken_total n (Commit moment acked ∷ tape) none =
    taken_total n tape none ∙ refl

-- ---- rows

-- the rows of a file that are due at a tag are those that name it
due_count : (earlier tag w n : ℕ) (rows : List RawRow)
    → length (due tag (numbered (phase_item earlier w) n rows)) ≡ count_by (λ r. nat_eq r.tag tag) rows
due_count earlier tag w n [] = refl
due_count earlier tag w n (r ∷ rest) = one (nat_eq r.tag tag) refl (due_count earlier tag w (n + 1) rest)
  where
    count : List RawRow → ℕ
    count rows = count_by (λ r. nat_eq r.tag tag) rows

    more : ◌≡◌ {A = ℕ} (count (r ∷ rest)) (cond (nat_eq r.tag tag) 1 0 + count rest)
    more = sum_by-cons (λ (x : RawRow). cond (nat_eq x.tag tag) 1 0) r rest

    one : (b : Bool) → nat_eq r.tag tag ≡ b → length (due tag (numbered (phase_item earlier w) (n + 1) rest)) ≡ count rest
        → length (due tag (numbered (phase_item earlier w) n (r ∷ rest))) ≡ count (r ∷ rest)
    one true is same =
        let first : length (due tag (numbered (phase_item earlier w) n (r ∷ rest))) ≡ 1 + length (due tag (numbered (phase_item earlier w) (n + 1) rest)) = rw is (omega arith) in
        let test : ◌≡◌ {A = ℕ} (cond (nat_eq r.tag tag) 1 0) 1 = ap (λ b. cond b 1 0) is in
        omega (arith, first, same, more, test)
    one false is same =
        let first : length (due tag (numbered (phase_item earlier w) n (r ∷ rest))) ≡ length (due tag (numbered (phase_item earlier w) (n + 1) rest)) = rw is refl in
        let test : ◌≡◌ {A = ℕ} (cond (nat_eq r.tag tag) 1 0) 0 = ap (λ b. cond b 1 0) is in
        omega (arith, first, same, more, test)

-- the first rows have no more than all
due_most : (tag n : ℕ) (items : List (Option Item)) → length (due tag (take n items)) ≤ length (due tag items)
due_most tag n items =
    let cut : due tag items ≡ due tag (take n items) ++ due tag (drop n items) =
    ap (due tag) (sym (take-append-drop n items)) ∙ filter_map-append (seen_at tag) (take n items) (drop n items) in
    omega (arith, ap length cut, length-append (due tag (take n items)) (due tag (drop n items)))

-- ---- a tape that lacks a row

module _ (earlier tags tag : ℕ) (files : List (List RawRow)) (works : List Reached) (d : Reached)
    (over : AreOver (phase_item earlier) tags files works) where
  items : (w : ℕ) → w < length files → (get_or works w d).items ≡ numbered (phase_item earlier w) 1 (get_or files w [])
  items w below = over.items w [] d below

  found_is : (w : ℕ) → w < length files → found_of works w tag ≡ found (get_or works w d) tag
  found_is w below = ap (λ o. option_map_or (λ p. found p tag) o [])
      (slice_get-get_or works w d (omega (arith, below, over.as_many)))

  due_is : (w : ℕ) → w < length files → file_due (phase_item earlier) files w tag ≡ due tag (get_or works w d).items
  due_is w below = ap (λ o. option_map_or (λ rows. due tag (numbered (phase_item earlier w) 1 rows)) o [])
      (slice_get-get_or files w [] below) ∙ ap (due tag) (sym (items w below))

  -- where a row is due that was not found, fewer were found than are due
  pub found_fewer : (collector : ℕ) → collector < length files → IsSome (next_due (get_or works collector d) tag)
      → length (found_of works collector tag) < length (file_due (phase_item earlier) files collector tag)
  found_fewer collector within due_so =
      let p = get_or works collector d in
      let at = place_at p tag in
      let some = next_shown tag p.items at (λ below. due_so) in
      let inside = is_within (due tag p.items) (length (due tag (take at p.items))) (next_due p tag) some due_so in
      omega (arith, inside, ap length (found_is collector within), ap length (due_is collector within))
    where
      is_within : (l : List Seen) (i : ℕ) (o : Option Seen) → slice_get l i ≡ o → IsSome o → i < length l
      is_within l i None is some = absurd (false≢true some)
      is_within l i (Some s) is some = slice_get_within l i s is

  -- so its tape has fewer takes than its tag has rows
  pub takes_fewer : (collector : ℕ) (tape : List Entry) → AreFound take_of tag tape works → collector < length files
      → IsSome (next_due (get_or works collector d) tag) → length (taken tape) < tag_rows tag files
  takes_fewer collector tape found_so within due_so =
      let n = length files in
      let shown = taken_total n tape none in
      let so = total_same 0 n (λ w. length (tape_shows take_of w tape)) (λ w. length (found_of works w tag))
      (λ v. ap length (found_so.each v)) in
      let fewer = total_less 0 n collector (λ w. length (found_of works w tag)) (λ w. length (file_due (phase_item earlier) files w tag))
      most (omega arith) (omega (arith, within)) (found_fewer collector within due_so) in
      let rows = total_files tag files 0 (λ w. length (file_due (phase_item earlier) files w tag)) each in
      omega (arith, shown, so, fewer, rows)
    where
      none : (w : ℕ) → length files ≤ w → tape_shows take_of w tape ≡ []
      none w past = found_so.each w ∙ ap (λ o. option_map_or (λ p. found p tag) o [])
          (slice_get_past works w (omega (arith, past, over.as_many)))

      most : (v : ℕ) → v < 0 + length files → length (found_of works v tag) ≤ length (file_due (phase_item earlier) files v tag)
      most v below =
          let within_files : v < length files = omega (arith, below) in
          omega (
            arith,
            ap length (found_is v within_files),
            ap length (due_is v within_files),
            due_most tag (place_at (get_or works v d) tag) (get_or works v d).items,
          )

      each : (i : ℕ) → i < length files
          → length (file_due (phase_item earlier) files (0 + i) tag) ≡ count_by (λ r. nat_eq r.tag tag) (get_or files i [])
      each i below =
          ap (λ w. length (file_due (phase_item earlier) files w tag)) (omega arith)
          ∙ (ap length (due_is i below ∙ ap (due tag) (items i below)) ∙ due_count earlier tag i 1 (get_or files i []))

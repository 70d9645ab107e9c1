-- Snapshots that a reader sees, one after the other.
use Rattle.std.proofs.Common.{◌≡◌, ◌≢◌, ◌⊎◌, inl, inr, ℕ, zero, suc, ◌+◌, ◌<◌, ◌≤◌, List, [], ◌∷◌, ◌++◌, length, map, take, get_or, Option, None, Some, is_some, refl, sym, ap, subst, ◌∙◌, arith}
use Rattle.std.specs.Prelude.{IfSome, slice_get, slice_set}
use Rattle.std.proofs.lemmas.List.{length_push, map_more, map_push}
use Rattle.std.proofs.lemmas.Option.{slice_get-get_or, slice_get_within}
use Rattle.trend_num.specs.{Snap}
use Rattle.value_rows.specs.{Query}
use Rattle.value_rows.specs.declared.asked.Query.TheVariants as ask
use Rattle.collector_pool.specs.{AreSnapsOf, AreSnapsSeen, DoSnapsRise, IsSeenNext, asks_snap}

-- what is in a list that has one more item was there before, or is that item
found_in_more : {A : Type 0} (xs : List A) (x y : A) (i : ℕ) → slice_get (xs ++ x ∷ []) i ≡ Some y
    → (slice_get xs i ≡ Some y) ⊎ ((i ≡ length xs) × (y ≡ x))
found_in_more [] x y zero at = inr (omega arith, cc)
found_in_more [] x y (suc i) at = absurd (cc)
found_in_more (a ∷ xs) x y zero at = inl at
found_in_more (a ∷ xs) x y (suc i) at = elim (found_in_more xs x y i at) [
  | inl there ↦ inl there
  | inr (last, is) ↦ inr (omega (arith, last), is)
]

-- what is in a list one of whose items was set is what was set, or was there before
found_in_set : {A : Type 0} (xs : List A) (k j : ℕ) (x y : A) → slice_get (slice_set xs k x) j ≡ Some y
    → ((j ≡ k) × (y ≡ x)) ⊎ ((j ≢ k) × (slice_get xs j ≡ Some y))
found_in_set [] k j x y at = absurd (cc)
found_in_set (a ∷ xs) zero zero x y at = inl (refl, cc)
found_in_set (a ∷ xs) zero (suc j) x y at = inr (λ same. omega (arith, same), at)
found_in_set (a ∷ xs) (suc k) zero x y at = inr (λ same. omega (arith, same), at)
found_in_set (a ∷ xs) (suc k) (suc j) x y at = elim (found_in_set xs k j x y at) [
  | inl (same, is) ↦ inl (omega (arith, same), is)
  | inr (other, there) ↦ inr (λ same. other (omega (arith, same)), there)
]

-- there is a snapshot exactly where the query asks for one
seen_asked : (q : Query) (old new : List Snap) (x : Option Snap) → IsSeenNext q old new x → is_some x ≡ asks_snap q
seen_asked (ask.Snap tag) old new (Some snap) next = refl
seen_asked (ask.Snap tag) old new None next = absurd next
seen_asked (ask.Tag tag query) old new x next = ap is_some next.0
seen_asked (ask.Row group calc k) old new x next = ap is_some next.0

-- a snapshot of before is not newer than one that the looker was shown of its tag now
not_newer : (queries : List Query) (snaps : List (Option Snap)) (old : List Snap) (i tag : ℕ) (first snap : Snap)
    → AreSnapsSeen queries snaps old → slice_get queries i ≡ Some (ask.Snap tag) → slice_get snaps i ≡ Some (Some first)
    → tag < length old → IfSome (slice_get old tag) (λ last. last.taken ≤ snap.taken) → first.taken ≤ snap.taken
not_newer queries snaps old i tag first snap seen asked at within shown =
    let there : slice_get old tag ≡ Some (get_or old tag snap) = slice_get-get_or old tag snap within in
    let before : first.taken ≤ (get_or old tag snap).taken = seen i tag first (get_or old tag snap) asked at there in
    let later : (get_or old tag snap).taken ≤ snap.taken =
    subst (λ o. IfSome o (λ (last : Snap). last.taken ≤ snap.taken)) there shown in
    omega (arith, before, later)

-- where no snapshot came, those of before are not newer than the last ones
seen_still : (queries : List Query) (snaps : List (Option Snap)) (old new : List Snap) (x : Option Snap) → x ≡ None → new ≡ old
    → AreSnapsSeen queries snaps old → AreSnapsSeen queries (snaps ++ x ∷ []) new
seen_still queries snaps old new x none same seen = grind (arith, found_in_more)

-- no snapshot is newer than the last one of its tag
seen_on : (queries : List Query) (q : Query) (snaps : List (Option Snap)) (old new : List Snap) (x : Option Snap)
    → IsSeenNext q old new x → slice_get queries (length snaps) ≡ Some q → AreSnapsSeen queries snaps old
    → AreSnapsSeen queries (snaps ++ x ∷ []) new
seen_on queries (ask.Tag tag query) snaps old new x next here seen =
    seen_still queries snaps old new x next.0 next.1 seen
seen_on queries (ask.Row group calc k) snaps old new x next here seen =
    seen_still queries snaps old new x next.0 next.1 seen
seen_on queries (ask.Snap looked) snaps old new None next here seen = absurd next
seen_on queries (ask.Snap looked) snaps old new (Some snap) next here seen = λ i tag first last asked at last_at.
    elim (found_in_set old looked tag snap last (ap (λ l. slice_get l tag) (sym next.1) ∙ last_at)) [
      | inl (same, is) ↦ elim (found_in_more snaps (Some snap) (Some first) i at) [
        | inl old_at ↦
            let of : slice_get queries i ≡ Some (ask.Snap looked) = asked ∙ ap (λ n. Some (ask.Snap n)) same in
            subst (λ (s : Snap). first.taken ≤ s.taken) (sym is)
            (not_newer queries snaps old i looked first snap seen of old_at next.0 next.2)
        | inr (end, now) ↦
            let one : first ≡ snap = cc in
            omega (arith, ap (λ (s : Snap). s.taken) one, ap (λ (s : Snap). s.taken) is)
      ]
      | inr (other, there) ↦ elim (found_in_more snaps (Some snap) (Some first) i at) [
        | inl old_at ↦ seen i tag first last asked old_at there
        | inr (end, now) ↦
            let one : tag ≡ looked = cc in
            absurd (other one)
      ]
    ]

-- what a reader sees for one query more
module _ (queries : List Query) (i : ℕ) (d : Query) (snaps : List (Option Snap)) (old new : List Snap) (x : Option Snap)
    (count : length snaps ≡ i) (within : i < length queries) (next : IsSeenNext (get_or queries i d) old new x) where
  here : slice_get queries (length snaps) ≡ Some (get_or queries i d)
  here = ap (slice_get queries) count ∙ slice_get-get_or queries i d within

  pub snaps_of_on : AreSnapsOf queries snaps → AreSnapsOf queries (snaps ++ x ∷ [])
  snaps_of_on are =
      map_push is_some snaps x ∙ ap (λ l. l ++ is_some x ∷ []) (are ∙ ap (λ n. map asks_snap (take n queries)) count)
      ∙ ap (λ b. map asks_snap (take i queries) ++ b ∷ []) (seen_asked (get_or queries i d) old new x next)
      ∙ sym (map_more asks_snap queries i d within) ∙ ap (λ n. map asks_snap (take n queries)) longer
    where
      longer : i + 1 ≡ length (snaps ++ x ∷ [])
      longer = omega (arith, count, length_push snaps x)

  pub snaps_rise_on : DoSnapsRise queries snaps → AreSnapsSeen queries snaps old → DoSnapsRise queries (snaps ++ x ∷ [])
  snaps_rise_on rise seen = grind (arith, found_in_more, slice_get_within, here, not_newer)

  pub snaps_seen_on : AreSnapsSeen queries snaps old → AreSnapsSeen queries (snaps ++ x ∷ []) new
  snaps_seen_on seen = seen_on queries (get_or queries i d) snaps old new x next here seen

-- A row with changes, one change after another, and the frames that changes leave as they are.
use Rattle.std.proofs.Common.{◌≡◌, ℕ, zero, suc, ◌+◌, ◌<◌, ◌≤◌, ◌⊎◌, inl, inr, Bool, List, [], ◌∷◌, ◌++◌, length, get_or, refl, sym, ap, ◌∙◌, subst, arith}
use Rattle.std.specs.Prelude.{◌==◌, take}
use Rattle.std.proofs.lemmas.Bool.{cases_lt, cases_order, ne_eqb}
use Rattle.std.proofs.lemmas.List.{length-map, map-append, length-take-le, take_more}
use Rattle.std.proofs.lemmas.List.Folds.{fold_along}
use Rattle.std.proofs.lemmas.List.Sums.{fold_more}
use Rattle.trend_num.specs.{CalcValue}
use Rattle.event_frames.proofs.Putting.{get_or-put_at, length-put_at, put_at-behind, put_at-map}
use Rattle.event_frames.specs.{Frame, Change, IsChangeList, is_true, is_true_in, put_at, row_with, truths_of, truths_with, IsFrame, IsChanged, IsChangedAt, IsNear, IsNearOne, no_change, window_of}

-- the truths of a row with changes are the truths of the row, with these changes
pub truths_of-row_with : (row : List CalcValue) (cs : List Change) → truths_with (truths_of row) cs ≡ truths_of (row_with row cs)
truths_of-row_with row cs =
    fold_along (λ (ts : List Bool) (c : Change). put_at ts c.k (is_true c.value))
    (λ (values : List CalcValue) (c : Change). put_at values c.k c.value)
    (λ (ts : List Bool) (values : List CalcValue). ts ≡ truths_of values)
    (λ ts values c same. ap (λ (us : List Bool). put_at us c.k (is_true c.value)) same ∙ put_at-map is_true values c.k c.value)
    (truths_of row) row cs refl

-- nothing is changed yet
pub changed_none : (old : List Bool) (cs : List Change) → IsChangedAt old old cs 0
changed_none old cs = grind arith

-- one change more
pub changed_more : (old now : List Bool) (cs : List Change) (i k : ℕ) (v : Bool) → window_of cs i ≡ k → k ≤ length now
    → IsChangedAt old now cs i → IsChangedAt old (put_at now k v) cs (i + 1)
changed_more old now cs i k v here within is =
    let size = length-put_at now k v within in
    record {
      same = grind (arith, get_or-put_at);
      longer = omega (arith, is.longer, size.0);
      grown = λ j past there.
          elim (cases_lt j (length now)) [
            | inl before ↦
                let changed = is.grown j past before in
                (changed.0, (let early = changed.1 in omega (arith, early)), changed.2)
            | inr behind ↦ (grind arith)
          ];
    }

-- whether the last window of a frame is the last one there is, where rows differ neither in it nor in the one after it
same_end : (C : ℕ → Type 0) (m n u : ℕ) → ((j : ℕ) → m ≤ j → j < n → C j) → ((j : ℕ) → n ≤ j → j < m → C j)
    → ((j : ℕ) → u ≤ j → j ≤ u + 1 → C j → ⊥) → (u + 1 == m) ≡ (u + 1 == n)
same_end C m n u more less apart = grind (arith, cases_order, ne_eqb)

-- a frame stays where a row differs from another at no window near it
frame_stays : (C : ℕ → Type 0) (old new : List Bool) (least : ℕ) (f : Frame)
    → ((j : ℕ) → (C j → ⊥) → is_true_in new j ≡ is_true_in old j)
    → ((j : ℕ) → length old ≤ j → j < length new → C j) → ((j : ℕ) → length new ≤ j → j < length old → C j)
    → ((j : ℕ) → f.from ≤ j + 1 → j ≤ f.upto + 1 → C j → ⊥) → IsFrame old least f → IsFrame new least f
frame_stays C old new least f same more less apart frame = grind (arith, same_end)

-- the last of some windows, and those before it, are all apart from a frame
apart_more : (cs : List Change) (n : ℕ) (f : Frame) → ((j : ℕ) → f.from ≤ j + 1 → j ≤ f.upto + 1 → IsChanged cs n j → ⊥)
    → (IsNear (window_of cs n) f → ⊥)
    → (j : ℕ) → f.from ≤ j + 1 → j ≤ f.upto + 1 → IsChanged cs (suc n) j → ⊥
apart_more cs n f apart far j begins ends changed =
    let early = changed.1 in
    elim (cases_lt changed.0 n) [
      | inl before ↦ apart j begins ends (changed.0, before, changed.2)
      | inr last ↦
          let place : changed.0 ≡ n = omega (arith, early) in
          let here : window_of cs n ≡ j = sym (ap (window_of cs) place) ∙ changed.2 in
          far (record { begins = omega (arith, here); ends = omega (arith, here) })
    ]

-- a frame is near one of the first changes, or near none of them
near_or_apart : (cs : List Change) (n : ℕ) (f : Frame)
    → IsNearOne cs n f ⊎ ((j : ℕ) → f.from ≤ j + 1 → j ≤ f.upto + 1 → IsChanged cs n j → ⊥)
near_or_apart cs zero f = inr (λ j begins ends changed. let early = changed.1 in omega (arith, early))
near_or_apart cs (suc n) f =
    let k = window_of cs n in
    elim (near_or_apart cs n f) as (λ _. IsNearOne cs (suc n) f
    ⊎ ((j : ℕ) → f.from ≤ j + 1 → j ≤ f.upto + 1 → IsChanged cs (suc n) j → ⊥)) [
      | inl near ↦ inl (record { place = near.place; early = (let early = near.early in omega (arith, early)); near = near.near })
      | inr apart ↦
          elim (cases_lt (k + 1) f.from) as (λ _. IsNearOne cs (suc n) f
          ⊎ ((j : ℕ) → f.from ≤ j + 1 → j ≤ f.upto + 1 → IsChanged cs (suc n) j → ⊥)) [
            | inl behind ↦ inr (apart_more cs n f apart (λ near. let begins = near.begins in omega (arith, begins)))
            | inr begins ↦
                elim (cases_lt (f.upto + 1) k) as (λ _. IsNearOne cs (suc n) f
                ⊎ ((j : ℕ) → f.from ≤ j + 1 → j ≤ f.upto + 1 → IsChanged cs (suc n) j → ⊥)) [
                  | inl before ↦ inr (apart_more cs n f apart (λ near. let ends = near.ends in omega (arith, ends)))
                  | inr ends ↦ inl (record { place = n; early = omega arith; near = record { begins = begins; ends = ends } })
                ]
          ]
    ]

-- a frame of the row before that is near no change is a frame of the row after
pub near_or_stays : (old new : List Bool) (cs : List Change) (n least : ℕ) (f : Frame) → IsChangedAt old new cs n
    → IsFrame old least f → IsNearOne cs n f ⊎ IsFrame new least f
near_or_stays old new cs n least f is frame =
    elim (near_or_apart cs n f) as (λ _. IsNearOne cs n f ⊎ IsFrame new least f) [
      | inl near ↦ inl near
      | inr apart ↦ inr (frame_stays (IsChanged cs n) old new least f is.same is.grown
          (λ j past there. absurd (let longer = is.longer in omega (arith, longer))) apart frame)
    ]

-- a frame of the row after that is near no change was a frame of the row before
pub near_or_stood : (old new : List Bool) (cs : List Change) (n least : ℕ) (f : Frame) → IsChangedAt old new cs n
    → IsFrame new least f → IsNearOne cs n f ⊎ IsFrame old least f
near_or_stood old new cs n least f is frame =
    elim (near_or_apart cs n f) as (λ _. IsNearOne cs n f ⊎ IsFrame old least f) [
      | inl near ↦ inl near
      | inr apart ↦ inr (frame_stays (IsChanged cs n) new old least f (λ j free. sym (is.same j free))
          (λ j past there. absurd (let longer = is.longer in omega (arith, longer))) is.grown apart frame)
    ]

-- a row with the changes so far
pub record IsChangedSoFar (old now : List Bool) (cs : List Change) (i : ℕ) : Type 0 where
  pub truths : now ≡ truths_with old (take i cs)
  pub changed : IsChangedAt old now cs i
  pub next : i < length cs → window_of cs i ≤ length now
  pub most : length now ≤ length old + i

-- the truths of the first windows of a row are as many
pub row_len : (ts : List Bool) (row : List CalcValue) (k : ℕ) → k ≤ length row → ts ≡ truths_of (take k row) → length ts ≡ k
row_len ts row k inside is = ap length is ∙ (length-map (take k row) is_true ∙ length-take-le k row inside)

-- one window more of a row
pub row_more : (ts : List Bool) (row : List CalcValue) (k : ℕ) (d : CalcValue) (b : Bool) → k < length row
    → ts ≡ truths_of (take k row) → b ≡ is_true (get_or row k d) → put_at ts k b ≡ truths_of (take (k + 1) row)
row_more ts row k d b inside is value =
    put_at-behind ts k b (sym (row_len ts row k (omega arith) is))
    ∙ (ap (λ (us : List Bool). us ++ b ∷ []) is ∙ (ap (λ (v : Bool). truths_of (take k row) ++ v ∷ []) value
    ∙ (sym (map-append is_true (take k row) (get_or row k d ∷ [])) ∙ ap truths_of (sym (take_more row k d inside)))))

-- nothing is changed so far
pub changes_none : (old : List Bool) (cs : List Change) → IsChangeList (length old) cs → IsChangedSoFar old old cs 0
changes_none old cs is = grind (arith, changed_none)

-- one change more
pub changes_more : (old now new : List Bool) (cs : List Change) (i : ℕ) (v : Bool) → IsChangeList (length old) cs → i < length cs
    → v ≡ is_true (get_or cs i no_change).value → new ≡ put_at now (window_of cs i) v → IsChangedSoFar old now cs i
    → IsChangedSoFar old new cs (i + 1)
changes_more old now new cs i v is inside value put was =
    let k = window_of cs i in
    let within = was.next inside in
    let size = length-put_at now k v within in
    let long : length new ≡ length (put_at now k v) = ap length put in
    record {
      truths = grind (arith, fold_more);
      changed = grind (arith, changed_more);
      next = λ more. let next = is.gapless i no_change more in
          omega (arith, next, long, size.0, size.2, was.changed.longer);
      most = omega (arith, long, size.1, was.most);
    }

-- the windows of changes are not far after the last one there is
pub window_bound : (windows : ℕ) (cs : List Change) → IsChangeList windows cs → (i : ℕ) (d : Change) → i < length cs
    → (get_or cs i d).k ≤ windows + i
window_bound windows cs is zero d inside = let first = is.first d inside in omega (arith, first)
window_bound windows cs is (suc i) d inside =
    let here : i + 1 ≡ suc i = omega arith in
    let before = window_bound windows cs is i d (omega arith) in
    let next = is.gapless i d (omega arith) in
    subst (λ n. (get_or cs n d).k ≤ windows + n) here (omega (arith, next, before))

-- What makes one row another.
use Rattle.std.proofs.Common.{◌≡◌, inl, inr, ℕ, ◌+◌, ◌-◌, ◌<◌, ◌≤◌, All, List, [], ◌∷◌, ◌++◌, length, get_or, set, take, drop, max, Some, refl, sym, ap, subst, ◌∙◌, arith, append_assoc, length-append, length-drop}
use Rattle.std.specs.Prelude.{slice_get}
use Rattle.std.proofs.lemmas.Bool.{cases_eq, cases_lt}
use Rattle.std.proofs.lemmas.List.{append-nil, drop_all, drop_more, get_or_append_left, get_or_push, length-take-le, length_push, set_at, take_more}
use Rattle.std.proofs.lemmas.List.Sums.{fold-append}
use Rattle.std.proofs.lemmas.Option.{get_or_from_slice_get, slice_get_within}
use Rattle.trend_num.specs.{CalcValue}
use Rattle.event_frames.specs.{Change, IsChangeList, put_at, row_with}
use Rattle.event_frames.proofs.Putting.{put_at-behind, put_at-within}

-- these changes make the first windows of one row those of another
pub record AreChangesTo (old new : List CalcValue) (k : ℕ) (cs : List Change) : Type 0 where
  pub row : row_with old cs ≡ take k new ++ drop k old
  pub list : IsChangeList (length old) cs
  pub below : All (λ c. c.k < k) cs
  pub some : length old < k → 0 < length cs
  pub last : length old < k → (d : Change) → (get_or cs (length cs - 1) d).k + 1 ≡ k

pub changes_none : (old new : List CalcValue) → AreChangesTo old new 0 []
changes_none old new = record {
  row = refl;
  list = record {
    rising = λ i d more. absurd (omega (arith, more));
    first = λ d some. absurd (omega (arith, some));
    gapless = λ i d more. absurd (omega (arith, more));
  };
  below = λ i d within. absurd (omega (arith, within));
  some = λ past. absurd (omega (arith, past));
  last = λ past. absurd (omega (arith, past));
}

-- one window put down
put_next : (old new : List CalcValue) (k : ℕ) (v : CalcValue) → k < length new → v ≡ get_or new k v
    → put_at (take k new ++ drop k old) k v ≡ take (k + 1) new ++ drop (k + 1) old
put_next old new k v below is =
    let first : length (take k new) ≡ k = length-take-le k new (omega arith) in
    let more : take (k + 1) new ≡ take k new ++ v ∷ [] = take_more new k v below ∙ ap (λ x. take k new ++ x ∷ []) (sym is) in
    elim (cases_lt k (length old)) as (λ _. put_at (take k new ++ drop k old) k v ≡ take (k + 1) new ++ drop (k + 1) old) [
      | inl inside ↦
          let rest : drop k old ≡ get_or old k v ∷ drop (k + 1) old = drop_more old k v inside in
          let long : k < length (take k new ++ drop k old) =
          omega (arith, length-append (take k new) (drop k old), length-drop k old, first, inside) in
          put_at-within (take k new ++ drop k old) k v long
          ∙ ap (λ l. set (take k new ++ l) k v) rest
          ∙ set_at (take k new) (get_or old k v) (drop (k + 1) old) v k first
          ∙ sym (append_assoc (take k new) (v ∷ []) (drop (k + 1) old))
          ∙ ap (λ l. l ++ drop (k + 1) old) (sym more)
      | inr past ↦
          let none : drop k old ≡ [] = drop_all k old past in
          let none_then : drop (k + 1) old ≡ [] = drop_all (k + 1) old (omega (arith, past)) in
          ap (λ l. put_at (take k new ++ l) k v) none
          ∙ put_at-behind (take k new ++ []) k v (omega (arith, first, length-append (take k new) []))
          ∙ ap (λ l. l ++ v ∷ []) (append-nil (take k new)) ∙ sym more
          ∙ sym (append-nil (take (k + 1) new)) ∙ ap (λ l. take (k + 1) new ++ l) (sym none_then)
    ]

-- one change more
pub changes_more : (old new : List CalcValue) (k : ℕ) (cs : List Change) (ch : Change) → k < length new
    → ch.k ≡ k → ch.value ≡ get_or new k ch.value → AreChangesTo old new k cs → AreChangesTo old new (k + 1) (cs ++ ch ∷ [])
changes_more old new k cs ch below place value so = record {
  row = fold-append (λ (vs : List CalcValue) (c : Change). put_at vs c.k c.value) old cs (ch ∷ [])
      ∙ ap (λ n. put_at (row_with old cs) n ch.value) place
      ∙ ap (λ vs. put_at vs k ch.value) so.row ∙ put_next old new k ch.value below value;
  list = record {
    rising = λ i d more. elim (cases_eq (i + 1) (length cs)) as (λ _. (get_or all i d).k < (get_or all (i + 1) d).k) [
      | inl end ↦
          let was = before i d (omega arith) in
          let is = at_end (i + 1) d end in
          let low = so.below i d (omega arith) in
          omega (arith, ap (λ (c : Change). c.k) was, ap (λ (c : Change). c.k) is, low, place)
      | inr inner ↦
          let within : i + 1 < length cs = omega (arith, more, many, inner) in
          let was = before i d (omega arith) in
          let is = before (i + 1) d within in
          omega (arith, ap (λ (c : Change). c.k) was, ap (λ (c : Change). c.k) is, so.list.rising i d within)
    ];
    first = λ d some. elim (cases_lt 0 (length cs)) as (λ _. (get_or all 0 d).k ≤ length old) [
      | inl there ↦ let is = before 0 d there in omega (arith, ap (λ (c : Change). c.k) is, so.list.first d there)
      | inr none ↦
          let is = at_end 0 d (omega arith) in
          elim (cases_lt (length old) k) as (λ _. (get_or all 0 d).k ≤ length old) [
            | inl past ↦ absurd (let there = so.some past in omega (arith, there))
            | inr inside ↦ omega (arith, ap (λ (c : Change). c.k) is, place)
          ]
    ];
    gapless = λ i d more. elim (cases_eq (i + 1) (length cs))
        as (λ _. (get_or all (i + 1) d).k ≤ max (length old) ((get_or all i d).k + 1)) [
          | inl end ↦
              let was = before i d (omega arith) in
              let is = at_end (i + 1) d end in
              elim (cases_lt (length old) k) as (λ _. (get_or all (i + 1) d).k ≤ max (length old) ((get_or all i d).k + 1)) [
                | inl past ↦
                    let here : length cs - 1 ≡ i = omega arith in
                    let last = subst (λ n. (get_or cs n d).k + 1 ≡ k) here (so.last past d) in
                    omega (arith, ap (λ (c : Change). c.k) was, ap (λ (c : Change). c.k) is, last, place)
                | inr inside ↦ omega (arith, ap (λ (c : Change). c.k) is, place)
              ]
          | inr inner ↦
              let within : i + 1 < length cs = omega (arith, more, many, inner) in
              let was = before i d (omega arith) in
              let is = before (i + 1) d within in
              omega (arith, ap (λ (c : Change). c.k) was, ap (λ (c : Change). c.k) is, so.list.gapless i d within)
        ];
  };
  below = λ i d within. elim (cases_eq i (length cs)) as (λ _. (get_or all i d).k < k + 1) [
    | inl end ↦ let is = at_end i d end in omega (arith, ap (λ (c : Change). c.k) is, place)
    | inr inner ↦
        let low : i < length cs = omega (arith, within, many, inner) in
        let is = before i d low in omega (arith, ap (λ (c : Change). c.k) is, so.below i d low)
  ];
  some = λ past. omega (arith, many);
  last = λ past d.
      let here : length all - 1 ≡ length cs = omega (arith, many) in
      subst (λ n. (get_or all n d).k + 1 ≡ k + 1) (sym here)
      (let is = at_end (length cs) d refl in omega (arith, ap (λ (c : Change). c.k) is, place));
}
  where
    all : List Change
    all = cs ++ ch ∷ []

    many : length (cs ++ ch ∷ []) ≡ length cs + 1
    many = length_push cs ch

    before : (i : ℕ) (d : Change) → i < length cs → get_or (cs ++ ch ∷ []) i d ≡ get_or cs i d
    before i d low = get_or_append_left cs (ch ∷ []) d i low

    at_end : (i : ℕ) (d : Change) → i ≡ length cs → get_or (cs ++ ch ∷ []) i d ≡ ch
    at_end i d end = get_or_push cs ch d i (sym end)

-- a window with the value that it had
pub changes_same : (old new : List CalcValue) (k : ℕ) (cs : List Change) (v : CalcValue) → k < length new → slice_get old k ≡ Some v
    → v ≡ get_or new k v → AreChangesTo old new k cs → AreChangesTo old new (k + 1) cs
changes_same old new k cs v below was is so =
    let inside : k < length old = slice_get_within old k v was in
    record {
      row = so.row
          ∙ ap (λ l. take k new ++ l) (drop_more old k v inside ∙ ap (λ x. x ∷ drop (k + 1) old) (get_or_from_slice_get old k v v was ∙ is))
          ∙ sym (append_assoc (take k new) (get_or new k v ∷ []) (drop (k + 1) old))
          ∙ ap (λ l. l ++ drop (k + 1) old) (sym (take_more new k v below));
      list = so.list;
      below = λ i d within. let low = so.below i d within in omega (arith, low);
      some = λ past. absurd (omega (arith, past, inside));
      last = λ past. absurd (omega (arith, past, inside));
    }

-- Changes that were looked at.
use Rattle.std.proofs.Common.{◌≡◌, ℕ, ◌+◌, ◌<◌, ◌≤◌, List, length, max, get_or, inl, inr, subst, sym, arith}
use Rattle.std.proofs.lemmas.Bool.{cases_lt}
use Rattle.event_frames.specs.{Change, IsChangeList}

-- the first so many changes follow each other
pub record AreChecked (windows : ℕ) (cs : List Change) (n : ℕ) : Type 0 where
  pub first : (d : Change) → 0 < n → (get_or cs 0 d).k ≤ windows
  pub rising : (j : ℕ) (d : Change) → j + 1 < n → (get_or cs j d).k < (get_or cs (j + 1) d).k
  pub gapless : (j : ℕ) (d : Change) → j + 1 < n → (get_or cs (j + 1) d).k ≤ max windows ((get_or cs j d).k + 1)

-- one change more
pub checked_more : (windows : ℕ) (cs : List Change) (i : ℕ)
    → (i ≡ 0 → (d : Change) → (get_or cs i d).k ≤ windows)
    → ((j : ℕ) → j + 1 ≡ i → (d : Change) → (get_or cs j d).k < (get_or cs i d).k)
    → ((j : ℕ) → j + 1 ≡ i → (d : Change) → (get_or cs i d).k ≤ max windows ((get_or cs j d).k + 1))
    → AreChecked windows cs i → AreChecked windows cs (i + 1)
checked_more windows cs i first rising gapless is = record {
  first = λ d some.
      elim (cases_lt 0 i) [
        | inl more ↦ is.first d more
        | inr none ↦
            let here : i ≡ 0 = omega arith in subst (λ n. (get_or cs n d).k ≤ windows) here (first here d)
      ];
  rising = λ j d inside.
      elim (cases_lt (j + 1) i) [
        | inl before ↦ is.rising j d before
        | inr last ↦
            let here : j + 1 ≡ i = omega arith in
            subst (λ n. (get_or cs j d).k < (get_or cs n d).k) (sym here) (rising j here d)
      ];
  gapless = λ j d inside.
      elim (cases_lt (j + 1) i) [
        | inl before ↦ is.gapless j d before
        | inr last ↦
            let here : j + 1 ≡ i = omega arith in
            subst (λ n. (get_or cs n d).k ≤ max windows ((get_or cs j d).k + 1)) (sym here) (gapless j here d)
      ];
}

-- all of them do
pub checked_all : (windows : ℕ) (cs : List Change) (n : ℕ) → length cs ≤ n → AreChecked windows cs n → IsChangeList windows cs
checked_all windows cs n all is = record {
  rising = λ i d inside. is.rising i d (omega arith);
  first = λ d some. is.first d (omega arith);
  gapless = λ i d inside. is.gapless i d (omega arith);
}

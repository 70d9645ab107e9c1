-- How many records each page of a content has, in order, and how a put changes these numbers.
use Rattle.std.specs.Prelude.{◌≡◌, ℕ, ◌+◌, ◌-◌, ◌<◌, ◌≤◌, ◌⊎◌, List, ◌∷◌, [], ◌++◌, All, length, take, sum, count_by, nat_lt}
use Rattle.trend_num.specs.{Rec}
use Rattle.page_pool.specs.{full_page}
use Rattle.late_insert.specs.declared.content.PageTotals.{PageTotals}
use Rattle.late_insert.specs.Pages.{half_page}

-- all records of l are before the time t
abbrev pub AreBefore : List Rec → ℕ → Type 0
AreBefore l t = All (λ r. r.point.t < t) l

-- the place of the time t in l: how many records are before it
abbrev pub place_in : List Rec → ℕ → ℕ
place_in l t = count_by (λ r. nat_lt r.point.t t) l

-- `by` more records after all others: the last page takes them; if it is full, a page of their own follows it
pub record ArePagesFilled (old : List ℕ) (by : ℕ) (new : List ℕ) : Type 0 where
  pub front : List ℕ
  pub last : ℕ
  pub was : old ≡ front ++ last ∷ []
  pub most : last ≤ full_page
  pub room : last < full_page → new ≡ front ++ (last + by) ∷ []
  pub full : last ≡ full_page → new ≡ front ++ last ∷ by ∷ []

-- a page that has room and has the place takes `by` more records
pub record IsGrown (old : List ℕ) (place by : ℕ) (new : List ℕ) : Type 0 where
  pub front : List ℕ
  pub here : ℕ
  pub back : List ℕ
  pub was : old ≡ front ++ here ∷ back
  pub now : new ≡ front ++ (here + by) ∷ back
  pub room : here < full_page
  pub from : sum front ≤ place
  pub upto : place ≤ sum front + here

-- a full page that has the place is split into two halves
pub record IsHalved (old : List ℕ) (place : ℕ) (new : List ℕ) : Type 0 where
  pub front : List ℕ
  pub back : List ℕ
  pub was : old ≡ front ++ full_page ∷ back
  pub now : new ≡ front ++ half_page ∷ half_page ∷ back
  pub from : sum front ≤ place
  pub upto : place ≤ sum front + full_page

-- `by` more records at a place among the others: its page takes them, and is first split if it is full
abbrev pub IsPutAmong : List ℕ → ℕ → ℕ → List ℕ → Type 0
IsPutAmong old place by new =
    IsGrown old place by new ⊎ ((halved : List ℕ) × IsHalved old place halved × IsGrown halved place by new)

-- each page but the last is full
abbrev pub AreFull : List ℕ → Type 0
AreFull pages = All (λ n. n ≡ full_page) (take (length pages - 1) pages)

-- p is one of these pages: the list has its length, and its first place is after all records of the pages before it
pub record IsOneOf (pages : List ℕ) (p : PageTotals) : Type 0 where
  pub front : List ℕ
  pub back : List ℕ
  pub are : pages ≡ front ++ p.len ∷ back
  pub first : p.first ≡ sum front

-- The frames near the first changes, one change after another.
use Rattle.std.proofs.Common.{◌≡◌, ℕ, ◌+◌, ◌-◌, ◌<◌, ◌≤◌, ◌⊎◌, inl, inr, Bool, true, false, List, [], ◌++◌, length, Option, None, Some, sym, subst, arith}
use Rattle.std.specs.Prelude.{IfSome}
use Rattle.std.specs.Option.{option_to_list}
use Rattle.std.proofs.lemmas.Bool.{cases_lt, cases_order}
use Rattle.event_frames.specs.{Frame, Change, IsFrame, IsListOf, IsNear, IsNearOne, window_of, is_true_in, IsBehind}
use Rattle.event_frames.proofs.Framing.{true_within}
use Rattle.event_frames.proofs.Listing.{IsListBelow, list_keep, list_more, list_none}

-- the frames near one of the first changes
abbrev pub IsNearFrame : List Bool → ℕ → List Change → ℕ → Frame → Type 0
IsNearFrame truths least cs n f = IsFrame truths least f × IsNearOne cs n f

-- what the search before a window gives
pub record IsBefore (truths : List Bool) (least k seen : ℕ) (o : Option Frame) : Type 0 where
  pub frame : IfSome o (IsFrame truths least)
  pub near : IfSome o (IsNear k)
  pub from : IfSome o (λ f. seen ≤ f.from)
  pub upto : IfSome o (λ f. f.from ≤ k)
  pub all : (f : Frame) → IsFrame truths least f → IsNear k f → seen ≤ f.from → f.from ≤ k → o ≡ Some f

-- what the search after a window gives
pub record IsAfter (truths : List Bool) (least k : ℕ) (o : Option Frame) : Type 0 where
  pub frame : IfSome o (IsFrame truths least)
  pub near : IfSome o (λ f. k ≤ f.upto + 1)
  pub at : IfSome o (λ f. f.from ≡ k + 1)
  pub all : (f : Frame) → IsFrame truths least f → k ≤ f.upto + 1 → f.from ≡ k + 1 → o ≡ Some f

-- the frames near the changes so far, or near the next one and not after it
abbrev IsMid : List Bool → ℕ → List Change → ℕ → ℕ → Frame → Type 0
IsMid truths least cs i k f = IsNearFrame truths least cs i f ⊎ (IsFrame truths least f × (IsNear k f × (f.from ≤ k)))

mid_new : (truths : List Bool) (least : ℕ) (cs : List Change) (i k seen : ℕ) (o : Option Frame) → IsBefore truths least k seen o
    → IfSome o (λ f. (seen ≤ f.from) × (f.from < k + 1) × IsMid truths least cs i k f)
mid_new truths least cs i k seen None is = tt
mid_new truths least cs i k seen (Some f) is =
    let early : f.from ≤ k = is.upto in (is.from, omega arith, inr (is.frame, (is.near, is.upto)))

after_new : (truths : List Bool) (least : ℕ) (cs : List Change) (i k : ℕ) (o : Option Frame) → window_of cs i ≡ k
    → IsAfter truths least k o
    → IfSome o (λ f. (k + 1 ≤ f.from) × (f.from < k + 2) × IsNearFrame truths least cs (i + 1) f)
after_new truths least cs i k None here is = tt
after_new truths least cs i k (Some f) here is =
    let at : f.from ≡ k + 1 = is.at in
    let near : k ≤ f.upto + 1 = is.near in (
      omega arith,
      omega arith,
      (
        is.frame,
        record {
          place = i;
          early = omega arith;
          near = subst (λ n. IsNear n f) (sym here) (record { begins = omega arith; ends = near });
        },
      ),
    )

-- a frame that begins before what was seen, and is near the next change, is near the one before
near_before : (cs : List Change) (i k seen : ℕ) (f : Frame) → (i ≡ 0 → seen ≡ 0) → (0 < i → window_of cs (i - 1) + 2 ≡ seen)
    → (0 < i → window_of cs (i - 1) < k) → IsNear k f → f.from < seen → IsNearOne cs i f
near_before cs i k seen f none some rises near early = grind arith

mid_back : (truths : List Bool) (least : ℕ) (cs : List Change) (i k seen : ℕ) (o : Option Frame) → (i ≡ 0 → seen ≡ 0)
    → (0 < i → window_of cs (i - 1) + 2 ≡ seen) → (0 < i → window_of cs (i - 1) < k) → IsBefore truths least k seen o
    → (f : Frame) → IsMid truths least cs i k f → IsNearFrame truths least cs i f ⊎ (o ≡ Some f)
mid_back truths least cs i k seen o none some rises is f (inl old) = inl old
mid_back truths least cs i k seen o none some rises is f (inr new) =
    elim (cases_lt f.from seen) as (λ _. IsNearFrame truths least cs i f ⊎ (o ≡ Some f)) [
      | inl early ↦ inl (new.0, near_before cs i k seen f none some rises new.1.0 early)
      | inr late ↦ inr (is.all f new.0 new.1.0 late new.1.1)
    ]

after_there : (truths : List Bool) (least : ℕ) (cs : List Change) (i k : ℕ) → window_of cs i ≡ k
    → (f : Frame) → IsMid truths least cs i k f → IsNearFrame truths least cs (i + 1) f
after_there truths least cs i k here f (inl old) =
    (old.0, record { place = old.1.place; early = (let early = old.1.early in omega (arith, early)); near = old.1.near })
after_there truths least cs i k here f (inr new) =
    (new.0, record { place = i; early = omega arith; near = subst (λ n. IsNear n f) (sym here) new.1.0 })

after_back : (truths : List Bool) (least : ℕ) (cs : List Change) (i k : ℕ) (o : Option Frame) → window_of cs i ≡ k
    → IsAfter truths least k o
    → (f : Frame) → IsNearFrame truths least cs (i + 1) f → IsMid truths least cs i k f ⊎ (o ≡ Some f)
after_back truths least cs i k o here is f so = grind arith

-- one change more
pub near_step : (truths : List Bool) (least : ℕ) (cs : List Change) (i k seen : ℕ) (fs : List Frame) (o p : Option Frame)
    → window_of cs i ≡ k → (i ≡ 0 → seen ≡ 0) → (0 < i → window_of cs (i - 1) + 2 ≡ seen)
    → (0 < i → window_of cs (i - 1) < k) → IsBefore truths least k seen o → IsAfter truths least k p
    → IsListBelow (IsNearFrame truths least cs i) seen fs
    → IsListBelow (IsNearFrame truths least cs (i + 1)) (k + 2) ((fs ++ option_to_list o) ++ option_to_list p)
near_step truths least cs i k seen fs o p here none some rises before after is =
    let low : seen ≤ k + 1 = grind arith in
    list_more (IsMid truths least cs i k) (IsNearFrame truths least cs (i + 1)) (k + 1) (k + 2) (fs ++ option_to_list o) p
    (list_more (IsNearFrame truths least cs i) (IsMid truths least cs i k) seen (k + 1) fs o is low
    (mid_new truths least cs i k seen o before) (λ g old. inl old) (mid_back truths least cs i k seen o none some rises before))
    (omega arith) (after_new truths least cs i k p here after) (after_there truths least cs i k here)
    (after_back truths least cs i k p here after)

-- the frames near the changes so far, and the window from which on none is seen yet
pub record IsNearSoFar (truths : List Bool) (least : ℕ) (cs : List Change) (i seen : ℕ) (fs : List Frame) : Type 0 where
  pub list : IsListBelow (IsNearFrame truths least cs i) seen fs
  pub none : i ≡ 0 → seen ≡ 0
  pub some : 0 < i → window_of cs (i - 1) + 2 ≡ seen

-- the frames that begin before a window, before which the calculation is not true
pub record IsListed (truths : List Bool) (least at : ℕ) (fs : List Frame) : Type 0 where
  pub list : IsListBelow (λ f. IsFrame truths least f × (f.from < at)) at fs
  pub start : (j : ℕ) → j + 1 ≡ at → is_true_in truths j ≡ false

-- nothing is listed yet
pub listed_none : (truths : List Bool) (least : ℕ) → IsListed truths least 0 []
listed_none truths least = grind (arith, list_none)

listed_new : (truths : List Bool) (least at behind : ℕ) (o : Option Frame) → at ≤ behind
    → IfSome o (IsFrame truths least) → IfSome o (λ f. f.from ≡ at)
    → IfSome o (λ f. (at ≤ f.from) × (f.from < behind + 1) × (IsFrame truths least f × (f.from < behind + 1)))
listed_new truths least at behind None order frame from = tt
listed_new truths least at behind (Some f) order frame from =
    let is : f.from ≡ at = from in (omega arith, omega arith, (frame, omega arith))

listed_back : (truths : List Bool) (least at behind : ℕ) (o : Option Frame) → IsBehind truths at behind
    → ((f : Frame) → IsFrame truths least f → f.from ≡ at → o ≡ Some f) → (f : Frame) → IsFrame truths least f
    → f.from < behind + 1 → (IsFrame truths least f × (f.from < at)) ⊎ (o ≡ Some f)
listed_back truths least at behind o is all f frame early =
    elim (cases_order f.from at) as (λ _. (IsFrame truths least f × (f.from < at)) ⊎ (o ≡ Some f)) [
      | inl same ↦ inr (all f frame same)
      | inr apart ↦
          elim apart as (λ _. (IsFrame truths least f × (f.from < at)) ⊎ (o ≡ Some f)) [
            | inl less ↦ inl (frame, less)
            | inr more ↦
                let gap : is_true_in truths (f.from - 1) ≡ false = frame.before (f.from - 1) (omega arith) in
                let in_it : is_true_in truths (f.from - 1) ≡ true = is.inside (f.from - 1) (omega arith) (omega arith) in
                absurd (cc)
          ]
    ]

-- the windows from a first one on, up to the one after the true ones
pub listed_more : (truths : List Bool) (least at behind : ℕ) (fs : List Frame) (o : Option Frame) → IsListed truths least at fs
    → IsBehind truths at behind → IfSome o (IsFrame truths least) → IfSome o (λ f. f.from ≡ at)
    → ((f : Frame) → IsFrame truths least f → f.from ≡ at → o ≡ Some f)
    → IsListed truths least (behind + 1) (fs ++ option_to_list o)
listed_more truths least at behind fs o is end frame from all = record {
  list = list_more (λ f. IsFrame truths least f × (f.from < at)) (λ f. IsFrame truths least f × (f.from < behind + 1)) at (behind + 1)
      fs o is.list (let order = end.order in omega (arith, order)) (listed_new truths least at behind o end.order frame from)
      (λ f old. (old.0, (let less = old.1 in let order = end.order in omega (arith, less, order))))
      (λ f so. listed_back truths least at behind o end all f so.0 so.1);
  start = λ j is. subst (λ n. is_true_in truths n ≡ false) (let e : behind ≡ j = omega arith in e) end.gap;
}

-- after the last window all are listed
pub listed_all : (truths : List Bool) (least at : ℕ) (fs : List Frame) → length truths ≤ at → IsListed truths least at fs
    → IsListOf (IsFrame truths least) fs
listed_all truths least at fs past is = grind (arith, list_keep, true_within)

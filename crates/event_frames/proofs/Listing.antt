-- Lists of the frames of which something is so, one frame after another.
use Rattle.std.proofs.Common.{◌≡◌, ℕ, ◌<◌, ◌≤◌, ◌⊎◌, inl, inr, List, [], ◌∷◌, ◌++◌, length, get_or, Option, None, Some, sym, subst, arith}
use Rattle.std.specs.Prelude.{All, AllPairs, IfSome}
use Rattle.std.specs.Option.{option_to_list}
use Rattle.std.proofs.lemmas.Bool.{cases_order}
use Rattle.std.proofs.lemmas.List.{append-nil, get_or_append_left, get_or_push, length_push}
use Rattle.std.proofs.lemmas.List.Elements.{All-push}
use Rattle.std.proofs.lemmas.List.Quantifiers.{all_pairs_push}
use Rattle.event_frames.specs.{Frame, IsListOf}

-- a list of frames that all begin before a window
pub record IsListBelow (P : Frame → Type 0) (t : ℕ) (fs : List Frame) : Type 0 where
  pub list : IsListOf P fs
  pub below : All (λ f. f.from < t) fs

-- no frames
pub list_none : (P : Frame → Type 0) (t : ℕ) → ((f : Frame) → P f → ⊥) → IsListBelow P t []
list_none P t none = grind arith

-- the same frames, of which something else is so
pub list_keep : (P Q : Frame → Type 0) (s t : ℕ) (fs : List Frame) → IsListBelow P s fs → s ≤ t
    → ((f : Frame) → P f → Q f) → ((f : Frame) → Q f → P f) → IsListBelow Q t fs
list_keep P Q s t fs is more there back = grind arith

-- one frame more
pub list_push : (P Q : Frame → Type 0) (s t : ℕ) (fs : List Frame) (f : Frame) → IsListBelow P s fs → s ≤ t → s ≤ f.from
    → f.from < t → Q f → ((g : Frame) → P g → Q g) → ((g : Frame) → Q g → P g ⊎ (g ≡ f)) → IsListBelow Q t (fs ++ f ∷ [])
list_push P Q s t fs f is more after before so there back = record {
  list = record {
    by_from = all_pairs_push (λ g h. g.from < h.from) fs f is.list.by_from
        (λ k d inside. let less = is.below k d inside in omega (arith, less));
    only = All-push Q fs f (λ k d inside. there (get_or fs k d) (is.list.only k d inside)) so;
    all = grind (arith, length_push, get_or_append_left, get_or_push);
  };
  below = All-push (λ g. g.from < t) fs f (λ k d inside. let less = is.below k d inside in omega (arith, less)) before;
}

-- one frame more, where there is one
pub list_more : (P Q : Frame → Type 0) (s t : ℕ) (fs : List Frame) (o : Option Frame) → IsListBelow P s fs → s ≤ t
    → IfSome o (λ f. (s ≤ f.from) × (f.from < t) × Q f) → ((g : Frame) → P g → Q g)
    → ((g : Frame) → Q g → P g ⊎ (o ≡ Some g)) → IsListBelow Q t (fs ++ option_to_list o)
list_more P Q s t fs None is more new there back =
    subst (IsListBelow Q t) (sym (append-nil fs))
    (list_keep P Q s t fs is more there (λ g so. elim (back g so) [ inl old ↦ old | inr one ↦ absurd (cc) ]))
list_more P Q s t fs (Some f) is more new there back =
    list_push P Q s t fs f is more new.0 new.1 new.2 there
    (λ g so. elim (back g so) as (λ _. P g ⊎ (g ≡ f)) [ inl old ↦ inl old | inr one ↦ inr (cc) ])

-- frames with one first window are one frame, in a list
pub same_place : (fs : List Frame) → AllPairs (λ f g. f.from < g.from) fs → (i j : ℕ) (d : Frame) → i < length fs
    → j < length fs → (get_or fs i d).from ≡ (get_or fs j d).from → i ≡ j
same_place fs rising i j d first second same = grind (arith, cases_order)

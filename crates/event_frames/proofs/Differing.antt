-- The frames of one list that are not in another, and the edits of a change.
use Rattle.std.proofs.Common.{◌≡◌, ℕ, ◌+◌, ◌<◌, ◌≤◌, ◌⊎◌, inl, inr, Bool, true, false, List, [], ◌∷◌, ◌++◌, length, get_or, map, sym, ap, ◌∙◌, subst, arith}
use Rattle.std.specs.Prelude.{AllPairs, Contains}
use Rattle.std.proofs.lemmas.Bool.{cases_Bool, cases_lt, cases_order}
use Rattle.std.proofs.lemmas.List.{append_assoc, append-nil, get_or_default, map-append, length_push}
use Rattle.event_frames.specs.{Frame, Change, Edit, IsFrame, IsListOf, AreEdits, AddsMissing, IsChangedAt, IsEarly, IsNearOne, edit_of}
use Rattle.event_frames.proofs.Listing.{IsListBelow, list_keep, list_none, list_push}
use Rattle.event_frames.proofs.Nearing.{IsNearFrame}
use Rattle.event_frames.proofs.Changing.{near_or_stays, near_or_stood}

-- the first frames that are not among others
abbrev IsMissing : List Frame → List Frame → ℕ → Frame → Type 0
IsMissing frames others n f = IsEarly frames n f × ¬ Contains others f

-- a frame that is not where it would be is not among others
pub not_among : (others : List Frame) (f : Frame) (place : ℕ) → AllPairs (λ g h. g.from < h.from) others
    → ((j : ℕ) → j < place → (get_or others j f).from < f.from)
    → (place < length others → f.from ≤ (get_or others place f).from)
    → (place < length others → get_or others place f ≡ f → ⊥) → Contains others f → ⊥
not_among others f place rising before behind not_here is =
    let j = is.0 in
    let there = is.1 in
    let from : (get_or others j f).from ≡ f.from = ap (λ (g : Frame). g.from) is.2 in
    elim (cases_order j place) [
      | inl here ↦ not_here (omega (arith, there)) (sym (ap (λ i. get_or others i f) here) ∙ is.2)
      | inr apart ↦
          elim apart [
            | inl less ↦ let low = before j less in omega (arith, low, from)
            | inr more ↦
                let low = behind (omega (arith, there)) in
                let rise = rising place j f more there in omega (arith, low, rise, from)
          ]
    ]

-- no frame is looked at yet
pub missing_none : (edits : List Edit) (came : Bool) (frames others : List Frame) → AddsMissing edits edits came frames others 0
missing_none edits came frames others = record {
  missing = [];
  edits = sym (append-nil edits);
  few = omega arith;
  are = (list_none (IsMissing frames others 0) 0 (λ f is. let early = is.0.1 in omega (arith, early))).list;
}

-- the frames that are missing so far begin before the next one
missing_below : (frames others : List Frame) (i : ℕ) (f : Frame) (fs : List Frame) → AllPairs (λ g h. g.from < h.from) frames
    → i < length frames → get_or frames i f ≡ f → IsListOf (IsMissing frames others i) fs
    → IsListBelow (IsMissing frames others i) f.from fs
missing_below frames others i f fs rising inside here is = record {
  list = is;
  below = λ k d within.
      let early = (is.only k d within).0 in
      let x = get_or fs k d in
      let rise : (get_or frames early.0 x).from < (get_or frames i x).from = rising early.0 i x early.1 inside in
      let first : (get_or frames early.0 x).from ≡ x.from = ap (λ (g : Frame). g.from) early.2 in
      let second : (get_or frames i x).from ≡ f.from =
      ap (λ (g : Frame). g.from) (get_or_default frames i x f inside ∙ here) in
      omega (arith, rise, first, second);
}

missing_there : (frames others : List Frame) (i : ℕ) (g : Frame) → IsMissing frames others i g → IsMissing frames others (i + 1) g
missing_there frames others i g is = ((is.0.0, (let early = is.0.1 in omega (arith, early)), is.0.2), is.1)

missing_back : (frames others : List Frame) (i : ℕ) (f g : Frame) → i < length frames → get_or frames i f ≡ f
    → IsMissing frames others (i + 1) g → IsMissing frames others i g ⊎ (g ≡ f)
missing_back frames others i f g inside here is =
    let early = is.0.1 in
    elim (cases_lt is.0.0 i) as (λ _. IsMissing frames others i g ⊎ (g ≡ f)) [
      | inl before ↦ inl ((is.0.0, before, is.0.2), is.1)
      | inr last ↦
          let place : is.0.0 ≡ i = omega (arith, early) in
          inr (sym is.0.2 ∙ (ap (λ n. get_or frames n g) place ∙ (get_or_default frames i g f inside ∙ here)))
    ]

-- one frame more that is not among the others
pub missing_more : (before after : List Edit) (came : Bool) (frames others : List Frame) (i : ℕ) (f : Frame)
    → AllPairs (λ g h. g.from < h.from) frames → i < length frames → get_or frames i f ≡ f → (Contains others f → ⊥)
    → AddsMissing before after came frames others i
    → AddsMissing before (after ++ edit_of came f ∷ []) came frames others (i + 1)
missing_more before after came frames others i f rising inside here new is = record {
  missing = is.missing ++ f ∷ [];
  edits = ap (λ (es : List Edit). es ++ edit_of came f ∷ []) is.edits
      ∙ (append_assoc before (map (edit_of came) is.missing) (edit_of came f ∷ [])
      ∙ ap (λ (es : List Edit). before ++ es) (sym (map-append (edit_of came) is.missing (f ∷ []))));
  few = omega (arith, is.few, length_push is.missing f);
  are = (list_push (IsMissing frames others i) (IsMissing frames others (i + 1)) f.from (f.from + 1) is.missing f
      (missing_below frames others i f is.missing rising inside here is.are) (omega arith) (omega arith) (omega arith)
      ((i, omega arith, here), new) (missing_there frames others i)
      (λ g so. missing_back frames others i f g inside here so)).list;
}

-- one frame more that is among them
pub missing_same : (before after : List Edit) (came : Bool) (frames others : List Frame) (i : ℕ) (f : Frame)
    → AllPairs (λ g h. g.from < h.from) frames → i < length frames → get_or frames i f ≡ f → Contains others f
    → AddsMissing before after came frames others i → AddsMissing before after came frames others (i + 1)
missing_same before after came frames others i f rising inside here old is = record {
  missing = is.missing;
  edits = is.edits;
  few = (let few = is.few in omega (arith, few));
  are = (list_keep (IsMissing frames others i) (IsMissing frames others (i + 1)) f.from f.from is.missing
      (missing_below frames others i f is.missing rising inside here is.are) (omega arith) (missing_there frames others i)
      (λ g so. elim (missing_back frames others i f g inside here so) [
        | inl before ↦ before
        | inr same ↦ absurd (so.1 (subst (Contains others) (sym same) old))
      ])).list;
}

-- the frames near changes that are in one list and not in the other are those of the one row and not of the other
difference : (one two : List Bool) (least : ℕ) (cs : List Change) (n : ℕ) (fs gs hs : List Frame)
    → ((f : Frame) → IsFrame one least f → IsNearOne cs n f ⊎ IsFrame two least f)
    → IsListOf (IsNearFrame one least cs n) fs → IsListOf (IsNearFrame two least cs n) gs
    → IsListOf (IsMissing fs gs (length fs)) hs
    → IsListOf (λ f. IsFrame one least f × ¬ IsFrame two least f) hs
difference one two least cs n fs gs hs stays first second is =
    let of_one : (f : Frame) → Contains fs f → IsNearFrame one least cs n f =
    λ f at. subst (IsNearFrame one least cs n) at.2 (first.only at.0 f at.1) in
    let of_two : (f : Frame) → Contains gs f → IsNearFrame two least cs n f =
    λ f at. subst (IsNearFrame two least cs n) at.2 (second.only at.0 f at.1) in
    record {
      by_from = is.by_from;
      only = λ k d inside.
          let so = is.only k d inside in
          let f = get_or hs k d in
          let near = of_one f so.0 in
          (near.0, λ other. so.1 (second.all f (other, near.1)));
      all = λ f so. is.all f
          (elim (stays f so.0) as (λ _. IsMissing fs gs (length fs) f) [
            | inl near ↦ (first.all f (so.0, near), λ at. so.1 (of_two f at).0)
            | inr stood ↦ absurd (so.1 stood)
          ]);
    }

-- the edits of a change
pub edits_are : (old new : List Bool) (least : ℕ) (cs : List Change) (n : ℕ) (os ns : List Frame) (first second : List Edit)
    → IsChangedAt old new cs n → IsListOf (IsNearFrame old least cs n) os → IsListOf (IsNearFrame new least cs n) ns
    → AddsMissing [] first false os ns (length os) → AddsMissing first second true ns os (length ns)
    → AreEdits old new least second
edits_are old new least cs n os ns first second is olds news gone came = record {
  gone = gone.missing;
  came = came.missing;
  told = came.edits ∙ ap (λ (es : List Edit). es ++ map (edit_of true) came.missing) gone.edits;
  are_gone = difference old new least cs n os ns gone.missing (λ f frame. near_or_stays old new cs n least f is frame) olds news gone.are;
  have_come = difference new old least cs n ns os came.missing (λ f frame. near_or_stood old new cs n least f is frame) news olds came.are;
}

-- the frames that were looked at, and the place in the others up to which all begin before the next one
pub record IsMissingSoFar (before now : List Edit) (came : Bool) (frames others : List Frame) (i place : ℕ) : Type 0 where
  pub added : AddsMissing before now came frames others i
  pub within : place ≤ length others
  pub low : (j m : ℕ) (d : Frame) → j < place → i ≤ m → m < length frames → (get_or others j d).from < (get_or frames m d).from

-- one more frame, which is reported if it is not among the others
pub missing_step : (before now new : List Edit) (came : Bool) (frames others : List Frame) (i place next : ℕ) (tells : Bool) (f : Frame)
    → AllPairs (λ g h. g.from < h.from) frames → AllPairs (λ g h. g.from < h.from) others → i < length frames
    → get_or frames i f ≡ f → IsMissingSoFar before now came frames others i place → next ≤ length others
    → ((j : ℕ) (d : Frame) → place ≤ j → j < next → (get_or others j d).from < f.from)
    → ((d : Frame) → next < length others → f.from ≤ (get_or others next d).from)
    → (tells ≡ true → next < length others → get_or others next f ≡ f → ⊥)
    → (tells ≡ false → (next < length others) × (get_or others next f ≡ f))
    → (tells ≡ true → new ≡ now ++ edit_of came f ∷ []) → (tells ≡ false → new ≡ now)
    → IsMissingSoFar before new came frames others (i + 1) next
missing_step before now new came frames others i place next tells f rising others_rise inside here was within before_f behind_f missing there told same =
    let low_f : (j : ℕ) (d : Frame) → j < next → (get_or others j d).from < f.from = λ j d less.
    elim (cases_lt j place) [
      | inl early ↦
          let low = was.low j i d early (omega arith) inside in
          let at : (get_or frames i d).from ≡ f.from =
          ap (λ (g : Frame). g.from) (get_or_default frames i d f inside ∙ here) in omega (arith, low, at)
      | inr late ↦ before_f j d late less
    ] in
    record {
      added = elim (cases_Bool tells) [
        | inl telling ↦ subst (λ (es : List Edit). AddsMissing before es came frames others (i + 1)) (sym (told telling))
            (missing_more before now came frames others i f rising inside here
            (not_among others f next others_rise (λ j less. low_f j f less) (λ reach. behind_f f reach) (missing telling)) was.added)
        | inr silent ↦
            let at = there silent in
            subst (λ (es : List Edit). AddsMissing before es came frames others (i + 1)) (sym (same silent))
            (missing_same before now came frames others i f rising inside here (next, at.0, at.1) was.added)
      ];
      within = within;
      low = λ j m d early late reach.
          let low = low_f j d early in
          let at : (get_or frames i d).from ≡ f.from =
          ap (λ (g : Frame). g.from) (get_or_default frames i d f inside ∙ here) in
          let rise = rising i m d (omega arith) reach in omega (arith, low, at, rise);
    }

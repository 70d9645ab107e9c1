-- What is listed is determined: the frames of which something is so have one list.
use Rattle.std.proofs.Common.{◌≡◌, ℕ, zero, suc, ◌<◌, ◌⊎◌, inl, inr, Bool, List, [], ◌∷◌, length, get_or, refl, sym, ap, ◌∙◌, subst, arith}
use Rattle.std.specs.Prelude.{AllPairs, Contains}
use Rattle.event_frames.specs.{Frame, Edit, IsFrame, IsListOf, AreEdits}

-- a frame that begins after the first one of a list is among the others
tail_at : (x : Frame) (xs : List Frame) (f : Frame) → x.from < f.from → (i : ℕ) → i < length (x ∷ xs)
    → get_or (x ∷ xs) i f ≡ f → Contains xs f
tail_at x xs f less zero inside is = let same : x.from ≡ f.from = ap (λ (g : Frame). g.from) is in absurd (omega (arith, same))
tail_at x xs f less (suc i) inside is = (i, omega arith, is)

-- the others are those that begin after the first one
tail_list : (P : Frame → Type 0) (x : Frame) (xs : List Frame) → IsListOf P (x ∷ xs)
    → IsListOf (λ f. P f × (x.from < f.from)) xs
tail_list P x xs is = record {
  by_from = λ i j d less inside. is.by_from (suc i) (suc j) d (omega arith) (omega arith);
  only = λ k d inside. (is.only (suc k) d (omega arith), is.by_from zero (suc k) d (omega arith) (omega arith));
  all = λ f so. let at = is.all f so.0 in tail_at x xs f so.1 at.0 at.1 at.2;
}

-- the first frame of a list is a frame of it, or begins before it
first_or_before : (y : Frame) (ys : List Frame) (x : Frame) → AllPairs (λ f g. f.from < g.from) (y ∷ ys) → (i : ℕ)
    → i < length (y ∷ ys) → get_or (y ∷ ys) i x ≡ x → (y ≡ x) ⊎ (y.from < x.from)
first_or_before y ys x rising zero inside is = inl is
first_or_before y ys x rising (suc i) inside is =
    let rise : y.from < (get_or ys i x).from = rising zero (suc i) x (omega arith) inside in
    let same : (get_or ys i x).from ≡ x.from = ap (λ (g : Frame). g.from) is in
    inr (omega (arith, rise, same))

-- two such lists have the same first frame
first_same : (P : Frame → Type 0) (x y : Frame) (xs ys : List Frame) → IsListOf P (x ∷ xs) → IsListOf P (y ∷ ys) → x ≡ y
first_same P x y xs ys one two = grind (arith, first_or_before)

-- the frames of which something is so have one list
pub list_unique : (P : Frame → Type 0) (xs ys : List Frame) → IsListOf P xs → IsListOf P ys → xs ≡ ys
list_unique P [] [] one two = refl
list_unique P [] (y ∷ ys) one two =
    let at = one.all y (two.only zero y (omega arith)) in absurd (let inside = at.1 in omega (arith, inside))
list_unique P (x ∷ xs) [] one two =
    let at = two.all x (one.only zero x (omega arith)) in absurd (let inside = at.1 in omega (arith, inside))
list_unique P (x ∷ xs) (y ∷ ys) one two =
    let same = first_same P x y xs ys one two in
    let rest = list_unique (λ f. P f × (x.from < f.from)) xs ys (tail_list P x xs one)
    (subst (λ (z : Frame). IsListOf (λ f. P f × (z.from < f.from)) ys) (sym same) (tail_list P y ys two)) in
    ap (λ (z : Frame). z ∷ xs) same ∙ ap (λ (zs : List Frame). y ∷ zs) rest

-- a change has one list of edits
pub edits_unique : (old new : List Bool) (least : ℕ) (es ds : List Edit) → AreEdits old new least es
    → AreEdits old new least ds → es ≡ ds
edits_unique old new least es ds one two =
    let gone = list_unique (λ f. IsFrame old least f × ¬ IsFrame new least f) one.gone two.gone one.are_gone two.are_gone in
    let came = list_unique (λ f. IsFrame new least f × ¬ IsFrame old least f) one.came two.came one.have_come two.have_come in
    one.told ∙ (grind arith)

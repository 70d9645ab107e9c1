-- When frames begin and end.
use Rattle.std.proofs.Common.{◌≡◌, ℕ, ◌+◌, ◌<◌, ◌≤◌, inl, inr, All, Bool, true, false, List, length, get_or, map, sym, subst, arith}
use Rattle.std.proofs.lemmas.Bool.{cases_lt}
use Rattle.std.proofs.lemmas.List.{get_or_past}
use Rattle.std.proofs.lemmas.List.Elements.{All-append, All-map, All-weaker}
use Rattle.std.proofs.lemmas.Nat.{mul-le}
use Rattle.tag_base.specs.{GroupDef}
use Rattle.event_frames.specs.{Edit, Frame, AreEdits, AreFrames, IsFrame}
use Rattle.event_frames.specs.declared.frame.Edit.TheVariants.{Gone, New}
use Rattle.store_commands.specs.{AreTimes, IsFrameTimed, frame_of}

-- the last window of a frame is one of its row
within_row : (truths : List Bool) (least : ℕ) (f : Frame) → IsFrame truths least f → f.upto < length truths
within_row truths least f is = elim (cases_lt f.upto (length truths)) [
  | inl below ↦ below
  | inr past ↦
      let holds : get_or truths f.upto false ≡ true = is.inside f.upto is.order (omega arith) in
      let none : get_or truths f.upto false ≡ false = get_or_past truths f.upto false past in
      absurd (cc (holds, none))
]

-- a frame of a row of so many windows that end at times
pub timed : (g : GroupDef) (n : ℕ) (truths : List Bool) (least : ℕ) (f : Frame) → 1 ≤ g.period → AreTimes g n → length truths ≤ n
    → IsFrame truths least f → IsFrameTimed g f
timed g n truths least f some times few is =
    let below = within_row truths least f is in
    let end = times f.upto (omega (arith, below, few)) in
    let order = is.order in
    let before = mul-le f.from g.period (f.upto + 1) g.period (omega (arith, order)) (omega arith) in
    let many = mul-le (f.upto + 1) 1 (f.upto + 1) g.period (omega arith) some in
    record {
      few = omega (arith, end, many);
      begins = omega (arith, end, before);
      ends = end;
    }

-- all frames of a row
pub timed_frames : (g : GroupDef) (n : ℕ) (truths : List Bool) (least : ℕ) (fs : List Frame) → 1 ≤ g.period → AreTimes g n
    → length truths ≤ n → AreFrames truths least fs → All (IsFrameTimed g) fs
timed_frames g n truths least fs some times few are =
    All-weaker (IsFrame truths least) (IsFrameTimed g) (λ f is. timed g n truths least f some times few is) fs are.only

-- all edits from one row to another
pub timed_edits : (g : GroupDef) (n : ℕ) (old new : List Bool) (least : ℕ) (es : List Edit) → 1 ≤ g.period → AreTimes g n
    → length old ≤ n → length new ≤ n → AreEdits old new least es → All (λ e. IsFrameTimed g (frame_of e)) es
timed_edits g n old new least es some times few more are =
    subst (All (λ e. IsFrameTimed g (frame_of e))) (sym are.told)
    (All-append (λ e. IsFrameTimed g (frame_of e)) (map Gone are.gone) (map New are.came)
    (All-map (λ e. IsFrameTimed g (frame_of e)) Gone are.gone
    (All-weaker (λ f. IsFrame old least f × ¬ IsFrame new least f) (IsFrameTimed g) (λ f is. timed g n old least f some times few is.0)
    are.gone are.are_gone.only))
    (All-map (λ e. IsFrameTimed g (frame_of e)) New are.came
    (All-weaker (λ f. IsFrame new least f × ¬ IsFrame old least f) (IsFrameTimed g) (λ f is. timed g n new least f some times more is.0)
    are.came are.have_come.only)))

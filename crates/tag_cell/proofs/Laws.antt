-- A replayed tape is legal for every history for which its opening stands.
use Rattle.std.proofs.Common.{arith, ◌≡◌, ℕ, Bool, List, [], ◌∷◌, ◌++◌, map, sym, subst}
use Rattle.trend_num.specs.{Point, TagDef}
use Rattle.trend_model.specs.{Event, Origin, Raw, in_force}
use Rattle.trend_model.specs.State.{State, Stands, followed, replay}
use Rattle.trend_model.proofs.Sent.{same_there}
use Rattle.trend_model.proofs.StateLaw.{stands_followed}
use Rattle.tag_cell.specs.{Entry, TagOpening, CellWalk, after_entry, taken, opened, state_after, done, Shown, IsTake, IsAnswer, IsPull, Fits, FitAll, shown_by, shown_of, IsTapeReplayed, IsLegal}
use Rattle.tag_cell.specs.declared.entry.Entry.TheVariants.{Take, Ask, Pull, Commit}

-- two accounts of what a tag shows agree, so an entry fits one of them if it fits the other
same_fits : (f g : List Point → Shown) (step : Bool) (o : TagOpening) (w : CellWalk) (e : Entry)
    → ((ps : List Point) → f ps ≡ g ps) → Fits f step o w e → Fits g step o w e
same_fits f g step o w (Take collector row p h n) same fits =
    subst (λ (b : Shown). IsTake b (g (w.points ++ p ∷ [])) h n) (same w.points)
    (subst (λ (s : Shown). IsTake (f w.points) s h n) (same (w.points ++ p ∷ [])) fits)
same_fits f g step o w (Ask reader row q a) same fits = subst (λ (s : Shown). IsAnswer step s q a) (same w.points) fits
same_fits f g step o w (Pull group first upto) same fits =
    subst (λ (s : Shown). IsPull s first upto) (same (done o w)) fits
same_fits f g step o w (Commit moment acked) same fits = fits

-- and so do all entries
all_same : (f g : List Point → Shown) (step : Bool) (o : TagOpening) (w : CellWalk) (es : List Entry)
    → ((ps : List Point) → f ps ≡ g ps) → FitAll f step o w es → FitAll g step o w es
all_same f g step o w [] same fits = fits
all_same f g step o w (e ∷ es) same fits =
    (same_fits f g step o w e same fits.0, all_same f g step o (after_entry w e) es same fits.1)

-- what stands for a history shows what the history does
same_shown : (org : Origin) (h : List Event) (s : State) → Stands org h s → shown_of s ≡ shown_by org h
same_shown org h s stands = λ i. record { records = stands.same_records i; held = stands.same_held i }

pub legal : (org : Origin) (h : List Event) (def : TagDef) (o : TagOpening) (tape : List Entry) (s : State) (acked : ℕ)
    → org.step ≡ def.step → Stands org h (opened o) → IsTapeReplayed def o tape s acked → IsLegal org h def o tape s acked
legal org h def o tape s acked step stands is =
    let at : (ps : List Point) → Stands org (followed h (map Raw ps)) (state_after def.step o ps) =
    λ ps. subst (λ (b : Bool). Stands org (followed h (map Raw ps)) (replay b (opened o) (map Raw ps))) step
    (stands_followed org h (map Raw ps) (opened o) stands) in
    record {
      tuning = same_there o.summary.tuning def.tuning (in_force org h) is.tuning stands.tuned;
      entries = grind (arith, all_same, same_shown);
      stands = subst (Stands org (followed h (map Raw (taken tape)))) (sym is.stands) (at (taken tape));
      acked_are = is.acked_are;
    }

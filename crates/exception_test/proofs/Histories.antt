-- A gate that follows the rules stands for one history after another.
use Rattle.std.proofs.Common.{◌≡◌, List, ◌∷◌, ◌++◌, Option, None, sym, ap, ap₂, ◌∙◌}
use Rattle.std.specs.Option.{option_or}
use Rattle.trend_num.specs.{Point, Sending, Tuning}
use Rattle.trend_model.specs.{Event, Origin, Raw, Tune, Tuned, in_force, sent, prior, pending}
use Rattle.trend_model.specs.State.{offered, gained, pushed_out}
use Rattle.trend_model.proofs.Offers.{offered_follows}
use Rattle.trend_model.proofs.Sent.{last_in_order_is, newest_is, tune_sends}
use Rattle.exception_test.specs.declared.gate.Gate.{Gate}
use Rattle.exception_test.specs.{GateStands}

-- what the rules do at a gate that stands for a history is what they do at that history's two places
offered_there : (u : Tuning) (gate : Gate) (p : Point) (o : Origin) (h : List Event) → in_force o h ≡ u → GateStands o gate h
    → offered u gate.last gate.pending p ≡ offered (in_force o h) (prior o h) (pending o h) p
offered_there u gate p o h same stands =
    ap (λ t. offered t gate.last gate.pending p) (sym same)
    ∙ ap₂ (λ s w. offered (in_force o h) s w p) (stands.last ∙ last_in_order_is o h) stands.pending

-- the gate after one more value stands for the history with it
pub stands_on : (u : Tuning) (old new : Gate) (p : Point) → new.last ≡ (offered u old.last old.pending p).last
    → new.pending ≡ (offered u old.last old.pending p).pending
    → (o : Origin) (h : List Event) → in_force o h ≡ u → GateStands o old h → GateStands o new (Raw p ∷ h)
stands_on u old new p last waits o h same stands =
    let there = offered_there u old p o h same stands in
    let follows = offered_follows o h p in
    record {
      last = last ∙ ap (λ f. f.last) there ∙ follows.last_is ∙ sym (last_in_order_is o (Raw p ∷ h));
      pending = waits ∙ ap (λ f. f.pending) there ∙ follows.pending_is;
    }

-- what it hands on is what that history sends more
pub sends_on : (u : Tuning) (old : Gate) (p : Point) (first : Option Point) (second : Option Sending)
    → first ≡ (offered u old.last old.pending p).first → second ≡ (offered u old.last old.pending p).second
    → (o : Origin) (h : List Event) → in_force o h ≡ u → GateStands o old h
    → sent o (Raw p ∷ h) ≡ gained first second ++ sent o h
sends_on u old p first second one two o h same stands =
    let there = offered_there u old p o h same stands in
    let follows = offered_follows o h p in
    let firsts = one ∙ ap (λ f. f.first) there in
    let seconds = two ∙ ap (λ f. f.second) there in
    follows.sends ∙ ap (λ more. more ++ sent o h) (sym (ap₂ gained firsts seconds))

-- a gate whose pending value is handed on stands for the history with a retuning
pub stands_flushed : (old new : Gate) → new.last ≡ option_or old.pending old.last → new.pending ≡ None
    → (o : Origin) (h : List Event) (u : Tuning) → GateStands o old h → GateStands o new (Tune u ∷ h)
stands_flushed old new last waits o h u stands = record {
  last = last ∙ ap₂ option_or stands.pending (stands.last ∙ last_in_order_is o h) ∙ sym (newest_is o h)
      ∙ sym (last_in_order_is o (Tune u ∷ h));
  pending = waits;
}

-- what it hands on is what that history sends before the tuning
pub sends_flushed : (old : Gate) (first : Option Point) → first ≡ old.pending
    → (o : Origin) (h : List Event) (u : Tuning) → GateStands o old h
    → sent o (Tune u ∷ h) ≡ Tuned u ∷ pushed_out first ++ sent o h
sends_flushed old first is o h u stands =
    tune_sends o u h ∙ ap (λ q. Tuned u ∷ pushed_out q ++ sent o h) (sym (is ∙ stands.pending))

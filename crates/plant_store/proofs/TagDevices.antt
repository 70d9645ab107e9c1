-- What the opening of one device does to a store, and for which histories the opened tag stands.
use Rattle.std.proofs.Common.{◌≡◌, ◌∙◌, ℕ, List, ◌^◌, ◌<◌, inl, Some, Result, Ok, Err, subst, sym, arith}
use Rattle.disk_model.specs.{CountsFault, sum_of_counts, Shows, Device, FitsName, Trace}
use Rattle.device_layout.specs.{OpenNo, Recovers}
use Rattle.device_layout.specs.declared.failure.OpenNo.TheVariants.{DeviceFault}
use Rattle.trend_num.specs.{TagDef}
use Rattle.disk_model.proofs.Moments.{started}
use Rattle.trend_model.specs.State.{State}
use Rattle.tag_core.specs.Core.{Core}
use Rattle.crash_recovery.specs.{IsOpenedAs, StaysSame}
use Rattle.crash_recovery.proofs.Openings.{opened_stands}
use Rattle.plant_store.specs.Groups.{DeviceTraces}
use Rattle.plant_store.specs.Tags.{IsOpened}
use Rattle.plant_store.proofs.DeviceNames.{fits}

-- of a device that is as it was a crash leaves what one before might have left
pub still : (def : TagDef) (o : Trace) → StaysSame def o o
still def t = λ countable. started t _ (record { each = λ x may. inl may })

pub untouched : (def : TagDef) (old new : Trace) → new ≡ old → StaysSame def old new
untouched def old new same = subst (λ o. StaysSame def old o) (sym same) (still def old)

-- a device that is given back under its name stays the same there
pub same_back : (def : TagDef) (name asked back : List ℕ) (first last : Device) (old new : DeviceTraces) → asked ≡ name → back ≡ name
    → first.trace ≡ old asked → first.handed.name ≡ Some asked → last.handed ≡ first.handed
    → (FitsName back last.handed → new back ≡ last.trace) → StaysSame def first.trace last.trace → StaysSame def (old name) (new name)
same_back def name asked back first last old new asked_is back_is told named handed given same =
    let own : FitsName back last.handed =
    subst (FitsName back) (sym handed) (fits first.handed asked back named (asked_is ∙ sym back_is)) in
    subst (λ n. StaysSame def (old n) (new name)) asked_is
    (subst (λ n. StaysSame def (old asked) (new n)) back_is
    (subst (λ o. StaysSame def o (new back)) told
    (subst (λ o. StaysSame def first.trace o) (sym (given own)) same)))

-- what is opened of a device stands for each history for which the device stood
pub opened_of : (def : TagDef) (o : Trace) (core : Core)
    → Shows o (λ c. (s : State) × Recovers def c s × IsOpenedAs def s core.state) → core.step ≡ def.step
    → IsOpened def o core
opened_of def t core state step = record {
  state = state;
  stands = λ p h image. opened_stands def p h _ state.0 core.state image state.1 state.2;
  step = step;
}

-- ---- faults

-- the faults of a device that had none count for the store that it is given back to
pub given_back : {T : Type 0} (r : Result T OpenNo) (first last before mid now : ℕ) → first ≡ 0
    → CountsFault r DeviceFault first last → mid ≡ before → now ≡ sum_of_counts mid last → before < 2 ^ 64
    → CountsFault r DeviceFault before now
given_back (Ok x) first last before mid now none counts same sum small = record {
  later = omega (arith, sum, same, small);
  passed = omega (arith, sum, same, small, none, counts.passed);
  failed = λ is. absurd (cc (is));
  refused = tt;
}
given_back (Err why) first last before mid now none counts same sum small = record {
  later = omega (arith, sum, same, small);
  passed = tt;
  failed = λ is. let rose = counts.failed is in omega (arith, sum, same, small, none, rose);
  refused = λ other. let kept = counts.refused other in omega (arith, sum, same, small, none, kept);
}

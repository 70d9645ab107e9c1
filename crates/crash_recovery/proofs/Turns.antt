-- What each image recovers, from call to call.
use Rattle.std.proofs.Common.{Result, OnOk, arith}
use Rattle.trend_num.specs.{TagDef}
use Rattle.trend_model.specs.State.{State}
use Rattle.disk_model.specs.{Traces.Trace, Moments.During}
use Rattle.disk_model.proofs.Moments.{weaker, in_turn, during_now, started}
use Rattle.device_layout.specs.{Recovers}
use Rattle.crash_recovery.specs.{AllRecover, RecoversEither}

-- one of two states is either
pub either_first : (o new : Trace) (def : TagDef) (s r : State) → During o new (λ c. Recovers def c s)
    → During o new (RecoversEither def s r)
either_first o new def s r during = grind (arith, weaker)

-- the second one
pub either_second : (o new : Trace) (def : TagDef) (s r : State) → During o new (λ c. Recovers def c r)
    → During o new (RecoversEither def s r)
either_second o new def s r during = grind (arith, weaker)

-- nothing was called
pub either_kept : (o : Trace) (def : TagDef) (s r : State) → AllRecover def o s
    → During o o (RecoversEither def s r)
either_kept o def s r all = either_first o o def s r (started o (λ c. Recovers def c s) all)

-- calls that leave what each image recovers, and then others
pub then_either : (a b c : Trace) (def : TagDef) (s r : State) → During a b (λ x. Recovers def x s)
    → (AllRecover def b s → During b c (RecoversEither def s r)) → During a c (RecoversEither def s r)
then_either a b c def s r ab bc = in_turn a b c (RecoversEither def s r) (either_first a b def s r ab)
    (bc (during_now a b (λ x. Recovers def x s) ab))

-- both leave it
pub then_same : (a b c : Trace) (def : TagDef) (s : State) → During a b (λ x. Recovers def x s)
    → (AllRecover def b s → During b c (λ x. Recovers def x s)) → During a c (λ x. Recovers def x s)
then_same a b c def s ab bc = in_turn a b c (λ x. Recovers def x s) ab
    (bc (during_now a b (λ x. Recovers def x s) ab))

-- others, after which each image recovers the second state, and then calls that leave it
pub then_second : (a b c : Trace) (def : TagDef) (s r : State) → During a b (RecoversEither def s r)
    → During b c (λ x. Recovers def x r) → During a c (RecoversEither def s r)
then_second a b c def s r ab bc = in_turn a b c (RecoversEither def s r) ab (either_second b c def s r bc)

-- what follows at Ok
pub on_ok : {T E A B : Type 0} (r : Result T E) → (A → B) → OnOk r A → OnOk r B
on_ok x1 so a = grind arith

-- and what holds anyhow
pub ok_always : {T E A : Type 0} (r : Result T E) → A → OnOk r A
ok_always x1 a = grind arith

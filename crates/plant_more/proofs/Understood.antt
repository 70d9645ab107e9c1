-- What the command returns is no refusal of words.
use Rattle.std.proofs.Common.{◌≢◌, Result, Ok, Err, IfErr, sym, subst}
use Rattle.plant_status.specs.declared.status.Status.{Status}
use Rattle.plant_status.specs.declared.status.Status.TheVariants.{BadWords}
use Rattle.plant_more.specs.LogHeadline.{IsOfOthers}

pub no_words : {T : Type 0} (answer : Result T Status) → IfErr answer (λ why. IsOfOthers why → ⊥) → IfErr answer (λ why. why ≢ BadWords)
no_words (Ok x) others = tt
no_words (Err why) others = λ same. others (subst IsOfOthers (sym same) tt)

use Rattle.std.proofs.Common.{arith}
use Rattle.std.proofs.lemmas.Grind.{common_steps}
use Rattle.plant_run.proofs.Words.{of_many}
use Rattle.plant_run.proofs.command_line.form_of.Goals as goal
use Rattle.plant_run.proofs.command_line.form_of.Goals.{in_default-via-then-words-lt1, in_default-via-in-len1-up+else-eq+then-words-lt1-2, in_default-via-in-len1-up-2+else-eq-2+then-words-lt2, in_default-via-in-len2+else-eq-3}
use Rattle.plant_run.proofs.command_line.form_of.Goals.{in_default-via-in-len3-2+else-eq-5, in_default-via-in-len4+else-eq-6, in_default-via-in-len5+else-eq-7, in_default-via-in-len6+else-eq-8}
use Rattle.plant_run.proofs.command_line.form_of.Goals.{in_default-via-in-len1-up-2+else-eq-2+else-words-lt2+else-words-lt3+else-words-lt4+else-words-lt5+else-words-lt6+else-words-lt7}

pub returns-in_default-clause-form : goal.returns-in_default-clause-form
returns-in_default-clause-form c = elim c.in_default.branch [
  | in_default-via-then-words-lt1 w ↦ grind (arith, common_steps)
  | in_default-via-in-len1-up+else-eq+then-words-lt1-2 w ↦ grind (arith, common_steps)
  | in_default-via-in-len1-up-2+else-eq-2+then-words-lt2 w ↦ grind (arith, common_steps)
  | in_default-via-in-len2+else-eq-3 w ↦ grind (arith, common_steps)
  | in_default-via-in-len3-2+else-eq-5 w ↦ grind (arith, common_steps)
  | in_default-via-in-len4+else-eq-6 w ↦ grind (arith, common_steps)
  | in_default-via-in-len5+else-eq-7 w ↦ grind (arith, common_steps)
  | in_default-via-in-len6+else-eq-8 w ↦ grind (arith, common_steps)
  | in_default-via-in-len1-up-2+else-eq-2+else-words-lt2+else-words-lt3+else-words-lt4+else-words-lt5+else-words-lt6+else-words-lt7 w ↦
      of_many c.args.words.now w.verb-item.result (grind (arith, common_steps)) (grind (arith, common_steps)) (grind (arith, common_steps))
      (grind (arith, common_steps))
]

use Rattle.std.proofs.Common.{◌<◌, ℕ}
use Rattle.run_command.specs.{IsCopied}
use Rattle.run_command.proofs.copies.compare_inputs.Given as goal

abbrev pub invariant-loop-input : goal.invariant-loop-input
invariant-loop-input l = (k : ℕ) → k < l.input → IsCopied l.session l.def l.its k

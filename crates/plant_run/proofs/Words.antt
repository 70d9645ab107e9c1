-- Words that are more than any command has.
use Rattle.std.proofs.Common.{◌≡◌, ◌≤◌, List, [], ◌∷◌, length, map, get_or, false, arith, refl, ap, ◌∙◌, String, string_bytes}
use Rattle.std.specs.Prelude.{codes}
use Rattle.std.specs.Str.{bytes_eq}
use Rattle.plant_run.specs.CommandLine.{Unknown, form_of}

-- words of a verb that is neither `log` nor `shifts`, and more than any other command has, ask for nothing
pub of_many : {Z : Type 0} (words : List (String Z)) (verb : String Z) → 7 ≤ length words → get_or words 0 verb ≡ verb
    → bytes_eq (string_bytes verb) (codes "log") ≡ false → bytes_eq (string_bytes verb) (codes "shifts") ≡ false
    → Unknown ≡ form_of (map string_bytes words)
of_many [] verb many is no_log no_shifts = absurd (omega arith)
of_many (v ∷ []) verb many is no_log no_shifts = absurd (omega arith)
of_many (v ∷ a ∷ []) verb many is no_log no_shifts = absurd (omega arith)
of_many (v ∷ a ∷ b ∷ []) verb many is no_log no_shifts = absurd (omega arith)
of_many (v ∷ a ∷ b ∷ c ∷ []) verb many is no_log no_shifts = absurd (omega arith)
of_many (v ∷ a ∷ b ∷ c ∷ d ∷ []) verb many is no_log no_shifts = absurd (omega arith)
of_many (v ∷ a ∷ b ∷ c ∷ d ∷ e ∷ []) verb many is no_log no_shifts = absurd (omega arith)
of_many (v ∷ a ∷ b ∷ c ∷ d ∷ e ∷ f ∷ rest) verb many is no_log no_shifts =
    rw (ap (λ w. bytes_eq (string_bytes w) (codes "log")) is ∙ no_log, ap (λ w. bytes_eq (string_bytes w) (codes "shifts")) is ∙ no_shifts)
    refl

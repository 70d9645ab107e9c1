-- The answer to a text. Rules are tested one after another, and the first broken one decides.
use Rattle.std.specs.Prelude.{◌≡◌, ◌≢◌, Bool, true, false, Option, None, Some, Result, Ok, Err}
use Rattle.shift_calendar.specs.declared.refusal.CalNo.{CalNo}
use Rattle.shift_calendar.specs.declared.refusal.CalNo.TheVariants.{WantOfMemory}

-- continues if a test holds, and otherwise refuses
abbrev pub when : {A : Type 0} → Bool → CalNo → Result A CalNo → Result A CalNo
when false why answer = Err why
when true why answer = answer

-- continues with a value if there is one, and otherwise refuses
abbrev pub given : {A B : Type 0} → Option A → CalNo → (A → Result B CalNo) → Result B CalNo
given None why answer = Err why
given (Some a) why answer = answer a

-- a returned value, as `see` shows it, is the due one, and so is a refusal. But want of memory may come at any time
abbrev pub AnswersShift : {A B : Type 0} → (A → B) → Result A CalNo → Result B CalNo → Type 0
AnswersShift see (Ok a) due = due ≡ Ok (see a)
AnswersShift see (Err why) due = why ≢ WantOfMemory → due ≡ Err why

-- How the answer to a text of a plant is found: step by step, and the first step that fails decides.
use Rattle.std.specs.Prelude.{◌≡◌, ◌≢◌, ℕ, ◌-◌, ◌^◌, min, nat_le, Bool, true, false, Option, None, Some, Result, Ok, Err}
use Rattle.tag_base.specs.declared.refusal.TextNo.{TextNo}
use Rattle.tag_base.specs.declared.refusal.TextNo.TheVariants.{BadText, Limit, WantOfMemory}
use Rattle.trend_num.specs.{What}

-- the refusal of the table at a place that breaks a rule; a place past the end of its type is reported as the last one
abbrev pub broken : ℕ → ℕ → TextNo
broken rule place = BadText rule (min place (2 ^ 32 - 1)) 0

-- continues if a test holds, and otherwise refuses
abbrev pub where_held : {A : Type 0} → Bool → TextNo → Result A TextNo → Result A TextNo
where_held false why answer = Err why
where_held true why answer = answer

-- continues if a count is not above its limit, and otherwise refuses with the count
abbrev pub limited : {A : Type 0} → What → ℕ → ℕ → Result A TextNo → Result A TextNo
limited what most count answer = where_held (nat_le count most) (Limit what count) answer

-- continues with a value if there is one, and otherwise refuses
abbrev pub where_given : {A B : Type 0} → Option A → TextNo → (A → Result B TextNo) → Result B TextNo
where_given None why answer = Err why
where_given (Some a) why answer = answer a

-- continues with the value of the step before, or passes on its refusal
abbrev pub after_step : {A B : Type 0} → Result A TextNo → (A → Result B TextNo) → Result B TextNo
after_step (Err why) answer = Err why
after_step (Ok a) answer = answer a

-- The answer, its value seen through `see`, is the one that is due. `WantOfMemory` may come in its place at any time.
abbrev pub AnswersDue : {A B : Type 0} → (A → B) → Result A TextNo → Result B TextNo → Type 0
AnswersDue see (Ok a) due = due ≡ Ok (see a)
AnswersDue see (Err why) due = why ≢ WantOfMemory → due ≡ Err why

-- The answer, its value seen through `see`, is one of those that are due. `WantOfMemory` may come in its place at any
-- time.
abbrev pub AnswersOneDue : {A B : Type 0} → (A → B) → Result A TextNo → (Result B TextNo → Type 0) → Type 0
AnswersOneDue see (Ok a) IsDue = IsDue (Ok (see a))
AnswersOneDue see (Err why) IsDue = why ≢ WantOfMemory → IsDue (Err why)

-- the answer after a step: its refusal, or what `next` says of its value
abbrev pub Follows : {A B : Type 0} → Result A TextNo → (A → Result B TextNo → Type 0)
    → Result B TextNo → Type 0
Follows (Err why) next answer = answer ≡ Err why
Follows (Ok a) next answer = next a answer

-- The numbers that entries of a tape have, gone over from the front.
use Rattle.std.proofs.Common.{◌≡◌, ◌≢◌, ℕ, ◌+◌, List, take, drop, Option, None, Some, refl, sym, subst, ◌∙◌}
use Rattle.std.specs.Prelude.{slice_get}
use Rattle.std.specs.Option.{option_map}
use Rattle.plant_status.specs.{Seen}
use Rattle.session_audit.specs.declared.group_pulls.Found.{Found}
use Rattle.session_audit.specs.{AreApart, seen_of}
use Rattle.session_audit.specs.Pulls.{IsNextOf}
use Rattle.session_audit.proofs.PullNumbers.{apart_at, first_none, first_some, rest_more, rest_none, take_same_more}

-- the number of one, if there is one
abbrev pub number_of : Option Found → Option ℕ
number_of o = option_map (λ f. f.number) o

-- it is the next one in the list of all of them
next_is : {E : Type 0} (numbers : List E → List ℕ) (tape : List E) (from n : ℕ) (all : List ℕ) (o : Option Found)
    → drop n all ≡ numbers (drop from tape) → IsNextOf numbers tape from o → number_of o ≡ slice_get all n
next_is numbers tape from n all None same next = sym (first_none all n (same ∙ next))
next_is numbers tape from n all (Some f) same next = sym (first_some all n f.number (numbers (drop f.past tape)) (same ∙ next.0))

-- where two lists differ there, it is the first difference
pub apart_next : {E F : Type 0} (ends : List E → List ℕ) (tape : List E) (versions : List F → List ℕ) (turns : List F) (at of n : ℕ)
    (pull refresh : Option Found) (a b : Option ℕ) (kept told : Seen) → drop n (ends tape) ≡ ends (drop at tape)
    → drop n (versions turns) ≡ versions (drop of turns) → take n (ends tape) ≡ take n (versions turns)
    → IsNextOf ends tape at pull → IsNextOf versions turns of refresh → a ≡ number_of pull → b ≡ number_of refresh
    → kept ≡ seen_of a → told ≡ seen_of b → a ≢ b → AreApart n (ends tape) (versions turns) kept told
apart_next ends tape versions turns at of n pull refresh a b kept told left_kept left_told before next_kept next_told is_a is_b
    is_kept is_told differ =
    subst (λ x. AreApart n (ends tape) (versions turns) x told) (sym is_kept)
    (subst (λ y. AreApart n (ends tape) (versions turns) (seen_of a) y) (sym is_told)
    (apart_at n (ends tape) (versions turns) a b before (is_a ∙ next_is ends tape at n (ends tape) pull left_kept next_kept)
    (is_b ∙ next_is versions turns of n (versions turns) refresh left_told next_told) differ))

-- where they do not, they are the same one place further
pub same_next : {E F : Type 0} (ends : List E → List ℕ) (tape : List E) (versions : List F → List ℕ) (turns : List F) (at of n : ℕ)
    (pull refresh : Option Found) → drop n (ends tape) ≡ ends (drop at tape) → drop n (versions turns) ≡ versions (drop of turns)
    → take n (ends tape) ≡ take n (versions turns) → IsNextOf ends tape at pull → IsNextOf versions turns of refresh
    → number_of pull ≡ number_of refresh → take (n + 1) (ends tape) ≡ take (n + 1) (versions turns)
same_next ends tape versions turns at of n pull refresh kept told before next_kept next_told same =
    take_same_more n (ends tape) (versions turns) before
    (sym (next_is ends tape at n (ends tape) pull kept next_kept) ∙ (same
    ∙ next_is versions turns of n (versions turns) refresh told next_told))

-- and where there is none, they are the same
pub same_end : {E F : Type 0} (ends : List E → List ℕ) (tape : List E) (versions : List F → List ℕ) (turns : List F) (at of n : ℕ)
    (pull refresh : Option Found) → drop n (ends tape) ≡ ends (drop at tape) → drop n (versions turns) ≡ versions (drop of turns)
    → take n (ends tape) ≡ take n (versions turns) → IsNextOf ends tape at pull → IsNextOf versions turns of refresh
    → number_of pull ≡ None → number_of refresh ≡ None → ends tape ≡ versions turns
same_end ends tape versions turns at of n None None kept told before next_kept next_told none also =
    sym (rest_none (ends tape) n (kept ∙ next_kept)) ∙ (before ∙ rest_none (versions turns) n (told ∙ next_told))
same_end ends tape versions turns at of n (Some f) refresh kept told before next_kept next_told none also = absurd (cc)
same_end ends tape versions turns at of n None (Some f) kept told before next_kept next_told none also = absurd (cc)

-- after one of them
pub drop_next : {E : Type 0} (numbers : List E → List ℕ) (tape : List E) (from n : ℕ) (all : List ℕ) (f : Found)
    → drop n all ≡ numbers (drop from tape) → IsNextOf numbers tape from (Some f) → drop (n + 1) all ≡ numbers (drop f.past tape)
drop_next numbers tape from n all f same next = rest_more all n f.number (numbers (drop f.past tape)) (same ∙ next.0)

-- there is none if nothing is one
pub none_of : (o : Option Found) → ((f : Found) → o ≡ Some f → ⊥) → o ≡ None
none_of None not_so = refl
none_of (Some f) not_so = absurd (not_so f refl)

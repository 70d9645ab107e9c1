-- What a verdict on tokens says of the formulas that begin so.
use Rattle.std.proofs.Common.{◌≡◌, ℕ, ◌<◌, ◌≤◌, Bool, true, false, List, [], ◌∷◌, ◌++◌, length, take, get_or, nat_le, cond, None, Some, All, refl, sym, ap, ◌∙◌, subst, length-append, arith}
use Rattle.std.proofs.lemmas.Bool.Decides.{nat_tests}
use Rattle.std.proofs.lemmas.List.{append-nil}
use Rattle.std.proofs.lemmas.List.Elements.{All-cons, All-nil}
use Rattle.std.proofs.Math.Seq.{get_or-append_seam, take-append_seam}
use Rattle.calc_parser.specs.{Token, deepest, Begins, IsShallow, CannotFollow, formula, Reading, words, opens, Stack, Next, more, whole, step, may_end, Verdict, fine, refused, deep, judged, scan}
use Rattle.calc_parser.proofs.Walks.{Walked, prepend, onward, walk, further, walk-append, IsAsLong, walk-length, passes}
use Rattle.calc_parser.proofs.Fills.{begins}

-- the tokens before the rest may occur, and none of them opens a level that is too deep
pub record IsAt (k : Stack) (tokens rest : List Token) : Type 0 where
  pub front : List Token
  pub levels : List ℕ
  pub left : Stack
  pub cut : tokens ≡ front ++ rest
  pub walked : walk k front ≡ Some (levels, left)
  pub shallow : All (λ level. level ≤ deepest) levels

-- nothing is before the rest
abbrev at_start : (k : Stack) (tokens : List Token) → IsAt k tokens tokens
at_start k tokens = record {
  front = [];
  levels = [];
  left = k;
  cut = refl;
  walked = refl;
  shallow = All-nil _;
}

-- one more token is before the rest
abbrev at_next : (k : Stack) (t : Token) (tokens rest : List Token) (next : ℕ × Stack) → step k t ≡ Some next
    → next.0 ≤ deepest
    → IsAt next.1 tokens rest → IsAt k (t ∷ tokens) rest
at_next k t tokens rest next stepped low a = record {
  front = t ∷ a.front;
  levels = next.0 ∷ a.levels;
  left = a.left;
  cut = ap (λ l. t ∷ l) a.cut;
  walked = ap (λ o. onward o (λ k. walk k a.front)) stepped ∙ ap (prepend (next.0 ∷ [])) a.walked;
  shallow = All-cons (λ level. level ≤ deepest) next.0 a.levels low a.shallow;
}

-- what comes next may not occur there, or opens a level that is too deep
abbrev pub IsStuck : Stack → List Token → Type 0
IsStuck k [] = may_end k ≡ false
IsStuck k (t ∷ rest) = step k t ≡ None

pub record Plunges (k : Stack) (t : Token) : Type 0 where
  pub next : ℕ × Stack
  pub stepped : step k t ≡ Some next
  pub too_deep : deepest < next.0

-- the same of the first of some tokens
abbrev pub PlungesAt : Stack → List Token → Type 0
PlungesAt k [] = ⊥
PlungesAt k (t ∷ rest) = Plunges k t

-- the cause of a verdict
abbrev pub Explains : Stack → List Token → Verdict → Type 0
Explains k tokens fine = (a : IsAt k tokens []) × (may_end a.left ≡ true)
Explains k tokens (refused rest) = (a : IsAt k tokens rest) × IsStuck a.left rest
Explains k tokens (deep rest) = (a : IsAt k tokens rest) × PlungesAt a.left rest

-- the cause stays, with one more token before it
one_more : (k : Stack) (t : Token) (tokens : List Token) (next : ℕ × Stack) → step k t ≡ Some next
    → next.0 ≤ deepest
    → (v : Verdict) → Explains next.1 tokens v → Explains k (t ∷ tokens) v
one_more k t tokens next stepped low fine e = (at_next k t tokens [] next stepped low e.0, e.1)
one_more k t tokens next stepped low (refused rest) e = (at_next k t tokens rest next stepped low e.0, e.1)
one_more k t tokens next stepped low (deep rest) e = (at_next k t tokens rest next stepped low e.0, e.1)

-- each verdict has its cause
pub explains : (k : Stack) (tokens : List Token) → Explains k tokens (scan k tokens)
explains k [] = go (may_end k) refl
  where
    go : (b : Bool) → may_end k ≡ b → Explains k [] (cond b fine (refused []))
    go true e = (at_start k [], e)
    go false e = (at_start k [], e)
explains k (t ∷ tokens) = go (step k t) refl (λ next. explains next tokens)
  where
    choose : (next : ℕ × Stack) → step k t ≡ Some next → Explains next.1 tokens (scan next.1 tokens)
        → (b : Bool) → nat_le next.0 deepest ≡ b
        → Explains k (t ∷ tokens) (cond b (scan next.1 tokens) (deep (t ∷ tokens)))
    choose next stepped rest true low = one_more k t tokens next stepped (grind (
      arith,
      nat_tests,
    )) (scan next.1 tokens) rest
    choose next stepped rest false high = (
      at_start k (t ∷ tokens),
      record {
        next = next;
        stepped = stepped;
        too_deep = grind (
          arith,
          nat_tests,
        );
      },
    )

    go : (o : Next) → step k t ≡ o → ((next : Stack) → Explains next tokens (scan next tokens))
        → Explains k (t ∷ tokens) (judged o (t ∷ tokens) (λ next. scan next tokens))
    go None stuck rest = (at_start k (t ∷ tokens), stuck)
    go (Some next) stepped rest = choose next stepped (rest next.1) (nat_le next.0 deepest) refl

-- the walk of a whole formula
record WalksWhole (d : Reading formula) : Type 0 where
  goes_on : Bool
  walked : walk (whole 0 []) (words d) ≡ Some (opens 0 d, more 0 goes_on ∷ [])

-- each formula's walk
walks_whole : (d : Reading formula) → WalksWhole d
walks_whole d =
    let p = passes d 0 [] [] in
    record {
      goes_on = p.0;
      walked = grind (arith, walk, append-nil);
    }

-- where a formula begins with tokens that may occur, its levels begin with theirs
record BeginsWith (d : Reading formula) (levels : List ℕ) (left : Stack) (rest : List Token) : Type 0 where
  later : List ℕ
  end : Stack
  after : walk left rest ≡ Some (later, end)
  opens_are : opens 0 d ≡ levels ++ later

-- the levels of a walk
abbrev levels_of : Walked → List ℕ
levels_of None = []
levels_of (Some p) = p.0

-- what may come after it
abbrev left_of : Walked → Stack
left_of None = []
left_of (Some p) = p.1

-- the part of a walk after its first levels
split_walk : (levels : List ℕ) (w : Walked) (xs : List ℕ) (end : Stack) → prepend levels w ≡ Some (xs, end)
    → (p : List ℕ × Stack) × (w ≡ Some p) × (xs ≡ levels ++ p.0)
split_walk levels None xs end e = cc
split_walk levels (Some p) xs end e = (p, refl, ap levels_of (sym e))

-- so it is of each formula
begins_with : (d : Reading formula) (front rest : List Token) (levels : List ℕ) (left : Stack)
    → walk (whole 0 []) front ≡ Some (levels, left)
    → words d ≡ front ++ rest → BeginsWith d levels left rest
begins_with d front rest levels left walked spelled =
    let all = walks_whole d in
    let both : prepend levels (walk left rest) ≡ Some (opens 0 d, more 0 all.goes_on ∷ []) =
    sym (ap (λ w. further w rest) walked) ∙ sym (walk-append (whole 0 []) front rest)
    ∙ ap (walk (whole 0 [])) (sym spelled) ∙ all.walked in
    let p = split_walk levels (walk left rest) (opens 0 d) (more 0 all.goes_on ∷ []) both in
    record { later = p.0.0; end = p.0.1; after = p.1; opens_are = p.2 }

-- a level for each token
levels_length : (front : List Token) (levels : List ℕ) (left : Stack)
    → walk (whole 0 []) front ≡ Some (levels, left) → length levels ≡ length front
levels_length front levels left walked = subst (λ w. IsAsLong w front) walked (walk-length (whole 0 []) front)

-- tokens that may occur and are shallow
pub shallow : (tokens rest : List Token) (a : IsAt (whole 0 []) tokens rest) → IsShallow a.front
shallow tokens rest a = λ d more spelled.
    let b = begins_with d a.front more a.levels a.left a.walked spelled in
    let n = levels_length a.front a.levels a.left a.walked in
    let same : take (length a.front) (opens 0 d) ≡ a.levels =
    grind (arith, take-append_seam) in
    subst (λ l. All (λ level. level ≤ deepest) l) (sym same) a.shallow

-- what is refused follows in no formula
pub cannot_follow : (tokens rest : List Token) (a : IsAt (whole 0 []) tokens rest) → IsStuck a.left rest
    → CannotFollow a.front rest
cannot_follow tokens [] a stuck = λ d spelled.
    let all = walks_whole d in
    let both : Some (a.levels, a.left) ≡ Some (opens 0 d, more 0 all.goes_on ∷ []) =
    sym a.walked ∙ ap (walk (whole 0 [])) (sym spelled) ∙ all.walked in
    let left : a.left ≡ more 0 all.goes_on ∷ [] = ap left_of both in
    let ends : true ≡ false = sym (ap may_end left) ∙ stuck in
    cc ends
cannot_follow tokens (t ∷ rest) a stuck = λ d more spelled.
    let b = begins_with d a.front (t ∷ more) a.levels a.left a.walked spelled in
    let none : None ≡ Some (b.later, b.end) = sym (ap (λ o. onward o (λ next. walk next more)) stuck)
    ∙ b.after in
    cc none

-- what is too deep opens such a level in each formula
deep_levels : (tokens rest : List Token) (t : Token) (a : IsAt (whole 0 []) tokens (t ∷ rest))
    (plunges : Plunges a.left t)
    (d : Reading formula) (later : List Token) → words d ≡ a.front ++ t ∷ later
    → (levels : List ℕ) × (opens 0 d ≡ a.levels ++ plunges.next.0 ∷ levels)
deep_levels tokens rest t a plunges d later spelled =
    let b = begins_with d a.front (t ∷ later) a.levels a.left a.walked spelled in
    let first : prepend (plunges.next.0 ∷ []) (walk plunges.next.1 later) ≡ Some (b.later, b.end) =
    sym (ap (λ o. onward o (λ next. walk next later)) plunges.stepped) ∙ b.after in
    let p = split_walk (plunges.next.0 ∷ []) (walk plunges.next.1 later) b.later b.end first in
    (p.0.0, b.opens_are ∙ ap (λ l. a.levels ++ l) p.2)

-- what is too deep opens such a level
pub opens_too_deep : (tokens rest : List Token) (t : Token) (a : IsAt (whole 0 []) tokens (t ∷ rest))
    → Plunges a.left t
    → (d : Reading formula) (more : List Token) → words d ≡ a.front ++ t ∷ more
    → deepest < get_or (opens 0 d) (length a.front) 0
opens_too_deep tokens rest t a plunges = λ d later spelled.
    let l = deep_levels tokens rest t a plunges d later spelled in
    let n = levels_length a.front a.levels a.left a.walked in
    let here : get_or (opens 0 d) (length a.front) 0 ≡ plunges.next.0 =
    grind (arith, get_or-append_seam) in
    subst (λ m. deepest < m) (sym here) plunges.too_deep

-- so no shallow formula has it
pub deep_in_none : (tokens rest : List Token) (t : Token) (a : IsAt (whole 0 []) tokens (t ∷ rest))
    → Plunges a.left t
    → (d : Reading formula) (more : List Token) → words d ≡ a.front ++ t ∷ more
    → All (λ level. level ≤ deepest) (opens 0 d) → ⊥
deep_in_none tokens rest t a plunges d later spelled low =
    let l = deep_levels tokens rest t a plunges d later spelled in
    let within : length a.levels < length (opens 0 d) =
    omega (arith, ap length l.1, length-append a.levels (plunges.next.0 ∷ l.0)) in
    let here : get_or (opens 0 d) (length a.levels) 0 ≡ plunges.next.0 =
    ap (λ l. get_or l (length a.levels) 0) l.1 ∙ get_or-append_seam a.levels plunges.next.0 l.0 0 in
    let small : get_or (opens 0 d) (length a.levels) 0 ≤ deepest = low (length a.levels) 0 within in
    omega (arith, plunges.too_deep)

-- tokens that may occur begin a formula
pub front_begins : (tokens rest : List Token) (a : IsAt (whole 0 []) tokens rest) → Begins a.front
front_begins tokens rest a = begins a.front a.levels a.left a.walked

-- what is too deep follows in some formula
pub deep_begins : (tokens rest : List Token) (t : Token) (a : IsAt (whole 0 []) tokens (t ∷ rest))
    → Plunges a.left t → Begins (a.front ++ t ∷ [])
deep_begins tokens rest t a plunges =
    let here : walk a.left (t ∷ []) ≡ Some (plunges.next.0 ∷ [], plunges.next.1) =
    ap (λ o. onward o (λ next. walk next [])) plunges.stepped in
    begins (a.front ++ t ∷ []) (a.levels ++ plunges.next.0 ∷ []) plunges.next.1
    (grind (arith, walk-append, further, prepend))

-- tokens that all may occur are those of a shallow formula
all_at_end : (d : Reading formula) (a : IsAt (whole 0 []) (words d) [])
    → All (λ level. level ≤ deepest) (opens 0 d)
all_at_end d a =
    let b = begins_with d a.front [] a.levels a.left a.walked a.cut in
    let later : b.later ≡ [] = ap levels_of (sym b.after) in
    let same : a.levels ≡ opens 0 d = grind (arith, append-nil) in
    subst (λ l. All (λ level. level ≤ deepest) l) same a.shallow

-- the same of a verdict
pub all_shallow : (d : Reading formula) → scan (whole 0 []) (words d) ≡ fine
    → All (λ level. level ≤ deepest) (opens 0 d)
all_shallow d verdict = grind (arith, all_at_end, explains)

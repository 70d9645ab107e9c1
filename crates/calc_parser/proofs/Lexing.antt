-- Runs of bytes, names, and the tokens of a text from a place on.
use Rattle.std.proofs.Common.{◌≡◌, ℕ, zero, suc, ◌+◌, ◌-◌, ◌<◌, ◌≤◌, Bool, true, false, ◌&&◌, cond, List, [], ◌∷◌, ◌++◌, length, take, drop, map, get_or, nat_eq, arith, refl, sym, ap, ◌∙◌, add-zero, append_assoc, length-drop}
use Rattle.std.proofs.lemmas.List.{drop-drop}
use Rattle.std.proofs.Math.Seq.{drop-cons, take-length}
use Rattle.std.proofs.lemmas.Bool.Decides.{nat_tests}
use Rattle.std.specs.List.{list_all, prefix_len}
use Rattle.calc_parser.specs.{Token, Lexeme, token_at, lexemes, tokens_of, places_of}

-- what is before the first byte that fails a test passes it
pub run_passes : {X : Type 0} (p : X → Bool) (xs : List X) (n : ℕ) → n ≤ prefix_len p xs
    → list_all p (take n xs) ≡ true
run_passes p xs zero few = refl
run_passes p [] (suc n) few = refl
run_passes p (x ∷ xs) (suc n) few = go (run_passes p xs n) (p x) few
  where
    go : (n ≤ prefix_len p xs → list_all p (take n xs) ≡ true) → (b : Bool)
        → suc n ≤ cond b (1 + prefix_len p xs) 0
        → (b && list_all p (take n xs)) ≡ true
    go rest true few = rest (omega arith)
    go rest false few = absurd (omega arith)

-- the tokens after those bytes that belong to the one before
skipped : (place skip : ℕ) (bytes : List ℕ)
    → lexemes place skip bytes ≡ lexemes (place + skip) 0 (drop skip bytes)
skipped place zero bytes = ap (λ p. lexemes p 0 bytes) (sym (add-zero place))
skipped place (suc skip) [] = refl
skipped place (suc skip) (b ∷ bytes) =
    let e : place + 1 + skip ≡ place + suc skip = omega arith in
    skipped (place + 1) skip bytes ∙ ap (λ p. lexemes p 0 (drop skip bytes)) e

-- a token, and what follows it
pub token_first : (place b : ℕ) (bytes : List ℕ) (t : Token) (n : ℕ) → nat_eq b 32 ≡ false
    → (t, n) ≡ token_at (b ∷ bytes) → 0 < n
    → lexemes place 0 (b ∷ bytes) ≡ record { token = t; place = place } ∷ lexemes (place + n) 0
    (drop n (b ∷ bytes))
token_first place b bytes t zero other piece some = absurd (omega (arith, some))
token_first place b bytes t (suc n) other piece some =
    let after : Token × ℕ → List Lexeme = λ q. record { token = q.0; place = place } ∷ lexemes (place + 1)
    (q.1 - 1) bytes in
    let n_is : suc n - 1 ≡ n = omega arith in
    let at : place + 1 + n ≡ place + suc n = omega arith in
    ap (λ c. cond c (lexemes (place + 1) 0 bytes) (after (token_at (b ∷ bytes)))) other
    ∙ ap after (sym piece)
    ∙ ap (λ m. record { token = t; place = place } ∷ lexemes (place + 1) m bytes) n_is
    ∙ ap (λ l. record { token = t; place = place } ∷ l) (skipped (place + 1) n bytes)
    ∙ ap (λ p. record { token = t; place = place } ∷ lexemes p 0 (drop n bytes)) at

-- these are the tokens and places of the text before an index
pub record IsLexedSoFar (text : List ℕ) (at : ℕ) (tokens : List Token) (places : List ℕ) : Type 0 where
  pub within : at ≤ length text
  pub tokens_are : tokens ++ map (λ l. l.token) (lexemes at 0 (drop at text)) ≡ tokens_of text
  pub places_are : places ++ map (λ l. l.place) (lexemes at 0 (drop at text)) ≡ places_of text

-- a token is added
pub lexed_token : (text : List ℕ) (at : ℕ) (tokens : List Token) (places : List ℕ) (t : Token) (n : ℕ)
    → IsLexedSoFar text at tokens places
    → at < length text → (get_or text at 0 ≡ 32 → ⊥)
    → (t, n) ≡ token_at (take (length text - at) (drop at text)) → 0 < n
    → n ≤ length (take (length text - at) (drop at text))
    → IsLexedSoFar text (at + n) (tokens ++ t ∷ []) (places ++ at ∷ [])
lexed_token text at tokens places t n so_far below differs piece some few =
    let b = get_or text at 0 in
    let other : nat_eq b 32 ≡ false = grind (arith, nat_tests) in
    let rest : take (length text - at) (drop at text) ≡ drop at text =
    ap (λ n. take n (drop at text)) (sym (length-drop at text)) ∙ take-length (drop at text) in
    let cut : drop at text ≡ b ∷ drop (suc at) text = drop-cons text at 0 below in
    let same : lexemes at 0 (drop at text) ≡ record { token = t; place = at } ∷ lexemes (at + n) 0
    (drop (at + n) text) =
    ap (lexemes at 0) cut
    ∙ token_first at b (drop (suc at) text) t n other (piece ∙ ap token_at (rest ∙ cut)) some
    ∙ ap (λ l. record { token = t; place = at } ∷ lexemes (at + n) 0 (drop n l)) (sym cut)
    ∙ ap (λ l. record { token = t; place = at } ∷ lexemes (at + n) 0 l) (drop-drop n at text) in
    record {
      within = omega (arith, length-drop at text, ap length rest);
      tokens_are = grind (arith, append_assoc);
      places_are = grind (arith, append_assoc);
    }

-- From the verdict on a text's tokens to the answer for the text.
use Rattle.std.proofs.Common.{◌≡◌, ℕ, ◌-◌, ◌≤◌, List, [], ◌∷◌, ◌++◌, length, drop, get_or, Err, sym, ap, ◌∙◌, subst, arith, length-append}
use Rattle.std.proofs.lemmas.List.{append-nil}
use Rattle.std.proofs.Math.Seq.{drop-append_seam}
use Rattle.calc_parser.specs.{Stop, Token, most_bytes, IsFormula, IsSyntax, IsDeep, HasFormulaCause, Gives, kind_of, formula, whole, scan, fine, SpellsTokens, Stops, refusal_of, tokens_of, places_of}
use Rattle.calc_parser.specs.declared.parser.Stop.TheVariants as stop
use Rattle.calc_parser.specs.Tree.{Tree}
use Rattle.calc_parser.proofs.Builds.{same_tree}
use Rattle.calc_parser.proofs.Verdicts.{IsAt, IsStuck, PlungesAt, Explains, explains, shallow, cannot_follow, opens_too_deep, deep_in_none, front_begins, deep_begins, all_shallow}

-- tokens that all may occur, and spell a tree, make a formula
pub is_formula : (text : List ℕ) (tokens : List Token) (t : Tree) → tokens ≡ tokens_of text
    → length text ≤ most_bytes
    → SpellsTokens formula tokens [] t → scan (whole 0 []) tokens ≡ fine → IsFormula text t
is_formula text tokens t lexed short s verdict = grind (arith, append-nil, shallow, all_shallow)

-- a text has the tree of one formula
pub only_formula : (text : List ℕ) (t u : Tree) → IsFormula text t → IsFormula text u → t ≡ u
only_formula text t u p q = grind (arith, same_tree)

-- how many tokens are before those that are left
front_length : (tokens front rest : List Token) → tokens ≡ front ++ rest
    → length tokens - length rest ≡ length front
front_length tokens front rest cut = omega (arith, ap length cut, length-append front rest)

-- what is left after them
left_tokens : (tokens front rest : List Token) → tokens ≡ front ++ rest
    → drop (length tokens - length rest) tokens ≡ rest
left_tokens tokens front rest cut =
    ap (λ n. drop n tokens) (front_length tokens front rest cut) ∙ ap (drop (length front)) cut
    ∙ drop-append_seam front rest

module _ (text : List ℕ) (tokens : List Token) (places : List ℕ) (lexed : tokens ≡ tokens_of text)
    (placed : places ≡ places_of text) where
  place_is : (rest : List Token) (a : IsAt (whole 0 []) tokens rest)
      → get_or places (length tokens - length rest) (length text) ≡ get_or (places_of text) (length a.front)
      (length text)
  place_is rest a = grind (arith, front_length)

  syntax_at : (rest : List Token) (a : IsAt (whole 0 []) tokens rest) → IsStuck a.left rest
      → IsSyntax text (get_or places (length tokens - length rest) (length text))
      (kind_of (drop (length tokens - length rest) tokens))
  syntax_at rest a stuck = record {
    front = a.front;
    rest = rest;
    cut = sym lexed ∙ a.cut;
    begins = front_begins tokens rest a;
    shallow = shallow tokens rest a;
    refused = cannot_follow tokens rest a stuck;
    placed = place_is rest a;
    kind_is = ap kind_of (left_tokens tokens a.front rest a.cut);
  }

  deep_at : (rest : List Token) (a : IsAt (whole 0 []) tokens rest) → PlungesAt a.left rest
      → IsDeep text (get_or places (length tokens - length rest) (length text))
  deep_at [] a plunges = absurd plunges
  deep_at (t ∷ rest) a plunges = record {
    front = a.front;
    next = t;
    rest = rest;
    cut = sym lexed ∙ a.cut;
    begins = deep_begins tokens rest t a plunges;
    shallow = shallow tokens (t ∷ rest) a;
    too_deep = opens_too_deep tokens rest t a plunges;
    placed = place_is (t ∷ rest) a;
  }

  -- the token of a refusal decides
  pub has_cause : (why : Stop) (rest : List Token) → length text ≤ most_bytes
      → Stops why (scan (whole 0 []) tokens) rest
      → HasFormulaCause text (refusal_of why (get_or places (length tokens - length rest) (length text))
      (drop (length tokens - length rest) tokens))
  has_cause stop.Off rest short verdict =
      let e = subst (λ v. Explains (whole 0 []) tokens v) verdict (explains (whole 0 []) tokens) in
      (short, syntax_at rest e.0 e.1)
  has_cause stop.Deep rest short verdict =
      let e = subst (λ v. Explains (whole 0 []) tokens v) verdict (explains (whole 0 []) tokens) in
      (short, deep_at rest e.0 e.1)
  has_cause stop.WantOfMemory rest short verdict = tt

-- what is stuck or too deep occurs in no formula that may be read
stuck_in_none : (text : List ℕ) (tokens rest : List Token) (t : Tree) → tokens ≡ tokens_of text
    → (a : IsAt (whole 0 []) tokens rest)
    → IsStuck a.left rest → IsFormula text t → ⊥
stuck_in_none text tokens [] t lexed a stuck f =
    cannot_follow tokens [] a stuck f.reading (f.spelled ∙ sym lexed ∙ a.cut ∙ append-nil a.front)
stuck_in_none text tokens (next ∷ rest) t lexed a stuck f =
    cannot_follow tokens (next ∷ rest) a stuck f.reading rest (f.spelled ∙ sym lexed ∙ a.cut)

-- the same of what is too deep
plunges_in_none : (text : List ℕ) (tokens rest : List Token) (t : Tree) → tokens ≡ tokens_of text
    → (a : IsAt (whole 0 []) tokens rest)
    → PlungesAt a.left rest → IsFormula text t → ⊥
plunges_in_none text tokens [] t lexed a plunges f = plunges
plunges_in_none text tokens (next ∷ rest) t lexed a plunges f =
    deep_in_none tokens rest next a plunges f.reading rest (f.spelled ∙ sym lexed ∙ a.cut) f.shallow

-- only for want of memory is a formula refused
pub no_formula : (text : List ℕ) (tokens rest later : List Token) (place : ℕ) (why : Stop) (t : Tree)
    → tokens ≡ tokens_of text
    → Stops why (scan (whole 0 []) tokens) rest → IsFormula text t
    → Gives (Err (refusal_of why place later)) t
no_formula text tokens rest later place stop.Off t lexed verdict f =
    let e = subst (λ v. Explains (whole 0 []) tokens v) verdict (explains (whole 0 []) tokens) in
    stuck_in_none text tokens rest t lexed e.0 e.1 f
no_formula text tokens rest later place stop.Deep t lexed verdict f =
    let e = subst (λ v. Explains (whole 0 []) tokens v) verdict (explains (whole 0 []) tokens) in
    plunges_in_none text tokens rest t lexed e.0 e.1 f
no_formula text tokens rest later place stop.WantOfMemory t lexed verdict f = tt

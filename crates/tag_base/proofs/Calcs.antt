-- What the texts of calculations define, one after another.
use Rattle.std.proofs.Common.{◌≡◌, ℕ, ◌+◌, ◌<◌, List, [], ◌∷◌, ◌++◌, length, map, take, drop, get_or, sym, ap, ◌∙◌, subst, take-append-drop}
use Rattle.std.proofs.lemmas.List.{drop_more, take_more, map_push, map-append}
use Rattle.calc_parser.specs.{ParseNo, IsFormula, HasFormulaCause}
use Rattle.calc_check.specs.Group.{Calculation}
use Rattle.tag_base.specs.{CalcText, TextNo, CalcForm, formula_text_of, told_of, Define, IsFirstRefused}

-- one text more defines one calculation more
Define-push : (texts : List CalcForm) (calcs : List Calculation) (text : CalcForm) (calc : Calculation) → Define texts calcs
    → calc.name ≡ text.name → IsFormula text.formula calc.tree → Define (texts ++ text ∷ []) (calcs ++ calc ∷ [])
Define-push [] [] text calc all name tree = (name, tree, tt)
Define-push [] (c ∷ calcs) text calc all name tree = absurd all
Define-push (t ∷ texts) [] text calc all name tree = absurd all
Define-push (t ∷ texts) (c ∷ calcs) text calc all name tree = (all.0, all.1, Define-push texts calcs text calc all.2 name tree)

-- the texts up to one define the calculations up to its own
pub Define-more : (texts : List CalcText) (i : ℕ) (text : CalcText) (calcs : List Calculation) (calc : Calculation) → i < length texts
    → text ≡ get_or texts i text → Define (map formula_text_of (take i texts)) calcs → calc.name ≡ text.name
    → IsFormula (formula_text_of text).formula calc.tree → Define (map formula_text_of (take (i + 1) texts)) (calcs ++ calc ∷ [])
Define-more texts i text calcs calc there is all name tree =
    let more : take (i + 1) texts ≡ take i texts ++ text ∷ [] = take_more texts i text there ∙ ap (λ t. take i texts ++ t ∷ []) (sym is) in
    subst (λ l. Define l (calcs ++ calc ∷ [])) (sym (ap (map formula_text_of) more ∙ map_push formula_text_of (take i texts) text))
    (Define-push (map formula_text_of (take i texts)) calcs (formula_text_of text) calc all name tree)

-- the text after those that define calculations is refused
pub first_refused : (place : ℕ) (texts : List CalcText) (i : ℕ) (text : CalcText) (calcs : List Calculation) (reason : ParseNo) (why : TextNo)
    → i < length texts → text ≡ get_or texts i text → Define (map formula_text_of (take i texts)) calcs → HasFormulaCause (formula_text_of text).formula reason
    → why ≡ told_of place reason → IsFirstRefused place (map formula_text_of texts) why
first_refused place texts i text calcs reason why there is all cause told = record {
  front = map formula_text_of (take i texts);
  text = formula_text_of text;
  rest = map formula_text_of (drop (i + 1) texts);
  cut = ap (map formula_text_of) (sym (take-append-drop i texts)) ∙ map-append formula_text_of (take i texts) (drop i texts)
      ∙ ap (λ l. map formula_text_of (take i texts) ++ map formula_text_of l) (drop_more texts i text there ∙ ap (λ t. t ∷ drop (i + 1) texts) (sym is));
  calcs = calcs;
  good = all;
  reason = reason;
  cause = cause;
  told = told;
}

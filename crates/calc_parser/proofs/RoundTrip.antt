-- The canonical text of a formula's tree is a formula again, with the same tree.
use Rattle.std.proofs.Common.{◌≡◌, ℕ, ◌≤◌, List, length, All, refl, sym, ap, ◌∙◌, subst, arith}
use Rattle.calc_parser.specs.declared.token.Token.TheVariants.{End}
use Rattle.calc_parser.specs.{canonical, spelled, text_of, deepest, most_bytes, IsFormula, formula, Reading, words, tree, opens, tokens_of}
use Rattle.calc_parser.specs.Tree.{Tree}
use Rattle.calc_parser.proofs.Apart.{Apart, lies_apart}
use Rattle.calc_parser.proofs.Directs.{whole_direct, whole_words, whole_tree}
use Rattle.calc_parser.proofs.Pieces.{are_lexed}
use Rattle.calc_parser.proofs.ReadBack.{read_back}
use Rattle.calc_parser.proofs.Sizes.{shallow_best, short_best}
use Rattle.calc_parser.proofs.Written.{AllWritten, IsSound, sound, written}

-- of a derivation of a text
again : (text : List ℕ) (d : Reading formula) → words d ≡ tokens_of text
    → All (λ level. level ≤ deepest) (opens 0 d) → length text ≤ most_bytes
    → IsFormula (text_of (tree d)) (tree d)
again text d spelled_by low short =
    let t = tree d in
    let lexed = are_lexed 0 0 text in
    let is_sound : IsSound t = sound (Unit {0}) d (subst (AllWritten (Unit {0})) (sym spelled_by) lexed.can)
    in
    let apart : Apart (canonical t) End = subst (λ l. Apart l End) (whole_words t)
    ((lies_apart (whole_direct t)).apart End refl) in
    let read : tokens_of (text_of t) ≡ canonical t = read_back (canonical t) (written t is_sound) apart in
    let length_is : length (text_of t) ≡ length (spelled (words (whole_direct t))) = ap
    (λ l. length (spelled l)) (sym (whole_words t)) in
    let length_was : length (spelled (words d)) ≡ length (spelled (tokens_of text)) = ap
    (λ l. length (spelled l)) spelled_by in
    record {
      reading = whole_direct t;
      spelled = whole_words t ∙ sym read;
      tree_is = whole_tree t;
      shallow = shallow_best deepest d low;
      short = omega (arith, length_is, length_was, short_best d, lexed.light);
    }

-- and so of a text and its tree
pub round_trip : (text : List ℕ) (t : Tree) → IsFormula text t → IsFormula (text_of t) t
round_trip text t f = subst (λ u. IsFormula (text_of u) u) f.tree_is
    (again text f.reading f.spelled f.shallow f.short)

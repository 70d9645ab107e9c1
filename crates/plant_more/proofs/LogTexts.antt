-- The text of a plant, tag by tag.
use Rattle.std.proofs.Common.{◌≡◌, ℕ, zero, suc, ◌+◌, ◌<◌, List, [], ◌∷◌, ◌++◌, length, get_or, take, refl, sym, ap, ◌∙◌, arith, append_assoc, add-one}
use Rattle.std.specs.Prelude.{flat_map}
use Rattle.std.proofs.Math.Seq.{take-suc}
use Rattle.std.proofs.lemmas.Grind.{flat_map-append}
use Rattle.std.proofs.lemmas.List.{append-nil}
use Rattle.trend_num.specs.{TagDef}
use Rattle.plant_more.specs.{plant_text}

-- the names after the first one
abbrev behind : List TagDef → List ℕ
behind defs = flat_map (λ (d : TagDef). 10 ∷ d.name) defs

-- the text of one tag more
pub text_more : (defs : List TagDef) (place : ℕ) (d : TagDef) (old new : List ℕ) → place < length defs
    → old ≡ plant_text (take place defs) → (place ≡ 0 → new ≡ old ++ (get_or defs place d).name)
    → (0 < place → new ≡ old ++ (10 ∷ (get_or defs place d).name)) → new ≡ plant_text (take (place + 1) defs)
text_more [] place d old new few was first next = absurd (omega arith)
text_more (t ∷ defs) zero d old new few was first next =
    first refl ∙ (ap (λ (l : List ℕ). l ++ t.name) was ∙ sym (append-nil t.name))
text_more (t ∷ defs) (suc n) d old new few was first next =
    let name : List ℕ = (get_or defs n d).name in
    let more : behind (take (suc n) defs) ≡ behind (take n defs) ++ (10 ∷ name) =
    ap behind (take-suc defs n d (omega arith)) ∙ (flat_map-append (λ (e : TagDef). 10 ∷ e.name) (take n defs) (get_or defs n d ∷ [])
    ∙ ap (λ (l : List ℕ). behind (take n defs) ++ l) (append-nil (10 ∷ name))) in
    rw add-one
    (next (omega arith) ∙ (ap (λ (l : List ℕ). l ++ (10 ∷ name)) was ∙ (append_assoc t.name (behind (take n defs)) (10 ∷ name)
    ∙ ap (λ (l : List ℕ). t.name ++ l) (sym more))))

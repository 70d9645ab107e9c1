-- The lines of tags, one after the other.
use Rattle.std.proofs.Common.{◌≡◌, ℕ, ◌+◌, ◌<◌, min, List, [], ◌∷◌, ◌++◌, length, take, get_or, sym, ◌∙◌, ap, ap₂, arith}
use Rattle.std.specs.List.{flat_map, zip}
use Rattle.std.proofs.lemmas.List.{take_more, take_all, append-nil}
use Rattle.std.proofs.lemmas.List.Concat.{flat_map-append}
use Rattle.std.proofs.lemmas.Slice.Zip.{length-zip, get_or-zip}
use Rattle.trend_num.specs.{TagDef}
use Rattle.tag_core.specs.Core.{Core}
use Rattle.trend_report.specs.{core_text, check_text}

-- the line of a tag
abbrev pub text_of : TagDef × Core → List ℕ
text_of p = core_text p.0 p.1

-- the lines of the first n tags
abbrev pub lines_before : List TagDef → List Core → ℕ → List ℕ
lines_before tags cores n = flat_map text_of (take n (zip tags cores))

-- one line more
pub one_line : (tags : List TagDef) (cores : List Core) (n : ℕ) (def : TagDef) (core : Core)
    → n < length tags → n < length cores
    → def ≡ get_or tags n def → core ≡ get_or cores n core
    → lines_before tags cores (n + 1) ≡ lines_before tags cores n ++ core_text def core
one_line tags cores n def core in_tags in_cores is_def is_core =
    let pairs = zip tags cores in
    let here : get_or (zip tags cores) n (def, core) ≡ (def, core) =
    get_or-zip tags cores n (def, core) in_tags in_cores
    ∙ sym (ap₂ (λ (d : TagDef) (c : Core). (d, c)) is_def is_core) in
    let longer : take (n + 1) (zip tags cores) ≡ take n (zip tags cores) ++ (def, core) ∷ [] =
    take_more (zip tags cores) n (def, core) (omega (arith, length-zip tags cores, in_tags, in_cores))
    ∙ ap (λ (p : TagDef × Core). take n (zip tags cores) ++ p ∷ []) here in
    ap (flat_map text_of) longer ∙ flat_map-append text_of (take n (zip tags cores)) ((def, core) ∷ [])
    ∙ ap (λ (l : List ℕ). lines_before tags cores n ++ l) (append-nil (core_text def core))

-- all lines
pub all_lines : (tags : List TagDef) (cores : List Core) (n : ℕ) → n ≡ min (length tags) (length cores)
    → lines_before tags cores n ≡ check_text tags cores
all_lines tags cores n end =
    ap (flat_map text_of) (take_all n (zip tags cores) (omega (arith, length-zip tags cores, end)))

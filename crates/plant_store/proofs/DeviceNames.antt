-- The names of devices: under which one may be kept, and that of a group's from its definition text.
use Rattle.std.proofs.Common.{◌≡◌, ◌==◌, ℕ, Bool, true, false, ◌&&◌, cond, List, [], ◌∷◌, ◌++◌, Option, None, Some, IfSome, refl, sym, ◌∙◌, ap, subst, arith}
use Rattle.std.specs.Prelude.{IsSome, codes}
use Rattle.std.specs.List.{list_all}
use Rattle.std.proofs.lemmas.Bool.Decides.{nat_tests}
use Rattle.trend_num.specs.{IsName, is_name_byte}
use Rattle.disk_model.specs.{FitsName, HandOut}
use Rattle.tag_base.specs.{GroupDef}
use Rattle.group_book.specs.{device_name_of, upto_comma}
use Rattle.plant_store.specs.Groups.{device_name, group_definition_text}

-- a device that was handed out under a name may be kept under it
pub fits : (h : HandOut) (given own : List ℕ) → h.name ≡ Some given → given ≡ own → FitsName own h
fits h given own named same = subst (λ o. IfSome o (λ n. n ≡ own)) (sym named) same

-- a device that was handed out under a name, and may be kept under this one, was handed out under this one
pub own_name : (h : HandOut) (own : List ℕ) → FitsName own h → IsSome h.name → h.name ≡ Some own
own_name h own fits some = of h.name fits some
  where
    of : (o : Option (List ℕ)) → IfSome o (λ n. n ≡ own) → IsSome o → o ≡ Some own
    of None fits some = absurd (cc some)
    of (Some n) fits some = ap Some fits

both_left : (b c : Bool) → (b && c) ≡ true → b ≡ true
both_left true c e = refl
both_left false c e = e

both_right : (b c : Bool) → (b && c) ≡ true → c ≡ true
both_right true c e = e
both_right false c e = cc e

-- a byte of a name is no comma
no_comma : (b : ℕ) → is_name_byte b ≡ true → (b == 44) ≡ false
no_comma b is = grind (arith, nat_tests)

-- what stands before the first comma is the name
pub name_upto_comma : (name rest : List ℕ) → list_all is_name_byte name ≡ true → upto_comma (name ++ 44 ∷ rest) ≡ name
name_upto_comma [] rest all = refl
name_upto_comma (b ∷ bs) rest all =
    ap (λ t. cond t [] (b ∷ upto_comma (bs ++ 44 ∷ rest))) (no_comma b (both_left (is_name_byte b) (list_all is_name_byte bs) all))
    ∙ ap (λ l. b ∷ l) (name_upto_comma bs rest (both_right (is_name_byte b) (list_all is_name_byte bs) all))

-- so the definition text has the name of the group's device
pub text_names : (g : GroupDef) → IsName g.name → device_name_of (group_definition_text g) ≡ device_name g.name
text_names g is = ap (λ n. n ++ codes ".grp") (name_upto_comma g.name _ is.spelled)

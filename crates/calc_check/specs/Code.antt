-- How the logic stores a group: as numbers, from which the group can be recovered.
use Rattle.std.specs.Prelude.{◌≡◌, ℕ, List, refl}
use Rattle.std.proofs.Common.{ap, ap₂}
use Rattle.std.specs.Coded.{Coded, code_by, coded×, coded_list, coded_ℕ, coded_ℤ}
use base.Stored.{Gv, gnum, gcons}
use Rattle.trend_num.specs.contracts.measure.Measure as measure
use Rattle.calc_parser.specs.contracts.tree.Op as op
use Rattle.calc_parser.specs.contracts.tree.Cmp as cmp
use Rattle.calc_parser.specs.Tree.{Tree, num, window, calc, neg, abs, two, compare, choose}
use Rattle.calc_check.specs.Group.{Calculation, Group}

abbrev name_code : Coded (List ℕ)
name_code = coded_list coded_ℕ

-- a number for the form of a tree, then the numbers of its parts
abbrev pub stored : Tree → Gv
stored (num n) = gcons (gnum 0) (coded_ℤ.code n)
stored (window m name) = gcons (gnum 1) (gcons (measure.the_row.coded.code m) (name_code.code name))
stored (calc name) = gcons (gnum 2) (name_code.code name)
stored (neg a) = gcons (gnum 3) (stored a)
stored (abs a) = gcons (gnum 4) (stored a)
stored (two o a b) = gcons (gnum 5) (gcons (op.the_row.coded.code o) (gcons (stored a) (stored b)))
stored (compare c a b) = gcons (gnum 6) (gcons (cmp.the_row.coded.code c) (gcons (stored a) (stored b)))
stored (choose c a b) = gcons (gnum 7) (gcons (stored c) (gcons (stored a) (stored b)))

-- two trees that are stored alike are the same
pub stored_once : (t u : Tree) → stored t ≡ stored u → t ≡ u
stored_once (num m) (num n) e =
    let same : coded_ℤ.code m ≡ coded_ℤ.code n = cc in ap num (coded_ℤ.inj m n same)
stored_once (window m s) (window n t) e =
    let measures : measure.the_row.coded.code m ≡ measure.the_row.coded.code n = cc in
    let names : name_code.code s ≡ name_code.code t = cc in
    ap₂ window (measure.the_row.coded.inj m n measures) (name_code.inj s t names)
stored_once (calc s) (calc t) e =
    let names : name_code.code s ≡ name_code.code t = cc in ap calc (name_code.inj s t names)
stored_once (neg a) (neg b) e = ap neg (stored_once a b (cc))
stored_once (abs a) (abs b) e = ap abs (stored_once a b (cc))
stored_once (two o a b) (two p c d) e =
    let ops : op.the_row.coded.code o ≡ op.the_row.coded.code p = cc in
    let same = op.the_row.coded.inj o p ops in
    let left = stored_once a c (cc) in
    let right = stored_once b d (cc) in
    λ i. two (same i) (left i) (right i)
stored_once (compare o a b) (compare p c d) e =
    let cmps : cmp.the_row.coded.code o ≡ cmp.the_row.coded.code p = cc in
    let same = cmp.the_row.coded.inj o p cmps in
    let left = stored_once a c (cc) in
    let right = stored_once b d (cc) in
    λ i. compare (same i) (left i) (right i)
stored_once (choose o a b) (choose p c d) e =
    let condition = stored_once o p (cc) in
    let left = stored_once a c (cc) in
    let right = stored_once b d (cc) in
    λ i. choose (condition i) (left i) (right i)
stored_once t u e = absurd (cc)

abbrev pub tree_code : Coded Tree
tree_code = record { code = stored; inj = stored_once }

abbrev pub calculation_code : Coded Calculation
calculation_code = code_by (List ℕ × Tree) (coded× name_code tree_code) (λ c. (c.name, c.tree))
    (λ p. record { name = p.0; tree = p.1 }) (λ _. refl)

abbrev pub group_code : Coded Group
group_code = code_by (List (List ℕ) × List Calculation)
    (coded× (coded_list name_code) (coded_list calculation_code))
    (λ g. (g.inputs, g.calcs)) (λ p. record { inputs = p.0; calcs = p.1 }) (λ _. refl)

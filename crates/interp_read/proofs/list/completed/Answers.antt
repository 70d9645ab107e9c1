use Rattle.std.proofs.Common.{◌∙◌, arith, rules}
use Rattle.interp_read.proofs.Listing.{taken_before, taken_more}
use Rattle.interp_read.proofs.list.completed.Goals as goal

pub returns-in_ok-push_point-in-Some-clause-list : goal.returns-in_ok-push_point-in-Some-clause-list
returns-in_ok-push_point-in-Some-clause-list c all first more =
    let few = taken_more all c.args.first.items c.in-Some.q 256 first (omega (arith, c.args.first.ok.0)) in
    rw c.in-Some.is (c.in_ok-push_point-in-Some.ensures ∙ few.0)

pub returns-in_ok-push_point-in-Some-clause-more : goal.returns-in_ok-push_point-in-Some-clause-more
returns-in_ok-push_point-in-Some-clause-more c all first more =
    let few = taken_more all c.args.first.items c.in-Some.q 256 first (omega (arith, c.args.first.ok.0)) in
    rw c.in-Some.is (λ h. search rules, λ h. absurd (omega (arith, few.1, h)))

pub returns-in-Some-2-clause-list : goal.returns-in-Some-2-clause-list
returns-in-Some-2-clause-list c all first more =
    let many = taken_before all c.args.first.items c.in-Some-2.field-0 256 first
    (omega (arith, c.args.first.ok.0)) in
    rw c.in-Some-2.is many.0

pub returns-in-Some-2-clause-more : goal.returns-in-Some-2-clause-more
returns-in-Some-2-clause-more c all first more =
    let many = taken_before all c.args.first.items c.in-Some-2.field-0 256 first
    (omega (arith, c.args.first.ok.0)) in
    rw c.in-Some-2.is (λ h. many.1, λ h. search rules)

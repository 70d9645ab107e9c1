use Rattle.std.proofs.Common.{length, ◌++◌, ◌∷◌, ap, ap₂, ◌∙◌, arith}
use Rattle.std.specs.Prelude.{insert}
use Rattle.std.proofs.lemmas.List.{take_all, drop_all}
use Rattle.late_insert.proofs.directory.Directory.push.Goals as goal

pub returns : goal.returns
returns c =
    let s = c.args.self.now in
    let behind = c.len-behind.ensures in
    c.insert.ensures ∙ ap (λ is. record { items = is; places = s.places })
    (ap (λ n. insert s.items n c.args.page) behind
    ∙ ap₂ (λ xs ys. xs ++ c.args.page ∷ ys) (take_all (length s.items) s.items (omega arith))
    (drop_all (length s.items) s.items (omega arith)))

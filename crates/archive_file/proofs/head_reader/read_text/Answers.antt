use Rattle.std.proofs.Common.{◌≡◌, All, rules, sym, ap, ◌∙◌, subst}
use Rattle.disk_model.specs.{IsBegun, seen}
use Rattle.archive_file.specs.{Keeps, head_fields, text_in}
use Rattle.archive_file.proofs.head_reader.read_text.Goals as goal

pub returns-clause-text : goal.returns-clause-text
returns-clause-text g c =
    let s = seen (g.D.Disk.device c.args.dev.now).trace in
    let begun : IsBegun s = search rules in
    let same : seen (g.D.Disk.device c.widen.new.dev).trace ≡ s = ap seen (c.in_ok-widen.ensures.same ∙ c.in-Ok.ensures.same) in
    record {
      head = record { begun = begun; fields = subst (λ l. All (Keeps l) (head_fields c.args.letters l)) same c.in_ok-text.ensures.kept };
      same = sym (c.in_ok-text.ensures.text ∙ ap text_in same);
    }

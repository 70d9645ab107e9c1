use Rattle.std.proofs.Common.{◌≡◌, ◌∙◌, ◌++◌, take, length, refl, subst, sym, arith}
use Rattle.std.proofs.lemmas.Grind.{common_steps}
use Rattle.byte_io.specs.{HasAt}
use Rattle.byte_io.proofs.FilePiece.{IsRead, IsRead-nil, IsRead-append}
use Rattle.byte_io.proofs.file_reading.read_file.Goals as goal

pub loop-count-init : goal.loop-count-init
loop-count-init g c = record {
  within = omega arith;
  read = subst (IsRead (g.F.Files.told c.args.files.now c.args.name.now)) (sym c.new-all.ensures.items) (IsRead-nil _);
  stays = refl;
  no_fault = refl;
}

pub loop-count-preserved : goal.loop-count-preserved
loop-count-preserved g c =
    let name = c.args.name.now in
    let all = c.loop-count.all.items in
    let piece = take c.in-Ok.count c.read_at.new.buf in
    let told = g.F.Files.told in
    let place : c.len-at.result ≡ length all = omega arith in
    let now : HasAt (told c.args.files.now name) c.len-at.result piece =
    subst (λ f. HasAt (f name) c.len-at.result piece) c.loop-count.invariant.stays c.in-Ok.ensures.bytes in
    let stands : HasAt (told c.args.files.now name) (length all) piece = subst (λ n. HasAt (told c.args.files.now name) n piece) place now in
    let grown : c.extend_from_slice.new.self.items ≡ all ++ piece = grind (arith, common_steps) in
    record {
      within = grind (arith, common_steps);
      read = subst (IsRead (told c.args.files.now name)) (sym grown) (IsRead-append (told c.args.files.now name) all piece c.loop-count.invariant.read stands);
      stays = c.in-Ok.ensures.stays ∙ c.loop-count.invariant.stays;
      no_fault = c.in-Ok.ensures.no_fault ∙ c.loop-count.invariant.no_fault;
    }

use Rattle.std.proofs.Common.{IsTrue, codes, subst, sym}
use Rattle.std.proofs.lemmas.Str.Pattern.{ends_text}
use Rattle.told_store.proofs.first_byte.is_past_making.Goals as goal

pub returns : goal.returns
returns c =
    let named = ends_text c.ends_with.result (codes ".tag") c.args.name.now c.ends_with.ensures.cases in (
      (λ is. record { of_tag = subst IsTrue named is; long = c.if-bytes-le-TAG_MAKING.false; closed = c.if-bytes.false }),
      (λ is. subst IsTrue (sym named) is.of_tag),
    )

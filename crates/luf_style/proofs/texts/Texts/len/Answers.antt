use Rattle.std.proofs.Common.{length, ap, arith}
use Rattle.luf_style.proofs.TextsLaws.{texts_length}
use Rattle.luf_style.proofs.texts.Texts.len.Goals as goal

pub returns : goal.returns
returns c =
    let count = texts_length 0 c.self.inside.ends.items c.self.inside.bytes.items in
    let same = ap length c.self.view_is in
    omega (arith, c.len.ensures, count, same)

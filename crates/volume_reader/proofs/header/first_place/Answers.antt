use Rattle.std.proofs.Common.{arith}
use Rattle.volume_reader.proofs.HeaderLemmas.{passed}
use Rattle.volume_reader.proofs.header.first_place.Goals as goal

pub up_to_8-requires : goal.up_to_8-requires
up_to_8-requires c =
    let p = passed c.args.bytes.now c.requires.header in
    omega (arith, p.within)

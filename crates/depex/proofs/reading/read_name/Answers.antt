use Rattle.std.proofs.Common.{length, drop, ap, ◌∙◌, refl}
use Rattle.std.proofs.lemmas.List.{length-take-le}
use Rattle.depex.proofs.WalkLemmas.{name_is}
use Rattle.depex.proofs.reading.read_name.Goals as goal

pub returns-then-opcode-eq-END-clause-name : goal.returns-then-opcode-eq-END-clause-name
returns-then-opcode-eq-END-clause-name c =
    let behind = c.args.behind.now in
    let value = c.in-Some.ensures.value in
    record {
      rest = drop 17 behind;
      begins = name_is behind c.in-Some.guid.0 value c.if-behind-gt-GUID_BYTES.true c.if-opcode-eq-END.true;
      whole = ap length value ∙ length-take-le 16 behind (c.in-Some.ensures.found.0 refl);
    }

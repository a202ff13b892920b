use Rattle.std.proofs.Common.{◌∙◌, refl, arith}
use Rattle.pe_loader.specs.Sections.{part_of}
use Rattle.pe_loader.proofs.OverlapLemmas.{apart_to_none, apart_to_more, apart_to_all}
use Rattle.pe_loader.proofs.overlaps.count_through.Goals as goal

pub loop-from-preserved : goal.loop-from-preserved
loop-from-preserved c = record {
  apart = apart_to_more (part_of c.args.bytes.now c.args.layout.now) c.args.count c.loop-from.first c.loop-from.from _ _ _ c.loop-from.invariant.apart
      c.look_through-look.ensures.look;
  long = c.look_through-look.ensures.length ∙ c.loop-from.invariant.long;
}

pub loop-from-init : goal.loop-from-init
loop-from-init c = record { apart = apart_to_none (part_of c.args.bytes.now c.args.layout.now) c.args.count; long = refl }

pub returns : goal.returns
returns c =
    apart_to_all (part_of c.args.bytes.now c.args.layout.now) c.args.count c.loop-from.first c.loop-from.from c.args.layout.now.size c.loop-from.invariant.apart (omega arith)
    c.requires.ended

use Rattle.std.proofs.Common.{◌∙◌, ap, List, refl}
use Rattle.mm_base.specs.declared.entry.Entry.{Entry}
use Rattle.mm_run.specs.ScriptRun.{core_of, run_report}
use Rattle.mm_run.proofs.ScriptLemmas.{driven_is}
use Rattle.mm_run.proofs.script_run.driven.Goals as goal

pub returns : goal.returns
returns c =
    let w = c.in_ok-world.world in
    record {
      world = w;
      there = refl;
      driven =
          driven_is (core_of c.args.script.now) c.args.script.now w c.in_ok-lanes.lanes c.in_ok-text.text c.in_ok-world.ensures.words c.in_ok-world.ensures.lanes c.in_ok-lanes.ensures.values
          c.in_ok-lanes.ensures.sizes c.in_ok-world.ensures.stands
          (c.in_ok-text.ensures ∙ ap (λ (es : List Entry). run_report es c.in_ok-lanes.lanes) c.entries.ensures);
    }

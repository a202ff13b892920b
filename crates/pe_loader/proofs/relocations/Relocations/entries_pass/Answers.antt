use Rattle.std.proofs.Common.{◌&&◌, ◌∙◌, ◌+◌, ◌-◌, ◌*◌, Bool, refl, sym, ap, arith}
use Rattle.std.specs.List.{list_all}
use Rattle.pe_loader.specs.Fixups.{fixup_passes, fixups_from}
use Rattle.pe_loader.specs.ReadingInside.{form_in}
use Rattle.pe_loader.specs.declared.fixup.Fixup.{Fixup}
use Rattle.pe_loader.proofs.LoadLemmas.{ready_later}
use Rattle.pe_loader.proofs.BlockLemmas.{all_more, told_of}
use Rattle.pe_loader.proofs.relocations.Relocations.entries_pass.Goals as goal

pub returns-then-not-passes-clause-passes : goal.returns-then-not-passes-clause-passes
returns-then-not-passes-clause-passes c =
    let form = form_in c.args.bytes.now c.args.self.now.layout in
    let k = c.loop-k.k in
    let test : Fixup → Bool = fixup_passes c.args.self.now.layout.size c.args.self.now.directory in
    let told = told_of _ _ _ _ _ _ _ _ refl refl c.of.ensures c.passes.ensures c.if-not-passes.true in
    let more = all_more test form c.args.page c.args.at c.args.count k c.word-word.result (omega arith) c.word-word.ensures.number in
    sym (sym c.loop-k.invariant.rest ∙ more ∙ ap (λ here. here && list_all test (fixups_from form c.args.page (c.args.at + 2 * (k + 1)) (c.args.count - (k + 1)))) told)

pub loop-k-preserved : goal.loop-k-preserved
loop-k-preserved c =
    let form = form_in c.args.bytes.now c.args.self.now.layout in
    let k = c.loop-k.k in
    let test : Fixup → Bool = fixup_passes c.args.self.now.layout.size c.args.self.now.directory in
    let told = told_of _ _ _ _ _ _ _ _ refl refl c.of.ensures c.passes.ensures c.if-not-passes.false in
    let more = all_more test form c.args.page c.args.at c.args.count k c.word-word.result (omega arith) c.word-word.ensures.number in
    record {
      ready = ready_later c.args.bytes.now c.args.self.now.layout _ _ (c.args.at + 2 * k + 2) _ (omega arith) c.word-word.ensures.ready;
      rest = sym (more ∙ ap (λ here. here && list_all test (fixups_from form c.args.page (c.args.at + 2 * (k + 1)) (c.args.count - (k + 1)))) told) ∙ c.loop-k.invariant.rest;
    }

use Rattle.std.proofs.Common.{arith}
use Rattle.supervisor_calls.proofs.GivenLemmas.{may_give, may_be_given, given_long, within_memory, given_keeps}
use Rattle.supervisor_calls.proofs.tables.Tables.give_run.Goals as goal

pub give-requires : goal.give-requires
give-requires g c =
    let may =
    may_give _ c.args.self.now c.args.image c.args.base c.args.address c.args.pages c.index.result.now c.has_taken.result c.self.view_is
    c.keeps.ensures.tables c.keeps.ensures.placed c.requires.there c.requires.region c.index.ensures c.has_taken.ensures c.if-not-has_taken.false in
    may_be_given _ c.args.image c.args.base c.args.address c.args.pages may c.index_mut.result.now c.index_mut.ensures.value

pub overflow_sub-address : goal.overflow_sub-address
overflow_sub-address g c =
    let may =
    may_give _ c.args.self.now c.args.image c.args.base c.args.address c.args.pages c.index.result.now c.has_taken.result c.self.view_is
    c.keeps.ensures.tables c.keeps.ensures.placed c.requires.there c.requires.region c.index.ensures c.has_taken.ensures c.if-not-has_taken.false in
    may.lies.memory.from

pub overflow_cast-address : goal.overflow_cast-address
overflow_cast-address g c =
    let may =
    may_give _ c.args.self.now c.args.image c.args.base c.args.address c.args.pages c.index.result.now c.has_taken.result c.self.view_is
    c.keeps.ensures.tables c.keeps.ensures.placed c.requires.there c.requires.region c.index.ensures c.has_taken.ensures c.if-not-has_taken.false in
    omega (arith, may.lies.memory.from, may.lies.memory.to)

pub clear-requires-clause-within : goal.clear-requires-clause-within
clear-requires-clause-within g c =
    let may =
    may_give _ c.args.self.now c.args.image c.args.base c.args.address c.args.pages c.index.result.now c.has_taken.result c.self.view_is
    c.keeps.ensures.tables c.keeps.ensures.placed c.requires.there c.requires.region c.index.ensures c.has_taken.ensures c.if-not-has_taken.false in
    within_memory _ c.args.image c.args.base c.args.address c.args.pages may

pub clear-requires-clause-live : goal.clear-requires-clause-live
clear-requires-clause-live g c =
    let may =
    may_give _ c.args.self.now c.args.image c.args.base c.args.address c.args.pages c.index.result.now c.has_taken.result c.self.view_is
    c.keeps.ensures.tables c.keeps.ensures.placed c.requires.there c.requires.region c.index.ensures c.has_taken.ensures c.if-not-has_taken.false in
    may.lies.memory.live

pub invariant_of-self : goal.invariant_of-self
invariant_of-self g c =
    let may =
    may_give _ c.args.self.now c.args.image c.args.base c.args.address c.args.pages c.index.result.now c.has_taken.result c.self.view_is
    c.keeps.ensures.tables c.keeps.ensures.placed c.requires.there c.requires.region c.index.ensures c.has_taken.ensures c.if-not-has_taken.false in
    record {
      pools = c.self.invariant.pools;
      reserves = c.self.invariant.reserves;
      keeps =
          given_keeps _ c.args.image c.args.base c.args.address c.args.pages may c.clear.new.self.bytes c.clear.new.self.live c.give.new.self
          c.clear.ensures.bytes c.clear.ensures.live
          (given_long _ c.args.image c.args.base c.args.address c.args.pages may c.index_mut.result.now c.give.new.self c.index_mut.ensures.value c.give.ensures);
    }

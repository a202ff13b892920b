use Rattle.std.proofs.Common.{◌≡◌, ◌⊎◌, inl, inr, Some, None, ℕ, suc, ◌-◌, ◌<◌, sym, ap, ◌∙◌, subst, arith}
use Rattle.mm_base.specs.Bus.{Answers, IsRefusal}
use Rattle.mm_base.specs.declared.bus.Served.{Served}
use Rattle.mm_base.specs.declared.bus.Served.TheVariants.{Status, Stop, NoMemory}
use Rattle.ebc_machine.specs.declared.regs.Regs.{Regs}
use Rattle.ebc_machine.specs.declared.turn.Progress.{Progress}
use Rattle.ebc_machine.specs.Operands.{at_address}
use Rattle.ebc_machine.specs.Told.{IsNumbered}
use Rattle.ebc_machine.specs.Invocation.{Call, turns, invoked}
use Rattle.ebc_machine.proofs.InvokeLemmas.{begun, not_begun, out_of_fuel, next_turn, call_turn, return_turn, denied_turn, fault_turn, was_answered, status_turn, stop_turn, want_turn}
use Rattle.ebc_machine.proofs.invocation.invoke.Goals as goal

one_more : (left : ℕ) → 0 < left → left ≡ suc (left - 1)
one_more left some = omega arith

pub returns-then-is_odd : goal.returns-then-is_odd
returns-then-is_odd g c =
    inr (not_begun g.B.Bus.meaning c.args.fuel c.args.regs.now c.args.bus.now (sym c.is_odd.ensures ∙ c.if-is_odd.true))

pub loop-left-init : goal.loop-left-init
loop-left-init g c =
    begun g.B.Bus.meaning c.args.fuel c.args.regs.now c.args.bus.now (sym c.is_odd.ensures ∙ c.if-is_odd.false)

pub loop-left-preserved-in-Next : goal.loop-left-preserved-in-Next
loop-left-preserved-in-Next g c =
    let m = g.B.Bus.meaning in
    next_turn m (invoked m c.args.fuel c.args.regs.now c.args.bus.now) c.loop-left.regs c.turn.new.regs c.loop-left.bus
    c.turn.new.bus c.loop-left.left (c.loop-left.left - 1) (one_more c.loop-left.left c.loop-left-test.true) c.in-Next.ensures
    c.loop-left.invariant

pub service-requires : goal.service-requires
service-requires g c = subst (λ (p : Progress). IsNumbered p) c.in-Service.is c.turn.ensures.numbered

pub returns-then-left-eq0 : goal.returns-then-left-eq0
returns-then-left-eq0 g c =
    let m = g.B.Bus.meaning in
    let whole = invoked m c.args.fuel c.args.regs.now c.args.bus.now in
    let call : Call = record { number = c.in-Service.number; next = c.in-Service.next } in
    let held = call_turn m whole c.loop-left.regs c.turn.new.regs c.loop-left.bus c.turn.new.bus c.in-Service.number
    c.in-Service.next c.loop-left.left (c.loop-left.left - 1) (one_more c.loop-left.left c.loop-left-test.true)
    c.in-Service.ensures c.loop-left.invariant in
    inr (out_of_fuel m whole (c.loop-left.left - 1) (Some call) c.turn.new.regs c.turn.new.bus c.if-left-eq0.true held)

pub loop-left-preserved : goal.loop-left-preserved
loop-left-preserved g c =
    let m = g.B.Bus.meaning in
    let whole = invoked m c.args.fuel c.args.regs.now c.args.bus.now in
    let left = c.loop-left.left - 1 in
    let held = call_turn m whole c.loop-left.regs c.turn.new.regs c.loop-left.bus c.turn.new.bus c.in-Service.number
    c.in-Service.next c.loop-left.left left (one_more c.loop-left.left c.loop-left-test.true)
    c.in-Service.ensures c.loop-left.invariant in
    let some : left ≡ suc (left - 1) = let h = c.if-left-eq0.false in omega arith in
    let answered = was_answered g.B.Bus.may_refuse (m.serves c.turn.new.bus c.in-Service.number c.get.result) c.service.result
    (Status c.in-Status.status) c.service.new.self c.service.ensures c.in-Status.is (λ none. none) in
    let by_stack = subst
    (λ (stack : ℕ). Answers (m.serves c.turn.new.bus c.in-Service.number stack) (Status c.in-Status.status) c.service.new.self)
    c.get.ensures answered in
    let here = status_turn m whole c.turn.new.regs c.turn.new.bus c.service.new.self c.in-Service.number c.in-Service.next
    c.in-Status.status left (left - 1) some by_stack held in
    ap (λ (regs : Regs). turns m (left - 1) None (at_address c.in-Service.next regs) c.service.new.self) c.put.ensures ∙ here

pub returns-in-Stop : goal.returns-in-Stop
returns-in-Stop g c =
    let m = g.B.Bus.meaning in
    let whole = invoked m c.args.fuel c.args.regs.now c.args.bus.now in
    let left = c.loop-left.left - 1 in
    let held = call_turn m whole c.loop-left.regs c.turn.new.regs c.loop-left.bus c.turn.new.bus c.in-Service.number
    c.in-Service.next c.loop-left.left left (one_more c.loop-left.left c.loop-left-test.true)
    c.in-Service.ensures c.loop-left.invariant in
    let some : left ≡ suc (left - 1) = let h = c.if-left-eq0.false in omega arith in
    let answered = was_answered g.B.Bus.may_refuse (m.serves c.turn.new.bus c.in-Service.number c.get.result) c.service.result
    (Stop c.in-Stop.denial) c.service.new.self c.service.ensures c.in-Stop.is (λ none. none) in
    let by_stack = subst
    (λ (stack : ℕ). Answers (m.serves c.turn.new.bus c.in-Service.number stack) (Stop c.in-Stop.denial) c.service.new.self)
    c.get.ensures answered in
    inr (stop_turn m whole c.turn.new.regs c.turn.new.bus c.service.new.self c.in-Service.number c.in-Service.next
    c.in-Stop.denial left (left - 1) some by_stack held)

pub returns-in-NoMemory : goal.returns-in-NoMemory
returns-in-NoMemory g c =
    let m = g.B.Bus.meaning in
    let whole = invoked m c.args.fuel c.args.regs.now c.args.bus.now in
    let left = c.loop-left.left - 1 in
    let held = call_turn m whole c.loop-left.regs c.turn.new.regs c.loop-left.bus c.turn.new.bus c.in-Service.number
    c.in-Service.next c.loop-left.left left (one_more c.loop-left.left c.loop-left-test.true)
    c.in-Service.ensures c.loop-left.invariant in
    let some : left ≡ suc (left - 1) = let h = c.if-left-eq0.false in omega arith in
    let stack = c.get.result in
    let told = subst
    (λ (s : Served). IsRefusal g.B.Bus.may_refuse s ⊎ Answers (m.serves c.turn.new.bus c.in-Service.number stack) s c.service.new.self)
    c.in-NoMemory.is c.service.ensures in
    elim told [
      | inl refused ↦ inl refused
      | inr answered ↦
          inr (want_turn m whole c.turn.new.regs c.turn.new.bus c.service.new.self c.in-Service.number c.in-Service.next
          c.in-NoMemory.refused left (left - 1) some
          (subst
          (λ (stack : ℕ). Answers (m.serves c.turn.new.bus c.in-Service.number stack) (NoMemory c.in-NoMemory.refused) c.service.new.self)
          c.get.ensures answered) held)
    ]

pub returns-in-Returned : goal.returns-in-Returned
returns-in-Returned g c =
    let m = g.B.Bus.meaning in
    inr (return_turn m (invoked m c.args.fuel c.args.regs.now c.args.bus.now) c.loop-left.regs c.turn.new.regs c.loop-left.bus
    c.turn.new.bus c.in-Returned.status c.loop-left.left (c.loop-left.left - 1)
    (one_more c.loop-left.left c.loop-left-test.true) c.in-Returned.ensures c.loop-left.invariant)

pub returns-in-Denied : goal.returns-in-Denied
returns-in-Denied g c =
    let m = g.B.Bus.meaning in
    inr (denied_turn m (invoked m c.args.fuel c.args.regs.now c.args.bus.now) c.loop-left.regs c.turn.new.regs c.loop-left.bus
    c.turn.new.bus c.in-Denied.denial c.loop-left.left (c.loop-left.left - 1)
    (one_more c.loop-left.left c.loop-left-test.true) c.in-Denied.ensures c.loop-left.invariant)

pub returns-in-Fault : goal.returns-in-Fault
returns-in-Fault g c =
    let m = g.B.Bus.meaning in
    inr (fault_turn m (invoked m c.args.fuel c.args.regs.now c.args.bus.now) c.loop-left.regs c.turn.new.regs c.loop-left.bus
    c.turn.new.bus c.in-Fault.kind c.loop-left.left (c.loop-left.left - 1)
    (one_more c.loop-left.left c.loop-left-test.true) c.in-Fault.ensures c.loop-left.invariant)

pub returns : goal.returns
returns g c =
    let m = g.B.Bus.meaning in
    let none : c.loop-left.left ≡ 0 = let h = c.loop-left-test.false in omega arith in
    inr (out_of_fuel m (invoked m c.args.fuel c.args.regs.now c.args.bus.now) c.loop-left.left None c.loop-left.regs c.loop-left.bus
    none c.loop-left.invariant)

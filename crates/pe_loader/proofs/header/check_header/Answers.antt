use Rattle.std.proofs.Common.{◌+◌, ◌∙◌, sym, lit<, rules, arith}
use Rattle.std.proofs.lemmas.Result.{IfErr-weaker, on_ok_weaker}
use Rattle.mm_base.proofs.CheckLemmas.{none_fails}
use Rattle.pe_loader.specs.Headers.{header_checks, FailsFirst}
use Rattle.pe_loader.proofs.HeaderLemmas.{fails}
use Rattle.pe_loader.proofs.header.check_header.Goals as goal

pub returns-in_err-check-clause-fault : goal.returns-in_err-check-clause-fault
unfolding header_checks
returns-in_err-check-clause-fault c =
    let e = c.in_err-check.ensures.fault in
    let known : FailsFirst (header_checks c.args.bytes.now) c.in_err-check.field-0.0 =
    fails (header_checks c.args.bytes.now) _ 0 _ (lit< tt) tt (e.0) (e.1 ∙ c.fault.ensures) (omega arith) in
    search rules

pub returns-in_err-check-2-clause-fault : goal.returns-in_err-check-2-clause-fault
unfolding header_checks
returns-in_err-check-2-clause-fault c =
    let e = c.in_err-check-2.ensures.fault in
    let known : FailsFirst (header_checks c.args.bytes.now) c.in_err-check-2.field-0.0 =
    fails (header_checks c.args.bytes.now) _ 1 _ (lit< tt) (c.in_ok-check.ensures.ok, tt) (sym c.is_mz.ensures ∙ e.0) (e.1 ∙ c.fault-2.ensures) (omega arith) in
    search rules

pub returns-in_err-check-3-clause-fault : goal.returns-in_err-check-3-clause-fault
unfolding header_checks
returns-in_err-check-3-clause-fault c =
    let e = c.in_err-check-3.ensures.fault in
    let known : FailsFirst (header_checks c.args.bytes.now) c.in_err-check-3.field-0.0 =
    fails (header_checks c.args.bytes.now) _ 2 _ (lit< tt) (c.in_ok-check.ensures.ok, (sym c.is_mz.ensures ∙ c.in_ok-check-2.ensures.ok, tt)) (sym c.has_room.ensures ∙ e.0) (e.1 ∙ c.fault-3.ensures) (omega arith) in
    search rules

pub returns-in_err-check-4-clause-fault : goal.returns-in_err-check-4-clause-fault
unfolding header_checks
returns-in_err-check-4-clause-fault c =
    let e = c.in_err-check-4.ensures.fault in
    let known : FailsFirst (header_checks c.args.bytes.now) c.in_err-check-4.field-0.0 =
    fails (header_checks c.args.bytes.now) _ 3 _ (lit< tt) (c.in_ok-check.ensures.ok, (sym c.is_mz.ensures ∙ c.in_ok-check-2.ensures.ok, (sym c.has_room.ensures ∙ c.in_ok-check-3.ensures.ok, tt))) (sym c.has_signature.ensures ∙ e.0) (e.1 ∙ c.fault-4.ensures) (omega arith) in
    search rules

pub returns-in_err-check-5-clause-fault : goal.returns-in_err-check-5-clause-fault
unfolding header_checks
returns-in_err-check-5-clause-fault c =
    let e = c.in_err-check-5.ensures.fault in
    let known : FailsFirst (header_checks c.args.bytes.now) c.in_err-check-5.field-0.0 =
    fails (header_checks c.args.bytes.now) _ 4 _ (lit< tt) (c.in_ok-check.ensures.ok, (sym c.is_mz.ensures ∙ c.in_ok-check-2.ensures.ok, (sym c.has_room.ensures ∙ c.in_ok-check-3.ensures.ok, (sym c.has_signature.ensures ∙ c.in_ok-check-4.ensures.ok, tt)))) (sym c.has_known_machine.ensures ∙ e.0) (e.1 ∙ c.fault-5.ensures) (omega arith) in
    search rules

pub returns-in_err-check-6-clause-fault : goal.returns-in_err-check-6-clause-fault
unfolding header_checks
returns-in_err-check-6-clause-fault c =
    let e = c.in_err-check-6.ensures.fault in
    let known : FailsFirst (header_checks c.args.bytes.now) c.in_err-check-6.field-0.0 =
    fails (header_checks c.args.bytes.now) _ 5 _ (lit< tt) (c.in_ok-check.ensures.ok, (sym c.is_mz.ensures ∙ c.in_ok-check-2.ensures.ok, (sym c.has_room.ensures ∙ c.in_ok-check-3.ensures.ok, (sym c.has_signature.ensures ∙ c.in_ok-check-4.ensures.ok, (sym c.has_known_machine.ensures ∙ c.in_ok-check-5.ensures.ok, tt))))) (sym c.is_pe32_plus.ensures ∙ e.0) (e.1 ∙ c.fault-6.ensures) (omega arith) in
    search rules

pub returns-in_err-check-7-clause-fault : goal.returns-in_err-check-7-clause-fault
unfolding header_checks
returns-in_err-check-7-clause-fault c =
    let e = c.in_err-check-7.ensures.fault in
    let known : FailsFirst (header_checks c.args.bytes.now) c.in_err-check-7.field-0.0 =
    fails (header_checks c.args.bytes.now) _ 6 _ (lit< tt) (c.in_ok-check.ensures.ok, (sym c.is_mz.ensures ∙ c.in_ok-check-2.ensures.ok, (sym c.has_room.ensures ∙ c.in_ok-check-3.ensures.ok, (sym c.has_signature.ensures ∙ c.in_ok-check-4.ensures.ok, (sym c.has_known_machine.ensures ∙ c.in_ok-check-5.ensures.ok, (sym c.is_pe32_plus.ensures ∙ c.in_ok-check-6.ensures.ok, tt)))))) (sym c.optional_fits.ensures ∙ e.0) (e.1 ∙ c.fault-7.ensures) (omega arith) in
    search rules

pub returns-in_err-check-8-clause-fault : goal.returns-in_err-check-8-clause-fault
unfolding header_checks
returns-in_err-check-8-clause-fault c =
    let e = c.in_err-check-8.ensures.fault in
    let known : FailsFirst (header_checks c.args.bytes.now) c.in_err-check-8.field-0.0 =
    fails (header_checks c.args.bytes.now) _ 7 _ (lit< tt) (c.in_ok-check.ensures.ok, (sym c.is_mz.ensures ∙ c.in_ok-check-2.ensures.ok, (sym c.has_room.ensures ∙ c.in_ok-check-3.ensures.ok, (sym c.has_signature.ensures ∙ c.in_ok-check-4.ensures.ok, (sym c.has_known_machine.ensures ∙ c.in_ok-check-5.ensures.ok, (sym c.is_pe32_plus.ensures ∙ c.in_ok-check-6.ensures.ok, (sym c.optional_fits.ensures ∙ c.in_ok-check-7.ensures.ok, tt))))))) (sym c.is_driver.ensures ∙ e.0) (e.1 ∙ c.fault-8.ensures) (omega arith) in
    search rules

pub returns-in_err-check-9-clause-fault : goal.returns-in_err-check-9-clause-fault
unfolding header_checks
returns-in_err-check-9-clause-fault c =
    let e = c.in_err-check-9.ensures.fault in
    let known : FailsFirst (header_checks c.args.bytes.now) c.in_err-check-9.field-0.0 =
    fails (header_checks c.args.bytes.now) _ 8 _ (lit< tt) (c.in_ok-check.ensures.ok, (sym c.is_mz.ensures ∙ c.in_ok-check-2.ensures.ok, (sym c.has_room.ensures ∙ c.in_ok-check-3.ensures.ok, (sym c.has_signature.ensures ∙ c.in_ok-check-4.ensures.ok, (sym c.has_known_machine.ensures ∙ c.in_ok-check-5.ensures.ok, (sym c.is_pe32_plus.ensures ∙ c.in_ok-check-6.ensures.ok, (sym c.optional_fits.ensures ∙ c.in_ok-check-7.ensures.ok, (sym c.is_driver.ensures ∙ c.in_ok-check-8.ensures.ok, tt)))))))) (sym c.size_fits.ensures ∙ e.0) (e.1 ∙ c.fault-9.ensures) (omega arith) in
    search rules

pub returns-clause-fault : goal.returns-clause-fault
unfolding header_checks
returns-clause-fault c =
    IfErr-weaker _ _ _ (λ fault e. fails (header_checks c.args.bytes.now) fault 9 (c.pe_at-pe.result + 84) (lit< tt) (c.in_ok-check.ensures.ok, (sym c.is_mz.ensures ∙ c.in_ok-check-2.ensures.ok, (sym c.has_room.ensures ∙ c.in_ok-check-3.ensures.ok, (sym c.has_signature.ensures ∙ c.in_ok-check-4.ensures.ok, (sym c.has_known_machine.ensures ∙ c.in_ok-check-5.ensures.ok, (sym c.is_pe32_plus.ensures ∙ c.in_ok-check-6.ensures.ok, (sym c.optional_fits.ensures ∙ c.in_ok-check-7.ensures.ok, (sym c.is_driver.ensures ∙ c.in_ok-check-8.ensures.ok, (sym c.size_fits.ensures ∙ c.in_ok-check-9.ensures.ok, tt))))))))) (sym c.headers_fit.ensures ∙ e.0) (e.1 ∙ c.fault-10.ensures) (omega arith)) c.check-10.ensures.fault

pub returns-clause-ok : goal.returns-clause-ok
unfolding header_checks
returns-clause-ok c =
    on_ok_weaker _ (λ e. none_fails (header_checks c.args.bytes.now) (c.in_ok-check.ensures.ok, (sym c.is_mz.ensures ∙ c.in_ok-check-2.ensures.ok, (sym c.has_room.ensures ∙ c.in_ok-check-3.ensures.ok, (sym c.has_signature.ensures ∙ c.in_ok-check-4.ensures.ok, (sym c.has_known_machine.ensures ∙ c.in_ok-check-5.ensures.ok, (sym c.is_pe32_plus.ensures ∙ c.in_ok-check-6.ensures.ok, (sym c.optional_fits.ensures ∙ c.in_ok-check-7.ensures.ok, (sym c.is_driver.ensures ∙ c.in_ok-check-8.ensures.ok, (sym c.size_fits.ensures ∙ c.in_ok-check-9.ensures.ok, (sym c.headers_fit.ensures ∙ e, tt))))))))))) c.check-10.ensures.ok

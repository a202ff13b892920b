use Rattle.std.proofs.Common.{◌∙◌, sym, lit<, rules}
use Rattle.std.proofs.lemmas.Result.{IfErr-weaker}
use Rattle.policy_blob.specs.Faults.{header_checks}
use Rattle.policy_blob.specs.ReadingInside.{IsFirstOf}
use Rattle.policy_blob.proofs.HeaderLemmas.{names_first}
use Rattle.policy_blob.proofs.reading.check_header.Goals as goal

pub returns-in_err-check-clause-fault : goal.returns-in_err-check-clause-fault
returns-in_err-check-clause-fault c =
    let e = c.in_err-check.ensures.fault in
    let known : IsFirstOf (header_checks c.args.bytes.now) c.in_err-check.field-0.0 = names_first _ _ 0 (lit< tt) tt e.0 (e.1 ∙ c.fault.ensures) in
    search rules

pub returns-in_err-check-2-clause-fault : goal.returns-in_err-check-2-clause-fault
returns-in_err-check-2-clause-fault c =
    let e = c.in_err-check-2.ensures.fault in
    let known : IsFirstOf (header_checks c.args.bytes.now) c.in_err-check-2.field-0.0 = names_first _ _ 1 (lit< tt) (c.in_ok-check.ensures.ok, tt) (sym c.has_signature.ensures ∙ e.0) (e.1 ∙ c.fault-2.ensures) in
    search rules

pub returns-in_err-check-3-clause-fault : goal.returns-in_err-check-3-clause-fault
returns-in_err-check-3-clause-fault c =
    let e = c.in_err-check-3.ensures.fault in
    let known : IsFirstOf (header_checks c.args.bytes.now) c.in_err-check-3.field-0.0 = names_first _ _ 2 (lit< tt) (c.in_ok-check.ensures.ok, ((sym c.has_signature.ensures ∙ c.in_ok-check-2.ensures.ok), tt)) (sym c.has_version.ensures ∙ e.0) (e.1 ∙ c.fault-3.ensures) in
    search rules

pub returns-in_err-check-4-clause-fault : goal.returns-in_err-check-4-clause-fault
returns-in_err-check-4-clause-fault c =
    let e = c.in_err-check-4.ensures.fault in
    let known : IsFirstOf (header_checks c.args.bytes.now) c.in_err-check-4.field-0.0 = names_first _ _ 3 (lit< tt) (c.in_ok-check.ensures.ok, ((sym c.has_signature.ensures ∙ c.in_ok-check-2.ensures.ok), ((sym c.has_version.ensures ∙ c.in_ok-check-3.ensures.ok), tt))) (sym c.keeps_reserved.ensures ∙ e.0) (e.1 ∙ c.fault-4.ensures) in
    search rules

pub returns-in_err-check-5-clause-fault : goal.returns-in_err-check-5-clause-fault
returns-in_err-check-5-clause-fault c =
    let e = c.in_err-check-5.ensures.fault in
    let known : IsFirstOf (header_checks c.args.bytes.now) c.in_err-check-5.field-0.0 = names_first _ _ 4 (lit< tt) (c.in_ok-check.ensures.ok, ((sym c.has_signature.ensures ∙ c.in_ok-check-2.ensures.ok), ((sym c.has_version.ensures ∙ c.in_ok-check-3.ensures.ok), ((sym c.keeps_reserved.ensures ∙ c.in_ok-check-4.ensures.ok), tt)))) (sym c.count_fits.ensures ∙ e.0) (e.1 ∙ c.fault-5.ensures) in
    search rules

pub returns-in_err-check-6-clause-fault : goal.returns-in_err-check-6-clause-fault
returns-in_err-check-6-clause-fault c =
    let e = c.in_err-check-6.ensures.fault in
    let known : IsFirstOf (header_checks c.args.bytes.now) c.in_err-check-6.field-0.0 = names_first _ _ 5 (lit< tt) (c.in_ok-check.ensures.ok, ((sym c.has_signature.ensures ∙ c.in_ok-check-2.ensures.ok), ((sym c.has_version.ensures ∙ c.in_ok-check-3.ensures.ok), ((sym c.keeps_reserved.ensures ∙ c.in_ok-check-4.ensures.ok), ((sym c.count_fits.ensures ∙ c.in_ok-check-5.ensures.ok), tt))))) (sym c.fuel_fits.ensures ∙ e.0) (e.1 ∙ c.fault-6.ensures) in
    search rules

pub returns-clause-fault : goal.returns-clause-fault
returns-clause-fault c =
    IfErr-weaker _ _ _ (λ fault e. names_first _ fault 6 (lit< tt) (c.in_ok-check.ensures.ok, ((sym c.has_signature.ensures ∙ c.in_ok-check-2.ensures.ok), ((sym c.has_version.ensures ∙ c.in_ok-check-3.ensures.ok), ((sym c.keeps_reserved.ensures ∙ c.in_ok-check-4.ensures.ok), ((sym c.count_fits.ensures ∙ c.in_ok-check-5.ensures.ok), ((sym c.fuel_fits.ensures ∙ c.in_ok-check-6.ensures.ok), tt)))))) (sym c.rules_fit.ensures ∙ e.0) (e.1 ∙ c.fault-7.ensures)) c.check-7.ensures.fault

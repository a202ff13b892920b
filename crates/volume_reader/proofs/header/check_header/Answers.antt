use Rattle.std.proofs.Common.{◌∙◌, eqb, sym, ap, lit<, rules}
use Rattle.std.proofs.lemmas.Result.{IfErr-weaker}
use Rattle.volume_reader.specs.VolumeGrammar.{HasBadHeader}
use Rattle.volume_reader.proofs.HeaderLemmas.{fails}
use Rattle.volume_reader.proofs.header.check_header.Goals as goal

pub returns-in_err-check-clause-fault : goal.returns-in_err-check-clause-fault
returns-in_err-check-clause-fault c =
    let e = c.in_err-check.ensures.fault in
    let known : HasBadHeader c.args.bytes.now c.in_err-check.field-0.0 = fails _ _ 0 (lit< tt) tt (e.0) (e.1 ∙ c.fault.ensures) in
    search rules

pub returns-in_err-check-2-clause-fault : goal.returns-in_err-check-2-clause-fault
returns-in_err-check-2-clause-fault c =
    let e = c.in_err-check-2.ensures.fault in
    let known : HasBadHeader c.args.bytes.now c.in_err-check-2.field-0.0 = fails _ _ 1 (lit< tt) (c.in_ok-check.ensures.ok, tt) (sym c.has_signature.ensures ∙ e.0) (e.1 ∙ c.fault-2.ensures) in
    search rules

pub returns-in_err-check-3-clause-fault : goal.returns-in_err-check-3-clause-fault
returns-in_err-check-3-clause-fault c =
    let e = c.in_err-check-3.ensures.fault in
    let known : HasBadHeader c.args.bytes.now c.in_err-check-3.field-0.0 = fails _ _ 2 (lit< tt) (c.in_ok-check.ensures.ok, (sym c.has_signature.ensures ∙ c.in_ok-check-2.ensures.ok, tt)) (sym c.header_length_fits.ensures ∙ e.0) (e.1 ∙ c.fault-3.ensures) in
    search rules

pub returns-in_err-check-4-clause-fault : goal.returns-in_err-check-4-clause-fault
returns-in_err-check-4-clause-fault c =
    let e = c.in_err-check-4.ensures.fault in
    let known : HasBadHeader c.args.bytes.now c.in_err-check-4.field-0.0 = fails _ _ 3 (lit< tt) (c.in_ok-check.ensures.ok, (sym c.has_signature.ensures ∙ c.in_ok-check-2.ensures.ok, (sym c.header_length_fits.ensures ∙ c.in_ok-check-3.ensures.ok, tt))) (sym c.header_sums_up.ensures ∙ e.0) (e.1 ∙ c.fault-4.ensures) in
    search rules

pub returns-in_err-check-5-clause-fault : goal.returns-in_err-check-5-clause-fault
returns-in_err-check-5-clause-fault c =
    let e = c.in_err-check-5.ensures.fault in
    let known : HasBadHeader c.args.bytes.now c.in_err-check-5.field-0.0 = fails _ _ 4 (lit< tt) (c.in_ok-check.ensures.ok, (sym c.has_signature.ensures ∙ c.in_ok-check-2.ensures.ok, (sym c.header_length_fits.ensures ∙ c.in_ok-check-3.ensures.ok, (sym c.header_sums_up.ensures ∙ c.in_ok-check-4.ensures.ok, tt)))) (sym (ap (λ n. eqb n 2) c.byte_at.ensures) ∙ e.0) (e.1 ∙ c.fault-5.ensures) in
    search rules

pub returns-in_err-check-6-clause-fault : goal.returns-in_err-check-6-clause-fault
returns-in_err-check-6-clause-fault c =
    let e = c.in_err-check-6.ensures.fault in
    let known : HasBadHeader c.args.bytes.now c.in_err-check-6.field-0.0 = fails _ _ 5 (lit< tt) (c.in_ok-check.ensures.ok, (sym c.has_signature.ensures ∙ c.in_ok-check-2.ensures.ok, (sym c.header_length_fits.ensures ∙ c.in_ok-check-3.ensures.ok, (sym c.header_sums_up.ensures ∙ c.in_ok-check-4.ensures.ok, (sym (ap (λ n. eqb n 2) c.byte_at.ensures) ∙ c.in_ok-check-5.ensures.ok, tt))))) (sym c.has_known_system.ensures ∙ e.0) (e.1 ∙ c.fault-6.ensures) in
    search rules

pub returns-in_err-check-7-clause-fault : goal.returns-in_err-check-7-clause-fault
returns-in_err-check-7-clause-fault c =
    let e = c.in_err-check-7.ensures.fault in
    let known : HasBadHeader c.args.bytes.now c.in_err-check-7.field-0.0 = fails _ _ 6 (lit< tt) (c.in_ok-check.ensures.ok, (sym c.has_signature.ensures ∙ c.in_ok-check-2.ensures.ok, (sym c.header_length_fits.ensures ∙ c.in_ok-check-3.ensures.ok, (sym c.header_sums_up.ensures ∙ c.in_ok-check-4.ensures.ok, (sym (ap (λ n. eqb n 2) c.byte_at.ensures) ∙ c.in_ok-check-5.ensures.ok, (sym c.has_known_system.ensures ∙ c.in_ok-check-6.ensures.ok, tt)))))) (sym c.volume_length_fits.ensures ∙ e.0) (e.1 ∙ c.fault-7.ensures) in
    search rules

pub returns-clause-fault : goal.returns-clause-fault
returns-clause-fault c =
    IfErr-weaker _ _ _ (λ fault e. fails _ fault 7 (lit< tt) (c.in_ok-check.ensures.ok, (sym c.has_signature.ensures ∙ c.in_ok-check-2.ensures.ok, (sym c.header_length_fits.ensures ∙ c.in_ok-check-3.ensures.ok, (sym c.header_sums_up.ensures ∙ c.in_ok-check-4.ensures.ok, (sym (ap (λ n. eqb n 2) c.byte_at.ensures) ∙ c.in_ok-check-5.ensures.ok, (sym c.has_known_system.ensures ∙ c.in_ok-check-6.ensures.ok, (sym c.volume_length_fits.ensures ∙ c.in_ok-check-7.ensures.ok, tt))))))) (sym c.ext_header_fits.ensures ∙ e.0) (e.1 ∙ c.fault-8.ensures)) c.check-8.ensures.fault

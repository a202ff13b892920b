-- The invocation of an entry: it stays within its image, and the code's is that of the definition.
use Rattle.std.proofs.Common.{◌≡◌, ◌⊎◌, inl, inr, ℕ, Bool, ◌+◌, ◌-◌, [], ◌∷◌, length, replicate, ap, ◌∙◌}
use Rattle.domain_runs.specs.Runs.{ending}
use Rattle.domain_runs.proofs.RunLemmas.{run_keeps}
use Rattle.ebc_machine.specs.Invocation.{IsRefusal, entered}
use Rattle.ebc_machine.specs.Laws.{Keeps}
use Rattle.mm_base.specs.Bus.{Answers}
use Rattle.mm_base.specs.Records.{RecordsState}
use Rattle.mm_base.specs.Regions.{service_page_of, stack_of}
use Rattle.mm_base.specs.declared.invocation.Ended.{Ended}
use Rattle.mm_base.specs.declared.range.Range.{Range}
use Rattle.mm_base.specs.declared.region.Region.{Region}
use Rattle.supervisor_calls.specs.Domains.{DomainState}
use Rattle.supervisor_calls.specs.Services.{domain_meaning}
use Rattle.supervisor_calls.specs.Tables.{TablesState}
use Rattle.supervisor_calls.specs.Within.{CallsStayWithin, IsOrderly, StaysWithin}
use Rattle.supervisor_calls.proofs.WithinServices.{calls_stay_within}
use Rattle.driver_start.specs.Starts.{blank, entry_run, opening_domain}

-- the invocation of an entry stays within its image
pub run_stays : (region : Region) (entry : ℕ) (tables : TablesState) → IsOrderly tables
    → StaysWithin (opening_domain tables) (entry_run region entry tables).1
unfolding entry_run
run_stays region entry tables orderly =
    let before : DomainState = opening_domain tables in
    let law : CallsStayWithin = calls_stay_within in
    let keeps : Keeps (StaysWithin before) domain_meaning = record {
      fetches = λ after at n s. law.fetches before after at n s;
      reads = λ after at n s. law.reads before after at n s;
      writes = λ after at n value s. law.writes before after at n value s;
      serves = λ after number stack s. law.serves before after number stack s;
    } in
    run_keeps (StaysWithin before) domain_meaning keeps tables.site.policy.fuel _ _ _ before (law.begins before orderly)

-- an invocation of the code is that of the definition
pub run_told : (region : Region) (entry : ℕ) (tables : TablesState) (records : RecordsState) (fuel images : ℕ) (stack page : Range) (domain left : DomainState) (end : Ended)
    → fuel ≡ tables.site.policy.fuel → images ≡ length tables.site.images → stack ≡ stack_of region → page ≡ service_page_of region
    → domain ≡ record { tables = tables; image = images - 1; saved = record { 0 = replicate 19 0 }; records = records } → records ≡ blank
    → Answers (ending domain_meaning fuel (entered domain_meaning (stack.base + stack.length) (region.base + entry) ((images - 1 + 1) ∷ page.base ∷ 0 ∷ 0 ∷ []) domain)) end left
    → Answers (entry_run region entry tables) end left
unfolding entry_run
run_told region entry tables records fuel images stack page domain left end fuel_is images_are stack_is page_is domain_is none answers =
    let opened : domain ≡ opening_domain tables =
    domain_is ∙ (λ i. record { tables = tables; image = images_are i - 1; saved = record { 0 = replicate 19 0 }; records = none i }) in
    let told : ending domain_meaning fuel (entered domain_meaning (stack.base + stack.length) (region.base + entry) ((images - 1 + 1) ∷ page.base ∷ 0 ∷ 0 ∷ []) domain) ≡ entry_run region entry tables =
    λ i.
    ending domain_meaning (fuel_is i)
    (entered domain_meaning ((stack_is i).base + (stack_is i).length) (region.base + entry) ((images_are i - 1 + 1) ∷ (page_is i).base ∷ 0 ∷ 0 ∷ []) (opened i)) in
    (answers.0 ∙ ap (λ p. p.0) told, answers.1 ∙ ap (λ p. p.1) told)

-- where nothing was refused
pub not_refused : {P : Type 0} (may_refuse : Bool) (end : Ended) → IsRefusal may_refuse end ⊎ P → (IsRefusal may_refuse end → ⊥) → P
not_refused may_refuse end (inl refused) none = absurd (none refused)
not_refused may_refuse end (inr p) none = p

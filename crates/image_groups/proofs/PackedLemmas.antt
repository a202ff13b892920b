-- What the calls of a locked domain keep: its image, its registers and all that stays from lock on, and what each of their effects keeps.
use Rattle.std.proofs.Common.{◌≡◌, ℕ, Bool, true, false, if◌then◌else◌, nat_lt, List, [], ◌∷◌, ◌++◌, length, set, refl, sym, ap, ◌∙◌, subst}
use Rattle.ebc_machine.specs.Laws.{Keeps}
use Rattle.mm_base.specs.Frames.{zeros}
use Rattle.mm_base.specs.declared.access.Denial.{Denial}
use Rattle.mm_base.specs.declared.access.Kind.{Kind}
use Rattle.mm_base.specs.declared.access.Kind.TheVariants as kinds
use Rattle.mm_base.specs.declared.access.Right.TheVariants as rights
use Rattle.mmi_registry.specs.Registry.{RegistryState}
use Rattle.pool_tree.specs.Pool.{Block}
use Rattle.protocol_db.specs.ProtocolDb.{DbState}
use Rattle.secure_policy.specs.Laws.{passes}
use Rattle.supervisor_calls.specs.Accesses.{with_bytes, with_cell_write, with_number}
use Rattle.supervisor_calls.specs.Deeds.{after_clearing, after_write, with_denied, with_handlers, with_interfaces, with_pool, with_reserve}
use Rattle.supervisor_calls.specs.Domains.{DomainState, acted, acting_of, verdict_in, write_verdict}
use Rattle.supervisor_calls.specs.Services.{domain_meaning}
use Rattle.supervisor_calls.specs.Tables.{Live, Site}
use Rattle.supervisor_calls.proofs.CellLemmas.{passes_without_quota}
use Rattle.domain_runs.proofs.KeptLemmas.{KeepsParts, calls_kept}
use Rattle.image_groups.proofs.DomainLemmas.{Work, packed}

module _ (site : Site) (registry : RegistryState) (protocols : DbState) (pages : List Bool) (image : ℕ) (R : Live → Type 0) where
  abbrev domain : Work → DomainState
  domain = packed site registry protocols pages image

  -- each effect of a call keeps what holds of what a step may change
  pub record KeepsEffects : Type 0 where
    pub write : (work : Work) (kind : Kind) (at n value : ℕ) → passes (verdict_in (domain work) kind at n rights.Write) ≡ true
        → R work.live → R (with_number kind at n value work.live)
    pub clearing : (work : Work) (at n : ℕ) → passes (verdict_in (domain work) kinds.Memory at n rights.Write) ≡ true
        → R work.live → R (with_bytes at (zeros n) work.live)
    pub pool : (pool : List Block) (live : Live) → R live → R (record live { pools = set live.pools image pool })
    pub reserve : (reserve : List Bool) (live : Live) → R live → R (record live { reserves = set live.reserves image reserve })

  -- a domain of this image at work, of which that holds
  abbrev pub IsAtWork : DomainState → Type 0
  IsAtWork d = (work : Work) × ((d ≡ domain work) × R work.live)

  module _ (effects : KeepsEffects) where
    parts : KeepsParts IsAtWork
    parts = record {
      denial = λ denial d p.
          subst (λ x. IsAtWork (with_denied denial x)) (sym p.1.0) (by_room denial p.0 p.1.1 (nat_lt (length p.0.records.denials) 8));
      write = λ kind at n value d pass p. subst (λ x. IsAtWork (after_write kind at n value x)) (sym p.1.0) (
        record { live = with_number kind at n value p.0.live; saved = p.0.saved; records = with_cell_write kind at n value p.0.records },
        (refl, effects.write p.0 kind at n value (unlimited p.0 kind at n (ap (λ x. passes (write_verdict x kind at n)) (sym p.1.0) ∙ pass)) p.1.1),
      );
      clearing = λ at n d pass p. subst (λ x. IsAtWork (after_clearing at n x)) (sym p.1.0) (
        record p.0 { live = with_bytes at (zeros n) p.0.live },
        (
          refl,
          effects.clearing p.0 at n
              (unlimited p.0 kinds.Memory at n (ap (λ x. passes (write_verdict x kinds.Memory at n)) (sym p.1.0) ∙ pass)) p.1.1,
        ),
      );
      pool = λ pool d p. subst (λ x. IsAtWork (with_pool pool x)) (sym p.1.0)
          (record p.0 { live = record p.0.live { pools = set p.0.live.pools image pool } }, (refl, effects.pool pool p.0.live p.1.1));
      reserve = λ reserve d p. subst (λ x. IsAtWork (with_reserve reserve x)) (sym p.1.0)
          (record p.0 { live = record p.0.live { reserves = set p.0.live.reserves image reserve } }, (refl, effects.reserve reserve p.0.live p.1.1));
      handlers = λ others d p. subst (λ x. IsAtWork (with_handlers others x)) (sym p.1.0) (p.0, (refl, p.1.1));
      interfaces = λ others d p. subst (λ x. IsAtWork (with_interfaces others x)) (sym p.1.0) (p.0, (refl, p.1.1));
    }
      where
        unlimited : (work : Work) (kind : Kind) (at n : ℕ) → passes (write_verdict (domain work) kind at n) ≡ true
            → passes (verdict_in (domain work) kind at n rights.Write) ≡ true
        unlimited work kind at n pass = passes_without_quota kind at work.records (verdict_in (domain work) kind at n rights.Write) pass

        by_room : (denial : Denial) (work : Work) → R work.live → (room : Bool)
            → IsAtWork (acted (domain work) (
            if room
            then record (acting_of (domain work)) { records = record work.records { denials = work.records.denials ++ denial ∷ [] } }
            else acting_of (domain work)
            ))
        by_room denial work r true = (record work { records = record work.records { denials = work.records.denials ++ denial ∷ [] } }, (refl, r))
        by_room denial work r false = (work, (refl, r))

    pub at_work : Keeps IsAtWork domain_meaning
    at_work = calls_kept IsAtWork parts

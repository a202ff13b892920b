-- No public clause cites this file.
-- How the parts of services say what they do.
use Rattle.std.specs.Prelude.{ℕ, ◌⊎◌, Result, Ok, Err}
use Rattle.mm_base.specs.Bus.{Answers, IsOutOfMemory}
use Rattle.mm_base.specs.declared.access.Kind.{Kind}
use Rattle.mm_base.specs.declared.access.Right.TheVariants as rights
use Rattle.mm_base.specs.declared.bus.Served.{Served}
use Rattle.mm_base.specs.declared.bus.Served.TheVariants.{Status}
use Rattle.supervisor_calls.specs.Accesses.{denial_of}
use Rattle.supervisor_calls.specs.Deeds.{Deed, done, let_through}
use Rattle.supervisor_calls.specs.Domains.{DomainState, verdict_in, write_verdict}

-- how a service is answered: with a status, or else so
abbrev pub spoken : Result ℕ Served → Served
spoken (Ok status) = Status status
spoken (Err served) = served

-- a deed was made
abbrev pub Does : Deed → DomainState → Result ℕ Served → DomainState → Type 0
Does deed old answer new = Answers (done deed old) (spoken answer) new

-- the same, where a growth may have been refused
abbrev pub DoesOrRefuses : Deed → DomainState → Result ℕ Served → DomainState → Type 0
DoesOrRefuses deed old answer new = IsOutOfMemory (spoken answer) ⊎ Does deed old answer new

-- an access that is let through, or not, and changes nothing else
abbrev pub read_let_through : Kind → ℕ → ℕ → DomainState → Result (Unit {0}) Served × DomainState
read_let_through kind at n domain =
    let_through (verdict_in domain kind at n rights.Read) (denial_of kind rights.Read at n) tt domain domain

abbrev pub write_let_through : Kind → ℕ → ℕ → DomainState → Result (Unit {0}) Served × DomainState
write_let_through kind at n domain =
    let_through (write_verdict domain kind at n) (denial_of kind rights.Write at n) tt domain domain

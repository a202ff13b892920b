-- What the checks of an image come to, one after another.
use Rattle.std.proofs.Common.{◌≡◌, ℕ, get_or, take, tests, ◌<◌, true, false, List, length, None, ap, ◌∙◌, rules}
use Rattle.mm_base.proofs.CheckLemmas.{AllPass, first_at, all_pass}
use Rattle.mm_base.specs.Checks.{Check, first_failing}
use Rattle.mm_base.specs.declared.image.PeFault.{PeFault}
use Rattle.mm_base.specs.declared.image.PeKind.{PeKind}
use Rattle.mm_base.specs.declared.image.PeKind.TheVariants.{Short}
use Rattle.pe_loader.specs.Headers.{header_checks, FailsFirst}
use Rattle.pe_loader.specs.LayoutInside.{HasHeaders}

-- a check that is passed
abbrev pub passed_check : Check PeKind
passed_check = record { kind = Short; at = 0; passes = true }

-- the k-th of these checks, which fails behind others that pass, is the fault
pub fails : (checks : List (Check PeKind)) (fault : PeFault) (k at : ℕ) → k < length checks → AllPass (take k checks)
    → (get_or checks k passed_check).passes ≡ false
    → fault ≡ record { at = at; kind = (get_or checks k passed_check).kind } → at ≡ (get_or checks k passed_check).at
    → FailsFirst checks fault
fails checks fault k at h pass e is there = record {
  check = get_or checks k passed_check;
  first = first_at checks k passed_check h pass e;
  kind_is = ap (λ (f : PeFault). f.kind) is;
  place_is = ap (λ (f : PeFault). f.at) is ∙ there;
}

-- what headers say that pass their checks
pub has_headers : (bytes : List ℕ) → first_failing (header_checks bytes) ≡ None → HasHeaders bytes
unfolding header_checks
has_headers bytes none =
    let pass : AllPass (header_checks bytes) = all_pass (header_checks bytes) none in
    record {
      room = search (rules, tests);
      directories = search (rules, tests);
      some = search (rules, tests);
      most = search (rules, tests);
      table = search (rules, tests);
      in_file = search (rules, tests);
      in_image = search (rules, tests);
    }

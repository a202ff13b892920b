use Rattle.std.proofs.Common.{ℕ, IfOk, IfErr, Ok, ap, ◌∙◌, length, take, arith, rules}
use Rattle.volume_reader.specs.VolumeGrammar.{IsVolume, HasFault}
use Rattle.mm_base.specs.End.{EndsBy}
use Rattle.volume_reader.proofs.HeaderLemmas.{passed, first_near}
use Rattle.volume_reader.proofs.LawLemmas.{is_volume, told_found, told_first}
use Rattle.volume_reader.proofs.reading.read_volume.Goals as goal

pub split_at-requires : goal.split_at-requires
split_at-requires c =
    let p = passed c.args.bytes.now c.in_ok-check_header.ensures.ok in
    omega (arith, p.within, c.volume_length.ensures)

pub read_files-requires-clause-within : goal.read_files-requires-clause-within
read_files-requires-clause-within c =
    let near = first_near c.args.bytes.now c.in_ok-check_header.ensures.ok in
    omega (arith, near, c.split_at.ensures.front_len, c.volume_length.ensures, c.first_place.ensures)

pub returns-in_err-files-clause-found : goal.returns-in_err-files-clause-found
returns-in_err-files-clause-found c =
    let bytes = c.args.bytes.now in
    let result = c.from_residual-in_err-files.result in
    let ok : IfOk result (IsVolume bytes) = search rules in
    let err : IfErr result (EndsBy (HasFault bytes)) = search rules in
    told_found bytes result ok err

pub returns-in_err-files-clause-first : goal.returns-in_err-files-clause-first
returns-in_err-files-clause-first c =
    let bytes = c.args.bytes.now in
    let result = c.from_residual-in_err-files.result in
    let ok : IfOk result (IsVolume bytes) = search rules in
    let err : IfErr result (EndsBy (HasFault bytes)) = search rules in
    told_first bytes result ok err

pub returns-clause-found : goal.returns-clause-found
returns-clause-found c =
    let bytes = c.args.bytes.now in
    let inside = c.split_at.ensures.front ∙ ap (λ (n : ℕ). take n bytes) c.volume_length.ensures in
    let long = c.split_at.ensures.front_len ∙ c.volume_length.ensures in
    let is = is_volume bytes _ _ _ _ _ c.in_ok-check_header.ensures.ok inside long c.is_ffs3.ensures c.erase_polarity.ensures c.first_place.ensures c.in_ok-files.ensures.files in
    told_found bytes (Ok (record { length = length c.split_at.result.0.now; ffs3 = c.is_ffs3.result; files = c.in_ok-files.files })) is tt

pub returns-clause-first : goal.returns-clause-first
returns-clause-first c =
    let bytes = c.args.bytes.now in
    let inside = c.split_at.ensures.front ∙ ap (λ (n : ℕ). take n bytes) c.volume_length.ensures in
    let long = c.split_at.ensures.front_len ∙ c.volume_length.ensures in
    let is = is_volume bytes _ _ _ _ _ c.in_ok-check_header.ensures.ok inside long c.is_ffs3.ensures c.erase_polarity.ensures c.first_place.ensures c.in_ok-files.ensures.files in
    told_first bytes (Ok (record { length = length c.split_at.result.0.now; ffs3 = c.is_ffs3.result; files = c.in_ok-files.files })) is tt

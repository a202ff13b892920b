use Rattle.std.proofs.Common.{◌≡◌, inl, inr}
use Rattle.volume_boot.proofs.BootLemmas.{few_of, is_boot, kept_of, loaded_sound, scheduled_differ, scheduled_few, scheduled_numbered, volume_few, within_of}
use Rattle.volume_reader.proofs.Offered.{files_in_bytes}
use Rattle.volume_boot.proofs.booting.boot_volume.Goals as goal

pub policy_of-requires-clause-within : goal.policy_of-requires-clause-within
policy_of-requires-clause-within c = files_in_bytes c.args.bytes.now c.args.volume.now c.requires.volume

pub catalog-requires-clause-within : goal.catalog-requires-clause-within
catalog-requires-clause-within c = files_in_bytes c.args.bytes.now c.args.volume.now c.requires.volume

pub find_drivers-requires-clause-within : goal.find_drivers-requires-clause-within
find_drivers-requires-clause-within c =
    within_of c.args.bytes.now c.args.volume.now.files c.as_slice.result.now c.as_slice.ensures
    (files_in_bytes c.args.bytes.now c.args.volume.now c.requires.volume)

pub find_drivers-requires-clause-few : goal.find_drivers-requires-clause-few
find_drivers-requires-clause-few c =
    few_of c.args.volume.now.files c.as_slice.result.now c.as_slice.ensures
    (volume_few c.args.bytes.now c.args.volume.now c.requires.volume c.requires.few)

pub run_rounds-requires-clause-names : goal.run_rounds-requires-clause-names
run_rounds-requires-clause-names c =
    scheduled_differ c.args.bytes.now c.args.volume.now c.requires.volume c.requires.few c.in_ok-words.words c.in_ok-words.ensures.words
    c.in_ok-drivers.drivers.scheduled c.in_ok-drivers.drivers.loaded.items
    (kept_of c.args.bytes.now c.args.volume.now.files c.in_ok-words.words c.as_slice.result.now c.as_slice-2.result.now c.as_slice.ensures c.as_slice-2.ensures
    c.in_ok-drivers.drivers.scheduled c.in_ok-drivers.drivers.loaded.items c.in_ok-drivers.ensures)

pub run_rounds-requires-clause-numbers : goal.run_rounds-requires-clause-numbers
run_rounds-requires-clause-numbers c =
    scheduled_numbered c.args.bytes.now c.args.volume.now c.requires.volume c.requires.few c.in_ok-words.words c.in_ok-words.ensures.words
    c.in_ok-drivers.drivers.scheduled c.in_ok-drivers.drivers.loaded.items
    (kept_of c.args.bytes.now c.args.volume.now.files c.in_ok-words.words c.as_slice.result.now c.as_slice-2.result.now c.as_slice.ensures c.as_slice-2.ensures
    c.in_ok-drivers.drivers.scheduled c.in_ok-drivers.drivers.loaded.items c.in_ok-drivers.ensures)

pub run_rounds-requires-clause-few : goal.run_rounds-requires-clause-few
run_rounds-requires-clause-few c =
    scheduled_few c.args.bytes.now c.args.volume.now c.requires.volume c.requires.few c.in_ok-words.words c.in_ok-words.ensures.words
    c.in_ok-drivers.drivers.scheduled c.in_ok-drivers.drivers.loaded.items
    (kept_of c.args.bytes.now c.args.volume.now.files c.in_ok-words.words c.as_slice.result.now c.as_slice-2.result.now c.as_slice.ensures c.as_slice-2.ensures
    c.in_ok-drivers.drivers.scheduled c.in_ok-drivers.drivers.loaded.items c.in_ok-drivers.ensures)

pub run_rounds-requires-clause-sound : goal.run_rounds-requires-clause-sound
run_rounds-requires-clause-sound c =
    loaded_sound c.args.bytes.now c.args.volume.now c.requires.volume c.requires.few c.in_ok-words.words c.in_ok-words.ensures.words
    c.in_ok-drivers.drivers.scheduled c.in_ok-drivers.drivers.loaded.items
    (kept_of c.args.bytes.now c.args.volume.now.files c.in_ok-words.words c.as_slice.result.now c.as_slice-2.result.now c.as_slice.ensures c.as_slice-2.ensures
    c.in_ok-drivers.drivers.scheduled c.in_ok-drivers.drivers.loaded.items c.in_ok-drivers.ensures)

pub returns-clause-boot : goal.returns-clause-boot
returns-clause-boot c =
    is_boot c.args.bytes.now c.args.volume.now c.requires.volume c.requires.few c.in_ok-words.words c.in_ok-words.ensures.words
    c.in_ok-drivers.drivers.scheduled c.in_ok-drivers.drivers.loaded.items
    (kept_of c.args.bytes.now c.args.volume.now.files c.in_ok-words.words c.as_slice.result.now c.as_slice-2.result.now c.as_slice.ensures c.as_slice-2.ensures
    c.in_ok-drivers.drivers.scheduled c.in_ok-drivers.drivers.loaded.items c.in_ok-drivers.ensures) c.in_ok-policy.policy c.in_ok-policy.ensures.policy
    c.policy_or_default.result c.policy_or_default.ensures c.args.opening.now.cells c.in_ok-host.host c.in_ok-host.ensures c.in_ok-boot.boot
    c.in_ok-boot.ensures.value

pub returns-clause-first : goal.returns-clause-first
returns-clause-first c = λ fault has. elim (c.in_ok-policy.ensures.first fault has) [ inl is ↦ absurd cc | inr is ↦ absurd cc ]

-- What is granted to a group is the same after erasing, and what isn't granted may change without a trace.
use Rattle.std.proofs.Common.{◌≡◌, ◌⊎◌, inl, inr, ℕ, ◌+◌, ◌-◌, ◌≤◌, ◌<◌, Bool, true, false, if◌then◌else◌, nat_lt}
use Rattle.std.proofs.Common.{List, [], length, take, drop, get_or, set, replicate, refl, sym, ap, ◌∙◌, subst, arith}
use Rattle.std.proofs.lemmas.Bool.Decides.{nat_tests}
use Rattle.std.proofs.lemmas.List.{length-set, length-take}
use Rattle.mm_base.specs.Cells.{is_device_byte, is_msr}
use Rattle.mm_base.specs.Numbers.{bytes_of_word, low_bytes, number_in, number_of, overwritten}
use Rattle.mm_base.specs.Range.{Has}
use Rattle.mm_base.specs.declared.access.Kind.{Kind}
use Rattle.mm_base.specs.declared.access.Kind.TheVariants as kinds
use Rattle.mm_memory.proofs.PageLemmas.{length-overwritten}
use Rattle.platform_model.specs.Cells.{register_in, with_register}
use Rattle.secure_policy.specs.Verdicts.{units_from}
use Rattle.supervisor_calls.specs.Accesses.{bytes_at, with_bytes}
use Rattle.supervisor_calls.specs.Tables.{Live, Site}
use Rattle.supervisor_calls.proofs.WhereLemmas.{InDevice, device_told}
use Rattle.image_groups.specs.Erasing.{erase}
use Rattle.image_groups.specs.Groups.{Group, granted}
use Rattle.image_groups.specs.RunLaws.{IsWhole}
use Rattle.image_groups.proofs.MaskLemmas.{get_or-masked, masked-overwritten_other, masked-set_other, masked_twice, overwritten-masked, piece_at_same}
use Rattle.image_groups.proofs.MaskLemmas.{set-masked}
use Rattle.image_groups.proofs.PlaceLemmas.{InMmram}

-- memory isn't the device window
memory_told : (at n : ℕ) → InMmram at n → 1 ≤ n → is_device_byte at ≡ false
memory_told at n inside some = grind (arith, nat_tests, inside.from, inside.to)

module _ (group : Group) (site : Site) where
  -- each of the n units from a base on is granted to the group, or none is
  abbrev pub AreGranted : Kind → ℕ → ℕ → Type 0
  AreGranted kind base n = (unit : ℕ) → Has (units_from base n) unit → granted group site kind unit ≡ true

  abbrev pub AreSpared : Kind → ℕ → ℕ → Type 0
  AreSpared kind base n = (unit : ℕ) → Has (units_from base n) unit → granted group site kind unit ≡ false

  -- of a list that begins at a base, by place
  by_place : (value : Bool) (kind : Kind) (begin at n : ℕ) → begin ≤ at
      → ((unit : ℕ) → Has (units_from at n) unit → granted group site kind unit ≡ value)
      → (k : ℕ) → at - begin ≤ k → k < at - begin + n → granted group site kind (begin + k) ≡ value
  by_place value kind begin at n low each k from to = each (begin + k) (record { from = omega (arith, low, from); to = omega (arith, low, to) })

  -- ---- what is read

  pub bytes_same : (live : Live) (at n : ℕ) → 1 ≤ n → InMmram at n ⊎ InDevice at n → AreGranted kinds.Memory at n
      → bytes_at (erase group site live) at n ≡ bytes_at live at n
  bytes_same live at n some (inl memory) each =
      let told : is_device_byte at ≡ false = memory_told at n memory some in
      ap (λ (b : Bool). if b then take n (drop (at - 0xfe000000) (erase group site live).platform.device)
      else take n (drop (at - 0x80000000) (erase group site live).memory)) told
      ∙ piece_at_same 0 (λ k. granted group site kinds.Memory (0x80000000 + k)) (at - 0x80000000) n live.memory
      (by_place true kinds.Memory 0x80000000 at n memory.from each)
      ∙ sym (ap (λ (b : Bool). if b then take n (drop (at - 0xfe000000) live.platform.device) else take n (drop (at - 0x80000000) live.memory)) told)
  bytes_same live at n some (inr device) each =
      let told : is_device_byte at ≡ true = device_told at n device some in
      ap (λ (b : Bool). if b then take n (drop (at - 0xfe000000) (erase group site live).platform.device)
      else take n (drop (at - 0x80000000) (erase group site live).memory)) told
      ∙ piece_at_same 0 (λ k. granted group site kinds.Memory (0xfe000000 + k)) (at - 0xfe000000) n live.platform.device
      (by_place true kinds.Memory 0xfe000000 at n device.from each)
      ∙ sym (ap (λ (b : Bool). if b then take n (drop (at - 0xfe000000) live.platform.device) else take n (drop (at - 0x80000000) live.memory)) told)

  pub ports_same : (live : Live) (at n : ℕ) → AreGranted kinds.Io at n
      → number_in (erase group site live).platform.ports at n ≡ number_in live.platform.ports at n
  ports_same live at n each =
      ap number_of (piece_at_same 0 (λ k. granted group site kinds.Io k) at n live.platform.ports
      (λ k from to. each k (record { from = from; to = to })))

  upper_from : (index : ℕ) → is_msr index ≡ true → nat_lt index 0x2000 ≡ false → 0xc0000000 ≤ index
  upper_from index there high = grind (arith, nat_tests, there, high)

  pub register_same : (live : Live) (index n : ℕ) → 1 ≤ n → is_msr index ≡ true → AreGranted kinds.Msr index n
      → register_in (erase group site live).platform index ≡ register_in live.platform index
  register_same live index n some there each = by_test (nat_lt index 0x2000) refl
    where
      mine : granted group site kinds.Msr index ≡ true
      mine = each index (record { from = omega arith; to = omega (arith, some) })

      by_test : (low : Bool) → nat_lt index 0x2000 ≡ low
          → (if low then get_or (erase group site live).platform.msrs index 0
          else get_or (erase group site live).platform.upper_msrs (index - 0xc0000000) 0)
          ≡ (if low then get_or live.platform.msrs index 0 else get_or live.platform.upper_msrs (index - 0xc0000000) 0)
      by_test true is = get_or-masked 0 (λ k. granted group site kinds.Msr k) live.platform.msrs index 0 mine
      by_test false is =
          let from : 0xc0000000 ≤ index = upper_from index there is in
          get_or-masked 0 (λ k. granted group site kinds.Msr (0xc0000000 + k)) live.platform.upper_msrs (index - 0xc0000000) 0
          (ap (λ (k : ℕ). granted group site kinds.Msr k) (omega (arith, from)) ∙ mine)

  -- ---- what is written

  -- a piece of n bytes at most
  module _ (live : Live) (whole : IsWhole live) (at n : ℕ) (piece : List ℕ) (few : length piece ≤ n) (some : 1 ≤ n) where
    pub with_bytes-erased : InMmram at n ⊎ InDevice at n → AreGranted kinds.Memory at n
        → with_bytes at piece (erase group site live) ≡ erase group site (with_bytes at piece live)
    with_bytes-erased (inl memory) each =
        let told : is_device_byte at ≡ false = memory_told at n memory some in
        let P : Bool → Type 0 = λ b. (if b
        then record (erase group site live) {
          platform = record (erase group site live).platform { device = overwritten (erase group site live).platform.device (at - 0xfe000000) piece };
        }
        else record (erase group site live) { memory = overwritten (erase group site live).memory (at - 0x80000000) piece })
        ≡ erase group site (if b
        then record live { platform = record live.platform { device = overwritten live.platform.device (at - 0xfe000000) piece } }
        else record live { memory = overwritten live.memory (at - 0x80000000) piece }) in
        subst P (sym told)
        (ap (λ (bytes : List ℕ). record (erase group site live) { memory = bytes })
        (overwritten-masked (λ k. granted group site kinds.Memory (0x80000000 + k)) live.memory piece (at - 0x80000000)
        (omega (arith, whole.memory, memory.from, memory.to))
        (λ k from to. by_place true kinds.Memory 0x80000000 at n memory.from each k from (omega (arith, to, few)))))
    with_bytes-erased (inr device) each =
        let told : is_device_byte at ≡ true = device_told at n device some in
        let P : Bool → Type 0 = λ b. (if b
        then record (erase group site live) {
          platform = record (erase group site live).platform { device = overwritten (erase group site live).platform.device (at - 0xfe000000) piece };
        }
        else record (erase group site live) { memory = overwritten (erase group site live).memory (at - 0x80000000) piece })
        ≡ erase group site (if b
        then record live { platform = record live.platform { device = overwritten live.platform.device (at - 0xfe000000) piece } }
        else record live { memory = overwritten live.memory (at - 0x80000000) piece }) in
        subst P (sym told)
        (ap (λ (bytes : List ℕ). record (erase group site live) { platform = record (erase group site live).platform { device = bytes } })
        (overwritten-masked (λ k. granted group site kinds.Memory (0xfe000000 + k)) live.platform.device piece (at - 0xfe000000)
        (omega (arith, whole.cells.device, device.from, device.to))
        (λ k from to. by_place true kinds.Memory 0xfe000000 at n device.from each k from (omega (arith, to, few)))))

    pub erased-with_bytes : InMmram at n ⊎ InDevice at n → AreSpared kinds.Memory at n
        → erase group site (with_bytes at piece live) ≡ erase group site live
    erased-with_bytes (inl memory) each =
        let told : is_device_byte at ≡ false = memory_told at n memory some in
        let P : Bool → Type 0 = λ b. erase group site (if b
        then record live { platform = record live.platform { device = overwritten live.platform.device (at - 0xfe000000) piece } }
        else record live { memory = overwritten live.memory (at - 0x80000000) piece }) ≡ erase group site live in
        subst P (sym told)
        (ap (λ (bytes : List ℕ). record (erase group site live) { memory = bytes })
        (masked-overwritten_other (λ k. granted group site kinds.Memory (0x80000000 + k)) live.memory piece (at - 0x80000000)
        (omega (arith, whole.memory, memory.from, memory.to, few))
        (λ k from to. by_place false kinds.Memory 0x80000000 at n memory.from each k from (omega (arith, to, few)))))
    erased-with_bytes (inr device) each =
        let told : is_device_byte at ≡ true = device_told at n device some in
        let P : Bool → Type 0 = λ b. erase group site (if b
        then record live { platform = record live.platform { device = overwritten live.platform.device (at - 0xfe000000) piece } }
        else record live { memory = overwritten live.memory (at - 0x80000000) piece }) ≡ erase group site live in
        subst P (sym told)
        (ap (λ (bytes : List ℕ). record (erase group site live) { platform = record (erase group site live).platform { device = bytes } })
        (masked-overwritten_other (λ k. granted group site kinds.Memory (0xfe000000 + k)) live.platform.device piece (at - 0xfe000000)
        (omega (arith, whole.cells.device, device.from, device.to, few))
        (λ k from to. by_place false kinds.Memory 0xfe000000 at n device.from each k from (omega (arith, to, few)))))

    pub with_bytes-whole : InMmram at n ⊎ InDevice at n → IsWhole (with_bytes at piece live)
    with_bytes-whole (inl memory) =
        let told : is_device_byte at ≡ false = memory_told at n memory some in
        let P : Bool → Type 0 = λ b. IsWhole (if b
        then record live { platform = record live.platform { device = overwritten live.platform.device (at - 0xfe000000) piece } }
        else record live { memory = overwritten live.memory (at - 0x80000000) piece }) in
        subst P (sym told) (record {
          memory = length-overwritten live.memory piece (at - 0x80000000) (omega (arith, whole.memory, memory.from, memory.to, few)) ∙ whole.memory;
          cells = whole.cells;
        })
    with_bytes-whole (inr device) =
        let told : is_device_byte at ≡ true = device_told at n device some in
        let P : Bool → Type 0 = λ b. IsWhole (if b
        then record live { platform = record live.platform { device = overwritten live.platform.device (at - 0xfe000000) piece } }
        else record live { memory = overwritten live.memory (at - 0x80000000) piece }) in
        subst P (sym told) (record {
          memory = whole.memory;
          cells = record {
            ports = whole.cells.ports;
            device = length-overwritten live.platform.device piece (at - 0xfe000000) (omega (arith, whole.cells.device, device.from, device.to, few))
                ∙ whole.cells.device;
            msrs = whole.cells.msrs;
            upper_msrs = whole.cells.upper_msrs;
          };
        })

  -- ---- cells

  module _ (live : Live) (whole : IsWhole live) (at n : ℕ) (piece : List ℕ) (few : length piece ≤ n) (within : at + n ≤ 65536) where
    pub ports-erased : AreGranted kinds.Io at n
        → record (erase group site live) {
          platform = record (erase group site live).platform { ports = overwritten (erase group site live).platform.ports at piece };
        }
        ≡ erase group site (record live { platform = record live.platform { ports = overwritten live.platform.ports at piece } })
    ports-erased each =
        ap (λ (ports : List ℕ). record (erase group site live) { platform = record (erase group site live).platform { ports = ports } })
        (overwritten-masked (λ k. granted group site kinds.Io k) live.platform.ports piece at (omega (arith, whole.cells.ports, within))
        (λ k from to. each k (record { from = from; to = omega (arith, to, few) })))

    pub erased-ports : AreSpared kinds.Io at n
        → erase group site (record live { platform = record live.platform { ports = overwritten live.platform.ports at piece } })
        ≡ erase group site live
    erased-ports each =
        ap (λ (ports : List ℕ). record (erase group site live) { platform = record (erase group site live).platform { ports = ports } })
        (masked-overwritten_other (λ k. granted group site kinds.Io k) live.platform.ports piece at (omega (arith, whole.cells.ports, within, few))
        (λ k from to. each k (record { from = from; to = omega (arith, to, few) })))

    pub ports-whole : IsWhole (record live { platform = record live.platform { ports = overwritten live.platform.ports at piece } })
    ports-whole = record {
      memory = whole.memory;
      cells = record {
        ports = length-overwritten live.platform.ports piece at (omega (arith, whole.cells.ports, within, few)) ∙ whole.cells.ports;
        device = whole.cells.device;
        msrs = whole.cells.msrs;
        upper_msrs = whole.cells.upper_msrs;
      };
    }

  module _ (live : Live) (index n value : ℕ) (some : 1 ≤ n) (there : is_msr index ≡ true) where
    same_upper : nat_lt index 0x2000 ≡ false → granted group site kinds.Msr (0xc0000000 + (index - 0xc0000000)) ≡ granted group site kinds.Msr index
    same_upper is =
        let from : 0xc0000000 ≤ index = upper_from index there is in
        ap (λ (k : ℕ). granted group site kinds.Msr k) (omega (arith, from))

    pub register-erased : AreGranted kinds.Msr index n
        → record (erase group site live) { platform = with_register index value (erase group site live).platform }
        ≡ erase group site (record live { platform = with_register index value live.platform })
    register-erased each = by_test (nat_lt index 0x2000) refl
      where
        mine : granted group site kinds.Msr index ≡ true
        mine = each index (record { from = omega arith; to = omega (arith, some) })

        by_test : (low : Bool) → nat_lt index 0x2000 ≡ low
            → record (erase group site live) {
              platform = if low
                  then record (erase group site live).platform { msrs = set (erase group site live).platform.msrs index value }
                  else record (erase group site live).platform {
                    upper_msrs = set (erase group site live).platform.upper_msrs (index - 0xc0000000) value;
                  };
            }
            ≡ erase group site (record live {
              platform = if low
                  then record live.platform { msrs = set live.platform.msrs index value }
                  else record live.platform { upper_msrs = set live.platform.upper_msrs (index - 0xc0000000) value };
            })
        by_test true is =
            ap (λ (msrs : List ℕ). record (erase group site live) { platform = record (erase group site live).platform { msrs = msrs } })
            (set-masked 0 (λ k. granted group site kinds.Msr k) live.platform.msrs index value mine)
        by_test false is =
            ap (λ (msrs : List ℕ). record (erase group site live) { platform = record (erase group site live).platform { upper_msrs = msrs } })
            (set-masked 0 (λ k. granted group site kinds.Msr (0xc0000000 + k)) live.platform.upper_msrs (index - 0xc0000000) value
            (same_upper is ∙ mine))

    pub erased-register : AreSpared kinds.Msr index n
        → erase group site (record live { platform = with_register index value live.platform }) ≡ erase group site live
    erased-register each = by_test (nat_lt index 0x2000) refl
      where
        other : granted group site kinds.Msr index ≡ false
        other = each index (record { from = omega arith; to = omega (arith, some) })

        by_test : (low : Bool) → nat_lt index 0x2000 ≡ low
            → erase group site (record live {
              platform = if low
                  then record live.platform { msrs = set live.platform.msrs index value }
                  else record live.platform { upper_msrs = set live.platform.upper_msrs (index - 0xc0000000) value };
            })
            ≡ erase group site live
        by_test true is =
            ap (λ (msrs : List ℕ). record (erase group site live) { platform = record (erase group site live).platform { msrs = msrs } })
            (masked-set_other 0 (λ k. granted group site kinds.Msr k) live.platform.msrs index value other)
        by_test false is =
            ap (λ (msrs : List ℕ). record (erase group site live) { platform = record (erase group site live).platform { upper_msrs = msrs } })
            (masked-set_other 0 (λ k. granted group site kinds.Msr (0xc0000000 + k)) live.platform.upper_msrs (index - 0xc0000000) value
            (same_upper is ∙ other))

    pub register-whole : IsWhole live → IsWhole (record live { platform = with_register index value live.platform })
    register-whole whole = by_test (nat_lt index 0x2000)
      where
        by_test : (low : Bool) → IsWhole (record live {
          platform = if low
              then record live.platform { msrs = set live.platform.msrs index value }
              else record live.platform { upper_msrs = set live.platform.upper_msrs (index - 0xc0000000) value };
        })
        by_test true = record {
          memory = whole.memory;
          cells = record {
            ports = whole.cells.ports;
            device = whole.cells.device;
            msrs = length-set live.platform.msrs index value ∙ whole.cells.msrs;
            upper_msrs = whole.cells.upper_msrs;
          };
        }
        by_test false = record {
          memory = whole.memory;
          cells = record {
            ports = whole.cells.ports;
            device = whole.cells.device;
            msrs = whole.cells.msrs;
            upper_msrs = length-set live.platform.upper_msrs (index - 0xc0000000) value ∙ whole.cells.upper_msrs;
          };
        }

  -- ---- erasing twice

  pub erased_twice : (live : Live) → erase group site (erase group site live) ≡ erase group site live
  erased_twice live = λ i. record {
    memory = masked_twice 0 (λ k. granted group site kinds.Memory (0x80000000 + k)) live.memory i;
    platform = record {
      ports = masked_twice 0 (λ k. granted group site kinds.Io k) live.platform.ports i;
      device = masked_twice 0 (λ k. granted group site kinds.Memory (0xfe000000 + k)) live.platform.device i;
      msrs = masked_twice 0 (λ k. granted group site kinds.Msr k) live.platform.msrs i;
      upper_msrs = masked_twice 0 (λ k. granted group site kinds.Msr (0xc0000000 + k)) live.platform.upper_msrs i;
    };
    pools = masked_twice [] group live.pools i;
    reserves = masked_twice (replicate 16 false) group live.reserves i;
  }

-- a number's low bytes are no more than it was asked for
pub few_low : (n value : ℕ) → length (low_bytes n value) ≤ n
few_low n value = omega (arith, length-take n (bytes_of_word value))

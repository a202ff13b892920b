-- Bytes and the instruction that they begin with.
use Rattle.std.proofs.Common.{◌≡◌, ℕ, zero, suc, ◌+◌, ◌*◌, ◌/◌, ◌^◌, ◌<◌, List, ◌∷◌, ◌++◌, length, refl, sym, ap, ◌∙◌, subst, length-append, arith}
use Rattle.std.proofs.Math.Nat.{pow-suc, mod-lt}
use Rattle.ebc_decode.specs.declared.ins.Ins.{Ins}
use Rattle.ebc_decode.specs.declared.head.Head.{Head}
use Rattle.ebc_decode.specs.declared.opcode.Opcode.{Opcode}
use Rattle.ebc_decode.specs.Bytes.{little}
use Rattle.ebc_decode.specs.Spelling.{bit, spelling_of}
use Rattle.ebc_decode.specs.Lawful.{IsLawful}
use Rattle.ebc_decode.specs.Reading.{size_of}
use Rattle.ebc_decode.specs.ReadingInside.{opcode_number, widths, bytes_if, layout_length, built, head_in, Begins}
use Rattle.ebc_decode.specs.Decoding.{first_of, second_of, made_of}
use Rattle.ebc_decode.proofs.ByteLemmas.{length-little, little-fields}
use Rattle.ebc_decode.proofs.HeadLemmas.{IsHead, with_fields, byte_0, byte_0-lt, place_bits-lt, head_in-is, byte_0-head_in, head_in-back}
use Rattle.ebc_decode.proofs.SoundLemmas.{sound}
use Rattle.ebc_decode.proofs.FormLemmas.{form}
use Rattle.ebc_decode.proofs.TableLemmas.{number_below}

-- ---- an instruction's own two bytes

-- Two bytes with an opcode that accepts them, and the fields with which they make the instruction.
pub record Spelled (instruction : Ins) : Type 0 where
  pub first : ℕ
  pub second : ℕ
  pub opcode : Opcode
  pub f : ℕ
  pub g : ℕ
  pub first_small : first < 256
  pub second_small : second < 256
  pub begins : Begins (head_in first second) opcode
  pub one : f < 256 ^ bytes_if (widths opcode (head_in first second)).first
  pub other : g < 256 ^ bytes_if (widths opcode (head_in first second)).second
  pub made : built opcode (head_in first second) f g ≡ instruction
  pub bytes :
      spelling_of instruction
      ≡ first ∷ second ∷ (little (bytes_if (widths opcode (head_in first second)).first) f
      ++ little (bytes_if (widths opcode (head_in first second)).second) g)

pub spelled : (instruction : Ins) → IsLawful instruction → Spelled instruction
spelled instruction h =
    let x = form instruction h in
    let head = with_fields (opcode_number x.opcode) x.six x.seven x.first x.second in
    let small = number_below x.opcode x.listed in
    let is : IsHead head = record { opcode = small; first = x.first_small; second = x.second_small; byte = refl } in
    let s = sound x.opcode head x.f x.g x.listed is x.accepted x.one x.other in
    let back = sym (head_in-back (opcode_number x.opcode) x.six x.seven x.first x.second small x.first_small x.second_small) in
    let spelling = sym (ap (λ (i : Ins). spelling_of i) x.made) ∙ s.spelled in
    let low = place_bits-lt x.first x.first_small in
    let high = place_bits-lt x.second x.second_small in
    moved (byte_0 head) head.byte (byte_0-lt head small) (omega arith) head back x.opcode x.f x.g
    (record { listed = x.listed; number = refl; accepted = x.accepted }) x.one x.other x.made spelling
  where
    moved : (first second : ℕ) → first < 256 → second < 256 → (head : Head) → head ≡ head_in first second → (opcode : Opcode) (f g : ℕ)
        → Begins head opcode
        → f < 256 ^ bytes_if (widths opcode head).first
        → g < 256 ^ bytes_if (widths opcode head).second
        → built opcode head f g ≡ instruction
        → spelling_of instruction
        ≡ first ∷ second ∷ (little (bytes_if (widths opcode head).first) f ++ little (bytes_if (widths opcode head).second) g)
        → Spelled instruction
    moved first second first_small second_small head e opcode f g begins one other made bytes =
        let P : Head → Type 0 = λ head.
        Begins head opcode × (f < 256 ^ bytes_if (widths opcode head).first) × (g < 256 ^ bytes_if (widths opcode head).second)
        × (built opcode head f g ≡ instruction)
        × (spelling_of instruction
        ≡ first ∷ second ∷ (little (bytes_if (widths opcode head).first) f ++ little (bytes_if (widths opcode head).second) g)) in
        let all = subst P e (begins, one, other, made, bytes) in
        record {
          first = first;
          second = second;
          opcode = opcode;
          f = f;
          g = g;
          first_small = first_small;
          second_small = second_small;
          begins = all.0;
          one = all.1;
          other = all.2;
          made = all.3;
          bytes = all.4;
        }

-- how many bytes that is
pub size_of-spelled : (instruction : Ins) (s : Spelled instruction)
    → size_of instruction ≡ layout_length (widths s.opcode (head_in s.first s.second))
size_of-spelled instruction s =
    let layout = widths s.opcode (head_in s.first s.second) in
    let e = ap (λ (l : List ℕ). length l) s.bytes in
    let sum = length-append (little (bytes_if layout.first) s.f) (little (bytes_if layout.second) s.g) in
    let one = length-little (bytes_if layout.first) s.f in
    let other = length-little (bytes_if layout.second) s.g in
    e ∙ (omega arith)

-- ---- what two bytes that are accepted make

pub record Makes (first second : ℕ) (opcode : Opcode) (number : ℕ) : Type 0 where
  pub lawful : IsLawful (made_of opcode (head_in first second) number)
  pub bytes :
      spelling_of (made_of opcode (head_in first second) number)
      ≡ first ∷ second ∷ little (bytes_if (widths opcode (head_in first second)).first
      + bytes_if (widths opcode (head_in first second)).second) number

some_power : (n : ℕ) → 0 < 256 ^ n
some_power zero = omega arith
some_power (suc n) = let e = pow-suc 256 n in let h = some_power n in omega arith

pub makes : (first second : ℕ) (opcode : Opcode) (number : ℕ)
    → first < 256
    → second < 256
    → Begins (head_in first second) opcode
    → Makes first second opcode number
makes first second opcode number one other begins =
    let head = head_in first second in
    let layout = widths opcode head in
    let f = first_of opcode head number in
    let g = second_of opcode head number in
    let f_fits = mod-lt number (some_power (bytes_if layout.first)) in
    let g_fits = mod-lt (number / 256 ^ bytes_if layout.first) (some_power (bytes_if layout.second)) in
    let s = sound opcode head f g begins.listed (head_in-is first second one other) begins.accepted f_fits g_fits in
    let low : opcode_number opcode + 64 * bit head.six + 128 * bit head.seven ≡ first =
    ap (λ (n : ℕ). n + 64 * bit head.six + 128 * bit head.seven) begins.number ∙ byte_0-head_in first second one in
    let rest = little-fields (bytes_if layout.first) (bytes_if layout.second) number in
    record { lawful = s.lawful; bytes = s.spelled ∙ (λ i. low i ∷ second ∷ rest i) }

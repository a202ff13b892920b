-- What is told of bytes that stand in words.
use Rattle.std.proofs.Common.{◌≡◌, ℕ, suc, ◌+◌, ◌-◌, ◌/◌, ◌%◌, ◌^◌, ◌<◌, ◌≤◌, List, ◌∷◌, ◌++◌, length, take, Option, Some, None, Result, Ok, Err, refl, sym, ap, ◌∙◌, subst, length-append, arith}
use Rattle.std.proofs.lemmas.List.{take_at}
use Rattle.ebc_decode.specs.declared.operand.FieldWidth.{FieldWidth}
use Rattle.ebc_decode.specs.declared.operand.FieldWidth.TheVariants.{Bits16, Bits32, Bits64}
use Rattle.ebc_decode.specs.declared.ins.Ins.{Ins}
use Rattle.ebc_decode.specs.declared.layout.Layout.{Layout}
use Rattle.ebc_decode.specs.declared.opcode.Opcode.{Opcode}
use Rattle.ebc_decode.specs.declared.reading.EncodingFault.{EncodingFault}
use Rattle.ebc_decode.specs.Bytes.{little, BeginsWith}
use Rattle.ebc_decode.specs.Spelling.{spelling_of}
use Rattle.ebc_decode.specs.Lawful.{IsLawful}
use Rattle.ebc_decode.specs.Reading.{size_of, IsInstruction, TellsEach, BeginsInstruction, TellsEachLength}
use Rattle.ebc_decode.specs.ReadingInside.{widths, bytes_if, layout_length, built, head_in, Begins, BeginsOnly}
use Rattle.ebc_decode.proofs.ByteLemmas.{length-little, little-add, fields-little}
use Rattle.ebc_decode.specs.Decoding.{head_of, tail_of, made_of}
use Rattle.ebc_decode.proofs.ReadLemmas.{spelled, size_of-spelled, makes}

-- what is told, part by part
told_parts : (told other : Opcode × Layout) (result : Result (Opcode × Layout) EncodingFault)
    → result ≡ Ok told
    → result ≡ Ok other
    → (told.0 ≡ other.0) × (told.1 ≡ other.1)
told_parts told other result one_way e =
    let same : told ≡ other = cc in
    (ap (λ (pair : Opcode × Layout). pair.0) same, ap (λ (pair : Opcode × Layout). pair.1) same)

-- ---- an instruction whose first two bytes are known

pub record Owned (first second : ℕ) (rest : List ℕ) (instruction : Ins) : Type 0 where
  pub opcode : Opcode
  pub f : ℕ
  pub g : ℕ
  pub begins : Begins (head_in first second) opcode
  pub one : f < 256 ^ bytes_if (widths opcode (head_in first second)).first
  pub other : g < 256 ^ bytes_if (widths opcode (head_in first second)).second
  pub made : built opcode (head_in first second) f g ≡ instruction
  pub size : size_of instruction ≡ layout_length (widths opcode (head_in first second))
  pub fields :
      rest ≡ little (bytes_if (widths opcode (head_in first second)).first) f
      ++ little (bytes_if (widths opcode (head_in first second)).second) g

pub owned : (instruction : Ins) (first second : ℕ) (rest : List ℕ)
    → IsLawful instruction
    → spelling_of instruction ≡ first ∷ second ∷ rest
    → Owned first second rest instruction
owned instruction first second rest lawful are =
    let s = spelled instruction lawful in
    let layout = widths s.opcode (head_in s.first s.second) in
    let both : (s.first ∷ s.second ∷ (little (bytes_if layout.first) s.f ++ little (bytes_if layout.second) s.g))
    ≡ (first ∷ second ∷ rest) = sym s.bytes ∙ are in
    let low : s.first ≡ first = cc in
    let high : s.second ≡ second = cc in
    let after : rest ≡ little (bytes_if layout.first) s.f ++ little (bytes_if layout.second) s.g = cc in
    let P : ℕ → ℕ → Type 0 = λ a b. Owned a b rest instruction in
    let here : Owned s.first s.second rest instruction = record {
      opcode = s.opcode;
      f = s.f;
      g = s.g;
      begins = s.begins;
      one = s.one;
      other = s.other;
      made = s.made;
      size = size_of-spelled instruction s;
      fields = after;
    } in
    subst (λ (b : ℕ). Owned first b rest instruction) high (subst (λ (a : ℕ). Owned a s.second rest instruction) low here)

-- ---- lengths

pub length_found : (first second : ℕ) (opcode : Opcode)
    → first < 256
    → second < 256
    → Begins (head_in first second) opcode
    → BeginsInstruction first second (layout_length (widths opcode (head_in first second)))
length_found first second opcode one other begins =
    let m = makes first second opcode 0 one other begins in
    let layout = widths opcode (head_in first second) in
    let e = ap (λ (l : List ℕ). length l) m.bytes in
    let k = length-little (bytes_if layout.first + bytes_if layout.second) 0 in
    record {
      ins = made_of opcode (head_in first second) 0;
      lawful = m.lawful;
      begins = record { rest = little (bytes_if layout.first + bytes_if layout.second) 0; are = m.bytes };
      size = omega arith;
    }

pub length_told : (first second : ℕ) (opcode : Opcode) (layout : Layout)
    → BeginsOnly (head_in first second) (Ok (opcode, layout))
    → TellsEachLength first second (Ok (layout_length layout))
length_told first second opcode layout only instruction lawful begins =
    let o = owned instruction first second begins.rest lawful begins.are in
    let same = told_parts (opcode, layout) (o.opcode, widths o.opcode (head_in first second)) (Ok (opcode, layout))
    refl (only o.opcode o.begins) in
    ap (λ (l : Layout). Ok (layout_length l)) same.1 ∙ ap (λ (n : ℕ). Ok n) (sym o.size)

pub length_none : (first second : ℕ) (fault other : EncodingFault)
    → BeginsOnly (head_in first second) (Err fault)
    → TellsEachLength first second (Err other)
length_none first second fault other only instruction lawful begins =
    let o = owned instruction first second begins.rest lawful begins.are in
    let same = only o.opcode o.begins in
    cc

few : (width : Option FieldWidth) → bytes_if width ≤ 8
few None = omega arith
few (Some Bits16) = omega arith
few (Some Bits32) = omega arith
few (Some Bits64) = omega arith

pub layout_length-le : (layout : Layout) → layout_length layout ≤ 18
layout_length-le layout = let one = few layout.first in let other = few layout.second in omega arith

pub two_to_eighteen : (instruction : Ins) → IsLawful instruction → (2 ≤ size_of instruction) × (size_of instruction ≤ 18)
two_to_eighteen instruction lawful =
    let s = spelled instruction lawful in
    let e = size_of-spelled instruction s in
    let h = layout_length-le (widths s.opcode (head_in s.first s.second)) in
    (omega arith, omega arith)

-- ---- the first n bytes of a number

-- bytes with which those of a number begin are its own first ones
record IsFront (n number : ℕ) (front : List ℕ) : Type 0 where
  pub within : length front ≤ n
  pub are : front ≡ little (length front) number

is_front : (n number : ℕ) (front : List ℕ) → BeginsWith (little n number) front → IsFront n number front
is_front n number front begins =
    let e = ap (λ (l : List ℕ). length l) begins.are in
    let whole = length-little n number in
    let sum = length-append front begins.rest in
    let k : n ≡ length front + length begins.rest = omega arith in
    let cut = sym begins.are ∙ ap (λ (m : ℕ). little m number) k ∙ little-add (length front) (length begins.rest) number in
    let own = little (length front) number in
    let rest = little (length begins.rest) (number / 256 ^ length front) in
    record {
      within = omega arith;
      are =
          sym (take_at front begins.rest (length front) refl) ∙ ap (λ (l : List ℕ). take (length front) l) cut
          ∙ take_at own rest (length front) (length-little (length front) number);
    }

-- the first two bytes, and the others
little-two : (k number : ℕ) → little (suc (suc k)) number ≡ (number % 256) ∷ (number / 256 % 256) ∷ little k (number / 256 / 256)
unfolding little
little-two k number = refl

split_front : (n number k : ℕ) (front : List ℕ)
    → IsFront n number front
    → length front ≡ suc (suc k)
    → front ≡ (number % 256) ∷ (number / 256 % 256) ∷ little k (number / 256 / 256)
split_front n number k front is size = is.are ∙ ap (λ (m : ℕ). little m number) size ∙ little-two k number

-- An instruction with which the first n bytes of a number begin is what they make.
pub record Held (n number : ℕ) (instruction : Ins) : Type 0 where
  pub opcode : Opcode
  pub begins : Begins (head_of number) opcode
  pub size : size_of instruction ≡ layout_length (widths opcode (head_of number))
  pub within : size_of instruction ≤ n
  pub made : made_of opcode (head_of number) (tail_of number) ≡ instruction

held_by : (n number k : ℕ) (instruction : Ins)
    → size_of instruction ≡ suc (suc k)
    → size_of instruction ≤ n
    → Owned (number % 256) (number / 256 % 256) (little k (tail_of number)) instruction
    → Held n number instruction
held_by n number k instruction size within o =
    let layout = widths o.opcode (head_of number) in
    let one = bytes_if layout.first in
    let other = bytes_if layout.second in
    let many : k ≡ one + other = let e = o.size in omega arith in
    let fields = sym o.fields ∙ ap (λ (m : ℕ). little m (tail_of number)) many in
    let same = fields-little one other (tail_of number) o.f o.g o.one o.other fields in
    record {
      opcode = o.opcode;
      begins = o.begins;
      size = o.size;
      within = within;
      made = (λ i. built o.opcode (head_of number) (same.0 i) (same.1 i)) ∙ o.made;
    }

pub held : (n number : ℕ) (instruction : Ins)
    → IsLawful instruction
    → BeginsWith (little n number) (spelling_of instruction)
    → Held n number instruction
held n number instruction lawful begins =
    let front = is_front n number (spelling_of instruction) begins in
    let bounds = two_to_eighteen instruction lawful in
    let k = size_of instruction - 2 in
    let size : size_of instruction ≡ suc (suc k) = omega arith in
    held_by n number k instruction size front.within
    (owned instruction (number % 256) (number / 256 % 256) (little k (tail_of number)) lawful
    (split_front n number k (spelling_of instruction) front size))

pub words_told : (n number : ℕ) (opcode : Opcode) (layout : Layout)
    → BeginsOnly (head_of number) (Ok (opcode, layout))
    → TellsEach (little n number) (Ok (made_of opcode (head_of number) (tail_of number), layout_length layout))
words_told n number opcode layout only instruction lawful begins =
    let x = held n number instruction lawful begins in
    let same = told_parts (opcode, layout) (x.opcode, widths x.opcode (head_of number)) (Ok (opcode, layout))
    refl (only x.opcode x.begins) in
    let made : made_of opcode (head_of number) (tail_of number) ≡ instruction =
    ap (λ (o : Opcode). made_of o (head_of number) (tail_of number)) same.0 ∙ x.made in
    let size : layout_length layout ≡ size_of instruction = ap (λ (l : Layout). layout_length l) same.1 ∙ sym x.size in
    λ i. Ok (made i, size i)

pub words_none : (n number : ℕ) (fault other : EncodingFault)
    → BeginsOnly (head_of number) (Err fault)
    → TellsEach (little n number) (Err other)
words_none n number fault other only instruction lawful begins =
    let x = held n number instruction lawful begins in
    let same = only x.opcode x.begins in
    cc

pub words_short : (n number : ℕ) (opcode : Opcode) (layout : Layout) (fault : EncodingFault)
    → n < layout_length layout
    → BeginsOnly (head_of number) (Ok (opcode, layout))
    → TellsEach (little n number) (Err fault)
words_short n number opcode layout fault short only instruction lawful begins =
    let x = held n number instruction lawful begins in
    let same = told_parts (opcode, layout) (x.opcode, widths x.opcode (head_of number)) (Ok (opcode, layout))
    refl (only x.opcode x.begins) in
    let size : layout_length layout ≡ size_of instruction = ap (λ (l : Layout). layout_length l) same.1 ∙ sym x.size in
    absurd (apart (layout_length layout) (size_of instruction) short size x.within)
  where
    apart : (one other : ℕ) → n < one → one ≡ other → other ≤ n → ⊥
    apart one other short e within = omega arith

pub words_found : (n number : ℕ) (opcode : Opcode)
    → Begins (head_of number) opcode
    → layout_length (widths opcode (head_of number)) ≤ n
    → IsInstruction (little n number) (made_of opcode (head_of number) (tail_of number)) (layout_length (widths opcode (head_of number)))
words_found n number opcode begins within =
    let m = makes (number % 256) (number / 256 % 256) opcode (tail_of number) (omega arith) (omega arith) begins in
    let layout = widths opcode (head_of number) in
    let k = bytes_if layout.first + bytes_if layout.second in
    let left = n - suc (suc k) in
    let many : n ≡ suc (suc k) + left = omega arith in
    let spelling = m.bytes ∙ sym (little-two k number) in
    let rest = little left (number / 256 ^ suc (suc k)) in
    let size = ap (λ (l : List ℕ). length l) spelling ∙ length-little (suc (suc k)) number in
    record {
      lawful = m.lawful;
      begins = record {
        rest = rest;
        are =
            ap (λ (m : ℕ). little m number) many ∙ little-add (suc (suc k)) left number
            ∙ ap (λ (l : List ℕ). l ++ rest) (sym spelling);
      };
      size = omega arith;
    }

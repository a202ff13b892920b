-- No spelling begins with another one.
use Rattle.std.proofs.Common.{◌≡◌, ℕ, zero, suc, ◌/◌, ◌<◌, List, [], ◌∷◌, ◌++◌, length, get_or, sym, ap, ◌∙◌, subst, arith}
use Rattle.std.proofs.lemmas.List.{append-nil}
use Rattle.ebc_decode.specs.declared.ins.Ins.{Ins}
use Rattle.ebc_decode.specs.declared.opcode.Opcode.{Opcode}
use Rattle.ebc_decode.specs.Bytes.{little, BeginsWith}
use Rattle.ebc_decode.specs.Spelling.{spelling_of}
use Rattle.ebc_decode.specs.Lawful.{IsLawful}
use Rattle.ebc_decode.specs.ReadingInside.{number_of, widths, bytes_if, head_in}
use Rattle.ebc_decode.proofs.ByteLemmas.{little-number_of}
use Rattle.ebc_decode.proofs.TableLemmas.{same_opcode}
use Rattle.ebc_decode.specs.Decoding.{head_of, tail_of, made_of}
use Rattle.ebc_decode.proofs.ReadLemmas.{spelled}
use Rattle.ebc_decode.proofs.WordLemmas.{Held, held}

-- two instructions with which the bytes of one number begin are one
pub one_held : (n number : ℕ) (one other : Ins) → Held n number one → Held n number other → one ≡ other
one_held n number one other x y =
    let same = same_opcode x.opcode y.opcode x.begins.listed y.begins.listed (x.begins.number ∙ sym y.begins.number) in
    sym x.made ∙ ap (λ (o : Opcode). made_of o (head_of number) (tail_of number)) same ∙ y.made

-- ---- a spelling is bytes

little-below : (n number i : ℕ) → get_or (little n number) i 0 < 256
unfolding little
little-below zero number i = omega arith
little-below (suc n) number zero = omega arith
little-below (suc n) number (suc i) = little-below n (number / 256) i

both_below : (xs ys : List ℕ)
    → ((i : ℕ) → get_or xs i 0 < 256)
    → ((i : ℕ) → get_or ys i 0 < 256)
    → (i : ℕ)
    → get_or (xs ++ ys) i 0 < 256
both_below [] ys one other i = other i
both_below (x ∷ xs) ys one other zero = one zero
both_below (x ∷ xs) ys one other (suc i) = both_below xs ys (λ k. one (suc k)) other i

pub spelling_below : (instruction : Ins) → IsLawful instruction → (i : ℕ) → get_or (spelling_of instruction) i 0 < 256
spelling_below instruction lawful =
    let s = spelled instruction lawful in
    let layout = widths s.opcode (head_in s.first s.second) in
    let rest = little (bytes_if layout.first) s.f ++ little (bytes_if layout.second) s.g in
    let P : List ℕ → Type 0 = λ bytes. (i : ℕ) → get_or bytes i 0 < 256 in
    subst P (sym s.bytes)
    (two s.first s.second rest s.first_small s.second_small
    (both_below (little (bytes_if layout.first) s.f) (little (bytes_if layout.second) s.g)
    (little-below (bytes_if layout.first) s.f) (little-below (bytes_if layout.second) s.g)))
  where
    two : (first second : ℕ) (rest : List ℕ) → first < 256 → second < 256 → ((i : ℕ) → get_or rest i 0 < 256)
        → (i : ℕ) → get_or (first ∷ second ∷ rest) i 0 < 256
    two first second rest one other below zero = one
    two first second rest one other below (suc zero) = other
    two first second rest one other below (suc (suc i)) = below i

pub none_begins_another : (one other : Ins)
    → IsLawful one
    → IsLawful other
    → BeginsWith (spelling_of one) (spelling_of other)
    → one ≡ other
none_begins_another one other h k begins =
    let bytes = spelling_of one in
    let own : bytes ≡ little (length bytes) (number_of bytes) = sym (little-number_of bytes (spelling_below one h)) in
    let itself : BeginsWith bytes bytes = record { rest = []; are = sym (append-nil bytes) } in
    let P : List ℕ → List ℕ → Type 0 = λ front whole. BeginsWith whole front in
    let x = held (length bytes) (number_of bytes) one h (subst (P bytes) own itself) in
    let y = held (length bytes) (number_of bytes) other k (subst (P (spelling_of other)) own begins) in
    one_held (length bytes) (number_of bytes) one other x y

pub one_instruction : (one other : Ins) → IsLawful one → IsLawful other → spelling_of one ≡ spelling_of other → one ≡ other
one_instruction one other h k e =
    none_begins_another one other h k (record { rest = []; are = e ∙ sym (append-nil (spelling_of other)) })

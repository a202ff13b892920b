-- What the code tells, by the values that it has.
use Rattle.std.proofs.Common.{◌≡◌, ℕ, ◌/◌, ◌%◌, ◌^◌, ◌<◌, ◌≤◌, Result, Ok, Err, sym, ap, ◌∙◌, subst}
use Rattle.ebc_decode.specs.declared.ins.Ins.{Ins}
use Rattle.ebc_decode.specs.declared.head.Head.{Head}
use Rattle.ebc_decode.specs.declared.layout.Layout.{Layout}
use Rattle.ebc_decode.specs.declared.opcode.Opcode.{Opcode}
use Rattle.ebc_decode.specs.declared.reading.EncodingFault.{EncodingFault}
use Rattle.ebc_decode.specs.Bytes.{little}
use Rattle.ebc_decode.specs.Reading.{IsInstruction, TellsEach, BeginsInstruction, TellsEachLength}
use Rattle.ebc_decode.specs.ReadingInside.{widths, bytes_if, layout_length, built, head_in, Begins, BeginsOnly}
use Rattle.ebc_decode.specs.Decoding.{head_of, tail_of, made_of}
use Rattle.ebc_decode.proofs.WordLemmas.{held, owned, length_found, length_told, words_told, words_short, words_found}

-- ---- lengths

pub length_found_at : (first second : ℕ) (head : Head) (opcode : Opcode) (layout : Layout) (n : ℕ)
    → first < 256
    → second < 256
    → head ≡ head_in first second
    → Begins head opcode
    → layout ≡ widths opcode head
    → n ≡ layout_length layout
    → BeginsInstruction first second n
length_found_at first second head opcode layout n one other at begins fields size =
    let begins_there = subst (λ (h : Head). Begins h opcode) at begins in
    let e : layout_length (widths opcode (head_in first second)) ≡ n =
    ap (λ (h : Head). layout_length (widths opcode h)) (sym at) ∙ ap (λ (l : Layout). layout_length l) (sym fields) ∙ sym size in
    subst (λ (k : ℕ). BeginsInstruction first second k) e (length_found first second opcode one other begins_there)

pub length_told_at : (first second : ℕ) (head : Head) (opcode : Opcode) (layout : Layout) (n : ℕ)
    → head ≡ head_in first second
    → BeginsOnly head (Ok (opcode, layout))
    → n ≡ layout_length layout
    → TellsEachLength first second (Ok n)
length_told_at first second head opcode layout n at only size =
    let only_there = subst (λ (h : Head). BeginsOnly h (Ok (opcode, layout))) at only in
    subst (λ (k : ℕ). TellsEachLength first second (Ok k)) (sym size) (length_told first second opcode layout only_there)

pub length_none_at : (first second : ℕ) (head : Head) (fault : EncodingFault) (told : Result ℕ EncodingFault)
    → head ≡ head_in first second
    → BeginsOnly head (Err fault)
    → TellsEachLength first second told
length_none_at first second head fault told at only instruction lawful begins =
    let only_there = subst (λ (h : Head). BeginsOnly h (Err fault)) at only in
    let o = owned instruction first second begins.rest lawful begins.are in
    let none = only_there o.opcode o.begins in
    cc

-- ---- words

pub words_none_at : (n number : ℕ) (head : Head) (fault : EncodingFault) (told : Result (Ins × ℕ) EncodingFault)
    → head ≡ head_of number
    → BeginsOnly head (Err fault)
    → TellsEach (little n number) told
words_none_at n number head fault told at only instruction lawful begins =
    let only_there = subst (λ (h : Head). BeginsOnly h (Err fault)) at only in
    let x = held n number instruction lawful begins in
    let none = only_there x.opcode x.begins in
    cc

-- what was built of the fields that were read
pub record Built (number : ℕ) (head : Head) (opcode : Opcode) (layout : Layout) (one other : ℕ) (ins : Ins) : Type 0 where
  pub at : head ≡ head_of number
  pub fields : layout ≡ widths opcode head
  pub first : one ≡ tail_of number % 256 ^ bytes_if layout.first
  pub second : other ≡ tail_of number / 256 ^ bytes_if layout.first % 256 ^ bytes_if layout.second
  pub built_is : ins ≡ built opcode head one other

module _ (n number : ℕ) (head : Head) (opcode : Opcode) (layout : Layout) where
  pub words_short_at : (size : ℕ) (fault : EncodingFault)
      → head ≡ head_of number
      → BeginsOnly head (Ok (opcode, layout))
      → size ≡ layout_length layout
      → n < size
      → TellsEach (little n number) (Err fault)
  words_short_at size fault at only e short =
      words_short n number opcode layout fault (subst (λ (k : ℕ). n < k) e short)
      (subst (λ (h : Head). BeginsOnly h (Ok (opcode, layout))) at only)

  built_made : (one other : ℕ) (ins : Ins)
      → Built number head opcode layout one other ins
      → ins ≡ made_of opcode (head_of number) (tail_of number)
  built_made one other ins b =
      let made = b.built_is ∙ (λ i. built opcode head (b.first i) (b.second i)) in
      made
      ∙ ap
      (λ (l : Layout). built opcode head (tail_of number % 256 ^ bytes_if l.first)
      (tail_of number / 256 ^ bytes_if l.first % 256 ^ bytes_if l.second))
      b.fields
      ∙ ap (λ (h : Head). made_of opcode h (tail_of number)) b.at

  pub words_told_at : (one other size : ℕ) (ins : Ins)
      → Built number head opcode layout one other ins
      → BeginsOnly head (Ok (opcode, layout))
      → size ≡ layout_length layout
      → TellsEach (little n number) (Ok (ins, size))
  words_told_at one other size ins b only e =
      let only_there = subst (λ (h : Head). BeginsOnly h (Ok (opcode, layout))) b.at only in
      let told = words_told n number opcode layout only_there in
      let same = built_made one other ins b in
      let P : Ins → ℕ → Type 0 = λ i k. TellsEach (little n number) (Ok (i, k)) in
      subst (P ins) (sym e) (subst (λ (i : Ins). P i (layout_length layout)) (sym same) told)

  pub words_found_at : (one other size : ℕ) (ins : Ins)
      → Built number head opcode layout one other ins
      → Begins head opcode
      → size ≡ layout_length layout
      → size ≤ n
      → IsInstruction (little n number) ins size
  words_found_at one other size ins b begins e within =
      let begins_there = subst (λ (h : Head). Begins h opcode) b.at begins in
      let fields : layout ≡ widths opcode (head_of number) = b.fields ∙ ap (λ (h : Head). widths opcode h) b.at in
      let whole : size ≡ layout_length (widths opcode (head_of number)) = e ∙ ap (λ (l : Layout). layout_length l) fields in
      let same = built_made one other ins b in
      let found = words_found n number opcode begins_there (subst (λ (k : ℕ). k ≤ n) whole within) in
      let P : Ins → ℕ → Type 0 = λ i k. IsInstruction (little n number) i k in
      subst (P ins) (sym whole) (subst (λ (i : Ins). P i (layout_length (widths opcode (head_of number)))) (sym same) found)

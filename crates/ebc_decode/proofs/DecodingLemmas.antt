-- The instruction that bytes begin with, as a function, is the one that their spelling tells.
use Rattle.std.proofs.Common.{◌≡◌, ℕ, zero, suc, ◌+◌, ◌≤◌, Bool, true, false, ◌&&◌, ◌==◌, nat_le, if◌then◌else◌, List, [], ◌∷◌, length, take, get_or, is_some, Option, Some, None, Result, Ok, Err, IsErr, IfOk, refl, sym, ap, ◌∙◌, subst, arith}
use Rattle.std.proofs.lemmas.Bool.{and_parts, eqb-true, leb-true, le-leb}
use Rattle.ebc_decode.specs.declared.ins.Ins.{Ins}
use Rattle.ebc_decode.specs.declared.head.Head.{Head}
use Rattle.ebc_decode.specs.declared.layout.Layout.{Layout}
use Rattle.ebc_decode.specs.declared.opcode.Opcode.{Opcode}
use Rattle.ebc_decode.specs.declared.opcode.TheConstants.{OPCODES}
use Rattle.ebc_decode.specs.declared.reading.EncodingFault.{EncodingFault}
use Rattle.ebc_decode.specs.Bytes.{little, BeginsWith}
use Rattle.ebc_decode.specs.Spelling.{spelling_of}
use Rattle.ebc_decode.specs.Lawful.{IsLawful}
use Rattle.ebc_decode.specs.Reading.{size_of, IsInstruction, TellsEach}
use Rattle.ebc_decode.specs.ReadingInside.{opcode_number, accepts, widths, layout_length, head_in, IsOpcode, Begins, BeginsOnly, number_of}
use Rattle.ebc_decode.specs.Decoding.{AreBytes, all_opcodes, opcode_among, allowed, opcode_in, head_of, tail_of, made_of, bytes_with, length_begun, whole_in, instruction_begun, Tells}
use Rattle.ebc_decode.proofs.ByteLemmas.{little-number_of}
use Rattle.ebc_decode.proofs.TableLemmas.{listed, is_listed, same_opcode, at_number-of}
use Rattle.ebc_decode.proofs.WordLemmas.{Held, held, words_found}

-- ---- opcodes by their number

abbrev all_listed : List Opcode → Bool
all_listed [] = true
all_listed (opcode ∷ rest) = listed opcode && all_listed rest

among_step : (first : Opcode) (rest : List Opcode) (number : ℕ) (opcode : Opcode) (same : Bool)
    → listed first ≡ true
    → (opcode_number first == number) ≡ same
    → (opcode_among rest number ≡ Some opcode → IsOpcode number opcode)
    → (if same then Some first else opcode_among rest number) ≡ Some opcode
    → IsOpcode number opcode
among_step first rest number opcode true there test more e =
    let is : first ≡ opcode = cc in
    subst (λ (o : Opcode). IsOpcode number o) is (is_listed first there, eqb-true (opcode_number first) number test)
among_step first rest number opcode false there test more e = more e

among-is : (list : List Opcode) (number : ℕ) (opcode : Opcode)
    → all_listed list ≡ true
    → opcode_among list number ≡ Some opcode
    → IsOpcode number opcode
among-is [] number opcode all e = cc
among-is (first ∷ rest) number opcode all e =
    let parts = and_parts (listed first) (all_listed rest) all in
    among_step first rest number opcode (opcode_number first == number) parts.0 refl (among-is rest number opcode parts.1) e

-- each number of the table has one in the list
abbrev each_among : ℕ → List (Option Opcode) → Bool
each_among number [] = true
each_among number (None ∷ rest) = each_among (suc number) rest
each_among number (Some opcode ∷ rest) = is_some (opcode_among all_opcodes number) && each_among (suc number) rest

is_among : (number : ℕ) (table : List (Option Opcode)) (k sum : ℕ) (opcode : Opcode)
    → each_among number table ≡ true
    → get_or table k None ≡ Some opcode
    → sum ≡ number + k
    → is_some (opcode_among all_opcodes sum) ≡ true
is_among number [] k sum opcode each e is = cc
is_among number (None ∷ rest) zero sum opcode each e is = cc
is_among number (None ∷ rest) (suc k) sum opcode each e is = is_among (suc number) rest k sum opcode each e (omega arith)
is_among number (Some first ∷ rest) zero sum opcode each e is =
    let here : sum ≡ number = omega arith in
    subst (λ (n : ℕ). is_some (opcode_among all_opcodes n) ≡ true) (sym here)
    (and_parts (is_some (opcode_among all_opcodes number)) (each_among (suc number) rest) each).0
is_among number (Some first ∷ rest) (suc k) sum opcode each e is =
    is_among (suc number) rest k sum opcode
    (and_parts (is_some (opcode_among all_opcodes number)) (each_among (suc number) rest) each).1 e (omega arith)

listed_all : all_listed all_opcodes ≡ true
unfolding all_opcodes
listed_all = refl

each_of_table : each_among 0 OPCODES ≡ true
unfolding all_opcodes
each_of_table = refl

pub among-of : (number : ℕ) (opcode : Opcode) → IsOpcode number opcode → opcode_among all_opcodes number ≡ Some opcode
among-of number opcode is =
    by_found (opcode_among all_opcodes number) refl
    (subst (λ (n : ℕ). is_some (opcode_among all_opcodes n) ≡ true) is.1
    (is_among 0 OPCODES (opcode_number opcode) (opcode_number opcode) opcode each_of_table (at_number-of opcode is.0) (omega arith)))
  where
    by_found : (found : Option Opcode) → opcode_among all_opcodes number ≡ found → is_some found ≡ true → found ≡ Some opcode
    by_found None e some = cc
    by_found (Some other) e some =
        let there = among-is all_opcodes number other listed_all e in
        ap (λ (o : Opcode). Some o) (same_opcode other opcode there.0 is.0 (there.1 ∙ sym is.1))

-- ---- the opcode of two bytes

pub opcode_in-is : (head : Head) (opcode : Opcode) → opcode_in head ≡ Some opcode → Begins head opcode
unfolding opcode_in
opcode_in-is head opcode e = by_found (opcode_among all_opcodes head.opcode) refl e
  where
    accepted : (other : Opcode) (may : Bool)
        → accepts other head ≡ may
        → opcode_among all_opcodes head.opcode ≡ Some other
        → (if may then Some other else None) ≡ Some opcode
        → Begins head opcode
    accepted other true test found here =
        let same : other ≡ opcode = cc in
        let there = among-is all_opcodes head.opcode other listed_all found in
        subst (λ (o : Opcode). Begins head o) same (record { listed = there.0; number = there.1; accepted = test })
    accepted other false test found here = cc

    by_found : (found : Option Opcode)
        → opcode_among all_opcodes head.opcode ≡ found
        → allowed head found ≡ Some opcode
        → Begins head opcode
    by_found None found here = cc
    by_found (Some other) found here = accepted other (accepts other head) refl found here

pub opcode_in-of : (head : Head) (opcode : Opcode) → Begins head opcode → opcode_in head ≡ Some opcode
unfolding opcode_in
opcode_in-of head opcode begins =
    ap (λ (found : Option Opcode). allowed head found) (among-of head.opcode opcode (begins.listed, begins.number))
    ∙ ap (λ (may : Bool). if may then Some opcode else None) begins.accepted

-- ---- lengths

pub length_tells : (first second : ℕ) (head : Head) (opcode : Opcode) (layout : Layout)
    → head ≡ head_in first second
    → Begins head opcode
    → layout ≡ widths opcode head
    → length_begun first second ≡ Some (layout_length layout)
unfolding length_begun
length_tells first second head opcode layout at begins fields =
    let own = subst (λ (h : Head). Begins h opcode) at begins in
    ap (λ (found : Option Opcode). bytes_with (head_in first second) found) (opcode_in-of (head_in first second) opcode own)
    ∙ sym (ap (λ (l : Layout). Some (layout_length l)) (fields ∙ ap (λ (h : Head). widths opcode h) at))

pub length_tells_none : (first second : ℕ) (head : Head) (fault : EncodingFault)
    → head ≡ head_in first second
    → BeginsOnly head (Err fault)
    → length_begun first second ≡ None
unfolding length_begun
length_tells_none first second head fault at only = by_found (opcode_in (head_in first second)) refl
  where
    by_found : (found : Option Opcode) → opcode_in (head_in first second) ≡ found → bytes_with (head_in first second) found ≡ None
    by_found None e = refl
    by_found (Some opcode) e =
        let begins = subst (λ (h : Head). Begins h opcode) (sym at) (opcode_in-is (head_in first second) opcode e) in
        let told = only opcode begins in
        cc

pub tells_none : {A : Type 0} (told : Result A EncodingFault) (there : Option A) → IsErr told → there ≡ None → Tells told there
tells_none (Ok answer) there err none = cc
tells_none (Err fault) there err none = none

-- ---- instructions

-- what is found in a number's first n bytes is an instruction there, and each one there is found
pub whole_in-is : (n number : ℕ) (ins : Ins) (size : ℕ)
    → whole_in n number (opcode_in (head_of number)) ≡ Some (ins, size)
    → IsInstruction (little n number) ins size
whole_in-is n number ins size e = by_found (opcode_in (head_of number)) refl e
  where
    by_test : (opcode : Opcode) (fits : Bool)
        → Begins (head_of number) opcode
        → nat_le (layout_length (widths opcode (head_of number))) n ≡ fits
        → (if◌then◌else◌ {A = Option (Ins × ℕ)} fits
        (Some (made_of opcode (head_of number) (tail_of number), layout_length (widths opcode (head_of number)))) None)
        ≡ Some (ins, size)
        → IsInstruction (little n number) ins size
    by_test opcode true begins test here =
        let made = made_of opcode (head_of number) (tail_of number) in
        let long = layout_length (widths opcode (head_of number)) in
        let same : (made, long) ≡ (ins, size) = cc in
        subst (λ (told : Ins × ℕ). IsInstruction (little n number) told.0 told.1) same
        (words_found n number opcode begins (leb-true long n test))
    by_test opcode false begins test here = cc

    by_found : (found : Option Opcode)
        → opcode_in (head_of number) ≡ found
        → whole_in n number found ≡ Some (ins, size)
        → IsInstruction (little n number) ins size
    by_found None found here = cc
    by_found (Some opcode) found here =
        by_test opcode (nat_le (layout_length (widths opcode (head_of number))) n)
        (opcode_in-is (head_of number) opcode found) refl here

pub whole_in-of : (n number : ℕ) (ins : Ins)
    → Held n number ins
    → whole_in n number (opcode_in (head_of number)) ≡ Some (ins, size_of ins)
whole_in-of n number ins x =
    let long = layout_length (widths x.opcode (head_of number)) in
    let fits : nat_le long n ≡ true = le-leb long n (subst (λ (k : ℕ). k ≤ n) x.size x.within) in
    let made = made_of x.opcode (head_of number) (tail_of number) in
    ap (λ (found : Option Opcode). whole_in n number found) (opcode_in-of (head_of number) x.opcode x.begins)
    ∙ ap (λ (test : Bool). if◌then◌else◌ {A = Option (Ins × ℕ)} test (Some (made, long)) None) fits
    ∙ (λ i. Some (x.made i, sym x.size i))

own : (bytes : List ℕ) → AreBytes bytes → little (length bytes) (number_of bytes) ≡ bytes
own bytes all = little-number_of bytes all

pub begun_is : (bytes : List ℕ) (ins : Ins) (n : ℕ)
    → AreBytes bytes
    → instruction_begun bytes ≡ Some (ins, n)
    → IsInstruction bytes ins n
unfolding instruction_begun
begun_is bytes ins n all e =
    subst (λ (front : List ℕ). IsInstruction front ins n) (own bytes all) (whole_in-is (length bytes) (number_of bytes) ins n e)

pub begun_of : (bytes : List ℕ) (ins : Ins)
    → AreBytes bytes
    → IsLawful ins
    → BeginsWith bytes (spelling_of ins)
    → instruction_begun bytes ≡ Some (ins, size_of ins)
unfolding instruction_begun
begun_of bytes ins all lawful begins =
    whole_in-of (length bytes) (number_of bytes) ins
    (held (length bytes) (number_of bytes) ins lawful
    (subst (λ (front : List ℕ). BeginsWith front (spelling_of ins)) (sym (own bytes all)) begins))

-- the first n of bytes are bytes
pub taken : (n : ℕ) (bytes : List ℕ) → AreBytes bytes → AreBytes (take n bytes)
taken zero bytes few i = omega arith
taken (suc n) [] few i = omega arith
taken (suc n) (byte ∷ bytes) few zero = few 0
taken (suc n) (byte ∷ bytes) few (suc i) = taken n bytes (λ k. few (suc k)) i

-- what is read of bytes is the instruction that they begin with
pub tells_begun : (bytes : List ℕ) (told : Result (Ins × ℕ) EncodingFault)
    → AreBytes bytes
    → IfOk told (λ (pair : Ins × ℕ). IsInstruction bytes pair.0 pair.1)
    → TellsEach bytes told
    → Tells told (instruction_begun bytes)
tells_begun bytes (Ok pair) all is each =
    begun_of bytes pair.0 all is.lawful is.begins ∙ (λ i. Some (pair.0, sym is.size i))
tells_begun bytes (Err fault) all is each = by_found (instruction_begun bytes) refl
  where
    by_found : (found : Option (Ins × ℕ)) → instruction_begun bytes ≡ found → found ≡ None
    by_found None e = refl
    by_found (Some pair) e =
        let is = begun_is bytes pair.0 pair.1 all e in
        let told = each pair.0 is.lawful is.begins in
        cc

-- What the cells hold at the start, line by line.
use Rattle.std.proofs.Common.{◌≡◌, ◌≢◌, ◌⊎◌, inl, inr, ℕ, zero, suc, ◌+◌, ◌-◌, ◌<◌, ◌≤◌, Bool, true, false, ◌&&◌, ◌==◌, List, [], ◌∷◌, ◌++◌}
use Rattle.std.proofs.Common.{length, get_or, set, take, Option, Some, refl, sym, ap, ◌∙◌, arith, nat_lt, ne_eqb, eq-eqb, cond, add-zero}
use Rattle.std.proofs.Common.{add-one, append_assoc, subst}
use Rattle.std.specs.Prelude.{if◌then◌else◌, reverse, find}
use Rattle.std.specs.Option.{option_map_or}
use Rattle.std.specs.List.{All}
use Rattle.std.proofs.lemmas.Bool.Decides.{nat_tests}
use Rattle.std.proofs.Math.Seq.{take-suc}
use Rattle.std.proofs.lemmas.List.{reverse-append, length-replicate}
use Rattle.std.proofs.lemmas.List.Elements.{All-head, All-tail, All-push, All-same}
use Rattle.mm_base.specs.Cells.{IsOpeningCell, may_hold, is_msr}
use Rattle.mm_base.specs.Frames.{zeros}
use Rattle.mm_base.specs.Kinds.{same_kind}
use Rattle.mm_base.specs.declared.access.Kind.{Kind}
use Rattle.mm_base.specs.declared.access.Kind.TheVariants.{Memory, Io, Msr, Saved}
use Rattle.mm_base.specs.declared.cells.CellWrite.{CellWrite}
use Rattle.platform_model.specs.Cells.{PlatformState, IsPlatform}
use Rattle.platform_model.specs.Opening.{is_for, opening_value, opening_values, opening_state}
use Rattle.platform_model.specs.OpeningInside.{blank_state, with_value, with_cell}
use Rattle.platform_model.proofs.RegisterLemmas.{low_index, high_index, upper_from, upper_place}

-- ---- lists and kinds

All-reverse : (P : CellWrite → Type 0) (xs : List CellWrite) → All P xs → All P (reverse xs)
All-reverse P [] each = each
All-reverse P (x ∷ xs) each =
    let turned : reverse (x ∷ xs) ≡ reverse xs ++ x ∷ [] = reverse-append (x ∷ []) xs in
    All-same P (reverse (x ∷ xs)) (reverse xs ++ x ∷ []) turned
    (All-push P (reverse xs) x (All-reverse P xs (All-tail P x xs each)) (All-head P x xs each))

same_kind-refl : (kind : Kind) → same_kind kind kind ≡ true
same_kind-refl Memory = refl
same_kind-refl Io = refl
same_kind-refl Msr = refl
same_kind-refl Saved = refl

-- ---- one cell

abbrev value_found : Option CellWrite → ℕ
value_found found = option_map_or (λ line. line.value) found 0

module _ (kind : Kind) (at : ℕ) where
  -- the newest line first
  abbrev newest : List CellWrite → ℕ
  newest lines = value_found (find (is_for kind at) lines)

  newest_is : (b : Bool) (line : CellWrite) (lines : List CellWrite) → is_for kind at line ≡ b
      → newest (line ∷ lines) ≡ (if b then line.value else newest lines)
  newest_is true line lines e = ap (λ b. value_found (cond b (Some line) (find (is_for kind at) lines))) e
  newest_is false line lines e = ap (λ b. value_found (cond b (Some line) (find (is_for kind at) lines))) e

  -- one more line, which is for the cell or not
  pub value_push : (lines : List CellWrite) (line : CellWrite) (b : Bool) → is_for kind at line ≡ b
      → opening_value (lines ++ line ∷ []) kind at ≡ (if b then line.value else opening_value lines kind at)
  value_push lines line b e = ap newest (reverse-append lines (line ∷ [])) ∙ newest_is b line (reverse lines) e

  none_found : (lines : List CellWrite) → All (λ line. is_for kind at line ≡ false) lines → newest lines ≡ 0
  none_found [] none = refl
  none_found (line ∷ lines) none =
      newest_is false line lines (All-head (λ line. is_for kind at line ≡ false) line lines none)
      ∙ none_found lines (All-tail (λ line. is_for kind at line ≡ false) line lines none)

  found_after : (later earlier : List CellWrite) (line : CellWrite) → is_for kind at line ≡ true
      → All (λ line. is_for kind at line ≡ false) later → newest (later ++ line ∷ earlier) ≡ line.value
  found_after [] earlier line own none = newest_is true line earlier own
  found_after (other ∷ later) earlier line own none =
      newest_is false other (later ++ line ∷ earlier) (All-head (λ line. is_for kind at line ≡ false) other later none)
      ∙ found_after later earlier line own (All-tail (λ line. is_for kind at line ≡ false) other later none)

  pub others_hold_zero : (lines : List CellWrite) → All (λ line. is_for kind at line ≡ false) lines → opening_value lines kind at ≡ 0
  others_hold_zero lines none = none_found (reverse lines) (All-reverse (λ line. is_for kind at line ≡ false) lines none)

  pub last_line_holds : (before after : List CellWrite) (line : CellWrite) → is_for kind at line ≡ true
      → All (λ later. is_for kind at later ≡ false) after → opening_value (before ++ line ∷ after) kind at ≡ line.value
  last_line_holds before after line own none =
      let turned : reverse (before ++ line ∷ after) ≡ reverse after ++ line ∷ reverse before =
      reverse-append before (line ∷ after)
      ∙ ap (λ (back : List CellWrite). back ++ reverse before) (reverse-append (line ∷ []) after)
      ∙ append_assoc (reverse after) (line ∷ []) (reverse before) in
      ap newest turned
      ∙ found_after (reverse after) (reverse before) line own (All-reverse (λ line. is_for kind at line ≡ false) after none)

-- ---- many cells

module _ (lines : List CellWrite) (kind : Kind) where
  -- each cell holds what its number says
  pub value_at : (n first k : ℕ) → k < n → get_or (opening_values lines kind first n) k 0 ≡ opening_value lines kind (first + k)
  unfolding opening_values
  value_at zero first k within = absurd (omega arith)
  value_at (suc n) first zero within = ap (opening_value lines kind) (sym (add-zero first))
  value_at (suc n) first (suc k) within =
      let next : suc first + k ≡ first + suc k = omega arith in
      value_at n (suc first) k (omega arith) ∙ ap (opening_value lines kind) next

  pub length-opening_values : (n first : ℕ) → length (opening_values lines kind first n) ≡ n
  unfolding opening_values
  length-opening_values zero first = refl
  length-opening_values (suc n) first = ap suc (length-opening_values n (suc first))

  module _ (line : CellWrite) where
    abbrev longer : List CellWrite
    longer = lines ++ line ∷ []

    -- a line that is for none of the cells
    values_stay : (n first : ℕ) → ((at : ℕ) → first ≤ at → at < first + n → is_for kind at line ≡ false)
        → opening_values longer kind first n ≡ opening_values lines kind first n
    unfolding opening_values
    values_stay zero first others = refl
    values_stay (suc n) first others =
        let here = value_push kind first lines line false (others first (omega arith) (omega arith)) in
        let rest = values_stay n (suc first) (λ at from to. others at (omega arith) (omega arith)) in
        λ i. here i ∷ rest i

    -- a line that is for one of them
    value_set : (n first k : ℕ) → k < n → is_for kind (first + k) line ≡ true
        → ((at : ℕ) → at ≢ first + k → is_for kind at line ≡ false)
        → opening_values longer kind first n ≡ set (opening_values lines kind first n) k line.value
    unfolding opening_values
    value_set zero first k within own others = absurd (omega arith)
    value_set (suc n) first zero within own others =
        let P : ℕ → Type 0 = λ at. is_for kind at line ≡ true in
        let here = value_push kind first lines line true (subst P (add-zero first) own) in
        let rest = values_stay n (suc first) (λ at from to. others at (λ same. absurd (omega arith))) in
        λ i. here i ∷ rest i
    value_set (suc n) first (suc k) within own others =
        let P : ℕ → Type 0 = λ at. is_for kind at line ≡ true in
        let next : first + suc k ≡ suc first + k = omega arith in
        let here = value_push kind first lines line false (others first (λ same. absurd (omega arith))) in
        let rest = value_set n (suc first) k (omega arith) (subst P next own) (λ at ne. others at (λ same. absurd (ne (same ∙ next)))) in
        λ i. here i ∷ rest i

    module _ (is : line.kind ≡ kind) where
      own_cell : is_for kind line.at line ≡ true
      own_cell =
          ap (λ (k : Kind). same_kind k kind && (line.at == line.at)) is
          ∙ ap (λ b. b && (line.at == line.at)) (same_kind-refl kind) ∙ eq-eqb line.at line.at refl

      other_cell : (at : ℕ) → at ≢ line.at → is_for kind at line ≡ false
      other_cell at ne =
          ap (λ (k : Kind). same_kind k kind && (line.at == at)) is
          ∙ ap (λ b. b && (line.at == at)) (same_kind-refl kind) ∙ ne_eqb line.at at (λ same. ne (sym same))

      -- the cells after a line for one of them
      pub one_set : (n first k : ℕ) → k < n → line.at ≡ first + k
          → opening_values longer kind first n ≡ set (opening_values lines kind first n) k line.value
      one_set n first k within place =
          let P : ℕ → Type 0 = λ at. is_for kind at line ≡ true in
          value_set n first k within (subst P place own_cell) (λ at ne. other_cell at (λ same. ne (same ∙ place)))

      -- the cells after a line for one past them or before them
      pub none_set : (n first : ℕ) → (line.at < first) ⊎ (first + n ≤ line.at)
          → opening_values longer kind first n ≡ opening_values lines kind first n
      none_set n first (inl before) = values_stay n first (λ at from to. other_cell at (λ same. absurd (omega arith)))
      none_set n first (inr past) = values_stay n first (λ at from to. other_cell at (λ same. absurd (omega arith)))

    -- the cells after a line of another kind
    pub kind_stays : (n first : ℕ) → same_kind line.kind kind ≡ false
        → opening_values longer kind first n ≡ opening_values lines kind first n
    kind_stays n first other = values_stay n first (λ at from to. ap (λ b. b && (line.at == at)) other)

-- ---- all cells

device_from : (at value : ℕ) → may_hold Memory at value ≡ true → 0xfe000000 ≤ at
device_from at value there = grind (arith, nat_tests)

device_to : (at value : ℕ) → may_hold Memory at value ≡ true → at < 0xfe010000
device_to at value there = grind (arith, nat_tests)

port_to : (at value : ℕ) → may_hold Io at value ≡ true → at < 65536
port_to at value there = grind (arith, nat_tests)

module _ (lines : List CellWrite) (line : CellWrite) where
  other_kind : (kind wanted : Kind) → line.kind ≡ kind → same_kind kind wanted ≡ false → same_kind line.kind wanted ≡ false
  other_kind kind wanted is differ = ap (λ (k : Kind). same_kind k wanted) is ∙ differ

  register_line : (low : Bool) → nat_lt line.at 0x2000 ≡ low → line.kind ≡ Msr → is_msr line.at ≡ true
      → opening_state (lines ++ line ∷ [])
      ≡ (if low
      then record (opening_state lines) { msrs = set (opening_values lines Msr 0 8192) line.at line.value }
      else record (opening_state lines) { upper_msrs = set (opening_values lines Msr 0xc0000000 8192) (line.at - 0xc0000000) line.value })
  register_line true low is there =
      let below = low_index line.at low in
      let ports = kind_stays lines Io line 65536 0 (other_kind Msr Io is refl) in
      let device = kind_stays lines Memory line 65536 0xfe000000 (other_kind Msr Memory is refl) in
      let msrs = one_set lines Msr line is 8192 0 line.at below (omega arith) in
      let upper = none_set lines Msr line is 8192 0xc0000000 (inl (omega arith)) in
      λ i. record { ports = ports i; device = device i; msrs = msrs i; upper_msrs = upper i }
  register_line false high is there =
      let above = high_index line.at high in
      let from = upper_from line.at there above in
      let ports = kind_stays lines Io line 65536 0 (other_kind Msr Io is refl) in
      let device = kind_stays lines Memory line 65536 0xfe000000 (other_kind Msr Memory is refl) in
      let msrs = none_set lines Msr line is 8192 0 (inr (omega arith)) in
      let upper = one_set lines Msr line is 8192 0xc0000000 (line.at - 0xc0000000) (upper_place line.at there above) (omega arith) in
      λ i. record { ports = ports i; device = device i; msrs = msrs i; upper_msrs = upper i }

  line_of : (kind : Kind) → line.kind ≡ kind → may_hold kind line.at line.value ≡ true
      → opening_state (lines ++ line ∷ []) ≡ with_value kind line.at line.value (opening_state lines)
  line_of Memory is there =
      let from = device_from line.at line.value there in
      let to = device_to line.at line.value there in
      let ports = kind_stays lines Io line 65536 0 (other_kind Memory Io is refl) in
      let device = one_set lines Memory line is 65536 0xfe000000 (line.at - 0xfe000000) (omega arith) (omega arith) in
      let msrs = kind_stays lines Msr line 8192 0 (other_kind Memory Msr is refl) in
      let upper = kind_stays lines Msr line 8192 0xc0000000 (other_kind Memory Msr is refl) in
      λ i. record { ports = ports i; device = device i; msrs = msrs i; upper_msrs = upper i }
  line_of Io is there =
      let ports = one_set lines Io line is 65536 0 line.at (port_to line.at line.value there) (omega arith) in
      let device = kind_stays lines Memory line 65536 0xfe000000 (other_kind Io Memory is refl) in
      let msrs = kind_stays lines Msr line 8192 0 (other_kind Io Msr is refl) in
      let upper = kind_stays lines Msr line 8192 0xc0000000 (other_kind Io Msr is refl) in
      λ i. record { ports = ports i; device = device i; msrs = msrs i; upper_msrs = upper i }
  line_of Msr is there = register_line (nat_lt line.at 0x2000) refl is there
  line_of Saved is there = absurd cc

  -- the cells after one more line
  pub one_more_line : IsOpeningCell line → opening_state (lines ++ line ∷ []) ≡ with_cell line (opening_state lines)
  one_more_line cell = line_of line.kind refl cell.there

-- ---- no line yet

no_values : (kind : Kind) (n first : ℕ) → zeros n ≡ opening_values [] kind first n
unfolding opening_values zeros
no_values kind zero first = refl
no_values kind (suc n) first = ap (λ (rest : List ℕ). 0 ∷ rest) (no_values kind n (suc first))

pub no_lines : blank_state ≡ opening_state []
no_lines =
    let ports = no_values Io 65536 0 in
    let device = no_values Memory 65536 0xfe000000 in
    let msrs = no_values Msr 8192 0 in
    let upper = no_values Msr 8192 0xc0000000 in
    λ i. record { ports = ports i; device = device i; msrs = msrs i; upper_msrs = upper i }

-- ---- the loop

-- the cells after the line with this number, if they were those of the lines before it
pub more_lines : (all : List CellWrite) (k : ℕ) (d : CellWrite) (before after : PlatformState) → k < length all → All IsOpeningCell all
    → before ≡ opening_state (take k all) → after ≡ with_cell (get_or all k d) before → after ≡ opening_state (take (k + 1) all)
more_lines all k d before after within cells so_far step =
    step ∙ ap (with_cell (get_or all k d)) so_far
    ∙ sym (one_more_line (take k all) (get_or all k d) (cells k d within))
    ∙ ap opening_state (sym (take-suc all k d within) ∙ ap (λ n. take n all) (sym (add-one k)))

length-zeros : (n : ℕ) → length (zeros n) ≡ n
unfolding zeros
length-zeros n = length-replicate n 0

-- all cells of the map are there in the blank ones
pub blank_is_whole : (ports device msrs upper : List ℕ)
    → ports ≡ zeros 65536 → device ≡ zeros 65536 → msrs ≡ zeros 8192 → upper ≡ zeros 8192
    → IsPlatform (record { ports = ports; device = device; msrs = msrs; upper_msrs = upper })
blank_is_whole ports device msrs upper p d m u =
    record {
      ports = ap length p ∙ length-zeros 65536;
      device = ap length d ∙ length-zeros 65536;
      msrs = ap length m ∙ length-zeros 8192;
      upper_msrs = ap length u ∙ length-zeros 8192;
    }

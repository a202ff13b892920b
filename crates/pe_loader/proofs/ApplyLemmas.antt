-- Fixups as they are applied: each that passes leaves the directory as it was, so that the rest of them is read from what was written.
use Rattle.std.proofs.Common.{◌≡◌, inl, inr, ℕ, zero, suc, ◌+◌, ◌-◌, ◌*◌, ◌/◌, ◌%◌, ◌^◌, ◌≤◌, ◌<◌, true, false, not, ◌&&◌, Bool, List, [], ◌∷◌, ◌++◌, length, get_or, take, drop, fold, refl, sym, ap, ◌∙◌, subst, arith, length-append, length-drop, eqb, leb}
use Rattle.std.specs.Int.{w16, w32, w64, to_le_bytes}
use Rattle.std.specs.List.{list_all}
use Rattle.std.proofs.lemmas.Bool.{and_parts, leb-true, cases_lt}
use Rattle.std.proofs.lemmas.Bool.Decides.{nat_tests}
use Rattle.std.proofs.lemmas.List.{length-take-le}
use Rattle.std.proofs.lemmas.List.Sums.{fold-append}
use Rattle.mm_base.specs.Numbers.{number_in}
use Rattle.mm_base.specs.Range.{share_a_unit}
use Rattle.mm_base.specs.declared.range.Range.{Range}
use Rattle.pe_loader.specs.Fixups.{fixup_passes, StaysWithin, fixup_of, fixups_from, Block, block_at, is_block, block_passes, directory_end, BlocksLead, fixups_in, AreFixups, AreRead}
use Rattle.pe_loader.specs.Loading.{put, fixed}
use Rattle.pe_loader.specs.ReadingInside.{IsHead, AgreeIn, EntriesPass}
use Rattle.pe_loader.specs.declared.fixup.Fixup.{Fixup}
use Rattle.pe_loader.specs.declared.fixup_kind.FixupKind.{FixupKind}
use Rattle.pe_loader.specs.declared.fixup_kind.FixupKind.TheVariants.{Absolute, High, Low, HighLow, Dir64, Unknown}
use Rattle.pe_loader.specs.declared.head.Head.{Head}
use Rattle.pe_loader.proofs.NumberLemmas.{number_at-suc}
use Rattle.pe_loader.proofs.LoadLemmas.{put_below, put_behind}
use Rattle.pe_loader.proofs.BlockLemmas.{fixups_from-more, all_more, no_room, block_room, one_list, size_within, fixups_pass}

-- ---- a fixup that passes

stays_of : (size : ℕ) (directory : Range) (kind : FixupKind) (at : ℕ) → fixup_passes size directory (record { kind = kind; at = at }) ≡ true
    → StaysWithin size (record { kind = kind; at = at })
stays_of size directory Absolute at passes = tt
stays_of size directory Unknown at passes = cc
stays_of size directory _ at passes = leb-true _ _ (and_parts _ _ passes).0

-- stays in the image
pub stays_within : (size : ℕ) (directory : Range) (fixup : Fixup) → fixup_passes size directory fixup ≡ true → StaysWithin size fixup
stays_within size directory fixup passes = stays_of size directory fixup.kind fixup.at passes

-- and leaves its length
length-put : (form bs : List ℕ) (at : ℕ) → at + length bs ≤ length form → length (put form at bs) ≡ length form
length-put form bs at within =
    omega (
      arith,
      length-append (take at form ++ bs) (drop (at + length bs) form),
      length-append (take at form) bs,
      length-take-le at form (omega arith),
      length-drop (at + length bs) form,
    )

pub fixed_length : (by : ℕ) (form : List ℕ) (kind : FixupKind) (at : ℕ) → StaysWithin (length form) (record { kind = kind; at = at })
    → length (fixed by form (record { kind = kind; at = at })) ≡ length form
unfolding fixed
fixed_length by form Absolute at stays = refl
fixed_length by form Unknown at stays = refl
fixed_length by form High at stays = length-put form (to_le_bytes w16 ((number_in form at 2 + by / 65536 % 65536) % 2 ^ 16)) at stays
fixed_length by form Low at stays = length-put form (to_le_bytes w16 ((number_in form at 2 + by % 65536) % 2 ^ 16)) at stays
fixed_length by form HighLow at stays = length-put form (to_le_bytes w32 ((number_in form at 4 + by) % 2 ^ 32)) at stays
fixed_length by form Dir64 at stays = length-put form (to_le_bytes w64 ((number_in form at 8 + by) % 2 ^ 64)) at stays

-- ---- forms that agree in a directory

module _ (directory : Range) where
  pub agree_same : (one other : List ℕ) → one ≡ other → AgreeIn directory one other
  agree_same one other is = record { long = ap length is; same = λ place low high. ap (λ (xs : List ℕ). get_or xs place 0) is }

  agree_further : (one mid other : List ℕ) → AgreeIn directory one mid → AgreeIn directory mid other → AgreeIn directory one other
  agree_further one mid other a b = record { long = a.long ∙ b.long; same = λ place low high. a.same place low high ∙ b.same place low high }

  -- bytes that are put outside
  put_outside : (form bs : List ℕ) (at n : ℕ) → length bs ≡ n → 0 < n → at + n ≤ length form → share_a_unit (record { base = at; length = n }) directory ≡ false
      → AgreeIn directory (put form at bs) form
  put_outside form bs at n long some within apart = record {
    long = length-put form bs at (omega arith);
    same = λ place low high.
        elim (cases_lt place at) [
          | inl below ↦ put_below form bs at place below (omega arith)
          | inr from ↦
              let behind : at + n ≤ place = grind (arith, nat_tests) in
              put_behind form bs at place (omega arith) (omega arith)
        ];
  }

  outside : (passes apart : Bool) → (passes && not apart) ≡ true → apart ≡ false
  outside true false is = refl
  outside true true is = cc
  outside false _ is = cc

  fixed_outside : (by : ℕ) (form : List ℕ) (kind : FixupKind) (at : ℕ) → fixup_passes (length form) directory (record { kind = kind; at = at }) ≡ true
      → AgreeIn directory (fixed by form (record { kind = kind; at = at })) form
  unfolding fixed
  fixed_outside by form Absolute at passes = agree_same form form refl
  fixed_outside by form Unknown at passes = agree_same form form refl
  fixed_outside by form High at passes =
      put_outside form (to_le_bytes w16 ((number_in form at 2 + by / 65536 % 65536) % 2 ^ 16)) at 2 refl (omega arith)
      (leb-true _ _ (and_parts _ _ passes).0) (outside _ _ passes)
  fixed_outside by form Low at passes =
      put_outside form (to_le_bytes w16 ((number_in form at 2 + by % 65536) % 2 ^ 16)) at 2 refl (omega arith)
      (leb-true _ _ (and_parts _ _ passes).0) (outside _ _ passes)
  fixed_outside by form HighLow at passes =
      put_outside form (to_le_bytes w32 ((number_in form at 4 + by) % 2 ^ 32)) at 4 refl (omega arith)
      (leb-true _ _ (and_parts _ _ passes).0) (outside _ _ passes)
  fixed_outside by form Dir64 at passes =
      put_outside form (to_le_bytes w64 ((number_in form at 8 + by) % 2 ^ 64)) at 8 refl (omega arith)
      (leb-true _ _ (and_parts _ _ passes).0) (outside _ _ passes)

  -- a fixup that passes leaves the directory as it was
  fixed_leaves : (by : ℕ) (form : List ℕ) (fixup : Fixup) → fixup_passes (length form) directory fixup ≡ true → AgreeIn directory (fixed by form fixup) form
  fixed_leaves by form fixup passes = fixed_outside by form fixup.kind fixup.at passes

  fold_leaves : (by size : ℕ) (form : List ℕ) (fixups : List Fixup) → length form ≡ size → list_all (fixup_passes size directory) fixups ≡ true
      → AgreeIn directory (fold (fixed by) form fixups) form
  fold_leaves by size form [] long pass = agree_same form form refl
  fold_leaves by size form (fixup ∷ fixups) long pass =
      let both = and_parts _ _ pass in
      let P : ℕ → Type 0 = λ n. fixup_passes n directory fixup ≡ true in
      let here = fixed_leaves by form fixup (subst P (sym long) both.0) in
      agree_further (fold (fixed by) (fixed by form fixup) fixups) (fixed by form fixup) form
      (fold_leaves by size (fixed by form fixup) fixups (here.long ∙ long) both.1) here

  module _ (one other : List ℕ) (agree : AgreeIn directory one other) (fits : directory_end directory ≤ length one) where
    -- numbers in the directory are the same
    number_same : (at n : ℕ) → directory.base ≤ at → at + n ≤ directory_end directory → number_in one at n ≡ number_in other at n
    number_same at zero from to = refl
    number_same at (suc n) from to =
        let first = number_at-suc one at n (omega arith) in
        let second = number_at-suc other at n (omega (arith, agree.long)) in
        let here = agree.same at from (omega arith) in
        let rest = number_same (suc at) n (omega arith) (omega arith) in
        omega arith

    entries_same : (page at n : ℕ) → directory.base ≤ at → at + 2 * n ≤ directory_end directory → fixups_from one page at n ≡ fixups_from other page at n
    entries_same page at zero from to = refl
    entries_same page at (suc n) from to =
        let here : number_in one at 2 ≡ number_in other at 2 = number_same at 2 from (omega arith) in
        let rest = entries_same page (at + 2) n (omega arith) (omega arith) in
        λ i. fixup_of page (here i) ∷ rest i

    pub block_same : (at : ℕ) → directory.base ≤ at → is_block one directory at ≡ is_block other directory at
    unfolding is_block block_at
    block_same at from =
        elim (cases_lt (directory_end directory) (at + 8)) [
          | inl short ↦ no_room one directory at short ∙ sym (no_room other directory at short)
          | inr room ↦ ap (λ n. leb (at + 8) (directory_end directory) && not (eqb n 0)) (number_same (at + 4) 4 (omega arith) (omega arith))
        ]

    -- so are the heads of blocks
    pub head_same : (at : ℕ) (head : Head) → directory.base ≤ at → IsHead one directory at head → IsHead other directory at head
    unfolding block_at
    head_same at head from is =
        let room = block_room one directory at is.there in
        record {
          there = sym (block_same at from) ∙ is.there;
          page = is.page ∙ number_same at 4 from (omega arith);
          size = is.size ∙ number_same (at + 4) 4 (omega arith) (omega arith);
        }

-- the fixups of a block, by its head
pub fixups_by_head : (form : List ℕ) (directory : Range) (at : ℕ) (head : Head) → IsHead form directory at head
    → (block_at form at).fixups ≡ fixups_from form head.page (at + 8) ((head.size - 8) / 2)
unfolding block_at
fixups_by_head form directory at head is =
    ap (λ page. fixups_from form page (at + 8) ((number_in form (at + 4) 4 - 8) / 2)) (sym is.page)
    ∙ ap (λ n. fixups_from form head.page (at + 8) ((n - 8) / 2)) (sym is.size)

-- ---- the entries of a block

-- So many entries of a block were applied to a form that it lies in, and those that are left make of this what all make of the form.
pub record Applied (form out : List ℕ) (by page at count k : ℕ) : Type 0 where
  pub directory : Range
  pub entries : EntriesPass form directory page at count
  pub agree : AgreeIn directory out form
  pub pass : list_all (fixup_passes (length form) directory) (fixups_from form page (at + 2 * k) (count - k)) ≡ true
  pub rest : fold (fixed by) out (fixups_from form page (at + 2 * k) (count - k)) ≡ fold (fixed by) form (fixups_from form page at count)

module _ (form out : List ℕ) (by page at count : ℕ) where
  pub applied_none : out ≡ form → (directory : Range) → EntriesPass form directory page at count → Applied form out by page at count 0
  applied_none is directory entries =
      let there : at + 2 * 0 ≡ at = omega arith in
      let left : count - 0 ≡ count = omega arith in
      let same : fixups_from form page (at + 2 * 0) (count - 0) ≡ fixups_from form page at count = (λ i. fixups_from form page (there i) (left i)) in
      record {
        directory = directory;
        entries = entries;
        agree = agree_same directory out form is;
        pass = ap (list_all (fixup_passes (length form) directory)) same ∙ entries.pass;
        rest = (λ i. fold (fixed by) (is i) (same i));
      }

  module _ (k word : ℕ) (fixup : Fixup) (applied : Applied form out by page at count k) (h : k < count) (read : word ≡ number_in out (at + 2 * k) 2)
      (says : fixup ≡ fixup_of page word) where
    as_in_form : word ≡ number_in form (at + 2 * k) 2
    as_in_form =
        let from = applied.entries.from in
        let to = applied.entries.to in
        read ∙ number_same applied.directory out form applied.agree (omega (arith, applied.entries.fits, applied.agree.long)) (at + 2 * k) 2 (omega arith) (omega arith)

    passes_there : (fixup_passes (length form) applied.directory fixup ≡ true)
        × (list_all (fixup_passes (length form) applied.directory) (fixups_from form page (at + 2 * (k + 1)) (count - (k + 1))) ≡ true)
    passes_there =
        let test : Fixup → Bool = fixup_passes (length form) applied.directory in
        let both = and_parts _ _ (sym (all_more test form page at count k word h as_in_form) ∙ applied.pass) in
        (ap test says ∙ both.0, both.1)

    passes_out : fixup_passes (length out) applied.directory fixup ≡ true
    passes_out = let P : ℕ → Type 0 = λ n. fixup_passes n applied.directory fixup ≡ true in subst P (sym applied.agree.long) passes_there.0

    pub applied_stays : StaysWithin (length out) fixup
    applied_stays = stays_within (length out) applied.directory fixup passes_out

    pub applied_more : (new : List ℕ) → new ≡ fixed by out fixup → Applied form new by page at count (k + 1)
    applied_more new is =
        let same : fixup ≡ fixup_of page (number_in form (at + 2 * k) 2) = says ∙ ap (fixup_of page) as_in_form in
        record {
          directory = applied.directory;
          entries = applied.entries;
          agree = agree_further applied.directory new out form
              (agree_further applied.directory new (fixed by out fixup) out (agree_same applied.directory new (fixed by out fixup) is) (fixed_leaves applied.directory by out fixup passes_out))
              applied.agree;
          pass = passes_there.1;
          rest = ap (λ (xs : List ℕ). fold (fixed by) xs (fixups_from form page (at + 2 * (k + 1)) (count - (k + 1)))) (is ∙ ap (fixed by out) same)
              ∙ sym (ap (fold (fixed by) out) (fixups_from-more form page at count k h))
              ∙ applied.rest;
        }

  pub applied_all : (k : ℕ) → k ≡ count → Applied form out by page at count k → out ≡ fold (fixed by) form (fixups_from form page at count)
  applied_all k all applied =
      let none : count - k ≡ 0 = omega arith in
      sym (ap (λ n. fold (fixed by) out (fixups_from form page (at + 2 * k) n)) none) ∙ applied.rest

-- ---- blocks that are left

module _ (form : List ℕ) (size : ℕ) (directory : Range) (by : ℕ) where
  -- Blocks lead from a place to where they end, and applying their fixups to this makes of it what all fixups make of the form.
  pub record Rest (at : ℕ) (out : List ℕ) : Type 0 where
    pub blocks : List Block
    pub end : ℕ
    pub leads : BlocksLead form size directory at blocks end
    pub ends : is_block form directory end ≡ false
    pub gives : (fixups : List Fixup) → AreFixups form size directory fixups → fold (fixed by) out (fixups_in blocks) ≡ fold (fixed by) form fixups

  pub rest_all : (at : ℕ) (out : List ℕ) → AreRead form size directory → at ≡ directory.base → out ≡ form → Rest at out
  rest_all at out read is same =
      let are = read.1 in
      let P : ℕ → Type 0 = λ place. BlocksLead form size directory place are.blocks are.end in
      record {
        blocks = are.blocks;
        end = are.end;
        leads = subst P (sym is) are.leads;
        ends = are.ends;
        gives = λ fixups other.
            ap (λ (xs : List ℕ). fold (fixed by) xs (fixups_in are.blocks)) same
            ∙ ap (fold (fixed by) form) (sym are.are ∙ one_list form size directory read.0 fixups are other);
      }

  -- a block that is there passes, and the others are left behind it
  pub record RestMore (at : ℕ) (out : List ℕ) : Type 0 where
    pub passes : block_passes form size directory at ≡ true
    pub more : (new : List ℕ) → new ≡ fold (fixed by) out (block_at form at).fixups → Rest (at + (block_at form at).size) new

  rest_cases : (at : ℕ) (out : List ℕ) (blocks : List Block) (end : ℕ) → BlocksLead form size directory at blocks end → is_block form directory end ≡ false
      → ((fixups : List Fixup) → AreFixups form size directory fixups → fold (fixed by) out (fixups_in blocks) ≡ fold (fixed by) form fixups)
      → is_block form directory at ≡ true → RestMore at out
  rest_cases at out [] end leads ends gives there =
      let P : ℕ → Type 0 = λ place. is_block form directory place ≡ false in
      let none = subst P (sym leads) ends in
      let wrong : true ≡ false = sym there ∙ none in
      cc
  rest_cases at out (block ∷ blocks) end leads ends gives there = record {
    passes = leads.0.passes;
    more = λ new is.
        let P : Block → Type 0 = λ b. BlocksLead form size directory (at + b.size) blocks end in
        record {
          blocks = blocks;
          end = end;
          leads = subst P leads.0.is leads.1;
          ends = ends;
          gives = λ fixups are.
              ap (λ (xs : List ℕ). fold (fixed by) xs (fixups_in blocks)) (is ∙ ap (λ (b : Block). fold (fixed by) out b.fixups) (sym leads.0.is))
              ∙ sym (fold-append (fixed by) out block.fixups (fixups_in blocks))
              ∙ gives fixups are;
        };
  }

  pub rest_more : (at : ℕ) (out : List ℕ) → Rest at out → is_block form directory at ≡ true → RestMore at out
  rest_more at out rest there = rest_cases at out rest.blocks rest.end rest.leads rest.ends rest.gives there

  -- where there is none, all fixups are applied
  end_cases : (at : ℕ) (out : List ℕ) (blocks : List Block) (end : ℕ) → BlocksLead form size directory at blocks end
      → ((fixups : List Fixup) → AreFixups form size directory fixups → fold (fixed by) out (fixups_in blocks) ≡ fold (fixed by) form fixups)
      → is_block form directory at ≡ false → (fixups : List Fixup) → AreFixups form size directory fixups → out ≡ fold (fixed by) form fixups
  end_cases at out [] end leads gives none fixups are = gives fixups are
  end_cases at out (block ∷ blocks) end leads gives none fixups are =
      let there = leads.0.there in
      let wrong : true ≡ false = sym there ∙ none in
      cc

  pub rest_ends : (at : ℕ) (out : List ℕ) → Rest at out → is_block form directory at ≡ false
      → (fixups : List Fixup) → AreFixups form size directory fixups → out ≡ fold (fixed by) form fixups
  rest_ends at out rest none = end_cases at out rest.blocks rest.end rest.leads rest.gives none

-- ---- one block after another

-- Fixups were applied up to a place: the directory is as it was, and the blocks that are left make of this what all make of the form.
pub record AppliedTo (form : List ℕ) (directory : Range) (by at : ℕ) (out : List ℕ) : Type 0 where
  pub fits : directory_end directory ≤ length form
  pub from : directory.base ≤ at
  pub near : at ≤ directory_end directory
  pub agree : AgreeIn directory out form
  pub rest : Rest form (length form) directory by at out

-- what is known of a block there
pub record BlockThere (form : List ℕ) (directory : Range) (by at : ℕ) (out : List ℕ) (head : Head) : Type 0 where
  pub least : 8 ≤ head.size
  pub within : at + head.size ≤ directory_end directory
  pub entries : EntriesPass out directory head.page (at + 8) ((head.size - 8) / 2)
  pub behind : (new : List ℕ) → new ≡ fold (fixed by) out (fixups_from out head.page (at + 8) ((head.size - 8) / 2))
      → AppliedTo form directory by (at + head.size) new

module _ (form : List ℕ) (directory : Range) (by : ℕ) where
  pub applied_from : (at : ℕ) (out : List ℕ) → AreRead form (length form) directory → at ≡ directory.base → out ≡ form → AppliedTo form directory by at out
  applied_from at out read is same = record {
    fits = leb-true _ _ read.1.fits;
    from = omega arith;
    near = omega arith;
    agree = agree_same directory out form same;
    rest = rest_all form (length form) directory by at out read is same;
  }

  pub block_there : (at : ℕ) (out : List ℕ) (head : Head) → AppliedTo form directory by at out → IsHead out directory at head
      → BlockThere form directory by at out head
  block_there at out head applied is =
      let fits : directory_end directory ≤ length out = omega (arith, applied.fits, applied.agree.long) in
      let there = head_same directory out form applied.agree fits at head applied.from is in
      let here = rest_more form (length form) directory by at out applied.rest there.there in
      let sized = size_within form (length form) directory at here.passes in
      let least : 8 ≤ head.size = omega (arith, sized.0, there.size) in
      let within : at + head.size ≤ directory_end directory = omega (arith, sized.1, there.size) in
      let n : ℕ = (head.size - 8) / 2 in
      let to : at + 8 + 2 * n ≤ directory_end directory = omega arith in
      let from : directory.base ≤ at + 8 = omega (arith, applied.from) in
      let same = entries_same directory out form applied.agree fits head.page (at + 8) n from to in
      let fixups = fixups_by_head form directory at head there in
      let pass : list_all (fixup_passes (length form) directory) (fixups_from out head.page (at + 8) n) ≡ true =
      ap (list_all (fixup_passes (length form) directory)) (same ∙ sym fixups) ∙ fixups_pass form (length form) directory at here.passes in
      let P : ℕ → Type 0 = λ long. list_all (fixup_passes long directory) (fixups_from out head.page (at + 8) n) ≡ true in
      let Q : ℕ → List ℕ → Type 0 = λ long new. Rest form (length form) directory by (at + long) new in
      record {
        least = least;
        within = within;
        entries = record { from = from; to = to; fits = fits; pass = subst P (sym applied.agree.long) pass };
        behind = λ new made. record {
          fits = applied.fits;
          from = omega (arith, applied.from);
          near = within;
          agree = agree_further directory new out form
              (agree_further directory new (fold (fixed by) out (fixups_from out head.page (at + 8) n)) out
              (agree_same directory new (fold (fixed by) out (fixups_from out head.page (at + 8) n)) made)
              (fold_leaves directory by (length form) out (fixups_from out head.page (at + 8) n) applied.agree.long pass))
              applied.agree;
          rest = subst (λ long. Q long new) (sym there.size) (here.more new (made ∙ ap (fold (fixed by) out) (same ∙ sym fixups)));
        };
      }

  pub applied_to_end : (at : ℕ) (out : List ℕ) → AppliedTo form directory by at out → is_block out directory at ≡ false
      → (fixups : List Fixup) → AreFixups form (length form) directory fixups → out ≡ fold (fixed by) form fixups
  applied_to_end at out applied none =
      let fits : directory_end directory ≤ length out = omega (arith, applied.fits, applied.agree.long) in
      rest_ends form (length form) directory by at out applied.rest (sym (block_same directory out form applied.agree fits at applied.from) ∙ none)

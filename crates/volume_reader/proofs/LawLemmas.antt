-- Each place of a volume has one thing standing there, and bytes are one volume or have one fault.
use Rattle.std.proofs.Common.{◌≡◌, ◌⊎◌, inl, inr, ℕ, ◌+◌, ◌-◌, Bool, true, false, not, ◌&&◌, List, length, take, Option, Some, None, Result, Ok, Err, IfOk, IfErr, refl, sym, ap, ◌∙◌, subst, arith}
use Rattle.courses.specs.Courses.{StopsAfter}
use Rattle.courses.proofs.CheckLemmas.{one_first, never_first}
use Rattle.courses.proofs.CourseLemmas as course
use Rattle.courses.proofs.CourseLemmas.{Same, each_stops}
use Rattle.courses.proofs.VerdictLemmas.{found_or_end, first_or_end}
use Rattle.mm_base.specs.Checks.{Check}
use Rattle.mm_base.specs.declared.volume.File.{File}
use Rattle.mm_base.specs.declared.volume.Volume.{Volume}
use Rattle.mm_base.specs.declared.volume.VolumeKind.{VolumeKind}
use Rattle.mm_base.specs.declared.volume.VolumeKind.TheVariants.{FileSum, FileSize}
use Rattle.volume_reader.specs.declared.file_state.FileState.{FileState}
use Rattle.volume_reader.specs.declared.file_state.FileState.TheVariants.{Free, HeaderConstruction, HeaderValid, DataValid, MarkedForUpdate, Deleted, HeaderInvalid}
use Rattle.mm_base.specs.End.{EndsBy, out_of_memory}
use Rattle.mm_base.specs.declared.end.End.{End}
use Rattle.mm_base.specs.declared.end.End.TheVariants.{Fault, NoMemory}
use Rattle.volume_reader.specs.declared.volume_fault.VolumeFault.{VolumeFault}
use Rattle.volume_reader.specs.VolumeHeader.{checks, first_failing, first_place, volume_length, is_ffs3, erase_polarity}
use Rattle.volume_reader.specs.FileHeader.{Area, has_room, state_at, is_large, says_large, header_sum_is_zero, size_fits}
use Rattle.volume_reader.specs.VolumeGrammar.{area_of, Span, HeaderAlone, Gone, Counts, EndsAt, HasHeader, StandsAt, SpansLead, place_behind, files_in, IsWritten, IsBadAt, IsRefusedAt, IsVolume, HasFault}
use Rattle.volume_reader.specs.FindingInside.{AreFiles}
use Rattle.volume_reader.proofs.WalkLemmas.{moves_on}

-- ---- one thing at each place

-- a header that is as it should be is not refused
bad_header_or_good : (area : Area) (at : ℕ) (kind : VolumeKind) → HasHeader area at → IsBadAt area at kind → ⊥
bad_header_or_good area at kind good (inl bad) =
    let zero_sum = good.summed in
    let no_sum = bad.1.sum in
    let e : true ≡ false = cc in
    cc
bad_header_or_good area at kind good (inr (is, inl bad)) =
    let fits = good.fits in
    let known = good.known in
    let size = bad.size in
    let e : true ≡ false = sym (rw (fits, known)) ∙ size in
    cc
bad_header_or_good area at kind good (inr (is, inr bad)) =
    let room = good.large bad.0 in
    let none = bad.1 in
    let e : true ≡ false = cc in
    cc

-- the span that a state tells, if it tells one
abbrev span_of : FileState → Option Span
span_of Free = None
span_of HeaderConstruction = Some HeaderAlone
span_of HeaderValid = Some Gone
span_of DataValid = Some Counts
span_of MarkedForUpdate = Some Counts
span_of Deleted = Some Gone
span_of HeaderInvalid = Some HeaderAlone

span_told : (area : Area) (at : ℕ) (span : Span) → StandsAt area at span → span_of (state_at area at) ≡ Some span
span_told area at HeaderAlone (room, inl state) = ap span_of state
span_told area at HeaderAlone (room, inr state) = ap span_of state
span_told area at Gone (header, inl state) = ap span_of state
span_told area at Gone (header, inr state) = ap span_of state
span_told area at Counts (header, inl state) = ap span_of state
span_told area at Counts (header, inr state) = ap span_of state

-- there is room for a span's header
room_for : (area : Area) (at : ℕ) (span : Span) → StandsAt area at span → has_room area at 24 ≡ true
room_for area at HeaderAlone (room, state) = room
room_for area at Gone (header, state) = header.room
room_for area at Counts (header, state) = header.room

ends_or_stands : (area : Area) (at : ℕ) (span : Span) → EndsAt area at → StandsAt area at span → ⊥
ends_or_stands area at span (inl none) stands = let e : false ≡ true = sym none ∙ room_for area at span stands in cc
ends_or_stands area at span (inr free) stands = let e : None ≡ Some span = sym (ap span_of free) ∙ span_told area at span stands in cc

refused_or_stands : (area : Area) (at : ℕ) (kind : VolumeKind) (span : Span) → IsRefusedAt area at kind → StandsAt area at span → ⊥
refused_or_stands area at kind HeaderAlone (written, bad) (room, inl state) = written.not_constructed state
refused_or_stands area at kind HeaderAlone (written, bad) (room, inr state) = written.not_invalid state
refused_or_stands area at kind Gone (written, bad) (header, state) = bad_header_or_good area at kind header bad
refused_or_stands area at kind Counts (written, bad) (header, state) = bad_header_or_good area at kind header bad

ends_or_refused : (area : Area) (at : ℕ) (kind : VolumeKind) → EndsAt area at → IsRefusedAt area at kind → ⊥
ends_or_refused area at kind (inl none) (written, bad) = let room = written.room in let e : true ≡ false = cc in cc
ends_or_refused area at kind (inr none) (written, bad) = written.written none

-- one span stands at a place
one_span : (area : Area) (at : ℕ) (one other : Span) → StandsAt area at one → StandsAt area at other → one ≡ other
one_span area at one other a b = let e : Some one ≡ Some other = sym (span_told area at one a) ∙ span_told area at other b in cc

-- what a place is refused for
one_kind : (area : Area) (at : ℕ) (one other : VolumeKind) → IsBadAt area at one → IsBadAt area at other → one ≡ other
one_kind area at one other (inl a) (inl b) = a.0 ∙ sym b.0
one_kind area at one other (inr a) (inr b) = a.0 ∙ sym b.0
one_kind area at one other (inl a) (inr (is, inl b)) = let x = a.1.sum in let y = b.summed in let e : true ≡ false = cc in cc
one_kind area at one other (inl a) (inr (is, inr b)) = let x = a.1.large b.0 in let y = b.1 in let e : true ≡ false = cc in cc
one_kind area at one other (inr (is, inl b)) (inl a) = let x = a.1.sum in let y = b.summed in let e : true ≡ false = cc in cc
one_kind area at one other (inr (is, inr b)) (inl a) = let x = a.1.large b.0 in let y = b.1 in let e : true ≡ false = cc in cc

-- ---- one course of spans

-- Here spans end: files do, or a header is refused.
abbrev StopsAt : Area → ℕ → Type 0
StopsAt area at = EndsAt area at ⊎ ((kind : VolumeKind) × IsRefusedAt area at kind)

stops_or_stands : (area : Area) (at : ℕ) (span : Span) → StopsAt area at → StandsAt area at span → ⊥
stops_or_stands area at span (inl ends) stands = ends_or_stands area at span ends stands
stops_or_stands area at span (inr (kind, refused)) stands = refused_or_stands area at kind span refused stands

module _ (area : Area) where
  one_course : (at : ℕ) (some others : List Span) (one other : ℕ) → SpansLead area at some one → StopsAt area one
      → SpansLead area at others other → StopsAt area other → Same some others one other
  one_course = course.one_course (StandsAt area) (place_behind area) (StopsAt area) (one_span area) (stops_or_stands area)

-- ---- bytes are one volume, or have one fault

pub one_volume : (bytes : List ℕ) (one other : Volume) → IsVolume bytes one → IsVolume bytes other → one ≡ other
one_volume bytes one other a b =
    let same = one_course (area_of bytes) (first_place bytes) a.spans b.spans a.end b.end a.leads (inl a.ends) b.leads (inl b.ends) in
    let lengths : one.length ≡ other.length = a.length_is ∙ sym b.length_is in
    let systems : one.ffs3 ≡ other.ffs3 = a.system ∙ sym b.system in
    let files : one.files ≡ other.files = a.files ∙ ap (files_in (area_of bytes) (first_place bytes)) same.items ∙ sym b.files in
    λ i. record { length = lengths i; ffs3 = systems i; files = files i }

pub never_both : (bytes : List ℕ) (volume : Volume) (fault : VolumeFault) → IsVolume bytes volume → HasFault bytes fault → ⊥
never_both bytes volume fault is (inl bad) = never_first (checks bytes) fault.kind fault.at bad is.header
never_both bytes volume fault is (inr bad) =
    let same = one_course (area_of bytes) (first_place bytes) is.spans bad.spans is.end fault.at is.leads (inl is.ends) bad.leads (inr (fault.kind, bad.refused)) in
    let P : ℕ → Type 0 = λ place. EndsAt (area_of bytes) place in
    ends_or_refused (area_of bytes) fault.at fault.kind (subst P same.ends is.ends) bad.refused

pub one_fault : (bytes : List ℕ) (one other : VolumeFault) → HasFault bytes one → HasFault bytes other → one ≡ other
one_fault bytes one other (inl a) (inl b) =
    let same = one_first (checks bytes) one.kind other.kind one.at other.at a b in
    λ i. record { at = same.places i; kind = same.kinds i }
one_fault bytes one other (inl a) (inr b) = absurd (never_first (checks bytes) one.kind one.at a b.header)
one_fault bytes one other (inr a) (inl b) = absurd (never_first (checks bytes) other.kind other.at b a.header)
one_fault bytes one other (inr a) (inr b) =
    let area = area_of bytes in
    let same = one_course area (first_place bytes) a.spans b.spans one.at other.at a.leads (inr (one.kind, a.refused)) b.leads (inr (other.kind, b.refused)) in
    let P : ℕ → Type 0 = λ place. IsBadAt area place one.kind in
    let kinds = one_kind area other.at one.kind other.kind (subst P same.ends a.refused.1) b.refused.1 in
    λ i. record { at = same.ends i; kind = kinds i }

-- what a reader answers is the volume, or the fault, that the bytes are
module _ (bytes : List ℕ) (result : Result Volume (End VolumeFault)) (ok : IfOk result (IsVolume bytes)) (err : IfErr result (EndsBy (HasFault bytes))) where
  pub told_found : (volume : Volume) → IsVolume bytes volume → (result ≡ Ok volume) ⊎ (result ≡ Err (NoMemory out_of_memory))
  told_found = found_or_end (IsVolume bytes) (HasFault bytes) (never_both bytes) (one_volume bytes) result ok err

  pub told_first : (fault : VolumeFault) → HasFault bytes fault → (result ≡ Err (Fault fault)) ⊎ (result ≡ Err (NoMemory out_of_memory))
  told_first = first_or_end (IsVolume bytes) (HasFault bytes) (never_both bytes) (one_fault bytes) result ok err

-- ---- what a header tells, and the files behind it, are a volume

pub is_volume : (bytes inside : List ℕ) (ffs3 erases : Bool) (first : ℕ) (files : List File)
    → first_failing bytes ≡ None → inside ≡ take (volume_length bytes) bytes → length inside ≡ volume_length bytes
    → ffs3 ≡ is_ffs3 bytes → erases ≡ erase_polarity bytes → first ≡ first_place bytes
    → AreFiles (record { bytes = inside; ffs3 = ffs3; erase_polarity = erases }) first files
    → IsVolume bytes (record { length = length inside; ffs3 = ffs3; files = files })
is_volume bytes inside ffs3 erases first files none is long system polarity place files_are =
    let area : record { bytes = inside; ffs3 = ffs3; erase_polarity = erases } ≡ area_of bytes = λ i. record { bytes = is i; ffs3 = system i; erase_polarity = polarity i } in
    let P : Area → Type 0 = λ area. AreFiles area first files in
    let Q : ℕ → Type 0 = λ first. AreFiles (area_of bytes) first files in
    let there = subst Q place (subst P area files_are) in
    record {
      header = none;
      length_is = long;
      system = system;
      spans = there.spans;
      end = there.end;
      leads = there.leads;
      ends = there.ends;
      files = there.are;
    }

-- ---- each place has something standing there

-- whether a header is refused
good_or_bad : (area : Area) (at : ℕ) → has_room area at 24 ≡ true → HasHeader area at ⊎ ((kind : VolumeKind) × IsBadAt area at kind)
good_or_bad area at room = by_large (is_large area at) (has_room area at 32) refl refl
  where
    by_size : (is_large area at ≡ true → has_room area at 32 ≡ true) → header_sum_is_zero area at ≡ true
        → (fits unknown : Bool) → size_fits area at ≡ fits → (says_large area at && not area.ffs3) ≡ unknown
        → HasHeader area at ⊎ ((kind : VolumeKind) × IsBadAt area at kind)
    by_size large summed true false fits unknown = inl (record { room = room; large = large; summed = summed; fits = fits; known = unknown })
    by_size large summed true true fits unknown = inr (FileSize, inr (refl, inl (record { large = large; summed = summed; size = rw (fits, unknown) })))
    by_size large summed false unknown fits is = inr (FileSize, inr (refl, inl (record { large = large; summed = summed; size = rw fits })))

    by_sum : (is_large area at ≡ true → has_room area at 32 ≡ true) → (summed : Bool) → header_sum_is_zero area at ≡ summed
        → HasHeader area at ⊎ ((kind : VolumeKind) × IsBadAt area at kind)
    by_sum large true is = by_size large is (size_fits area at) (says_large area at && not area.ffs3) refl refl
    by_sum large false is = inr (FileSum, inl (refl, record { large = large; sum = is }))

    by_large : (large left : Bool) → is_large area at ≡ large → has_room area at 32 ≡ left
        → HasHeader area at ⊎ ((kind : VolumeKind) × IsBadAt area at kind)
    by_large true true large left = by_sum (λ e. left) (header_sum_is_zero area at) refl
    by_large true false large left = inr (FileSize, inr (refl, inr (large, left)))
    by_large false left large is = by_sum (λ e. let wrong : true ≡ false = sym e ∙ large in cc) (header_sum_is_zero area at) refl

-- spans stop at a place, or one stands there
abbrev Standing : Area → ℕ → Type 0
Standing area at = StopsAt area at ⊎ ((span : Span) × StandsAt area at span)

standing : (area : Area) (at : ℕ) → Standing area at
standing area at = by_room (has_room area at 24) refl
  where
    with_header : (span : Span) → IsWritten area at → (HasHeader area at → StandsAt area at span)
        → HasHeader area at ⊎ ((kind : VolumeKind) × IsBadAt area at kind) → Standing area at
    with_header span written stands (inl good) = inr (span, stands good)
    with_header span written stands (inr bad) = inl (inr (bad.0, (written, bad.1)))

    by_state : has_room area at 24 ≡ true → (state : FileState) → state_at area at ≡ state → Standing area at
    by_state room Free is = inl (inl (inr is))
    by_state room HeaderConstruction is = inr (HeaderAlone, (room, inl is))
    by_state room HeaderInvalid is = inr (HeaderAlone, (room, inr is))
    by_state room HeaderValid is =
        with_header Gone (record { room = room; written = λ e. cc; not_constructed = λ e. cc; not_invalid = λ e. cc }) (λ good. (good, inl is)) (good_or_bad area at room)
    by_state room Deleted is =
        with_header Gone (record { room = room; written = λ e. cc; not_constructed = λ e. cc; not_invalid = λ e. cc }) (λ good. (good, inr is)) (good_or_bad area at room)
    by_state room DataValid is =
        with_header Counts (record { room = room; written = λ e. cc; not_constructed = λ e. cc; not_invalid = λ e. cc }) (λ good. (good, inl is)) (good_or_bad area at room)
    by_state room MarkedForUpdate is =
        with_header Counts (record { room = room; written = λ e. cc; not_constructed = λ e. cc; not_invalid = λ e. cc }) (λ good. (good, inr is)) (good_or_bad area at room)

    by_room : (room : Bool) → has_room area at 24 ≡ room → Standing area at
    by_room true is = by_state is (state_at area at) refl
    by_room false is = inl (inl (inl is))

-- where spans lead to
abbrev Stopped : Area → ℕ → Type 0
Stopped area at = StopsAfter (StandsAt area) (place_behind area) (StopsAt area) at

stopped : (area : Area) (at : ℕ) → Stopped area at
stopped area =
    each_stops (StandsAt area) (place_behind area) (StopsAt area) (λ at. length area.bytes + 8 - at) (standing area) (λ at span stands.
    let moves = moves_on area at span stands in
    omega arith)

pub either : (bytes : List ℕ) → ((volume : Volume) × IsVolume bytes volume) ⊎ ((fault : VolumeFault) × HasFault bytes fault)
either bytes = by_header (first_failing bytes) refl
  where
    by_course : first_failing bytes ≡ None → (course : Stopped (area_of bytes) (first_place bytes)) → StopsAt (area_of bytes) course.end
        → ((volume : Volume) × IsVolume bytes volume) ⊎ ((fault : VolumeFault) × HasFault bytes fault)
    by_course none course (inl ends) =
        inl (
          record { length = volume_length bytes; ffs3 = is_ffs3 bytes; files = files_in (area_of bytes) (first_place bytes) course.items },
          record { header = none; length_is = refl; system = refl; spans = course.items; end = course.end; leads = course.leads; ends = ends; files = refl },
        )
    by_course none course (inr (kind, refused)) =
        inr (record { at = course.end; kind = kind }, inr (record { header = none; spans = course.items; leads = course.leads; refused = refused }))

    by_header : (first : Option (Check VolumeKind)) → first_failing bytes ≡ first
        → ((volume : Volume) × IsVolume bytes volume) ⊎ ((fault : VolumeFault) × HasFault bytes fault)
    by_header (Some check) is =
        inr (record { at = check.at; kind = check.kind }, inl (record { check = check; first = is; kind_is = refl; place_is = refl }))
    by_header None is =
        let course = stopped (area_of bytes) (first_place bytes) in
        by_course is course course.stops

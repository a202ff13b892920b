-- Tables keep what they keep where a piece is written to memory.
use Rattle.std.proofs.Common.{◌≡◌, ◌∙◌, ℕ, ◌+◌, ◌≤◌, ◌<◌, Bool, List, ◌++◌, length, take, drop, get_or, All, Fits, w8, ap, sym, subst, arith}
use Rattle.std.proofs.lemmas.List.{get_or_default}
use Rattle.std.proofs.lemmas.List.Elements.{All-append, All-drop, All-replicate, All-take}
use Rattle.mm_base.specs.Frames.{zeros}
use Rattle.mm_base.specs.Numbers.{overwritten}
use Rattle.mm_memory.proofs.PageLemmas.{length-overwritten}
use Rattle.supervisor_calls.specs.Tables.{TablesState, IsTables}
use Rattle.supervisor_calls.proofs.TableLemmas.{keeps_memory}

abbrev Small : List ℕ → Type 0
Small = All (λ byte. byte < 256)

pub small_zeros : (n : ℕ) → Small (zeros n)
unfolding zeros
small_zeros n = All-replicate (λ byte. byte < 256) n 0 (omega arith)

-- bytes of a slice are below 256
pub small_bytes : (bytes : List ℕ) → ((i : ℕ) → Fits w8 (get_or bytes i 0)) → Small bytes
small_bytes bytes fits k d within = omega (arith, fits k, get_or_default bytes k d 0 within)

small_after : (bytes piece : List ℕ) (at : ℕ) → Small bytes → Small piece → Small (overwritten bytes at piece)
small_after bytes piece at small also =
    All-append (λ byte. byte < 256) (take at bytes ++ piece) (drop (at + length piece) bytes)
    (All-append (λ byte. byte < 256) (take at bytes) piece (All-take (λ byte. byte < 256) at bytes small) also)
    (All-drop (λ byte. byte < 256) (at + length piece) bytes small)

pub piece_keeps : (tables : TablesState) (bytes piece : List ℕ) (pages : List Bool) (at : ℕ) → IsTables tables → Small piece → at + length piece ≤ 33554432
    → bytes ≡ overwritten tables.live.memory at piece → pages ≡ tables.pages
    → IsTables (record tables { live = record tables.live { memory = bytes }; pages = pages })
piece_keeps tables bytes piece pages at keeps small within is same =
    let long : length bytes ≡ 33554432 =
    ap length is ∙ length-overwritten tables.live.memory piece at (omega (arith, within, keeps.memory)) ∙ keeps.memory in
    let all : Small bytes = subst Small (sym is) (small_after tables.live.memory piece at keeps.bytes small) in
    let Q : List Bool → Type 0 = λ p. IsTables (record tables { live = record tables.live { memory = bytes }; pages = p }) in
    subst Q (sym same) (keeps_memory tables bytes keeps long all)

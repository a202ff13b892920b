-- Replays: one request more, and the first requests.
use Rattle.std.proofs.Common.{◌≡◌, ℕ, zero, suc, List, [], ◌∷◌, ◌++◌, take, Some, refl, sym, ap, ◌∙◌}
use Rattle.std.specs.List.{slice_get}
use Rattle.std.proofs.lemmas.List.{map-append}
use Rattle.mm_base.specs.Replay.{replayed, left_by}
use Rattle.mm_base.specs.declared.entry.Entry.{Entry}
use Rattle.mm_base.specs.declared.entry.Outcome.{Outcome}
use Rattle.mm_base.specs.declared.entry.Request.{Request}
use Rattle.mm_history.specs.History.{KeptState, IsReplay, requests_of}

module _ {M : Type 0} (step : M → Request → Outcome × M) where
  -- the entry of a request that the machine serves at this value
  abbrev pub entry_of : M → Request → Entry
  entry_of m r = record { request = r; outcome = (step m r).0 }

  pub replayed-snoc : (start : M) (rs : List Request) (r : Request)
      → replayed step start (rs ++ r ∷ []) ≡ replayed step start rs ++ entry_of (left_by step start rs) r ∷ []
  replayed-snoc start [] r = refl
  replayed-snoc start (q ∷ rs) r = ap (λ (es : List Entry). entry_of start q ∷ es) (replayed-snoc (step start q).1 rs r)

  pub left_by-snoc : (start : M) (rs : List Request) (r : Request)
      → left_by step start (rs ++ r ∷ []) ≡ (step (left_by step start rs) r).1
  left_by-snoc start [] r = refl
  left_by-snoc start (q ∷ rs) r = left_by-snoc (step start q).1 rs r

  take-replayed : (start : M) (n : ℕ) (rs : List Request) → take n (replayed step start rs) ≡ replayed step start (take n rs)
  take-replayed start zero rs = refl
  take-replayed start (suc n) [] = refl
  take-replayed start (suc n) (q ∷ rs) = ap (λ (es : List Entry). entry_of start q ∷ es) (take-replayed (step start q).1 n rs)

  -- an entry of a replay has the outcome that its place asks for
  replayed-at : (start : M) (rs : List Request) (place : ℕ) (entry : Entry)
      → slice_get (replayed step start rs) place ≡ Some entry
      → entry.outcome ≡ (step (left_by step start (take place rs)) entry.request).0
  replayed-at start [] place entry e = absurd cc
  replayed-at start (q ∷ rs) zero entry e =
      let same : entry_of start q ≡ entry = cc in
      ap (λ (x : Entry). x.outcome) (sym same) ∙ ap (λ (x : Entry). (step start x.request).0) same
  replayed-at start (q ∷ rs) (suc n) entry e = replayed-at (step start q).1 rs n entry e

  module _ (start : M) where
    -- a history that served one request more is still the replay of its requests
    pub one_more : (old new : KeptState M) (r : Request)
        → new.machine ≡ (step old.machine r).1
        → new.entries ≡ old.entries ++ entry_of old.machine r ∷ []
        → IsReplay step start old
        → IsReplay step start new
    one_more old new r machine entries run =
        let asked = ap requests_of entries ∙ map-append (λ (e : Entry). e.request) old.entries (entry_of old.machine r ∷ []) in
        record {
          entries =
              entries
              ∙ ap (λ (es : List Entry). es ++ entry_of old.machine r ∷ []) run.entries
              ∙ ap (λ (m : M). replayed step start (requests_of old.entries) ++ entry_of m r ∷ []) run.machine
              ∙ sym (replayed-snoc start (requests_of old.entries) r)
              ∙ ap (λ (rs : List Request). replayed step start rs) (sym asked);
          machine =
              machine
              ∙ ap (λ (m : M). (step m r).1) run.machine
              ∙ sym (left_by-snoc start (requests_of old.entries) r)
              ∙ ap (λ (rs : List Request). left_by step start rs) (sym asked);
        }

    -- replays from one value with the same requests are the same
    pub same_run : (one other : KeptState M)
        → IsReplay step start one
        → IsReplay step start other
        → requests_of one.entries ≡ requests_of other.entries
        → one ≡ other
    same_run one other first second same =
        let entries : one.entries ≡ other.entries =
        first.entries ∙ ap (λ (rs : List Request). replayed step start rs) same ∙ sym second.entries in
        let machine : one.machine ≡ other.machine =
        first.machine ∙ ap (λ (rs : List Request). left_by step start rs) same ∙ sym second.machine in
        ap (λ (m : M). record { machine = m; entries = one.entries }) machine
        ∙ ap (λ (es : List Entry). record { machine = other.machine; entries = es }) entries

    -- the front of a replay is the replay of the front of its requests
    pub front_of_run : (kept : KeptState M) (n : ℕ)
        → IsReplay step start kept
        → take n kept.entries ≡ replayed step start (take n (requests_of kept.entries))
    front_of_run kept n run =
        ap (λ (es : List Entry). take n es) run.entries ∙ take-replayed start n (requests_of kept.entries)

    -- each entry of a replay has the outcome that its place asks for
    pub at_place : (kept : KeptState M) (place : ℕ) (entry : Entry)
        → IsReplay step start kept
        → slice_get kept.entries place ≡ Some entry
        → entry.outcome ≡ (step (left_by step start (take place (requests_of kept.entries))) entry.request).0
    at_place kept place entry run there =
        replayed-at start (requests_of kept.entries) place entry (ap (λ (es : List Entry). slice_get es place) (sym run.entries) ∙ there)

-- What a processor's stage may hold, and that feeding keeps it so.
use Rattle.std.proofs.Common.{◌≡◌, ◌≤◌, ℕ, ◌+◌, ◌*◌, ◌==◌, ◌&&◌, ◌≢◌, nat_le, true, false, if◌then◌else◌, length, refl, ap, ◌∙◌, arith, length-append}
use Rattle.std.proofs.lemmas.Bool.{eqb-false, leb-true}
use Rattle.mm_base.specs.Numbers.{bytes_of_word, words_for}
use Rattle.mm_base.specs.Prepared.{PreparedState}
use Rattle.mm_base.specs.declared.receipt.Receipt.{Receipt}
use Rattle.comm_core.specs.Piece.{needed, answer}
use Rattle.comm_core.specs.Processor.{to_come, after_fed, after_load, after_store, IsSound, IsBlank, IsAnswering, MayRing, MayAnswer, MayFeed, MayLoad, MayFeedSoundly, MayLoadSoundly, MayStoreSoundly}
use Rattle.comm_core.specs.declared.processor.Stage.{Stage}
use Rattle.comm_core.specs.declared.processor.Stage.TheVariants.{Resting, Rung, Loading, Turning, Storing}
use Rattle.comm_core.specs.declared.processor.Fed.{Fed}
use Rattle.comm_core.specs.declared.processor.Fed.TheVariants as fed
use Rattle.comm_core.proofs.StandingLemmas.{0_lt_answer}
use Rattle.comm_core.proofs.AnswerLemmas.{length-answer_dispatched, length-answer_refused}

module _ (words : ℕ) where
  -- no request needs more words than the lane has
  pub needed_within : (len : ℕ) → needed words len ≤ words
  needed_within len =
      elim (nat_le 24 len) as (λ a. (if a && nat_le len (8 * words) then words_for len else 0) ≤ words) [
        | true ↦ elim (nat_le len (8 * words)) as (λ b. (nat_le len (8 * words) ≡ b) → (if b then words_for len else 0) ≤ words) [
          | true ↦ λ e. omega (arith, leb-true len (8 * words) e)
          | false ↦ λ e. omega arith
        ] refl
        | false ↦ omega arith
      ]

  -- an answer to a request that fits the lane has at most two stores more than the lane has words
  pub length-answer_within : (receipt : Receipt) → length receipt.bytes ≤ 8 * words → length (answer receipt) ≤ words + 2
  length-answer_within receipt h =
      elim receipt.dispatched as (λ b. receipt.dispatched ≡ b → length (answer receipt) ≤ words + 2) [
        | true ↦ λ d. omega (arith, length-answer_dispatched receipt d)
        | false ↦ λ d. omega (arith, length-answer_refused receipt d)
      ] refl

  -- a ring makes at most 1,028 records
  pub to_come_within : (stage : Stage) → words ≤ 512 → IsSound words stage → to_come words stage ≤ 1028
  to_come_within Resting w s = omega arith
  to_come_within (Rung prepared saved) w s = omega (arith, w)
  to_come_within (Loading prepared saved len loaded) w s = omega (arith, w)
  to_come_within (Turning bytes) w s = omega (arith, w)
  to_come_within (Storing receipt stored) w s = omega (arith, w, length-answer_within receipt s.fits)

  load_sound : (value : ℕ) (stage : Stage) → IsSound words stage → MayLoad words stage → IsSound words (after_load stage value)
  load_sound value Resting s m = tt
  load_sound value (Rung prepared saved) s m = record {
    bytes = ap length s.bytes;
    room = s.room;
    within = omega arith;
  }
  load_sound value (Loading prepared saved len loaded) s m = record {
    bytes = length-append prepared.captured.items (bytes_of_word value) ∙ omega (arith, s.bytes);
    room = s.room;
    within = omega (arith, m);
  }
  load_sound value (Turning bytes) s m = s
  load_sound value (Storing receipt stored) s m = s

  store_sound : (stage : Stage) → IsSound words stage → IsSound words (after_store stage)
  store_sound Resting s = tt
  store_sound (Rung prepared saved) s = s
  store_sound (Loading prepared saved len loaded) s = s
  store_sound (Turning bytes) s = s
  store_sound (Storing receipt stored) s =
      elim (stored + 1 == length (answer receipt))
      as (λ b. (stored + 1 == length (answer receipt)) ≡ b → IsSound words (if b then Resting else Storing receipt (stored + 1))) [
        | true ↦ λ e. tt
        | false ↦ λ e. let other : stored + 1 ≢ length (answer receipt) = eqb-false (stored + 1) (length (answer receipt)) e in
            record { more = omega (arith, s.more); fits = s.fits }
      ] refl

  ring_sound : (stage : Stage) (prepared : PreparedState) → MayRing words stage prepared → IsBlank words prepared
  ring_sound Resting prepared m = m
  ring_sound (Rung p saved) prepared m = absurd m
  ring_sound (Loading p saved len loaded) prepared m = absurd m
  ring_sound (Turning bytes) prepared m = absurd m
  ring_sound (Storing receipt stored) prepared m = absurd m

  answer_sound : (stage : Stage) (receipt : Receipt) → IsSound words stage → MayAnswer stage receipt → IsAnswering words 0 receipt
  answer_sound Resting receipt s m = absurd m
  answer_sound (Rung p saved) receipt s m = absurd m
  answer_sound (Loading p saved len loaded) receipt s m = absurd m
  answer_sound (Turning bytes) receipt s m = record { more = 0_lt_answer receipt; fits = omega (arith, s, m) }
  answer_sound (Storing r stored) receipt s m = absurd m

  -- feeding keeps a stage sound
  pub fed_sound : (stage : Stage) (f : Fed) → IsSound words stage → MayFeed words stage f → IsSound words (after_fed stage f)
  fed_sound stage (fed.Ring prepared saved) s m = ring_sound stage prepared m
  fed_sound stage (fed.Loaded value) s m = load_sound value stage s m
  fed_sound stage (fed.Answered receipt) s m = answer_sound stage receipt s m
  fed_sound stage fed.Stored s m = store_sound stage s

  load_place : (stage : Stage) → words ≤ 512 → IsSound words stage → MayLoad words stage → MayLoadSoundly stage
  load_place Resting w s m = tt
  load_place (Rung prepared saved) w s m = tt
  load_place (Loading prepared saved len loaded) w s m =
      (omega (arith, s.bytes, s.room, m, needed_within len), omega (arith, m, needed_within len))
  load_place (Turning bytes) w s m = tt
  load_place (Storing receipt stored) w s m = tt

  store_place : (stage : Stage) → words ≤ 512 → IsSound words stage → MayStoreSoundly stage
  store_place Resting w s = tt
  store_place (Rung prepared saved) w s = tt
  store_place (Loading prepared saved len loaded) w s = tt
  store_place (Turning bytes) w s = tt
  store_place (Storing receipt stored) w s =
      (omega (arith, s.fits), omega (arith, s.more, length-answer_within receipt s.fits))

  -- and finds place for what is fed
  pub feeds_soundly : (stage : Stage) (f : Fed) → words ≤ 512 → IsSound words stage → MayFeed words stage f → MayFeedSoundly stage f
  feeds_soundly stage (fed.Ring prepared saved) w s m = tt
  feeds_soundly stage (fed.Loaded value) w s m = load_place stage w s m
  feeds_soundly stage (fed.Answered receipt) w s m = tt
  feeds_soundly stage fed.Stored w s m = store_place stage w s

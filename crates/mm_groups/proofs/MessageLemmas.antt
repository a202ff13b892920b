-- A message in an image's communicate page, where the page's bytes are granted to a group, and where none is.
use Rattle.std.proofs.Common.{◌≡◌, ℕ, ◌+◌, ◌≤◌, ◌<◌, Bool, true, false, min, List, ◌++◌, length, take, drop, refl, ap, ◌∙◌, arith}
use Rattle.std.proofs.lemmas.List.{length-take}
use Rattle.mm_base.specs.Frames.{zeros}
use Rattle.mm_base.specs.Numbers.{bytes_of_word, number_of, overwritten}
use Rattle.mm_base.specs.declared.region.Region.{Region}
use Rattle.mm_memory.proofs.PageLemmas.{length-overwritten, length-zeros}
use Rattle.image_groups.proofs.MaskLemmas.{masked-overwritten_other, overwritten-masked, piece_at_same}
use Rattle.image_groups.specs.Erasing.{masked}
use Rattle.mm_core.specs.CodeRun.{message_in, page_place, page_room, with_message}
use Rattle.mm_core.specs.Message.{Message}

module _ (test : ℕ → Bool) (region : Region) (memory : List ℕ) (inside : page_place region + 4096 ≤ length memory) where
  abbrev page : ℕ
  page = page_place region

  blank : List ℕ → List ℕ
  blank memory = overwritten memory page (zeros 4096)

  word_long : (size : ℕ) → length (bytes_of_word size) ≡ 8
  word_long size = refl

  few_front : (buffer : List ℕ) → length (take page_room buffer) ≤ 4088
  few_front buffer = omega (arith, length-take page_room buffer)

  blank_long : length (overwritten memory page (zeros 4096)) ≡ length memory
  blank_long = length-overwritten memory (zeros 4096) page (omega (arith, inside, length-zeros 4096))

  sized_long : (size : ℕ) → length (overwritten (overwritten memory page (zeros 4096)) page (bytes_of_word size)) ≡ length memory
  sized_long size =
      length-overwritten (overwritten memory page (zeros 4096)) (bytes_of_word size) page (omega (arith, inside, blank_long, word_long size))
      ∙ blank_long

  pub with_message-long : (message : Message) → length (with_message region message memory) ≡ length memory
  with_message-long message =
      length-overwritten (overwritten (overwritten memory page (zeros 4096)) page (bytes_of_word message.size)) (take page_room message.buffer)
      (page + 8)
      (omega (arith, inside, sized_long message.size, few_front message.buffer))
      ∙ sized_long message.size

  pub with_message-masked : ((k : ℕ) → page ≤ k → k < page + 4096 → test k ≡ true) → (message : Message)
      → with_message region message (masked 0 test memory) ≡ masked 0 test (with_message region message memory)
  with_message-masked each message =
      let first : overwritten (masked 0 test memory) page (zeros 4096) ≡ masked 0 test (overwritten memory page (zeros 4096)) =
      overwritten-masked test memory (zeros 4096) page (omega (arith, inside)) (λ k from to. each k from (omega (arith, to, length-zeros 4096))) in
      let second : overwritten (masked 0 test (overwritten memory page (zeros 4096))) page (bytes_of_word message.size)
      ≡ masked 0 test (overwritten (overwritten memory page (zeros 4096)) page (bytes_of_word message.size)) =
      overwritten-masked test (overwritten memory page (zeros 4096)) (bytes_of_word message.size) page (omega (arith, inside, blank_long))
      (λ k from to. each k from (omega (arith, to, word_long message.size))) in
      ap (λ (m : List ℕ). overwritten (overwritten m page (bytes_of_word message.size)) (page + 8) (take page_room message.buffer)) first
      ∙ ap (λ (m : List ℕ). overwritten m (page + 8) (take page_room message.buffer)) second
      ∙ overwritten-masked test (overwritten (overwritten memory page (zeros 4096)) page (bytes_of_word message.size))
      (take page_room message.buffer) (page + 8)
      (omega (arith, inside, sized_long message.size))
      (λ k from to. each k (omega (arith, from)) (omega (arith, to, few_front message.buffer)))

  pub masked-with_message : ((k : ℕ) → page ≤ k → k < page + 4096 → test k ≡ false) → (message : Message)
      → masked 0 test (with_message region message memory) ≡ masked 0 test memory
  masked-with_message each message =
      masked-overwritten_other test (overwritten (overwritten memory page (zeros 4096)) page (bytes_of_word message.size))
      (take page_room message.buffer) (page + 8)
      (omega (arith, inside, sized_long message.size, few_front message.buffer))
      (λ k from to. each k (omega (arith, from)) (omega (arith, to, few_front message.buffer)))
      ∙ masked-overwritten_other test (overwritten memory page (zeros 4096)) (bytes_of_word message.size) page
      (omega (arith, inside, blank_long, word_long message.size))
      (λ k from to. each k from (omega (arith, to, word_long message.size)))
      ∙ masked-overwritten_other test memory (zeros 4096) page (omega (arith, inside, length-zeros 4096))
      (λ k from to. each k from (omega (arith, to, length-zeros 4096)))

  pub message_in-masked : ((k : ℕ) → page ≤ k → k < page + 4096 → test k ≡ true) → (given : Message)
      → message_in region given (masked 0 test memory) ≡ message_in region given memory
  message_in-masked each given =
      let n : ℕ = min page_room (length given.buffer) in
      λ i. record {
        buffer = piece_at_same 0 test (page + 8) n memory (λ k from to. each k (omega (arith, from)) (omega (arith, to))) i ++ drop n given.buffer;
        size = number_of (piece_at_same 0 test page 8 memory (λ k from to. each k from (omega (arith, to))) i);
      }

use Rattle.mm_base.proofs.NumberLemmas.{words_of_bytes-bytes_of_words, take-bytes_of_words}
use Rattle.mm_base.proofs.laws.words_round_trip.Goals as goal

pub returns-clause-words : goal.returns-clause-words
returns-clause-words c = words_of_bytes-bytes_of_words

pub returns-clause-bytes : goal.returns-clause-bytes
returns-clause-bytes c = take-bytes_of_words

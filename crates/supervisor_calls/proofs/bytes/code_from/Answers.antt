use Rattle.std.proofs.Common.{List, ℕ, ◌++◌, ◌-◌, ◌∙◌, drop, take, ap, replicate, length-drop, arith}
use Rattle.supervisor_calls.proofs.ByteLemmas.{one_word, two_words, three_words, further}
use Rattle.supervisor_calls.proofs.bytes.code_from.Goals as goal

pub returns-then-n-le8 : goal.returns-then-n-le8
returns-then-n-le8 g c =
    let code = drop c.args.at c.args.memory.now.bytes in
    c.joined.ensures ∙ ap (λ (w : List ℕ). w ++ replicate 8 0 ++ replicate 2 0) c.word_from-first.ensures ∙ one_word code c.args.n c.if-n-le8.true

pub returns-then-n-le16 : goal.returns-then-n-le16
returns-then-n-le16 g c =
    let bytes = c.args.memory.now.bytes in
    let code = drop c.args.at bytes in
    let n = c.args.n in
    c.joined-then-n-le16.ensures
    ∙ ap (λ (w : List ℕ). w ++ c.word_from-second.result ++ replicate 2 0) c.word_from-first-2.ensures
    ∙ ap (λ (w : List ℕ). (take 8 code ++ replicate 0 0) ++ w ++ replicate 2 0) c.word_from-second.ensures
    ∙ ap (λ (w : List ℕ). (take 8 code ++ replicate 0 0) ++ (w ++ replicate (8 - (n - 8)) 0) ++ replicate 2 0) (further bytes c.args.at 8 (n - 8))
    ∙ two_words code n (omega (arith, c.if-n-le8.false)) c.if-n-le16.true

pub returns : goal.returns
returns g c =
    let bytes = c.args.memory.now.bytes in
    let code = drop c.args.at bytes in
    let n = c.args.n in
    c.joined-2.ensures
    ∙ ap (λ (w : List ℕ). w ++ c.word_from-second-2.result ++ take 2 c.word_from-third.result) c.word_from-first-2.ensures
    ∙ ap (λ (w : List ℕ). (take 8 code ++ replicate 0 0) ++ w ++ take 2 c.word_from-third.result) c.word_from-second-2.ensures
    ∙ ap (λ (w : List ℕ). (take 8 code ++ replicate 0 0) ++ (w ++ replicate 0 0) ++ take 2 c.word_from-third.result) (further bytes c.args.at 8 8)
    ∙ ap (λ (w : List ℕ). (take 8 code ++ replicate 0 0) ++ (take 8 (drop 8 code) ++ replicate 0 0) ++ take 2 w) c.word_from-third.ensures
    ∙ ap (λ (w : List ℕ). (take 8 code ++ replicate 0 0) ++ (take 8 (drop 8 code) ++ replicate 0 0) ++ take 2 (w ++ replicate (8 - (n - 16)) 0)) (further bytes c.args.at 16 (n - 16))
    ∙ three_words code n (omega (arith, c.if-n-le16.false)) c.requires.high (omega (arith, c.requires.within, length-drop c.args.at bytes))

-- Texts that grow piece by piece.
use Rattle.std.proofs.Common.{◌≡◌, ℕ, ◌+◌, ◌<◌, ◌/◌, ◌%◌, Bool, List, [], ◌∷◌, ◌++◌, length, drop, get_or, refl, ap, sym, ◌∙◌, append_assoc, slice_index, map, arith, Bor}
use Rattle.std.proofs.lemmas.List.{drop_more, append-nil, get_or-map, length-map, nil_from_length}
use Rattle.std.specs.List.{flat_map}
use Rattle.hex.specs.Hex.{encode_lower, encode_with, lower_digits}
use Rattle.mm_base.specs.Numbers.{bytes_of_word, bytes_of_words}
use Rattle.mm_text.specs.AddsInside.{Adds}
use Rattle.mm_base.specs.declared.entry.Entry.{Entry}
use Rattle.mm_base.specs.declared.guid.Guid.{Guid}
use Rattle.mm_base.specs.declared.volume.File.{File}
use Rattle.file_words.specs.declared.file_word.FileWord.{FileWord}
use Rattle.mm_text.specs.BootLines.{image_line, images_lines}
use Rattle.mm_text.specs.Report.{bytes_text, entry_lines, entries_lines, lane_line, lanes_lines}
use Rattle.mm_text.specs.VolumeLines.{file_line, files_lines}

infixl 5 ◌▸◌
-- one piece behind another
pub ◌▸◌ : {old text more now after : List ℕ} → Adds old text now → Adds now more after → Adds old (text ++ more) after
◌▸◌ {old} {text} {more} {now} {after} e d = record { is = d.is ∙ ap (λ t. t ++ more) e.is ∙ append_assoc old text more }

-- a piece by its other name
pub as_known : {old text now : List ℕ} (known : List ℕ) → Adds old text now → text ≡ known → Adds old known now
as_known {old} {text} {now} known e d = record { is = e.is ∙ ap (λ t. old ++ t) d }

-- nothing is behind a text
pub adds_nothing : (text : List ℕ) → Adds text [] text
adds_nothing text = record { is = sym (append-nil text) }

-- behind a piece, what is left of the whole is what stood behind the piece
pub left_behind : {old text now : List ℕ} (rest whole : List ℕ) → Adds old text now → old ++ (text ++ rest) ≡ whole → now ++ rest ≡ whole
left_behind {old} {text} {now} rest whole e d = ap (λ t. t ++ rest) e.is ∙ append_assoc old text rest ∙ d

-- one turn of a loop that puts each item's text
pub flat_map-turn : {X : Type 0} (f : X → List ℕ) (xs : List X) (i : ℕ) (x : X) (whole : List ℕ) {old now : List ℕ} → i < length xs
    → x ≡ get_or xs i x → old ++ flat_map f (drop i xs) ≡ whole → Adds old (f x) now → now ++ flat_map f (drop (i + 1) xs) ≡ whole
flat_map-turn f xs i x whole {old} {now} within is left adds =
    let rest : drop i xs ≡ x ∷ drop (i + 1) xs = drop_more xs i x within ∙ ap (λ y. y ∷ drop (i + 1) xs) (sym is) in
    left_behind (flat_map f (drop (i + 1) xs)) whole adds (ap (λ ys. old ++ flat_map f ys) (sym rest) ∙ left)

-- bytes behind bytes have their digits behind the others'
pub encode_lower-append : (xs ys : List ℕ) → encode_lower (xs ++ ys) ≡ encode_lower xs ++ encode_lower ys
unfolding encode_with
encode_lower-append [] ys = refl
encode_lower-append (x ∷ xs) ys = ap (λ digits. slice_index lower_digits (x / 16) ∷ slice_index lower_digits (x % 16) ∷ digits) (encode_lower-append xs ys)

-- one turn of a loop that puts the digits of bytes piece by piece
pub pieces-turn : (bytes piece others whole : List ℕ) {old now : List ℕ} → piece ++ others ≡ bytes → old ++ encode_lower bytes ≡ whole
    → Adds old (encode_lower piece) now → now ++ encode_lower others ≡ whole
pieces-turn bytes piece others whole {old} joined left adds =
    left_behind (encode_lower others) whole adds
    (ap (λ text. old ++ text) (sym (encode_lower-append piece others) ∙ ap encode_lower joined) ∙ left)

-- its end: no byte is left
pub pieces-end : (bytes left : List ℕ) {old now : List ℕ} → length left ≡ 0 → now ++ encode_lower left ≡ old ++ encode_lower bytes
    → Adds old (encode_lower bytes) now
unfolding encode_with
pieces-end bytes left {old} {now} none all =
    record { is = sym (append-nil now) ∙ ap (λ bs. now ++ encode_lower bs) (sym (nil_from_length left none)) ∙ all }

-- the digits of words are those of each word, one word behind another
pub words-digits : (words : List ℕ) → encode_lower (bytes_of_words words) ≡ flat_map (λ word. encode_lower (bytes_of_word word)) words
unfolding encode_with
words-digits [] = refl
words-digits (word ∷ words) =
    encode_lower-append (bytes_of_word word) (bytes_of_words words)
    ∙ ap (λ digits. encode_lower (bytes_of_word word) ++ digits) (words-digits words)

-- bytes of at least one word are not a dash
pub bytes_text-words : (words : List ℕ) → 0 < length words → bytes_text (bytes_of_words words) ≡ encode_lower (bytes_of_words words)
bytes_text-words [] h = absurd (omega arith)
bytes_text-words (word ∷ words) h = refl

-- one turn of the loop that puts each entry's lines
pub entries_lines-turn : (entries : List (Bor Entry)) (k : ℕ) (entry : Bor Entry) (whole : List ℕ) {old now : List ℕ} → k < length entries
    → entry ≡ get_or entries k entry
    → old ++ entries_lines k (drop k (map (λ (e : Bor Entry). e.now) entries)) ≡ whole → Adds old (entry_lines k entry.now) now
    → now ++ entries_lines (k + 1) (drop (k + 1) (map (λ (e : Bor Entry). e.now) entries)) ≡ whole
entries_lines-turn entries k entry whole {old} {now} within is left adds =
    let values = map (λ (e : Bor Entry). e.now) entries in
    let inside : k < length values = rw length-map within in
    let item : get_or values k entry.now ≡ entry.now = get_or-map (λ (e : Bor Entry). e.now) entries k entry entry.now within ∙ ap (λ (e : Bor Entry). e.now) (sym is) in
    let rest : drop k values ≡ entry.now ∷ drop (k + 1) values = drop_more values k entry.now inside ∙ ap (λ y. y ∷ drop (k + 1) values) item in
    left_behind (entries_lines (k + 1) (drop (k + 1) values)) whole adds
    (ap (λ ys. old ++ entries_lines k ys) (sym rest) ∙ left)

-- one turn of the loop that puts each lane's line
pub lanes_lines-turn : (lanes : List (List ℕ)) (l : ℕ) (lane : List ℕ) (whole : List ℕ) {old now : List ℕ} → l < length lanes
    → lane ≡ get_or lanes l lane
    → old ++ lanes_lines l (drop l lanes) ≡ whole → Adds old (lane_line l lane) now
    → now ++ lanes_lines (l + 1) (drop (l + 1) lanes) ≡ whole
lanes_lines-turn lanes l lane whole {old} {now} within is left adds =
    let rest : drop l lanes ≡ lane ∷ drop (l + 1) lanes = drop_more lanes l lane within ∙ ap (λ y. y ∷ drop (l + 1) lanes) (sym is) in
    left_behind (lanes_lines (l + 1) (drop (l + 1) lanes)) whole adds (ap (λ ys. old ++ lanes_lines l ys) (sym rest) ∙ left)

-- one turn of the loop that puts each file's line
pub files_lines-turn : (files : List File) (words : List FileWord) (k : ℕ) (file : File) (word : FileWord) (whole : List ℕ) {old now : List ℕ}
    → k < length files → length words ≡ length files → old ++ files_lines (drop k files) (drop k words) ≡ whole
    → Adds old (file_line (get_or files k file) (get_or words k word)) now
    → now ++ files_lines (drop (k + 1) files) (drop (k + 1) words) ≡ whole
files_lines-turn files words k file word whole {old} {now} within same left adds =
    let here : drop k files ≡ get_or files k file ∷ drop (k + 1) files = drop_more files k file within in
    let there : drop k words ≡ get_or words k word ∷ drop (k + 1) words = drop_more words k word (omega arith) in
    left_behind (files_lines (drop (k + 1) files) (drop (k + 1) words)) whole adds
    (ap (λ text. old ++ text) (λ i. files_lines (sym here i) (sym there i)) ∙ left)

-- one turn of the loop that puts each image's line
pub images_lines-turn : (names : List Guid) (closed : List Bool) (k : ℕ) (name : Guid) (flag : Bool) (whole : List ℕ) {old now : List ℕ}
    → k < length names → length closed ≡ length names → old ++ images_lines k (drop k names) (drop k closed) ≡ whole
    → Adds old (image_line k (get_or names k name) (get_or closed k flag)) now
    → now ++ images_lines (k + 1) (drop (k + 1) names) (drop (k + 1) closed) ≡ whole
images_lines-turn names closed k name flag whole {old} {now} within same left adds =
    let here : drop k names ≡ get_or names k name ∷ drop (k + 1) names = drop_more names k name within in
    let there : drop k closed ≡ get_or closed k flag ∷ drop (k + 1) closed = drop_more closed k flag (omega arith) in
    left_behind (images_lines (k + 1) (drop (k + 1) names) (drop (k + 1) closed)) whole adds
    (ap (λ text. old ++ text) (λ i. images_lines k (sym here i) (sym there i)) ∙ left)

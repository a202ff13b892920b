-- The report: what is written of a volume and its files, of a boot, of entries in recorded order, and of lanes. Each line
-- ends with a line feed (byte 10, the last byte of each line's definition).
use Rattle.std.specs.Prelude.{◌≡◌, ℕ, ◌+◌, ◌≤◌, ◌==◌, Bool, if◌then◌else◌, List, [], ◌∷◌, ◌++◌, length, drop, slice_index, codes, All, Option, Some, None}
use Rattle.std.specs.Fmt.{decimal}
use Rattle.std.specs.List.{flat_map, list_all}
use Rattle.std.specs.Option.{option_copied}
use Rattle.hex.specs.Hex.{encode_lower}
use Rattle.mm_base.specs.Guid.{guid_text}
use Rattle.mm_base.specs.Numbers.{bytes_of_words, words_for}
use Rattle.mm_base.specs.declared.cells.Saved.{Saved}
use Rattle.mm_base.specs.declared.entry.Entry.{Entry}
use Rattle.mm_base.specs.declared.entry.Outcome.{Outcome}
use Rattle.mm_base.specs.declared.entry.Request.{Request}
use Rattle.mm_base.specs.declared.entry.Shape.{Shape}
use Rattle.mm_base.specs.declared.entry.Shape.TheVariants.{BadLength, BadHeader, NoHandler, Dispatched}
use Rattle.mm_base.specs.declared.guid.Guid.{Guid}
use Rattle.mm_base.specs.declared.policy.Policy.{Policy}
use Rattle.mm_base.specs.declared.volume.File.{File}
use Rattle.mm_base.specs.declared.volume.Volume.{Volume}
use Rattle.mm_core.specs.CommunicateHeader.{is_lawful}
use Rattle.driver_start.specs.declared.record.StartRecord.{StartRecord}
use Rattle.file_words.specs.declared.file_word.FileWord.{FileWord}
use Rattle.mm_text.specs.BootLines.{policy_line, start_lines, waiting_lines, locked_line, images_lines}
use Rattle.mm_text.specs.RecordLines.{x16, invocation_lines}
use Rattle.mm_text.specs.VolumeLines.{volume_line, files_lines}
use Rattle.mm_text.specs.declared.parts.Locked.{Locked}
use Rattle.mm_text.specs.declared.parts.Parts.{Parts}

-- bytes as hexadecimal digits, two a byte, or a dash where there are none
abbrev pub bytes_text : List ℕ → List ℕ
bytes_text [] = codes "-"
bytes_text (byte ∷ bytes) = encode_lower (byte ∷ bytes)

-- the saved registers from number r on that are not 0
abbrev pub register_words : ℕ → List ℕ → List ℕ
register_words r [] = []
register_words r (value ∷ values) =
    (if value == 0 then [] else codes " " ++ decimal r ++ codes "=" ++ x16 value) ++ register_words (r + 1) values

-- the line of the saved registers, which is left out where all are 0
unfoldable pub register_line : Saved → List ℕ
register_line saved =
    if list_all (λ value. value == 0) saved.0 then [] else codes "  regs" ++ register_words 0 saved.0 ++ codes "\n"

-- the line that says what a request was taken for
unfoldable pub shape_line : Shape → List ℕ
shape_line BadLength = codes "  refused length\n"
shape_line BadHeader = codes "  refused header\n"
shape_line (NoHandler guid) = codes "  nohandler " ++ guid_text guid ++ codes "\n"
shape_line (Dispatched guid) = codes "  dispatched " ++ guid_text guid ++ codes "\n"

-- How many words of its lane were loaded for a request: the length word, and where its length is lawful the data words that
-- hold so many bytes.
abbrev pub load_count : Request → ℕ
load_count request = if is_lawful request then 1 + words_for request.length else 1

-- the first line of entry k
unfoldable pub entry_line : ℕ → Entry → List ℕ
entry_line k entry =
    codes "entry " ++ decimal k ++ codes " lane " ++ decimal entry.request.lane ++ codes " loads "
    ++ decimal (load_count entry.request) ++ codes " status " ++ x16 entry.outcome.status ++ codes "\n"

-- the line of a request: its length word, and the bytes that were captured
unfoldable pub request_line : Request → List ℕ
request_line request = codes "  request " ++ x16 request.length ++ codes " " ++ bytes_text request.bytes ++ codes "\n"

-- the line of a reply
unfoldable pub reply_line : List ℕ → List ℕ
reply_line reply = codes "  reply " ++ bytes_text reply ++ codes "\n"

-- what was answered: the shape, the GUID's handlers, the reply, and the root handlers
unfoldable pub outcome_lines : Outcome → List ℕ
outcome_lines outcome =
    shape_line outcome.shape ++ flat_map (invocation_lines (codes "handler")) outcome.chain ++ reply_line outcome.reply
    ++ flat_map (invocation_lines (codes "root")) outcome.root

-- all lines of entry k
unfoldable pub entry_lines : ℕ → Entry → List ℕ
entry_lines k entry =
    entry_line k entry ++ request_line entry.request ++ register_line entry.request.saved ++ outcome_lines entry.outcome

-- the lines of entries, numbered from k on
abbrev pub entries_lines : ℕ → List Entry → List ℕ
entries_lines k [] = []
entries_lines k (entry ∷ entries) = entry_lines k entry ++ entries_lines (k + 1) entries

-- the line of lane l: its length word, its status word, and its data words as bytes
unfoldable pub lane_line : ℕ → List ℕ → List ℕ
lane_line l lane =
    codes "lane " ++ decimal l ++ codes " length " ++ x16 (slice_index lane 0) ++ codes " status " ++ x16 (slice_index lane 1)
    ++ codes " data " ++ bytes_text (bytes_of_words (drop 2 lane)) ++ codes "\n"

-- the lines of lanes, numbered from l on
abbrev pub lanes_lines : ℕ → List (List ℕ) → List ℕ
lanes_lines l [] = []
lanes_lines l (lane ∷ lanes) = lane_line l lane ++ lanes_lines (l + 1) lanes

-- the lines of a part, if it is there
abbrev pub part_lines : {X : Type 0} → (X → List ℕ) → Option X → List ℕ
part_lines lines None = []
part_lines lines (Some part) = lines part

-- What a report tells of, each part if it is there: a volume, the words of its files, the policy of a boot, its starts,
-- the drivers that wait, what is there at lock, whether the group of each image alone is closed, entries in recorded order,
-- and lanes, each with its length, its status and then its data.
pub record Reported : Type 0 where
  pub volume : Option Volume
  pub words : Option (List FileWord)
  pub policy : Option Policy
  pub starts : Option (List StartRecord)
  pub waiting : Option (List Guid)
  pub locked : Option Locked
  pub closed : Option (List Bool)
  pub entries : Option (List Entry)
  pub lanes : Option (List (List ℕ))

-- no part is there
abbrev pub nothing_reported : Reported
nothing_reported = record {
  volume = None;
  words = None;
  policy = None;
  starts = None;
  waiting = None;
  locked = None;
  closed = None;
  entries = None;
  lanes = None;
}

-- the files of a volume, if it is there
abbrev pub files_of : Option Volume → List File
files_of None = []
files_of (Some volume) = volume.files

-- the names of the images at lock, if it is there
abbrev pub names_of : Option Locked → List Guid
names_of None = []
names_of (Some locked) = locked.names

-- the starts of a boot, with its policy in front
abbrev pub boot_lines : Option Policy → List StartRecord → List ℕ
boot_lines policy starts = policy_line policy ++ flat_map start_lines starts

-- The report of the parts that are there, in this order. The line of the policy stands there exactly where starts do.
unfoldable pub report_of : Reported → List ℕ
report_of parts =
    part_lines volume_line parts.volume ++ part_lines (files_lines (files_of parts.volume)) parts.words
    ++ part_lines (boot_lines parts.policy) parts.starts ++ part_lines waiting_lines parts.waiting
    ++ part_lines locked_line parts.locked ++ part_lines (images_lines 0 (names_of parts.locked)) parts.closed
    ++ part_lines (entries_lines 0) parts.entries ++ part_lines (lanes_lines 0) parts.lanes

-- each lane has a length word and a status word
abbrev pub HaveFrontWords : Option (List (List ℕ)) → Type 0
HaveFrontWords None = Unit {0}
HaveFrontWords (Some lanes) = All (λ lane. 2 ≤ length lane) lanes

-- A part, if it is there, has one item for each of these: words stand so beside the files of a volume, and flags beside the
-- names of images.
abbrev pub StandBeside : {X Y : Type 0} → List X → Option (List Y) → Type 0
StandBeside items None = Unit {0}
StandBeside items (Some others) = length others ≡ length items

-- what the parts of a command tell
abbrev pub reported : Parts → Reported
reported parts = record {
  volume = option_copied parts.volume;
  words = option_copied parts.words;
  policy = option_copied parts.policy;
  starts = option_copied parts.starts;
  waiting = option_copied parts.waiting;
  locked = option_copied parts.locked;
  closed = option_copied parts.closed;
  entries = option_copied parts.entries;
  lanes = option_copied parts.lanes;
}

-- The lines of a boot: its policy, its starts, the drivers that wait, what is there at lock, and the images. Each ends with a
-- line feed (byte 10).
use Rattle.std.specs.Prelude.{ℕ, ◌+◌, Bool, if◌then◌else◌, List, [], ◌∷◌, ◌++◌, length, drop, codes, Option, Some, None}
use Rattle.std.specs.Fmt.{decimal}
use Rattle.std.specs.List.{flat_map}
use Rattle.mm_base.specs.Guid.{guid_text}
use Rattle.mm_base.specs.declared.guid.Guid.{Guid}
use Rattle.mm_base.specs.declared.policy.Policy.{Policy}
use Rattle.driver_start.specs.declared.record.StartRecord.{StartRecord}
use Rattle.driver_start.specs.declared.starting.StartEnd.{StartEnd}
use Rattle.driver_start.specs.declared.starting.StartEnd.TheVariants.{Ran, NoPages, TooMany}
use Rattle.mm_text.specs.RecordLines.{end_words, record_lines}
use Rattle.mm_text.specs.declared.parts.Locked.{Locked}

-- The words for a policy: how many rules it has, and its fuel. A boot without one has no rules, and fuel of 65,536.
unfoldable pub policy_words : Option Policy → List ℕ
policy_words None = codes "none fuel 65536"
policy_words (Some policy) = codes "rules " ++ decimal (length policy.rules) ++ codes " fuel " ++ decimal policy.fuel

-- the line of a policy
unfoldable pub policy_line : Option Policy → List ℕ
policy_line policy = codes "policy " ++ policy_words policy ++ codes "\n"

-- the words for how a start ended
unfoldable pub start_words : StartEnd → List ℕ
start_words (Ran ended) = end_words ended
start_words NoPages = codes "nopages"
start_words TooMany = codes "toomany"

-- the line of a start: its driver, its round, and how it ended
unfoldable pub start_line : StartRecord → List ℕ
start_line start =
    codes "start " ++ guid_text start.name ++ codes " round " ++ decimal start.round ++ codes " " ++ start_words start.ended
    ++ codes "\n"

-- a start: its line, and what its entry was denied and wrote
unfoldable pub start_lines : StartRecord → List ℕ
start_lines start = start_line start ++ record_lines (codes "  ") start.denials start.writes

-- the line of a driver that waits
unfoldable pub waiting_line : Guid → List ℕ
waiting_line name = codes "waiting " ++ guid_text name ++ codes "\n"

-- the lines of drivers that wait
abbrev pub waiting_lines : List Guid → List ℕ
waiting_lines names = flat_map waiting_line names

-- what is there at lock: how many images, handlers and protocols
unfoldable pub locked_line : Locked → List ℕ
locked_line locked =
    codes "locked images " ++ decimal (length locked.names) ++ codes " handlers " ++ decimal locked.handlers
    ++ codes " protocols " ++ decimal locked.protocols ++ codes "\n"

-- the word for whether a group is closed
abbrev pub group_word : Bool → List ℕ
group_word closed = if closed then codes "closed" else codes "open"

-- the line of image k: its number, its name, and whether the group of that image alone is closed
unfoldable pub image_line : ℕ → Guid → Bool → List ℕ
image_line k name closed =
    codes "image " ++ decimal k ++ codes " " ++ guid_text name ++ codes " " ++ group_word closed ++ codes "\n"

-- the line of image k with the first of these flags
abbrev pub first_image_line : ℕ → Guid → List Bool → List ℕ
first_image_line k name [] = []
first_image_line k name (closed ∷ others) = image_line k name closed

-- the lines of images, numbered from k on, each name with the flag at its place
abbrev pub images_lines : ℕ → List Guid → List Bool → List ℕ
images_lines k [] closed = []
images_lines k (name ∷ names) closed = first_image_line k name closed ++ images_lines (k + 1) names (drop 1 closed)

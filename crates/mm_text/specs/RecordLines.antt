-- How an invocation ended, what it was denied, and what it wrote. Each line ends with a line feed (byte 10).
use Rattle.std.specs.Prelude.{ℕ, List, ◌++◌, codes}
use Rattle.std.specs.Fmt.{decimal}
use Rattle.std.specs.Int.{to_be_bytes, w64}
use Rattle.std.specs.List.{flat_map}
use Rattle.hex.specs.Hex.{encode_lower}
use Rattle.mm_base.specs.declared.access.Denial.{Denial}
use Rattle.mm_base.specs.declared.access.Kind.{Kind}
use Rattle.mm_base.specs.declared.access.Kind.TheVariants.{Memory, Io, Msr, Saved}
use Rattle.mm_base.specs.declared.access.Right.{Right}
use Rattle.mm_base.specs.declared.access.Right.TheVariants.{Read, Write, Execute}
use Rattle.mm_base.specs.declared.access.Why.{Why}
use Rattle.mm_base.specs.declared.access.Why.TheVariants.{Home, Range, Mmram, Buffer, Rule, NoRule, Quota}
use Rattle.mm_base.specs.declared.cells.CellWrite.{CellWrite}
use Rattle.mm_base.specs.declared.invocation.Ended.{Ended}
use Rattle.mm_base.specs.declared.invocation.Ended.TheVariants.{Returned, Denied, Fuel, Fault, NoMemory}
use Rattle.mm_base.specs.declared.invocation.FaultKind.{FaultKind}
use Rattle.mm_base.specs.declared.invocation.FaultKind.TheVariants.{Encoding, Divide, Alignment, Break, NativeCall}
use Rattle.mm_base.specs.declared.invocation.Invocation.{Invocation}

-- a word of 64 bits as sixteen hexadecimal digits, the highest first
unfoldable pub x16 : ℕ → List ℕ
x16 n = encode_lower (to_be_bytes w64 n)

-- the word for what an access is of
abbrev pub kind_word : Kind → List ℕ
kind_word Memory = codes "mem"
kind_word Io = codes "io"
kind_word Msr = codes "msr"
kind_word Saved = codes "save"

-- the word for what an access wants
abbrev pub right_word : Right → List ℕ
right_word Read = codes "read"
right_word Write = codes "write"
right_word Execute = codes "exec"

-- The words for what decided an access. An access that is denied was never decided by the image's own ranges; that
-- this too has a word spares a condition.
unfoldable pub why_words : Why → List ℕ
why_words Home = codes "home"
why_words Range = codes "range"
why_words Mmram = codes "mmram"
why_words Buffer = codes "buffer"
why_words (Rule k) = codes "rule " ++ decimal k
why_words NoRule = codes "norule"
why_words Quota = codes "quota"

-- the word for a fault of the byte code
abbrev pub fault_word : FaultKind → List ℕ
fault_word Encoding = codes "encoding"
fault_word Divide = codes "divide"
fault_word Alignment = codes "alignment"
fault_word Break = codes "break"
fault_word NativeCall = codes "nativecall"

-- The words for how an invocation ended. In a run that ends well none ends out of memory; that this too has a word
-- spares a condition.
unfoldable pub end_words : Ended → List ℕ
end_words (Returned status) = codes "returned " ++ x16 status
end_words (Denied why at) = codes "denied " ++ why_words why ++ codes " at " ++ x16 at
end_words (Fuel at) = codes "fuel at " ++ x16 at
end_words (Fault kind at) = codes "fault " ++ fault_word kind ++ codes " at " ++ x16 at
end_words (NoMemory refused) = codes "nomemory"

-- the line of a denial, with these spaces in front
unfoldable pub denial_line : List ℕ → Denial → List ℕ
denial_line spaces denial =
    spaces ++ codes "deny " ++ kind_word denial.kind ++ codes " " ++ right_word denial.right ++ codes " " ++ x16 denial.at
    ++ codes " " ++ decimal denial.n ++ codes " " ++ why_words denial.why ++ codes "\n"

-- the line of a cell write, with these spaces in front
unfoldable pub write_line : List ℕ → CellWrite → List ℕ
write_line spaces write =
    spaces ++ codes "write " ++ kind_word write.kind ++ codes " " ++ x16 write.at ++ codes " " ++ decimal write.n
    ++ codes " " ++ x16 write.value ++ codes "\n"

-- the lines of records, each with these spaces in front: all denials, and then all cell writes
unfoldable pub record_lines : List ℕ → List Denial → List CellWrite → List ℕ
record_lines spaces denials writes = flat_map (denial_line spaces) denials ++ flat_map (write_line spaces) writes

-- the line of an invocation: behind this word, its handler and how it ended
unfoldable pub end_line : List ℕ → Invocation → List ℕ
end_line word invocation =
    codes "  " ++ word ++ codes " " ++ decimal invocation.handler ++ codes " " ++ end_words invocation.ended
    ++ codes "\n"

-- an invocation: its line, and its records
unfoldable pub invocation_lines : List ℕ → Invocation → List ℕ
invocation_lines word invocation =
    end_line word invocation ++ record_lines (codes "    ") invocation.denials invocation.writes

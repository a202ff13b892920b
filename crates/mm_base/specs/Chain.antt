-- Entries in boxes, seen as a list.
use Rattle.std.specs.Prelude.{List, [], ◌∷◌, ◌++◌}
use Rattle.mm_base.specs.declared.entry.Entry.{Entry}
use Rattle.mm_base.specs.declared.entries.Chain.{Chain}
use Rattle.mm_base.specs.declared.entries.Chain.TheVariants.{End, Link'}

-- the entries of a chain, the oldest first
abbrev pub entries_of : Chain → List Entry
entries_of End = []
entries_of (Link' entry p older) = entries_of older ++ entry ∷ []

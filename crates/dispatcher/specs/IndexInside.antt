-- No public clause cites this file.
-- Lists of members by name.
use Rattle.std.specs.Prelude.{List, [], ◌∷◌, ◌++◌, Option, Some, None, if◌then◌else◌, Vec}
use Rattle.std.specs.Ordering.{nat_cmp}
use Rattle.std.specs.declared.alloc.Global.{Global}
use Rattle.std.specs.Cmp.Lexicographic.{slice_cmp}
use Rattle.std.specs.BTreeMap as tree
use Rattle.mm_base.specs.Guid.{same_guid}
use Rattle.mm_base.specs.declared.guid.Guid.{Guid}
use Rattle.dispatcher.specs.declared.driver.Member.{Member}
use Rattle.dispatcher.specs.declared.name_index.NameIndex.{NameIndex}

-- the members of a list, if there is one
abbrev pub items_of : Option (Vec Member Global) → List Member
items_of None = []
items_of (Some list) = list.items

-- the list of a name
abbrev pub listed : NameIndex → Guid → List Member
listed index name = items_of (tree.get (slice_cmp nat_cmp) index.lists name.0)

-- what becomes of the list of another name where a member is added to that of this
abbrev pub with_member : Guid → Member → Guid → List Member → List Member
with_member name member other list = if same_guid name other then list ++ member ∷ [] else list

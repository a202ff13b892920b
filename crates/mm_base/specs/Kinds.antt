-- The kinds of what is accessed.
use Rattle.std.specs.Prelude.{Bool, true, false}
use Rattle.mm_base.specs.declared.access.Kind.{Kind}
use Rattle.mm_base.specs.declared.access.Kind.TheVariants.{Memory, Io, Msr, Saved}

-- whether two kinds are the same
abbrev pub same_kind : Kind → Kind → Bool
same_kind Memory Memory = true
same_kind Io Io = true
same_kind Msr Msr = true
same_kind Saved Saved = true
same_kind a b = false

-- Laws of the script text: a text spells one script, or has one fault, and not both.
use Rattle.std.specs.Prelude.{◌≡◌, ℕ, ◌⊎◌, Bool, List}
use Rattle.comm_core.specs.declared.script.Script.{Script}
use Rattle.mm_text.specs.ScriptText.{IsScript}
use Rattle.mm_text.specs.Refusal.{IsFault}
use Rattle.mm_text.specs.declared.text_end.TextFault.{TextFault}

-- each text spells a script or has a fault
abbrev pub EitherOr : Type 0
EitherOr =
    (handlers : Bool) (text : List ℕ)
    → ((script : Script) × IsScript handlers text script) ⊎ ((fault : TextFault) × IsFault handlers text fault)

-- none does both
abbrev pub NeverBoth : Type 0
NeverBoth =
    (handlers : Bool) (text : List ℕ) (script : Script) (fault : TextFault)
    → IsScript handlers text script
    → IsFault handlers text fault
    → ⊥

-- it spells one script at most, and has one fault at most
abbrev pub OneScript : Type 0
OneScript =
    (handlers : Bool) (text : List ℕ) (one other : Script)
    → IsScript handlers text one
    → IsScript handlers text other
    → one ≡ other

abbrev pub OneFault : Type 0
OneFault =
    (handlers : Bool) (text : List ℕ) (one other : TextFault)
    → IsFault handlers text one
    → IsFault handlers text other
    → one ≡ other

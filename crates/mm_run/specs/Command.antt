-- The commands that the program serves, by the words of the command line.
use Rattle.std.specs.Prelude.{ℕ, Bool, true, false, ◌&&◌, ◌==◌, if◌then◌else◌, List, [], ◌∷◌}
use Rattle.std.specs.Prelude.{codes, length, String, Some, None}
use Rattle.std.specs.Str.{bytes_eq}
use Rattle.std.specs.String.{string_bytes}
use Rattle.std.specs.declared.alloc.Global.{Global}
use Rattle.std.specs.declared.option.Option.{Option}
use Rattle.mm_run.specs.declared.command.Command.{Command}
use Rattle.mm_run.specs.declared.command.Command.TheVariants.{Script, Check, Boot, Serve}

-- A form of the command line: a command's name, how many words follow it, and the command.
pub record Form : Type 0 where
  pub name : List ℕ
  pub more : ℕ
  pub command : Command

abbrev pub form : List ℕ → ℕ → Command → Form
form name more command = record { name = name; more = more; command = command }

-- the forms that the program serves: each command's name, and as many words more
abbrev pub forms : List Form
forms =
    form (codes "script") 1 Script
    ∷ form (codes "check") 1 Check
    ∷ form (codes "boot") 1 Boot
    ∷ form (codes "serve") 2 Serve
    ∷ []

-- whether words are of a form: its name, and as many words more
abbrev pub is_of_form : Form → List (String Global) → Bool
is_of_form form [] = false
is_of_form form (word ∷ words) = bytes_eq (string_bytes word) form.name && (length words == form.more)

-- the command of the first of these forms that words are of
abbrev pub command_among : List Form → List (String Global) → Option Command
command_among [] words = None
command_among (form ∷ forms) words = if is_of_form form words then Some form.command else command_among forms words

-- the command of these words, if they are of a form
abbrev pub command_of : List (String Global) → Option Command
command_of words = command_among forms words

-- whether a command drives a world through a script
abbrev pub drives : Command → Bool
drives Script = true
drives Check = false
drives Boot = false
drives Serve = true

-- What the commands are read as.
use Rattle.std.specs.Prelude.{Option, Some, None, if◌then◌else◌, codes}
use Rattle.std.specs.Str.{bytes_eq}
use Rattle.acute_words.specs.Form.{Form, Given, Text}
use Rattle.acute_words.specs.Commands.{Request, audit_form, audit_of, chain_form, chain_of, check_form, check_of, code_of, make_form, make_of, names_of, pipe_form, pipe_of, program_form, run_form, run_of}
use Rattle.acute_words.specs.declared.kinds.Kind.{Kind}
use Rattle.acute_words.specs.declared.kinds.Kind.TheVariants as kind

-- the command of a name
abbrev pub kind_named : Text → Option Kind
kind_named name =
    if bytes_eq name (codes "run") then Some kind.Run else
    if bytes_eq name (codes "names") then Some kind.Names else
    if bytes_eq name (codes "code") then Some kind.Code else
    if bytes_eq name (codes "make") then Some kind.Make else
    if bytes_eq name (codes "check") then Some kind.Check else
    if bytes_eq name (codes "chain") then Some kind.Chain else
    if bytes_eq name (codes "audit") then Some kind.Audit else
    if bytes_eq name (codes "pipe") then Some kind.Pipe else
    None

-- its form
abbrev pub form_of : Kind → Form
form_of kind.Run = run_form
form_of kind.Names = program_form
form_of kind.Code = program_form
form_of kind.Make = make_form
form_of kind.Check = check_form
form_of kind.Chain = chain_form
form_of kind.Audit = audit_form
form_of kind.Pipe = pipe_form

-- what it asks for, by what was given
abbrev pub asked_of : Kind → Given → Option Request
asked_of kind.Run = run_of
asked_of kind.Names = names_of
asked_of kind.Code = code_of
asked_of kind.Make = make_of
asked_of kind.Check = check_of
asked_of kind.Chain = chain_of
asked_of kind.Audit = audit_of
asked_of kind.Pipe = pipe_of

use Rattle.std.proofs.Common.{◌∙◌, sym, ap, cond, Some, Option}
use Rattle.std.specs.Prelude.{option_map}
use Rattle.ac_types.specs.declared.text.Name.{Name}
use Rattle.ac_terms.specs.Defs.{names}
use Rattle.ac_terms.specs.Read.{name_of_code}
use Rattle.ac_closure.specs.inner.Names.{entry_named}
use Rattle.ac_closure.proofs.NameLaws.{name_put}
use Rattle.ac_closure.proofs.names.put_name.Goals as goal

pub returns-in_ok-insert-in-Some : goal.returns-in_ok-insert-in-Some
returns-in_ok-insert-in-Some c = λ name.
    name_put c.args.names.now c.insert.new.self c.in-Some.name.0 c.args.i c.in_ok-insert-in-Some.ensures.updates name
    ∙ ap (λ (o : Option Name). cond (names (option_map name_of_code o) name) (Some c.args.i) (entry_named c.args.names.now name)) (sym c.in-Some.is)

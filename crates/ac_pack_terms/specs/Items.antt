-- The items of lists, each packed at one type.
use Rattle.ac_types.specs.Types.{Typ}
use Rattle.ac_terms.specs.Terms.{PValues, no_pvalues, pvalue}
use Rattle.ac_terms.specs.Defs.{Environment}
use Rattle.ac_code.specs.Code.{Code}
use Rattle.ac_values.specs.Values.{MValue, MCons}
use Rattle.ac_meaning.specs.BareTerms.{unpacked}
use Rattle.ac_meaning.specs.BarePacking.{bare_packed}
use Rattle.ac_machine_meaning.specs.Stands.{stands}

-- of a packed list
abbrev pub items_packed : Environment → PValues → Typ → PValues
items_packed E no_pvalues T = no_pvalues
items_packed E (pvalue v vs) T = pvalue (bare_packed E (unpacked v) T) (items_packed E vs T)

-- of a list of the machine; the parts of a value that is none count as no items
abbrev pub items_held : Environment → Code → MValue → Typ → PValues
items_held E K (MCons a b) T = pvalue (bare_packed E (stands K a) T) (items_held E K b T)
items_held E K m T = no_pvalues

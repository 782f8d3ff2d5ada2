-- What the answers to a marshal and to an unmarshal tell.
use Rattle.std.specs.Prelude.{◌≡◌, ℕ, Result, Ok, Err}
use Rattle.ac_types.specs.declared.text.Text.{Text}
use Rattle.ac_terms.specs.Terms.{PValue}
use Rattle.ac_terms.specs.Defs.{Environment}
use Rattle.ac_code.specs.Code.{Code}
use Rattle.ac_code.specs.declared.instr.CodeId.{CodeId}
use Rattle.ac_generate.specs.Generated.{value_generated, value_number}
use Rattle.ac_meaning.specs.Packing.{Packing, CannotPack, Packs, Landing, Sinks, Lands}
use Rattle.ac_meaning.specs.ReadExn.{exn_of}
use Rattle.ac_machine_proof.specs.Running.{with_more}
use Rattle.ac_pack.specs.declared.fault.CrossFault.{CrossFault}
use Rattle.ac_pack.specs.declared.fault.CrossFault.TheVariants as fault

-- the string that a value is packed into, or the exception of why it is not; want of memory says nothing
abbrev pub Departs : Packing → Result Text CrossFault → Type 0
Departs p (Ok s) = p ≡ Packs s.0
Departs p (Err (fault.Raise e)) = p ≡ CannotPack (exn_of e)
Departs p (Err fault.Memory) = Unit {0}

-- over definitions E and code K a value has landed: the definitions are F then and the code L, with that of the new entries and then that of the value, which stands in this block
pub record HasLanded (l : Landing) (E : Environment) (K : Code) (F : Environment) (L : Code) (block : ℕ) : Type 0 where
  pub value : PValue
  pub lands : l ≡ Lands F value
  pub code : L ≡ value_generated value (with_more E F K)
  pub number : block ≡ value_number value (with_more E F K)

-- it has, or the exception tells why it has not, and nothing has changed; want of memory says nothing
abbrev pub Enters : Landing → Environment → Code → Environment → Code → Result CodeId CrossFault → Type 0
Enters l E K F L (Ok id) = HasLanded l E K F L id.0
Enters l E K F L (Err (fault.Raise e)) = (l ≡ Sinks (exn_of e)) × (F ≡ E) × (L ≡ K)
Enters l E K F L (Err fault.Memory) = Unit {0}

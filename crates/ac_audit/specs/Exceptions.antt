-- The exception of `unmarshal` that a verdict names.
use Rattle.std.specs.Prelude.{Option, Some, None, codes}
use Rattle.ac_meaning.specs.Worlds.{Exception}
use Rattle.ac_meaning.specs.Packing.{unmarshal_failure_exn, resolve_failure_exn}
use Rattle.ac_audit.specs.declared.verdict.AuditVerdict.{AuditVerdict}
use Rattle.ac_audit.specs.declared.verdict.AuditVerdict.TheVariants.{Accepted, Format, Definition, Clash, Full, Unresolved, WrongType, Value}

abbrev pub exception_of : AuditVerdict → Option Exception
exception_of Accepted = None
exception_of Format = Some (unmarshal_failure_exn (codes "format"))
exception_of Definition = Some (unmarshal_failure_exn (codes "definition"))
exception_of Clash = Some (unmarshal_failure_exn (codes "clash"))
exception_of Full = Some (unmarshal_failure_exn (codes "full"))
exception_of (Unresolved name) = Some (resolve_failure_exn name)
exception_of WrongType = Some (unmarshal_failure_exn (codes "type"))
exception_of Value = Some (unmarshal_failure_exn (codes "value"))

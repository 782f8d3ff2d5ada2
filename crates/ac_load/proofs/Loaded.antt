-- What loads is ready to run, and nothing that loads is rejected.
use Rattle.std.proofs.Common.{◌≤◌, ℕ, List, length}
use Rattle.sha2.specs.Sha256.{sha256}
use Rattle.ac_types.specs.Types.{Bytes, Typ}
use Rattle.ac_terms.specs.Terms.{Expr}
use Rattle.ac_terms.specs.Defs.{Environment}
use Rattle.ac_meaning.specs.Loads.{IsLoaded}
use Rattle.ac_meaning.proofs.Sources.{fits_source}
use Rattle.ac_load_rules.specs.Accepting.{Shelved, IsShelf}
use Rattle.ac_load_rules.specs.Ready.{IsWellLoaded}
use Rattle.ac_load_rules.proofs.OneAnswer.{not_both}
use Rattle.ac_load_rules.proofs.Coherence.{accepted_ready}
use Rattle.ac_load.specs.Kinds.{of_cause}
use Rattle.ac_load.specs.Loading.{Loads, Rejects}
use Rattle.ac_load.specs.declared.kind.Kind.{Kind}

ready_loaded : (E : Environment) (e : Expr) (T : Typ) → IsWellLoaded E e T → IsLoaded E e T
ready_loaded E e T r = record { program = record { coherent = r.coherent; typed = r.typed; source = fits_source e r.fits }; fits = r.fits; known = r.known }

pub loads_ready : (text : Bytes) (shelf : List Shelved) (E : Environment) (e : Expr) (T : Typ) → IsShelf shelf → length shelf ≤ 256 → Loads text shelf E e T → IsLoaded E e T
loads_ready text shelf E e T good few l = ready_loaded E e T (accepted_ready text shelf E e T good few l)

pub not_rejected : (text : Bytes) (shelf : List Shelved) (part : ℕ) (kind : Kind) (E : Environment) (e : Expr) (T : Typ) → Rejects text shelf part kind → Loads text shelf E e T → ⊥
not_rejected text shelf part kind E e T (of_cause r) l = not_both sha256 r l

-- The text and the name of an entry.
use Rattle.std.specs.Prelude.{ℕ, [], Option, Some, None, option_and_then, option_map, unwrap_or}
use Rattle.sha2.specs.Sha256.{sha256}
use Rattle.ac_types.specs.Types.{Bytes}
use Rattle.ac_types.specs.Sigs.{Constraint, Ranges, Exact}
use Rattle.ac_terms.specs.Defs.{Environment, Def, AModule, AnImport, AMark, def_of, name_at}
use Rattle.ac_terms.specs.Spelling.{canonical_text}

-- the canonical text of a definition: its references are spelled by the names that their entries keep
abbrev pub text_of_def : Environment → Def → Option Bytes
text_of_def E d = canonical_text (λ j. unwrap_or (name_at E j) []) d

abbrev pub text_of_entry : Environment → ℕ → Option Bytes
text_of_entry E i = option_and_then (text_of_def E) (def_of E i)

-- the name that an import by exact name demands
abbrev pub demanded : Constraint → Option Bytes
demanded (Ranges rs star) = None
demanded (Exact n) = Some n

-- nothing below asks more of a digest than that it is a function
module _ (digest : Bytes → Bytes) where
  -- an import by exact name has the name that it demands, a mark has none, any other definition the digest of its text
  abbrev pub name_by : Environment → Def → Option Bytes
  name_by E (AModule m) = option_map digest (text_of_def E (AModule m))
  name_by E (AnImport i) = elim (demanded i.constraint) [ None ↦ option_map digest (text_of_def E (AnImport i)) | Some n ↦ Some n ]
  name_by E (AMark t) = None

-- the name of an entry: of SHA-256 as the digest
abbrev pub name_of_entry : Environment → ℕ → Option Bytes
name_of_entry E i = option_and_then (name_by sha256 E) (def_of E i)

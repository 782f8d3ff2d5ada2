-- Verdicts of texts, when they are right, and which bytes say them.
use Rattle.std.specs.Prelude.{◌≡◌, ℕ, List, ◌++◌, codes, map, Contains}
use Rattle.ac_types.specs.Types.{Bytes, Typ}
use Rattle.ac_terms.specs.Terms.{Expr}
use Rattle.ac_terms.specs.Defs.{Environment}
use Rattle.ac_load_rules.specs.Accepting.{Shelved}
use Rattle.ac_load.specs.Loading.{Loads, Rejects}
use Rattle.ac_load.specs.declared.kind.Kind.{Kind}
use Rattle.lens_explain.specs.declared.explained.TextVerdict.{TextVerdict}
use Rattle.lens_explain.specs.declared.explained.TextVerdict.TheVariants.{Accepted, AcceptedModule, Refused}
use Rattle.lens_explain.specs.declared.heading.Form.{Form}
use Rattle.lens_explain.specs.declared.heading.Form.TheVariants.{Lines, Json}

-- the text is rejected beside the shelf, in some part and for some cause
pub record IsRejected (text : Bytes) (shelf : List Shelved) : Type 0 where
  pub part : ℕ
  pub kind : Kind
  pub rejects : Rejects text shelf part kind

-- a verdict of a text beside a shelf is right: it loads; it is a text of a shelf beside which a program loads; it is rejected
pub data IsRight (text : Bytes) (shelf : List Shelved) : TextVerdict → Type 0 where
  accepted : {E : Environment} {e : Expr} {T : Typ} → Loads text shelf E e T → IsRight text shelf Accepted
  accepted_module : {program : Bytes} {others : List Shelved} {E : Environment} {e : Expr} {T : Typ}
      → Contains (map (λ (s : Shelved). s.text) others) text → Loads program others E e T → IsRight text shelf AcceptedModule
  refused : IsRejected text shelf → IsRight text shelf Refused

-- the words of a verdict in lines
abbrev pub verdict_words : TextVerdict → Bytes
verdict_words Accepted = codes ": accepted, of type "
verdict_words AcceptedModule = codes ": accepted as a module of a shelf"
verdict_words Refused = codes ": refused: "

-- lines that say a verdict: the name of a file, perhaps a place in it, the words of the verdict, and more
pub record SaysInLines (verdict : TextVerdict) (bytes : Bytes) : Type 0 where
  pub file : Bytes
  pub place : Bytes
  pub rest : Bytes
  pub is_said : bytes ≡ file ++ (place ++ (verdict_words verdict ++ rest))

-- the words of a verdict in JSON
abbrev pub json_words : TextVerdict → Bytes
json_words Accepted = codes "{\"verdict\":\"accepted\""
json_words AcceptedModule = codes "{\"verdict\":\"accepted module\""
json_words Refused = codes "{\"verdict\":\"refused\""

-- JSON that says a verdict: it begins with its words
pub record SaysInJson (verdict : TextVerdict) (bytes : Bytes) : Type 0 where
  pub rest : Bytes
  pub is_said : bytes ≡ json_words verdict ++ rest

-- bytes that say a verdict in a form
abbrev pub SaysVerdict : Form → TextVerdict → Bytes → Type 0
SaysVerdict Lines = SaysInLines
SaysVerdict Json = SaysInJson

-- The names and texts that are known, and the least of a name that has a text.
use Rattle.std.specs.Prelude.{◌≡◌, ℕ, ◌-◌, true, false, nat_lt, length, Option, Some, None, position, List, slice_get, ◌++◌, take}
use Rattle.std.specs.Ordering.{nat_cmp}
use Rattle.std.specs.Cmp.Lexicographic.{slice_cmp}
use Rattle.std.specs.BTreeMap.{BTreeMap, get}
use Rattle.sha2.specs.Sha256.{sha256}
use Rattle.ac_types.specs.Types.{Bytes}
use Rattle.ac_terms.specs.Defs.{Environment, names, name_at}
use Rattle.ac_terms.specs.Names.{text_of_entry}
use Rattle.ac_rules.specs.Packets.{named_from}

abbrev pub Known : Type 0
Known = Option Bytes × Option Bytes

-- the name of what has a text
abbrev pub texted : Known → Option Bytes
texted p = elim p.1 [ Some s ↦ p.0 | None ↦ None ]

-- the number of the least of a name that has a text
abbrev pub known_at : List Known → Bytes → Option ℕ
known_at known n = position (λ (p : Known). names (texted p) n) known

-- what is known of entry i
abbrev pub known_of : Environment → ℕ → Known
known_of E i = (name_at E i, text_of_entry E i)

-- the names and texts of an environment
abbrev pub all_known : Environment → List Known
all_known E = named_from sha256 0 E E

-- what is known before definition i of a packet: the entries, and the definitions before it
abbrev pub known_before : Environment → Environment → ℕ → List Known
known_before E A i = all_known E ++ take i (all_known A)

-- the text under a number that counts the entries first and then the packet's definitions
unfoldable pub text_under : Environment → Environment → ℕ → Option Bytes
text_under E A k = elim (nat_lt k (length E)) [ true ↦ text_of_entry E k | false ↦ text_of_entry A (k - length E) ]

-- one name has one text
abbrev pub HasOneText : List Known → Type 0
HasOneText known = (j k : ℕ) (a b : Known) (n s t : Bytes) → slice_get known j ≡ Some a → slice_get known k ≡ Some b → a.0 ≡ Some n → b.0 ≡ Some n → a.1 ≡ Some s → b.1 ≡ Some t → s ≡ t

-- the number that a map has for a name
unfoldable pub name_found : BTreeMap Bytes ℕ → Bytes → Option ℕ
name_found names n = get (slice_cmp nat_cmp) names n

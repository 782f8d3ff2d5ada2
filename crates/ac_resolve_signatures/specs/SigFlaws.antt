-- What is wrong with signatures, by what is known of a scope, and what they show behind a dot.
use Rattle.std.specs.Prelude.{Bool, is_some, List, [], ◌∷◌, ◌++◌, flat_map, length, Option, None}
use Rattle.ac_types.specs.Limits.{most_items}
use Rattle.ac_types.specs.Types.{Bytes}
use Rattle.ac_syntax.specs.Trees.{NameAt, TypeTree, AbbrevTree, SpecTree, AbstractSpec, ManifestSpec, ValSpec}
use Rattle.ac_resolve_scopes.specs.Standard.{beside_name}
use Rattle.ac_resolve_scopes.specs.Scopes.{binders_to, scope_with}
use Rattle.ac_resolve_scopes.specs.Repeated.{repeated_name, spec_type_name, spec_value_name}
use Rattle.ac_resolve_scopes.specs.Counts.{over}
use Rattle.ac_resolve_signatures.specs.declared.flaws.Flaws.{Flaws}
use Rattle.ac_resolve_signatures.specs.declared.size.Size.{Size}
use Rattle.ac_resolve_signatures.specs.Joined.{no_flaws, flaws_joined}
use Rattle.ac_resolve_signatures.specs.KnownScopes.{KnownScope, Members, known_outside, with_size, size_of_leaf}
use Rattle.ac_resolve_signatures.specs.TypeFlaws.{measured, type_flaws}

-- what is known behind an abbreviation and behind a spec
abbrev pub size_in : KnownScope → TypeTree → Size
size_in K t = (measured K t).size

abbrev pub past_abbrev : KnownScope → AbbrevTree → KnownScope
past_abbrev K a = with_size a.name.word (size_in K a.ty) K

abbrev pub past_spec : KnownScope → SpecTree → KnownScope
past_spec K (AbstractSpec name) = with_size name.word size_of_leaf K
past_spec K (ManifestSpec a) = past_abbrev K a
past_spec K (ValSpec name ty) = K

-- what is wrong with each
abbrev pub abbrev_flaws : KnownScope → AbbrevTree → Flaws
abbrev_flaws K a = type_flaws K a.ty

abbrev pub spec_flaws : KnownScope → SpecTree → Flaws
spec_flaws K (AbstractSpec name) = no_flaws
spec_flaws K (ManifestSpec a) = abbrev_flaws K a
spec_flaws K (ValSpec name ty) = type_flaws K ty

-- of items that stand one behind another
abbrev pub flaws_in : {A : Type 0} → (KnownScope → A → KnownScope) → (KnownScope → A → Flaws) → KnownScope → List A → Flaws
flaws_in past test K [] = no_flaws
flaws_in past test K (x ∷ xs) = flaws_joined (test K x) (flaws_in past test (past K x) xs)

-- the sizes of the types of a signature, in their order
abbrev pub spec_size : KnownScope → SpecTree → List (Bytes × Size)
spec_size K (AbstractSpec name) = (name.word, size_of_leaf) ∷ []
spec_size K (ManifestSpec a) = (a.name.word, size_in K a.ty) ∷ []
spec_size K (ValSpec name ty) = []

abbrev pub spec_sizes : KnownScope → List SpecTree → List (Bytes × Size)
spec_sizes K [] = []
spec_sizes K (x ∷ xs) = spec_size K x ++ spec_sizes (past_spec K x) xs

-- whether a name is one of some
abbrev pub is_listed : List NameAt → Bytes → Bool
is_listed names x = is_some (binders_to x (scope_with names []))

-- what a signature shows behind a dot: of two types with one name the first
abbrev pub spec_members : KnownScope → List SpecTree → Members
spec_members K specs = record { types = λ t. beside_name t (spec_sizes K specs); values = is_listed (flat_map spec_value_name specs) }

-- the repetitions and the number of the types or the values of a list
abbrev pub list_flaws : List NameAt → Flaws
list_flaws names = record { unbound = None; repeated = repeated_name [] names; count = over most_items (length names) }

-- of a signature where these definitions are called by their names
abbrev pub sig_flaws : (Bytes → Option Members) → List SpecTree → Flaws
sig_flaws outer specs = flaws_joined (flaws_joined (list_flaws (flat_map spec_type_name specs)) (list_flaws (flat_map spec_value_name specs))) (flaws_in past_spec spec_flaws (known_outside outer) specs)

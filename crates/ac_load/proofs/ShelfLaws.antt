-- Texts behind the entries in front of them, one after another.
use Rattle.std.proofs.Common.{◌≡◌, ◌∙◌, ◌≤◌, ◌<◌, ◌+◌, sym, ap, subst, ℕ, suc, true, List, [], ◌∷◌, ◌++◌, length, take, drop, map, get_or, Some, arith, append_assoc}
use Rattle.std.proofs.Math.Seq.{take-length}
use Rattle.std.proofs.lemmas.List.{take-append-drop, take_more, take-map, length-take-le, map-append, length-map}
use Rattle.sha2.specs.Sha256.{sha256}
use Rattle.ac_types.specs.Types.{Bytes, Typ}
use Rattle.ac_terms.specs.Terms.{Expr}
use Rattle.ac_terms.specs.Defs.{Environment, Seen, Own', Shelf}
use Rattle.ac_rules.specs.Coherent.{IsCoherent}
use Rattle.ac_syntax.specs.Signs.{Sign}
use Rattle.ac_syntax.specs.Trees.{ProgramTree}
use Rattle.ac_syntax.specs.Programs.{IsProgram, IsModule}
use Rattle.ac_syntax.specs.declared.fault.ParseFault.{ParseFault}
use Rattle.ac_syntax.specs.declared.fault.ParseFault.TheVariants as parse
use Rattle.ac_syntax.specs.Texts.{HasTree, Refused, IsTextFault}
use Rattle.ac_load_rules.specs.Causes.{Cause, NoTree, loaded, refusal_cause}
use Rattle.ac_load_rules.specs.Accepting.{Shelved, IsShelf, GivesEntries, nothing, a_module, IsRefused, no_tree, with_tree, Refuses, of_shelf, of_program}
use Rattle.std.specs.List.{list_all}
use Rattle.ac_resolve_names.specs.Entries.{keeps_name}
use Rattle.ac_resolve_terms.proofs.Kept.{all_named}
use Rattle.ac_load_rules.specs.Counted.{has_counted}
use Rattle.ac_load_rules.proofs.Counted.{coherent_counted}
use Rattle.ac_load_rules.proofs.Coherence.{front_coherent}
use Rattle.ac_load.specs.Kinds.{OfCause, of_cause, parse_kind, kind_of, Says}
use Rattle.ac_load.specs.declared.shelf.ShelfEntry.{ShelfEntry}
use Rattle.ac_load.specs.Loading.{shelved, Loads, Rejects}
use Rattle.ac_load.specs.inner.Parts.{IsTaken, IsTreeRefused, RejectsPart, IsModuleTaken, IsProgramTaken}
use Rattle.ac_load.specs.declared.kind.Kind.{Kind}
use Rattle.ac_load.specs.declared.kind.Kind.TheVariants.{TooLong, Lexical, TooDeep, Syntax, Unbound, Repeated, TooMany, IllTyped, Signature, NotValuable, LikeMissing, Unresolved, Clash, Memory}

-- a kind says what follows from what it says
pub says : {P Q : Type 0} (kind : Kind) → (P → Q) → Says kind P → Says kind Q
says Memory f p = tt
says (TooLong len) f p = f p
says (Lexical at) f p = f p
says (TooDeep at) f p = f p
says (Syntax at) f p = f p
says (Unbound at) f p = f p
says (Repeated at) f p = f p
says (TooMany count) f p = f p
says (IllTyped def) f p = f p
says (Signature def spec) f p = f p
says (NotValuable def field) f p = f p
says (LikeMissing def spec) f p = f p
says (Unresolved def) f p = f p
says (Clash first second) f p = f p

-- a kind of a cause with P is one of a cause with Q
of_causes : {P Q : Cause → Type 0} → ((c : Cause) → P c → Q c) → (kind : Kind) → OfCause P kind → OfCause Q kind
of_causes f kind (of_cause {c = c} p) = of_cause (f c p)

module _ (G : List Sign → ProgramTree → Type 0) (E : Environment) (seen : Seen) (text : Bytes) where
  no_trees : (e : ParseFault) → Refused G text e → RejectsPart G E seen text (kind_of (NoTree e))
  no_trees e r = of_cause (no_tree r)

  pub text_refused : (e : ParseFault) → IsTextFault G text e → Says (parse_kind e) (RejectsPart G E seen text (parse_kind e))
  text_refused (parse.TooLong len) f = no_trees (parse.TooLong len) f
  text_refused (parse.Lexical at) f = no_trees (parse.Lexical at) f
  text_refused (parse.TooDeep at) f = no_trees (parse.TooDeep at) f
  text_refused (parse.Syntax at) f = no_trees (parse.Syntax at) f
  text_refused parse.Memory f = tt

  tree_rejects : (p : ProgramTree) → HasTree G text p → (c : Cause) → refusal_cause sha256 E seen p ≡ Some c → IsRefused sha256 G E seen text c
  tree_rejects p has c found = with_tree has found

  pub tree_refused : (p : ProgramTree) (kind : Kind) → HasTree G text p → Says kind (IsTreeRefused E seen p kind) → Says kind (RejectsPart G E seen text kind)
  tree_refused p kind has h = says kind (of_causes (tree_rejects p has) kind) h

pub program_taken : (E : Environment) (text : Bytes) (p : ProgramTree) (F : Environment) (e : Expr) (T : Typ) → HasTree IsProgram text p → IsTaken E Own' p F e T → IsProgramTaken E text F e T
program_taken E text p F e T has t = record {
  tree = p;
  part = record { has = has; sound = t.sound };
  entries = t.entries;
  main = t.main;
  typed = t.typed;
}

pub module_taken : (E : Environment) (s : Shelved) (p : ProgramTree) (F : Environment) (e : Expr) (T : Typ) → HasTree IsModule s.text p → IsTaken E (Shelf s.uri) p F e T → IsModuleTaken E s F
module_taken E s p F e T has t = record {
  tree = p;
  part = record { has = has; sound = t.sound };
  entries = t.entries;
}

-- one text of the shelf more
gives_more : {E F : Environment} {before : List Shelved} (s : Shelved) → GivesEntries sha256 E before F → (G : Environment) → IsModuleTaken F s G → GivesEntries sha256 E (before ++ s ∷ []) G
gives_more {E} s nothing G t = a_module t.part (subst (λ (H : Environment). GivesEntries sha256 (loaded sha256 E (Shelf s.uri) t.tree) [] H) (sym t.entries) nothing)
gives_more s (a_module part more) G t = a_module part (gives_more s more G t)

-- what stands in front of a part
abbrev pub Before : List Shelved → ℕ → Environment → Type 0
Before shelf n E = GivesEntries sha256 [] (take n shelf) E

coherent_before : (shelf : List Shelved) (n : ℕ) (E : Environment) → IsShelf shelf → length shelf ≤ 256 → Before shelf n E → IsCoherent E × (length E ≤ 256)
coherent_before shelf n E good few b =
    let all = take-append-drop n shelf in
    front_coherent (take n shelf) (drop n shelf) (subst IsShelf (sym all) good) (subst (λ (l : List Shelved). length l ≤ 256) (sym all) few) b

-- what the entries of a front are asked for
pub record IsSound (E : Environment) : Type 0 where
  pub names : list_all keeps_name E ≡ true
  pub counted : list_all has_counted E ≡ true
  pub few : length E ≤ 256

pub sound_before : (xs : List ShelfEntry) (n : ℕ) (E : Environment) → IsShelf (map shelved xs) → length xs ≤ 256 → Before (map shelved xs) n E → IsSound E
sound_before xs n E good few b =
    let a = length-map xs shelved in
    let c = coherent_before (map shelved xs) n E good (omega (arith, a, few)) b in
    record { names = all_named E c.0.named; counted = coherent_counted E c.0; few = c.1 }

-- along the texts of a shelf of the code
module _ (xs : List ShelfEntry) (i : ℕ) (x : ShelfEntry) (within : i < length xs) (is : x ≡ get_or xs i x) where
  abbrev texts : List Shelved
  texts = map shelved xs

  take_next : take (i + 1) texts ≡ take i texts ++ shelved x ∷ []
  take_next =
      take-map shelved (i + 1) xs
      ∙ ap (map shelved) (take_more xs i x within ∙ ap (λ (y : ShelfEntry). take i xs ++ y ∷ []) (sym is))
      ∙ map-append shelved (take i xs) (x ∷ [])
      ∙ ap (λ (l : List Shelved). l ++ shelved x ∷ []) (sym (take-map shelved i xs))

  split : texts ≡ take i texts ++ shelved x ∷ drop (i + 1) texts
  split = sym (take-append-drop (i + 1) texts) ∙ ap (λ (l : List Shelved). l ++ drop (i + 1) texts) take_next ∙ append_assoc (take i texts) (shelved x ∷ []) (drop (i + 1) texts)

  front_long : length (take i texts) ≡ i
  front_long =
      let a = length-map xs shelved in
      length-take-le i texts (omega (arith, a, within))

  pub before_next : (E F : Environment) → Before texts i E → IsModuleTaken E (shelved x) F → Before texts (i + 1) F
  before_next E F b t = subst (λ (l : List Shelved). GivesEntries sha256 [] l F) (sym take_next) (gives_more (shelved x) b F t)

  pub rejects_here : (text : Bytes) (E : Environment) (kind : Kind) (part : ℕ) → part ≡ i + 1 → Before texts i E → Says kind (RejectsPart IsModule E (Shelf (shelved x).uri) (shelved x).text kind) → Says kind (Rejects text texts part kind)
  rejects_here text E kind part e b r =
      let same : suc (length (take i texts)) ≡ part = let f = front_long in omega (arith, f, e) in
      says kind (of_causes (λ c q. subst (λ (k : ℕ). Refuses sha256 text texts k c) same (of_shelf (take i texts) (drop (i + 1) texts) split b q)) kind) r

-- behind all of them
pub all_seen : (ys xs : List ShelfEntry) (n : ℕ) → ys ≡ xs → n ≤ length ys → length ys ≤ n → n ≡ length xs
all_seen ys xs n is a b = let e = ap length is in omega (arith, a, b, e)

module _ (xs : List ShelfEntry) (n : ℕ) (E : Environment) (text : Bytes) (past : n ≡ length xs) (b : Before (map shelved xs) n E) where
  abbrev shelf : List Shelved
  shelf = map shelved xs

  whole : take n shelf ≡ shelf
  whole = ap (λ (k : ℕ). take k shelf) (past ∙ sym (length-map xs shelved)) ∙ take-length shelf

  all_given : GivesEntries sha256 [] shelf E
  all_given = subst (λ (l : List Shelved). GivesEntries sha256 [] l E) whole b

  pub rejects_last : (kind : Kind) → Says kind (RejectsPart IsProgram E Own' text kind) → Says kind (Rejects text shelf 0 kind)
  rejects_last kind r = says kind (of_causes (λ c q. of_program all_given q) kind) r

  pub loads_last : (F : Environment) (e : Expr) (T : Typ) → IsProgramTaken E text F e T → Loads text shelf F e T
  loads_last F e T t = record { front = E; shelved = all_given; tree = t.tree; part = t.part; entries = t.entries; main = t.main; typed = t.typed }

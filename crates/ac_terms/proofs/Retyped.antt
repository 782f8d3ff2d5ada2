-- A packet with other types in the places of its own: it is spelled as it was, where types are spelled by what stands for them, and its places have the other types.
use Rattle.std.proofs.Common.{◌≡◌, refl, sym, ap, ap₂, ◌∙◌, ℕ, suc, List, [], ◌∷◌, ◌++◌, map, flat_map, Option, Some, None, option_to_list}
use Rattle.std.specs.Prelude.{option_map}
use Rattle.std.proofs.lemmas.List.{map-append, length-map}
use Rattle.ac_types.specs.Types.{Bytes, Typ}
use Rattle.ac_types.specs.Sigs.{Typed_name, Sig_type, Signature}
use Rattle.ac_terms.specs.Terms.{Pattern, PWild, PVar, PInt, PBool, PStr, PUnit, PTuple, PNil, PCons, PAbsent, PPresent, PExn, PExnOf, Patterns, no_patterns, pattern', Expr, Int, Boolean, Str, Unit', Exn, ExnOf, Tuple, Nil, Empty, Present, Cons, Var, Own, Ref, Lam, Rec, App, Let, If, Seq, Match, Try, Raise, Prim, Marshal, Unmarshal, Val, Evaluated, Bracket, Exprs, no_exprs, expr, Arms, no_arms, arm, PValue, KInt, KBool, KStr, KUnit, KExn, KTuple, KList, KAbsent, KPresent, KFun, PValues, no_pvalues, pvalue}
use Rattle.ac_terms.specs.Defs.{Field, Module, Import, Def, AModule, AnImport, AMark, Packet}
use Rattle.ac_terms.specs.Parts.{Portion, OfType, pattern_types, all_pattern_types, part_types, term_parts, all_term_parts, arm_parts, value_parts, all_value_parts, sig_types, def_parts}
use Rattle.ac_terms.specs.Pieces.{one_written, two_written, four_written, word, listed, home_bytes, pattern_count, term_count, arm_count, value_count, atom_bytes, constraint_bytes, resolve_bytes}
use Rattle.ac_terms.specs.SpelledBy.{pattern_bytes, all_pattern_bytes, manifest_bytes, sig_type_bytes, typed_bytes, sig_bytes, term_bytes, all_term_bytes, arm_bytes, value_bytes, all_value_bytes, field_bytes, def_bytes, body_bytes}
use Rattle.ac_terms.specs.Tables.{type_places}
use Rattle.ac_terms.specs.Tags as tag
use Rattle.ac_terms.proofs.PartTypes.{types_joined, types_as_parts, field_types, types_in, module_as_parts, import_as_parts, defs_as_parts}

-- other types in the places of a pattern, a term, a packed value
abbrev mutual
  pub pattern_retyped : (Typ → Typ) → Pattern → Pattern
  pattern_retyped h PWild = PWild
  pattern_retyped h (PVar T) = PVar (h T)
  pattern_retyped h (PInt n) = PInt n
  pattern_retyped h (PBool n) = PBool n
  pattern_retyped h (PStr n) = PStr n
  pattern_retyped h PUnit = PUnit
  pattern_retyped h (PTuple ps) = PTuple (patterns_retyped h ps)
  pattern_retyped h PNil = PNil
  pattern_retyped h (PCons p q) = PCons (pattern_retyped h p) (pattern_retyped h q)
  pattern_retyped h PAbsent = PAbsent
  pattern_retyped h (PPresent p) = PPresent (pattern_retyped h p)
  pattern_retyped h (PExn n) = PExn n
  pattern_retyped h (PExnOf n p) = PExnOf n (pattern_retyped h p)

  pub patterns_retyped : (Typ → Typ) → Patterns → Patterns
  patterns_retyped h no_patterns = no_patterns
  patterns_retyped h (pattern' p ps) = pattern' (pattern_retyped h p) (patterns_retyped h ps)

abbrev mutual
  pub retyped : (Typ → Typ) → Expr → Expr
  retyped h (Int n) = Int n
  retyped h (Boolean n) = Boolean n
  retyped h (Str n) = Str n
  retyped h Unit' = Unit'
  retyped h (Exn n) = Exn n
  retyped h (ExnOf n e) = ExnOf n (retyped h e)
  retyped h (Tuple es) = Tuple (all_retyped h es)
  retyped h (Nil T) = Nil (h T)
  retyped h (Empty T) = Empty (h T)
  retyped h (Present e) = Present (retyped h e)
  retyped h (Cons e b) = Cons (retyped h e) (retyped h b)
  retyped h (Var n) = Var n
  retyped h (Own n) = Own n
  retyped h (Ref n m) = Ref n m
  retyped h (Lam T e) = Lam (h T) (retyped h e)
  retyped h (Rec T U e) = Rec (h T) (h U) (retyped h e)
  retyped h (App e b) = App (retyped h e) (retyped h b)
  retyped h (Let T e b) = Let (h T) (retyped h e) (retyped h b)
  retyped h (If e b d) = If (retyped h e) (retyped h b) (retyped h d)
  retyped h (Seq es) = Seq (all_retyped h es)
  retyped h (Match e cases) = Match (retyped h e) (arms_retyped h cases)
  retyped h (Try e cases) = Try (retyped h e) (arms_retyped h cases)
  retyped h (Raise T e) = Raise (h T) (retyped h e)
  retyped h (Prim n es) = Prim n (all_retyped h es)
  retyped h (Marshal T e b) = Marshal (h T) (retyped h e) (retyped h b)
  retyped h (Unmarshal T e) = Unmarshal (h T) (retyped h e)
  retyped h (Val T v) = Val (h T) (value_retyped h v)
  retyped h (Evaluated T n) = Evaluated (h T) n
  retyped h (Bracket n T e) = Bracket n (h T) (retyped h e)

  pub all_retyped : (Typ → Typ) → Exprs → Exprs
  all_retyped h no_exprs = no_exprs
  all_retyped h (expr e es) = expr (retyped h e) (all_retyped h es)

  pub arms_retyped : (Typ → Typ) → Arms → Arms
  arms_retyped h no_arms = no_arms
  arms_retyped h (arm p e rest) = arm (pattern_retyped h p) (retyped h e) (arms_retyped h rest)

  pub value_retyped : (Typ → Typ) → PValue → PValue
  value_retyped h (KInt n) = KInt n
  value_retyped h (KBool n) = KBool n
  value_retyped h (KStr n) = KStr n
  value_retyped h KUnit = KUnit
  value_retyped h (KExn n m) = KExn n m
  value_retyped h (KTuple vs) = KTuple (values_retyped h vs)
  value_retyped h (KList vs) = KList (values_retyped h vs)
  value_retyped h KAbsent = KAbsent
  value_retyped h (KPresent v) = KPresent (value_retyped h v)
  value_retyped h (KFun n e) = KFun n (retyped h e)

  pub values_retyped : (Typ → Typ) → PValues → PValues
  values_retyped h no_pvalues = no_pvalues
  values_retyped h (pvalue v vs) = pvalue (value_retyped h v) (values_retyped h vs)

-- and of a signature, a definition, a packet
abbrev pub sig_type_retyped : (Typ → Typ) → Sig_type → Sig_type
sig_type_retyped h t = record { name = t.name; manifest = option_map h t.manifest }

abbrev pub typed_retyped : (Typ → Typ) → Typed_name → Typed_name
typed_retyped h x = record { name = x.name; ty = h x.ty }

abbrev pub sig_retyped : (Typ → Typ) → Signature → Signature
sig_retyped h s = record { types = map (sig_type_retyped h) s.types; vals = map (typed_retyped h) s.vals }

abbrev pub field_retyped : (Typ → Typ) → Field → Field
field_retyped h f = record { name = f.name; ty = h f.ty; term = retyped h f.term }

abbrev pub def_retyped : (Typ → Typ) → Def → Def
def_retyped h (AModule m) = AModule (record m { sig = sig_retyped h m.sig; types = map (typed_retyped h) m.types; fields = map (field_retyped h) m.fields })
def_retyped h (AnImport i) = AnImport (record i { sig = sig_retyped h i.sig; like = map (typed_retyped h) i.like })
def_retyped h (AMark t) = AMark t

abbrev pub packet_retyped : (Typ → Typ) → Packet → Packet
packet_retyped h p = record { defs = map (def_retyped h) p.defs; ty = h p.ty; value = value_retyped h p.value }

module _ (h : Typ → Typ) where
  pub patterns_counted : (ps : Patterns) → pattern_count (patterns_retyped h ps) ≡ pattern_count ps
  patterns_counted no_patterns = refl
  patterns_counted (pattern' p ps) = ap suc (patterns_counted ps)

  pub terms_counted : (es : Exprs) → term_count (all_retyped h es) ≡ term_count es
  terms_counted no_exprs = refl
  terms_counted (expr e es) = ap suc (terms_counted es)

  pub arms_counted : (cases : Arms) → arm_count (arms_retyped h cases) ≡ arm_count cases
  arms_counted no_arms = refl
  arms_counted (arm p e rest) = ap suc (arms_counted rest)

  pub values_counted : (vs : PValues) → value_count (values_retyped h vs) ≡ value_count vs
  values_counted no_pvalues = refl
  values_counted (pvalue v vs) = ap suc (values_counted vs)

  -- what stands there is spelled as the other type is
  module _ (f : Typ → Bytes) where
    abbrev g : Typ → Bytes
    g T = f (h T)

    mutual
      pattern_spelled : (p : Pattern) → pattern_bytes f (pattern_retyped h p) ≡ pattern_bytes g p
      pattern_spelled PWild = refl
      pattern_spelled (PVar T) = refl
      pattern_spelled (PInt n) = refl
      pattern_spelled (PBool n) = refl
      pattern_spelled (PStr n) = refl
      pattern_spelled PUnit = refl
      pattern_spelled (PTuple ps) = ap₂ (λ n bs. tag.pattern_tuple ∷ one_written n ++ bs) (patterns_counted ps) (patterns_spelled ps)
      pattern_spelled PNil = refl
      pattern_spelled (PCons p q) = ap₂ (λ x y. tag.pattern_cons ∷ x ++ y) (pattern_spelled p) (pattern_spelled q)
      pattern_spelled PAbsent = refl
      pattern_spelled (PPresent p) = ap (λ x. tag.pattern_present ∷ x) (pattern_spelled p)
      pattern_spelled (PExn n) = refl
      pattern_spelled (PExnOf n p) = ap (λ x. tag.pattern_exn ∷ n ∷ x) (pattern_spelled p)

      patterns_spelled : (ps : Patterns) → all_pattern_bytes f (patterns_retyped h ps) ≡ all_pattern_bytes g ps
      patterns_spelled no_patterns = refl
      patterns_spelled (pattern' p ps) = ap₂ (λ x y. x ++ y) (pattern_spelled p) (patterns_spelled ps)

    module _ (ref : ℕ → Bytes) where
      mutual
        pub term_spelled : (e : Expr) → term_bytes f ref (retyped h e) ≡ term_bytes g ref e
        term_spelled (Int n) = refl
        term_spelled (Boolean n) = refl
        term_spelled (Str n) = refl
        term_spelled Unit' = refl
        term_spelled (Exn n) = refl
        term_spelled (ExnOf n e) = ap (λ x. tag.term_exn ∷ n ∷ x) (term_spelled e)
        term_spelled (Tuple es) = ap₂ (λ n bs. tag.term_tuple ∷ one_written n ++ bs) (terms_counted es) (terms_spelled es)
        term_spelled (Nil T) = refl
        term_spelled (Empty T) = refl
        term_spelled (Present e) = ap (λ x. tag.term_present ∷ x) (term_spelled e)
        term_spelled (Cons e b) = ap₂ (λ x y. tag.term_cons ∷ x ++ y) (term_spelled e) (term_spelled b)
        term_spelled (Var n) = refl
        term_spelled (Own n) = refl
        term_spelled (Ref n m) = refl
        term_spelled (Lam T e) = ap (λ x. tag.term_lam ∷ g T ++ x) (term_spelled e)
        term_spelled (Rec T U e) = ap (λ x. tag.term_rec ∷ g T ++ g U ++ x) (term_spelled e)
        term_spelled (App e b) = ap₂ (λ x y. tag.term_app ∷ x ++ y) (term_spelled e) (term_spelled b)
        term_spelled (Let T e b) = ap₂ (λ x y. tag.term_let ∷ g T ++ x ++ y) (term_spelled e) (term_spelled b)
        term_spelled (If e b d) = ap₂ (λ x y. tag.term_if ∷ x ++ y) (ap₂ (λ x y. x ++ y) (term_spelled e) (term_spelled b)) (term_spelled d)
        term_spelled (Seq es) = ap₂ (λ n bs. tag.term_seq ∷ four_written n ++ bs) (terms_counted es) (terms_spelled es)
        term_spelled (Match e cases) = ap₂ (λ x y. tag.term_match ∷ x ++ y) (ap₂ (λ x n. x ++ two_written n) (term_spelled e) (arms_counted cases)) (arms_spelled cases)
        term_spelled (Try e cases) = ap₂ (λ x y. tag.term_try ∷ x ++ y) (ap₂ (λ x n. x ++ two_written n) (term_spelled e) (arms_counted cases)) (arms_spelled cases)
        term_spelled (Raise T e) = ap (λ x. tag.term_raise ∷ g T ++ x) (term_spelled e)
        term_spelled (Prim n es) = ap (λ x. tag.term_prim ∷ n ∷ x) (terms_spelled es)
        term_spelled (Marshal T e b) = ap₂ (λ x y. tag.term_marshal ∷ g T ++ x ++ y) (term_spelled e) (term_spelled b)
        term_spelled (Unmarshal T e) = ap (λ x. tag.term_unmarshal ∷ g T ++ x) (term_spelled e)
        term_spelled (Val T v) = ap (λ x. tag.term_val ∷ g T ++ x) (value_spelled v)
        term_spelled (Evaluated T n) = refl
        term_spelled (Bracket n T e) = refl

        terms_spelled : (es : Exprs) → all_term_bytes f ref (all_retyped h es) ≡ all_term_bytes g ref es
        terms_spelled no_exprs = refl
        terms_spelled (expr e es) = ap₂ (λ x y. x ++ y) (term_spelled e) (terms_spelled es)

        arms_spelled : (cases : Arms) → arm_bytes f ref (arms_retyped h cases) ≡ arm_bytes g ref cases
        arms_spelled no_arms = refl
        arms_spelled (arm p e rest) = ap₂ (λ x y. x ++ y) (ap₂ (λ x y. x ++ y) (pattern_spelled p) (term_spelled e)) (arms_spelled rest)

        pub value_spelled : (v : PValue) → value_bytes f ref (value_retyped h v) ≡ value_bytes g ref v
        value_spelled (KInt n) = refl
        value_spelled (KBool n) = refl
        value_spelled (KStr n) = refl
        value_spelled KUnit = refl
        value_spelled (KExn n m) = refl
        value_spelled (KTuple vs) = ap₂ (λ n bs. tag.value_tuple ∷ one_written n ++ bs) (values_counted vs) (values_spelled vs)
        value_spelled (KList vs) = ap₂ (λ n bs. tag.value_list ∷ four_written n ++ bs) (values_counted vs) (values_spelled vs)
        value_spelled KAbsent = refl
        value_spelled (KPresent v) = ap (λ x. tag.value_present ∷ x) (value_spelled v)
        value_spelled (KFun n e) = ap (λ x. tag.value_fun ∷ home_bytes n ++ x) (term_spelled e)

        values_spelled : (vs : PValues) → all_value_bytes f ref (values_retyped h vs) ≡ all_value_bytes g ref vs
        values_spelled no_pvalues = refl
        values_spelled (pvalue v vs) = ap₂ (λ x y. x ++ y) (value_spelled v) (values_spelled vs)

    -- a list of changed items
    items_spelled : {A : Type 0} (change : A → A) (item item' : A → Bytes) → ((x : A) → item (change x) ≡ item' x) → (xs : List A) → flat_map item (map change xs) ≡ flat_map item' xs
    items_spelled change item item' one [] = refl
    items_spelled change item item' one (x ∷ xs) = ap₂ (λ a b. a ++ b) (one x) (items_spelled change item item' one xs)

    list_spelled : {A : Type 0} (number : ℕ → Bytes) (change : A → A) (item item' : A → Bytes) → ((x : A) → item (change x) ≡ item' x) → (xs : List A) → listed number item (map change xs) ≡ listed number item' xs
    list_spelled number change item item' one xs = ap₂ (λ n bs. number n ++ bs) (length-map xs change) (items_spelled change item item' one xs)

    manifest_spelled : (o : Option Typ) → manifest_bytes f (option_map h o) ≡ manifest_bytes g o
    manifest_spelled None = refl
    manifest_spelled (Some T) = refl

    sig_spelled : (s : Signature) → sig_bytes f (sig_retyped h s) ≡ sig_bytes g s
    sig_spelled s =
        ap₂ (λ x y. x ++ y)
        (list_spelled two_written (sig_type_retyped h) (sig_type_bytes f) (sig_type_bytes g) (λ t. ap (λ x. word t.name ++ x) (manifest_spelled t.manifest)) s.types)
        (list_spelled two_written (typed_retyped h) (typed_bytes f) (typed_bytes g) (λ x. refl) s.vals)

    typed_spelled : (xs : List Typed_name) → listed two_written (typed_bytes f) (map (typed_retyped h) xs) ≡ listed two_written (typed_bytes g) xs
    typed_spelled xs = list_spelled two_written (typed_retyped h) (typed_bytes f) (typed_bytes g) (λ x. refl) xs

    field_spelled : (x : Field) → field_bytes f two_written (field_retyped h x) ≡ field_bytes g two_written x
    field_spelled x = ap (λ y. word x.name ++ g x.ty ++ y) (term_spelled two_written x.term)

    def_spelled : (d : Def) → def_bytes f (def_retyped h d) ≡ def_bytes g d
    def_spelled (AModule m) =
        ap₂ (λ x y. tag.def_module ∷ x ++ y)
        (ap₂ (λ x y. (word m.name ++ listed one_written atom_bytes m.version) ++ x ++ y) (sig_spelled m.sig) (typed_spelled m.types))
        (list_spelled two_written (field_retyped h) (field_bytes f two_written) (field_bytes g two_written) field_spelled m.fields)
    def_spelled (AnImport i) =
        ap₂ (λ x y. tag.def_import ∷ (word i.name ++ x ++ constraint_bytes i.constraint ++ y) ++ listed one_written resolve_bytes i.by) (sig_spelled i.sig) (typed_spelled i.like)
    def_spelled (AMark t) = refl

    pub body_spelled : (p : Packet) → body_bytes f (packet_retyped h p) ≡ body_bytes g p
    body_spelled p =
        ap₂ (λ x y. x ++ g p.ty ++ y) (list_spelled two_written (def_retyped h) (def_bytes f) (def_bytes g) def_spelled p.defs) (value_spelled two_written p.value)

  -- and its places have the other types
  mutual
    pattern_placed : (p : Pattern) → pattern_types (pattern_retyped h p) ≡ map h (pattern_types p)
    pattern_placed PWild = refl
    pattern_placed (PVar T) = refl
    pattern_placed (PInt n) = refl
    pattern_placed (PBool n) = refl
    pattern_placed (PStr n) = refl
    pattern_placed PUnit = refl
    pattern_placed (PTuple ps) = patterns_placed ps
    pattern_placed PNil = refl
    pattern_placed (PCons p q) = ap₂ (λ x y. x ++ y) (pattern_placed p) (pattern_placed q) ∙ sym (map-append h (pattern_types p) (pattern_types q))
    pattern_placed PAbsent = refl
    pattern_placed (PPresent p) = pattern_placed p
    pattern_placed (PExn n) = refl
    pattern_placed (PExnOf n p) = pattern_placed p

    patterns_placed : (ps : Patterns) → all_pattern_types (patterns_retyped h ps) ≡ map h (all_pattern_types ps)
    patterns_placed no_patterns = refl
    patterns_placed (pattern' p ps) = ap₂ (λ x y. x ++ y) (pattern_placed p) (patterns_placed ps) ∙ sym (map-append h (pattern_types p) (all_pattern_types ps))

  -- the types of two lists of parts, one after the other
  abbrev Placed : List Portion → List Portion → Type 0
  Placed ps qs = part_types ps ≡ map h (part_types qs)

  both_placed : (ps ps' qs qs' : List Portion) → Placed ps ps' → Placed qs qs' → Placed (ps ++ qs) (ps' ++ qs')
  both_placed ps ps' qs qs' a b =
      types_joined ps qs ∙ ap₂ (λ x y. x ++ y) a b ∙ sym (map-append h (part_types ps') (part_types qs')) ∙ ap (map h) (sym (types_joined ps' qs'))

  pattern_parts : (p : Pattern) → Placed (map OfType (pattern_types (pattern_retyped h p))) (map OfType (pattern_types p))
  pattern_parts p = types_as_parts (pattern_types (pattern_retyped h p)) ∙ pattern_placed p ∙ ap (map h) (sym (types_as_parts (pattern_types p)))

  abbrev tp : Expr → List Portion
  tp e = term_parts e

  abbrev tq : Expr → List Portion
  tq e = term_parts (retyped h e)

  mutual
    pub term_placed : (e : Expr) → Placed (term_parts (retyped h e)) (term_parts e)
    term_placed (Int n) = refl
    term_placed (Boolean n) = refl
    term_placed (Str n) = refl
    term_placed Unit' = refl
    term_placed (Exn n) = refl
    term_placed (ExnOf n e) = term_placed e
    term_placed (Tuple es) = terms_placed es
    term_placed (Nil T) = refl
    term_placed (Empty T) = refl
    term_placed (Present e) = term_placed e
    term_placed (Cons e b) = both_placed (tq e) (tp e) (tq b) (tp b) (term_placed e) (term_placed b)
    term_placed (Var n) = refl
    term_placed (Own n) = refl
    term_placed (Ref n m) = refl
    term_placed (Lam T e) = ap (λ x. h T ∷ x) (term_placed e)
    term_placed (Rec T U e) = ap (λ x. h T ∷ x) (ap (λ x. h U ∷ x) (term_placed e))
    term_placed (App e b) = both_placed (tq e) (tp e) (tq b) (tp b) (term_placed e) (term_placed b)
    term_placed (Let T e b) = ap (λ x. h T ∷ x) (both_placed (tq e) (tp e) (tq b) (tp b) (term_placed e) (term_placed b))
    term_placed (If e b d) = both_placed (tq e ++ tq b) (tp e ++ tp b) (tq d) (tp d) (both_placed (tq e) (tp e) (tq b) (tp b) (term_placed e) (term_placed b)) (term_placed d)
    term_placed (Seq es) = terms_placed es
    term_placed (Match e cases) = both_placed (tq e) (tp e) (arm_parts (arms_retyped h cases)) (arm_parts cases) (term_placed e) (arms_placed cases)
    term_placed (Try e cases) = both_placed (tq e) (tp e) (arm_parts (arms_retyped h cases)) (arm_parts cases) (term_placed e) (arms_placed cases)
    term_placed (Raise T e) = ap (λ x. h T ∷ x) (term_placed e)
    term_placed (Prim n es) = terms_placed es
    term_placed (Marshal T e b) = ap (λ x. h T ∷ x) (both_placed (tq e) (tp e) (tq b) (tp b) (term_placed e) (term_placed b))
    term_placed (Unmarshal T e) = ap (λ x. h T ∷ x) (term_placed e)
    term_placed (Val T v) = ap (λ x. h T ∷ x) (value_placed v)
    term_placed (Evaluated T n) = refl
    term_placed (Bracket n T e) = ap (λ x. h T ∷ x) (term_placed e)

    terms_placed : (es : Exprs) → Placed (all_term_parts (all_retyped h es)) (all_term_parts es)
    terms_placed no_exprs = refl
    terms_placed (expr e es) = both_placed (tq e) (tp e) (all_term_parts (all_retyped h es)) (all_term_parts es) (term_placed e) (terms_placed es)

    arms_placed : (cases : Arms) → Placed (arm_parts (arms_retyped h cases)) (arm_parts cases)
    arms_placed no_arms = refl
    arms_placed (arm p e rest) =
        let Us = map OfType (pattern_types (pattern_retyped h p)) in
        let Ts = map OfType (pattern_types p) in
        both_placed (Us ++ tq e) (Ts ++ tp e) (arm_parts (arms_retyped h rest)) (arm_parts rest) (both_placed Us Ts (tq e) (tp e) (pattern_parts p) (term_placed e)) (arms_placed rest)

    pub value_placed : (v : PValue) → Placed (value_parts (value_retyped h v)) (value_parts v)
    value_placed (KInt n) = refl
    value_placed (KBool n) = refl
    value_placed (KStr n) = refl
    value_placed KUnit = refl
    value_placed (KExn n m) = refl
    value_placed (KTuple vs) = values_placed vs
    value_placed (KList vs) = values_placed vs
    value_placed KAbsent = refl
    value_placed (KPresent v) = value_placed v
    value_placed (KFun n e) = term_placed e

    values_placed : (vs : PValues) → Placed (all_value_parts (values_retyped h vs)) (all_value_parts vs)
    values_placed no_pvalues = refl
    values_placed (pvalue v vs) = both_placed (value_parts (value_retyped h v)) (value_parts v) (all_value_parts (values_retyped h vs)) (all_value_parts vs) (value_placed v) (values_placed vs)

  -- of lists of items
  flat_placed : {A : Type 0} (change : A → A) (types : A → List Typ) → ((x : A) → types (change x) ≡ map h (types x)) → (xs : List A) → flat_map types (map change xs) ≡ map h (flat_map types xs)
  flat_placed change types one [] = refl
  flat_placed change types one (x ∷ xs) = ap₂ (λ a b. a ++ b) (one x) (flat_placed change types one xs) ∙ sym (map-append h (types x) (flat_map types xs))

  abbrev ty_of : Typed_name → Typ
  ty_of x = x.ty

  typed_placed : (xs : List Typed_name) → map ty_of (map (typed_retyped h) xs) ≡ map h (map ty_of xs)
  typed_placed [] = refl
  typed_placed (x ∷ xs) = ap (λ Ts. h x.ty ∷ Ts) (typed_placed xs)

  manifest_placed : (o : Option Typ) → option_to_list (option_map h o) ≡ map h (option_to_list o)
  manifest_placed None = refl
  manifest_placed (Some T) = refl

  sig_placed : (s : Signature) → sig_types (sig_retyped h s) ≡ map h (sig_types s)
  sig_placed s =
      let manifests = λ (t : Sig_type). option_to_list t.manifest in
      ap₂ (λ a b. a ++ b) (flat_placed (sig_type_retyped h) manifests (λ t. manifest_placed t.manifest) s.types) (typed_placed s.vals) ∙ sym (map-append h (flat_map manifests s.types) (map ty_of s.vals))

  shown_placed : (s : Signature) (xs : List Typed_name) → sig_types (sig_retyped h s) ++ map ty_of (map (typed_retyped h) xs) ≡ map h (sig_types s ++ map ty_of xs)
  shown_placed s xs = ap₂ (λ a b. a ++ b) (sig_placed s) (typed_placed xs) ∙ sym (map-append h (sig_types s) (map ty_of xs))

  field_placed : (f : Field) → field_types (field_retyped h f) ≡ map h (field_types f)
  field_placed f = ap (λ x. h f.ty ∷ x) (term_placed f.term)

  pub def_placed : (d : Def) → types_in (def_retyped h d) ≡ map h (types_in d)
  def_placed (AModule m) =
      let n : Module = record m { sig = sig_retyped h m.sig; types = map (typed_retyped h) m.types; fields = map (field_retyped h) m.fields } in
      module_as_parts n ∙ ap₂ (λ a b. a ++ b) (shown_placed m.sig m.types) (flat_placed (field_retyped h) field_types field_placed m.fields) ∙
      sym (map-append h (sig_types m.sig ++ map ty_of m.types) (flat_map field_types m.fields)) ∙ ap (map h) (sym (module_as_parts m))
  def_placed (AnImport i) =
      let j : Import = record i { sig = sig_retyped h i.sig; like = map (typed_retyped h) i.like } in
      import_as_parts j ∙ shown_placed i.sig i.like ∙ ap (map h) (sym (import_as_parts i))
  def_placed (AMark t) = refl

  pub packet_placed : (p : Packet) → type_places (packet_retyped h p) ≡ map h (type_places p)
  packet_placed p =
      both_placed (flat_map def_parts (map (def_retyped h) p.defs)) (flat_map def_parts p.defs) (OfType (h p.ty) ∷ value_parts (value_retyped h p.value)) (OfType p.ty ∷ value_parts p.value)
      (defs_as_parts (map (def_retyped h) p.defs) ∙ flat_placed (def_retyped h) types_in def_placed p.defs ∙ ap (map h) (sym (defs_as_parts p.defs)))
      (ap (λ x. h p.ty ∷ x) (value_placed p.value))

-- The steps of the parsers of imports, over lists of signs.
use Rattle.std.proofs.Common.{◌≡◌, ℕ, Bool, List, [], ◌∷◌, ◌++◌, Option, Some, None, refl, sym, ◌∙◌, ap, subst, append_assoc}
use Rattle.ac_types.specs.Sigs.{Range, Constraint, Ranges, Exact, Resolve}
use Rattle.ac_version.specs.declared.read.VToken.{VToken}
use Rattle.ac_version.specs.VersionReading.{RangeAt, Ranged, last_range, starred_range, more_ranges, IsConstraint, ranged, ReadsConstraint}
use Rattle.ac_syntax.specs.Signs.{Sign, Upper, Fixed}
use Rattle.ac_syntax.specs.Trees.{NameAt, AbbrevTree, SigTree, WantsTree, WantsVersion, WantsName, DefTree, ImportDef}
use Rattle.ac_syntax.specs.Programs.{IsSig, ParsesAbbrevs, VTokens, no_vtokens, vtoken_, ParsesLike, no_like, like, resolve_sign, ParsesResolve, last_resolve, more_resolve, ParsesDef, import_version, import_name, placed_name}
use Rattle.ac_syntax.specs.PartParsing.{SymbolAt, NoSymbol}
use Rattle.ac_syntax.specs.declared.sign.Symbol.TheVariants.{By, Comma, Equals, Import, Like, NameWord, Struct, Version}
use Rattle.ac_syntax.proofs.Exceptions.{nothing_there, same_value}
use Rattle.ac_syntax.proofs.UniqueTypes.{tail_eq}
use Rattle.ac_parser.specs.inner.ProgramParsing.{UpperAt, OnlyRead, NoRead, Anything, NoComma, NoVToken, StructOf, HeadAt, ConstraintAt, LikeAt, NameWanted, DemandAt, by_version, by_name, ResolveAt, NoResolve}
use Rattle.ac_syntax.proofs.Depth.{head_eq}
use Rattle.ac_parser.proofs.Fronts.{upper_eq, name_eq}
use Rattle.ac_parser.proofs.VersionSteps.{nothing_is_none, first_no_vtoken}

-- likespecs

like_at : {r s t : List Sign} {a : Option (List AbbrevTree)} → r ≡ s → LikeAt s a t → LikeAt r a t
like_at {r} {s} {t} {a} e p = subst (λ (u : List Sign). LikeAt u a t) (sym e) p

abbrevs_to : {r s t : List Sign} {a : List AbbrevTree} → s ≡ t → ParsesAbbrevs r a t → ParsesAbbrevs r a s
abbrevs_to {r} {s} {t} {a} e p = subst (λ (u : List Sign). ParsesAbbrevs r a u) (sym e) p

-- a likespec is none, or its abbreviations
data LikeIs (ts : List Sign) (b : Option (List AbbrevTree)) (by : ℕ) (rest : List Sign) : Type 0 where
  absent : ts ≡ Fixed by By ∷ rest → b ≡ None → LikeIs ts b by rest
  present : (a c : ℕ) (us : List Sign) (abbrevs : List AbbrevTree) → ts ≡ Fixed a Like ∷ Fixed c Struct ∷ us → b ≡ Some abbrevs → ParsesAbbrevs us abbrevs (Fixed by By ∷ rest) → LikeIs ts b by rest

like_parts : {ts rest : List Sign} {b : Option (List AbbrevTree)} {by : ℕ} → ParsesLike ts b (Fixed by By ∷ rest) → LikeIs ts b by rest
like_parts no_like = absent refl refl
like_parts (like {a = a} {b = c} {abbrevs = abbrevs} {ts = us} p) = present a c us abbrevs refl refl p

by_is_no_like : {P : Type 0} {a b : ℕ} {r s : List Sign} → Fixed a By ∷ r ≡ Fixed b Like ∷ s → P
by_is_no_like e = cc

absent_only : {ts us rest : List Sign} {b : Option (List AbbrevTree)} {by : ℕ} → SymbolAt By ts us → LikeIs ts b by rest → (b ≡ None) × (rest ≡ us)
absent_only s (absent is none) = (none, tail_eq (sym is ∙ s.is))
absent_only s (present a c us abbrevs is some p) = by_is_no_like (sym s.is ∙ is)

module _ (ts : List Sign) where
  pub no_likespec : (rest : List Sign) → SymbolAt By ts rest → OnlyRead LikeAt Anything ts None rest
  no_likespec rest s = record {
    reads = like_at s.is (record { by = s.at; parses = no_like });
    only = λ b other x next. absent_only s (like_parts x.parses);
  }

  like_word_none : {rest : List Sign} {b : Option (List AbbrevTree)} {by : ℕ} → NoSymbol By ts → NoSymbol Like ts → LikeIs ts b by rest → ⊥
  like_word_none n m (absent is none) = n _ (record { at = _; is = is })
  like_word_none n m (present a c us abbrevs is some p) = m _ (record { at = a; is = is })

  pub no_like_word : NoSymbol By ts → NoSymbol Like ts → NoRead LikeAt Anything ts
  no_like_word n m b rest x next = like_word_none n m (like_parts x.parses)

  module _ (behind : List Sign) (l : SymbolAt Like ts behind) where
    inside : {P : Type 0} {rest : List Sign} {b : Option (List AbbrevTree)} {by : ℕ} → LikeIs ts b by rest → ((abbrevs : List AbbrevTree) → b ≡ Some abbrevs → StructOf ParsesAbbrevs behind abbrevs (Fixed by By ∷ rest) → P) → P
    inside (absent is none) f = by_is_no_like (sym is ∙ l.is)
    inside (present a c us abbrevs is some p) f = f abbrevs some (record { inner = us; struct = c; is = tail_eq (sym l.is ∙ is); reads = p })

    pub no_abbrevs_there : NoRead (StructOf ParsesAbbrevs) Anything behind → NoRead LikeAt Anything ts
    no_abbrevs_there none b rest x next = inside (like_parts x.parses) (λ abbrevs some p. none abbrevs _ p tt)

    module _ (abbrevs : List AbbrevTree) (later : List Sign) (o : OnlyRead (StructOf ParsesAbbrevs) Anything behind abbrevs later) where
      pub no_by : NoSymbol By later → NoRead LikeAt Anything ts
      no_by none b rest x next = inside (like_parts x.parses) (λ others some p. none rest (record { at = x.by; is = sym (o.only others _ p tt).1 }))

      pub likespec_read : (rest : List Sign) → SymbolAt By later rest → OnlyRead LikeAt Anything ts (Some abbrevs) rest
      likespec_read rest y = record {
        reads = like_at (l.is ∙ ap (λ (u : List Sign). Fixed l.at Like ∷ u) o.reads.is) (record { by = y.at; parses = like (abbrevs_to (sym y.is) o.reads.reads) });
        only = λ b other x next. inside (like_parts x.parses) (λ others some p.
            let i = o.only others _ p tt in
            (some ∙ ap Some i.0, tail_eq (i.1 ∙ y.is)));
      }

like_is_no_vtoken : {ts rest : List Sign} {b : Option (List AbbrevTree)} {by : ℕ} → LikeIs ts b by rest → NoVToken ts
like_is_no_vtoken (absent is none) = first_no_vtoken _ _ _ is refl
like_is_no_vtoken (present a c us abbrevs is some p) = first_no_vtoken _ _ _ is refl

-- imports by name

wanted_at : {r s t : List Sign} {n : NameAt} → r ≡ s → NameWanted s n t → NameWanted r n t
wanted_at {r} {s} {t} {n} e p = subst (λ (u : List Sign). NameWanted u n t) (sym e) p

same_wanted : {ts r s : List Sign} {n m : NameAt} → NameWanted ts n r → NameWanted ts m s → (n ≡ m) × (r ≡ s)
same_wanted {n = n} {m = m} x y =
    let e = sym x.is ∙ y.is in
    (name_eq n m (upper_eq (tail_eq (tail_eq e))), tail_eq (tail_eq (tail_eq (tail_eq e))))

module _ (a : ℕ) (ts : List Sign) where
  pub unequal : NoSymbol Equals ts → NoRead NameWanted Anything (Fixed a NameWord ∷ ts)
  unequal none n rest x next = none _ (record { at = x.equals; is = tail_eq x.is })

  module _ (behind : List Sign) (e : SymbolAt Equals ts behind) where
    module _ (name : NameAt) (later : List Sign) (at : UpperAt name behind later) where
      named : ts ≡ Fixed e.at Equals ∷ Upper name.at name.word ∷ later
      named = e.is ∙ ap (λ (l : List Sign). Fixed e.at Equals ∷ l) at

      pub no_by_there : NoSymbol By later → NoRead NameWanted Anything (Fixed a NameWord ∷ ts)
      no_by_there none n rest x next = none rest (record { at = x.by; is = tail_eq (tail_eq (sym named ∙ tail_eq x.is)) })

      pub name_wanted : (rest : List Sign) → SymbolAt By later rest → NameWanted (Fixed a NameWord ∷ ts) name rest
      name_wanted rest y = record {
        word = a;
        equals = e.at;
        by = y.at;
        is = ap (λ (l : List Sign). Fixed a NameWord ∷ l) (named ∙ ap (λ (l : List Sign). Fixed e.at Equals ∷ Upper name.at name.word ∷ l) y.is);
      }

-- what an import asks for

nothing_is_no_range : {P : Type 0} {q : Range} {rest : List VToken} → RangeAt [] q rest → P
nothing_is_no_range p = elim p [ ]

nothing_ranged : {P : Type 0} {qs : List Range} {star : Bool} → Ranged [] qs star → P
nothing_ranged (last_range p) = nothing_is_no_range p
nothing_ranged (starred_range p) = nothing_is_no_range p
nothing_ranged (more_ranges p q) = nothing_is_no_range p

nothing_constrains : {P : Type 0} {qs : List Range} {star : Bool} → IsConstraint [] qs star → P
nothing_constrains (ranged p few) = nothing_ranged p

nothing_is_no_constraint : {P : Type 0} (c : Constraint) → ReadsConstraint [] c → P
nothing_is_no_constraint (Ranges r s) p = nothing_constrains p
nothing_is_no_constraint (Exact n) p = absurd p

name_begins_none : {P : Type 0} {a : ℕ} {us rest : List Sign} {vs : List VToken} (c : Constraint) → VTokens (Fixed a NameWord ∷ us) vs rest → ReadsConstraint vs c → P
name_begins_none c no_vtokens is = nothing_is_no_constraint c is
name_begins_none c (vtoken_ e p) is = nothing_there e

name_no_constraint : {P : Type 0} {a : ℕ} {us rest : List Sign} {c : Constraint} → ConstraintAt (Fixed a NameWord ∷ us) c rest → P
name_no_constraint {c = c} x = name_begins_none c x.tokens x.is

constraint_at : {r s t : List Sign} {a : Constraint} → r ≡ s → ConstraintAt s a t → ConstraintAt r a t
constraint_at {r} {s} {t} {a} e p = subst (λ (u : List Sign). ConstraintAt u a t) (sym e) p

demand_at : {r s t : List Sign} {a : WantsTree × Option (List AbbrevTree)} → r ≡ s → DemandAt s a t → DemandAt r a t
demand_at {r} {s} {t} {a} e p = subst (λ (u : List Sign). DemandAt u a t) (sym e) p

by_name_only : {a : ℕ} {us ts other : List Sign} {n : NameAt} {rest : List Sign} {b : WantsTree × Option (List AbbrevTree)} → ts ≡ Fixed a NameWord ∷ us → NameWanted ts n rest → DemandAt ts b other → (b ≡ (WantsName n, None)) × (other ≡ rest)
by_name_only is x (by_version c l) = name_no_constraint (constraint_at (sym is) c)
by_name_only is x (by_name y) = let s = same_wanted y x in (ap (λ (m : NameAt). (WantsName m, None)) s.0, s.1)

unwanted : {a : ℕ} {us ts other : List Sign} {b : WantsTree × Option (List AbbrevTree)} → ts ≡ Fixed a NameWord ∷ us → NoRead NameWanted Anything ts → DemandAt ts b other → ⊥
unwanted is none (by_version c l) = name_no_constraint (constraint_at (sym is) c)
unwanted is none (by_name {name = n} y) = none n _ y tt

by_version_only : {P : Type 0} {ts other : List Sign} {b : WantsTree × Option (List AbbrevTree)} → NoSymbol NameWord ts → DemandAt ts b other → ((c : Constraint) (r : List Sign) (spec : Option (List AbbrevTree)) → b ≡ (WantsVersion c, spec) → ConstraintAt ts c r → LikeAt r spec other → P) → P
by_version_only none (by_version {constraint = c} {like = spec} {r = r} p l) f = f c r spec refl p l
by_version_only none (by_name y) f = absurd (none _ (record { at = y.word; is = y.is }))

module _ (ts : List Sign) where
  module _ (us : List Sign) (w : SymbolAt NameWord ts us) where
    pub demand_name : (name : NameAt) (rest : List Sign) → ((a : ℕ) → NameWanted (Fixed a NameWord ∷ us) name rest) → OnlyRead DemandAt Anything ts (WantsName name, None) rest
    demand_name name rest x =
        let y = wanted_at w.is (x w.at) in
        record { reads = by_name y; only = λ b other d next. by_name_only w.is y d }

    pub no_demand_name : ((a : ℕ) → NoRead NameWanted Anything (Fixed a NameWord ∷ us)) → NoRead DemandAt Anything ts
    no_demand_name none b other d next = unwanted w.is (λ n rest x next. none w.at n rest (wanted_at (sym w.is) x) tt) d

  module _ (none_named : NoSymbol NameWord ts) where
    pub no_constraint : NoRead ConstraintAt NoVToken ts → NoRead DemandAt Anything ts
    no_constraint none b other d next = by_version_only none_named d (λ c r spec is p l. none c r p (like_is_no_vtoken (like_parts l.parses)))

    module _ (c : Constraint) (behind : List Sign) (o : OnlyRead ConstraintAt NoVToken ts c behind) where
      pub no_like_there : NoRead LikeAt Anything behind → NoRead DemandAt Anything ts
      no_like_there none b other d next = by_version_only none_named d (λ e r spec is p l.
          let i = o.only e r p (like_is_no_vtoken (like_parts l.parses)) in
          none spec other (like_at (sym i.1) l) tt)

      pub demand_version : (spec : Option (List AbbrevTree)) (rest : List Sign) → OnlyRead LikeAt Anything behind spec rest → OnlyRead DemandAt Anything ts (WantsVersion c, spec) rest
      demand_version spec rest m = record {
        reads = by_version o.reads m.reads;
        only = λ b other d next. by_version_only none_named d (λ e r others is p l.
            let i = o.only e r p (like_is_no_vtoken (like_parts l.parses)) in
            let j = m.only others other (like_at (sym i.1) l) tt in
            (let x = i.0 in let y = j.0 in cc, j.1));
      }

-- where an import looks

pub nowhere : (ts : List Sign) → ts ≡ [] → NoResolve ts
nowhere ts is place rest x = nothing_is_none (sym is ∙ x.is)

pub no_place : (ts rest : List Sign) (t : Sign) → ts ≡ t ∷ rest → resolve_sign t ≡ None → NoResolve ts
no_place ts rest t is none place other x = nothing_there (sym (subst (λ (y : Sign). resolve_sign y ≡ None) (head_eq (sym is ∙ x.is)) none) ∙ x.looks)

pub place_at : (ts rest : List Sign) (t : Sign) (place : Resolve) → ts ≡ t ∷ rest → resolve_sign t ≡ Some place → ResolveAt ts place rest
place_at ts rest t place is e = record { sign = t; is = is; looks = e }

resolves_at : {r s t : List Sign} {a : List Resolve} → r ≡ s → ParsesResolve s a t → ParsesResolve r a t
resolves_at {r} {s} {t} {a} e p = subst (λ (u : List Sign). ParsesResolve u a t) (sym e) p

-- behind the places done the list ends, or goes on behind a comma
data LeftPlaces (done : List Resolve) (rest : List Sign) (places : List Resolve) (end : List Sign) : Type 0 where
  all : places ≡ done → end ≡ rest → LeftPlaces done rest places end
  others : (comma : ℕ) (behind : List Sign) (more : List Resolve) → rest ≡ Fixed comma Comma ∷ behind → places ≡ done ++ more → ParsesResolve behind more end → LeftPlaces done rest places end

pub record PlacesSoFar (ts : List Sign) (done : List Resolve) (rest : List Sign) : Type 0 where
  last : ParsesResolve ts done rest
  back : (behind : List Sign) (more : List Resolve) (end : List Sign) → SymbolAt Comma rest behind → ParsesResolve behind more end → ParsesResolve ts (done ++ more) end
  forth : (places : List Resolve) (end : List Sign) → ParsesResolve ts places end → NoComma end → LeftPlaces done rest places end

same_place : {t u : Sign} {a b : Resolve} {r s : List Sign} → t ∷ r ≡ u ∷ s → resolve_sign t ≡ Some a → resolve_sign u ≡ Some b → a ≡ b
same_place {b = b} is e f = same_value e (subst (λ (y : Sign). resolve_sign y ≡ Some b) (sym (head_eq is)) f)

first_forth : {ts rest end : List Sign} {place : Resolve} {places : List Resolve} → ResolveAt ts place rest → ParsesResolve ts places end → LeftPlaces (place ∷ []) rest places end
first_forth x (last_resolve e) = all (ap (λ (r : Resolve). r ∷ []) (same_place x.is e x.looks)) (tail_eq x.is)
first_forth x (more_resolve {rest = more} {b = b} {ts = behind} e p) = others b behind more (sym (tail_eq x.is)) (ap (λ (r : Resolve). r ∷ more) (same_place x.is e x.looks)) p

pub first_place : (ts rest : List Sign) (place : Resolve) → ResolveAt ts place rest → PlacesSoFar ts (place ∷ []) rest
first_place ts rest place x = record {
  last = resolves_at x.is (last_resolve x.looks);
  back = λ behind more end c p. resolves_at (x.is ∙ ap (λ (l : List Sign). x.sign ∷ l) c.is) (more_resolve x.looks p);
  forth = λ places end p next. first_forth x p;
}

no_first : {ts end : List Sign} {places : List Resolve} → NoResolve ts → ParsesResolve ts places end → ⊥
no_first none (last_resolve {t = t} {a = a} e) = none a _ (record { sign = t; is = refl; looks = e })
no_first none (more_resolve {t = t} {a = a} e p) = none a _ (record { sign = t; is = refl; looks = e })

pub no_first_place : (ts : List Sign) → NoResolve ts → NoRead ParsesResolve NoComma ts
no_first_place ts none places end p next = no_first none p

-- what goes on behind one more place
more_forth : {places : List Resolve} {place : Resolve} {later end : List Sign} (done more : List Resolve) → places ≡ done ++ more → LeftPlaces (place ∷ []) later more end → LeftPlaces (done ++ place ∷ []) later places end
more_forth done more is (all same e) = all (is ∙ ap (λ (l : List Resolve). done ++ l) same) e
more_forth {place = place} done more is (others c behind last e same p) = others c behind last e (is ∙ ap (λ (l : List Resolve). done ++ l) same ∙ sym (append_assoc done (place ∷ []) last)) p

next_forth : {done places : List Resolve} {place : Resolve} {rest behind later end : List Sign} → SymbolAt Comma rest behind → ResolveAt behind place later → NoComma end → LeftPlaces done rest places end → LeftPlaces (done ++ place ∷ []) later places end
next_forth c x next (all same e) = absurd (next _ (record { at = c.at; is = e ∙ c.is }))
next_forth {done = done} c x next (others a us more e same p) = more_forth done more same (first_forth x (resolves_at (tail_eq (sym c.is ∙ e)) p))

stuck_forth : {done places : List Resolve} {rest behind end : List Sign} → SymbolAt Comma rest behind → NoResolve behind → NoComma end → LeftPlaces done rest places end → ⊥
stuck_forth c none next (all same e) = next _ (record { at = c.at; is = e ∙ c.is })
stuck_forth c none next (others a us more e same p) = no_first none (resolves_at (tail_eq (sym c.is ∙ e)) p)

ended_forth : {done places : List Resolve} {rest end : List Sign} → NoComma rest → LeftPlaces done rest places end → (places ≡ done) × (end ≡ rest)
ended_forth none (all same e) = (same, e)
ended_forth none (others a us more e same p) = absurd (none us (record { at = a; is = e }))

module _ (ts : List Sign) (done : List Resolve) (rest : List Sign) (so : PlacesSoFar ts done rest) where
  pub places_read : NoComma rest → OnlyRead ParsesResolve NoComma ts done rest
  places_read none = record { reads = so.last; only = λ places other p next. ended_forth none (so.forth places other p next) }

  module _ (behind : List Sign) (c : SymbolAt Comma rest behind) where
    pub no_place_behind : NoResolve behind → NoRead ParsesResolve NoComma ts
    no_place_behind none places end p next = stuck_forth c none next (so.forth places end p next)

    pub next_place : (place : Resolve) (later : List Sign) → ResolveAt behind place later → PlacesSoFar ts (done ++ place ∷ []) later
    next_place place later x =
        let one = first_place behind later place x in
        record {
          last = so.back behind (place ∷ []) later c one.last;
          back = λ after more end d p. subst (λ (l : List Resolve). ParsesResolve ts l end) (sym (append_assoc done (place ∷ []) more)) (so.back behind (place ∷ more) end c (one.back after more end d p));
          forth = λ places end p next. next_forth c x next (so.forth places end p next);
        }

-- a whole import

record ImportParts (at : ℕ) (ts : List Sign) (d : DefTree) (end : List Sign) : Type 0 where
  head : NameAt × SigTree
  rest : List Sign
  asked : List Sign
  demand : WantsTree × Option (List AbbrevTree)
  behind : List Sign
  places : List Resolve
  titled : HeadAt ts head rest
  version : SymbolAt Version rest asked
  demanded : DemandAt asked demand behind
  looked : ParsesResolve behind places end
  is : d ≡ ImportDef at head.0 head.1 demand.0 demand.1 places

import_parts : {at : ℕ} {ts end : List Sign} {d : DefTree} → ParsesDef (Fixed at Import ∷ ts) d end → ImportParts at ts d end
import_parts (import_version {b = b} {c = c} {d = d} {f = f} {x = x} {σ = σ} {vs = vs} {ranges = ranges} {star = star} {like = spec} {by = by} {ts = inner} {r = r} {s = s} {u = u} signed tokens is l p) = record {
  head = (placed_name b x, σ);
  rest = Fixed d Version ∷ r;
  asked = r;
  demand = (WantsVersion (Ranges ranges star), spec);
  behind = u;
  places = by;
  titled = record { inner = inner; colon = c; is = refl; sig = signed };
  version = record { at = d; is = refl };
  demanded = by_version (record { vs = vs; tokens = tokens; is = is }) (record { by = f; parses = l });
  looked = p;
  is = refl;
}
import_parts (import_name {b = b} {c = c} {d = d} {f = f} {g = g} {h = h} {i = i} {x = x} {y = y} {σ = σ} {by = by} {ts = inner} {r = r} signed p) = record {
  head = (placed_name b x, σ);
  rest = Fixed d Version ∷ Fixed f NameWord ∷ Fixed g Equals ∷ Upper h y ∷ Fixed i By ∷ r;
  asked = Fixed f NameWord ∷ Fixed g Equals ∷ Upper h y ∷ Fixed i By ∷ r;
  demand = (WantsName (placed_name h y), None);
  behind = r;
  places = by;
  titled = record { inner = inner; colon = c; is = refl; sig = signed };
  version = record { at = d; is = refl };
  demanded = by_name (record { word = f; equals = g; by = i; is = refl });
  looked = p;
  is = refl;
}

def_at : {r s t : List Sign} {d : DefTree} → r ≡ s → ParsesDef s d t → ParsesDef r d t
def_at {r} {s} {t} {d} e p = subst (λ (u : List Sign). ParsesDef u d t) (sym e) p

sig_to : {r s t : List Sign} {T : SigTree} → s ≡ t → IsSig r T t → IsSig r T s
sig_to {r} {s} {t} {T} e p = subst (λ (u : List Sign). IsSig r T u) (sym e) p

with_version : {at : ℕ} {ts rest asked r behind end : List Sign} {head : NameAt × SigTree} {spec : Option (List AbbrevTree)} {places : List Resolve} (c : Constraint) → HeadAt ts head rest → SymbolAt Version rest asked → ConstraintAt asked c r → LikeAt r spec behind → ParsesResolve behind places end
    → ParsesDef (Fixed at Import ∷ ts) (ImportDef at head.0 head.1 (WantsVersion c) spec places) end
with_version {at = at} (Ranges ranges star) h v c l p = def_at (ap (λ (u : List Sign). Fixed at Import ∷ u) h.is) (import_version (sig_to (sym v.is) h.sig) c.tokens c.is l.parses p)
with_version (Exact n) h v c l p = absurd c.is

import_def : {at : ℕ} {ts rest asked behind end : List Sign} {head : NameAt × SigTree} {demand : WantsTree × Option (List AbbrevTree)} {places : List Resolve} → HeadAt ts head rest → SymbolAt Version rest asked → DemandAt asked demand behind → ParsesResolve behind places end
    → ParsesDef (Fixed at Import ∷ ts) (ImportDef at head.0 head.1 demand.0 demand.1 places) end
import_def h v (by_version {constraint = c} p l) q = with_version c h v p l q
import_def {at = at} h v (by_name x) q = def_at (ap (λ (u : List Sign). Fixed at Import ∷ u) h.is) (import_name (sig_to (sym (v.is ∙ ap (λ (u : List Sign). Fixed v.at Version ∷ u) x.is)) h.sig) q)

module _ (at : ℕ) (ts : List Sign) where
  pub no_head : NoRead HeadAt Anything ts → NoRead ParsesDef NoComma (Fixed at Import ∷ ts)
  no_head none d end p next = let m = import_parts p in none m.head m.rest m.titled tt

  module _ (head : NameAt × SigTree) (rest : List Sign) (h : OnlyRead HeadAt Anything ts head rest) where
    pub no_version : NoSymbol Version rest → NoRead ParsesDef NoComma (Fixed at Import ∷ ts)
    no_version none d end p next =
        let m = import_parts p in
        none m.asked (record { at = m.version.at; is = sym (h.only m.head m.rest m.titled tt).1 ∙ m.version.is })

    module _ (asked : List Sign) (v : SymbolAt Version rest asked) where
      same_asked : {d : DefTree} {end : List Sign} (m : ImportParts at ts d end) → asked ≡ m.asked
      same_asked m = tail_eq (sym v.is ∙ sym (h.only m.head m.rest m.titled tt).1 ∙ m.version.is)

      pub no_demand : NoRead DemandAt Anything asked → NoRead ParsesDef NoComma (Fixed at Import ∷ ts)
      no_demand none d end p next = let m = import_parts p in none m.demand m.behind (demand_at (same_asked m) m.demanded) tt

      module _ (demand : WantsTree × Option (List AbbrevTree)) (behind : List Sign) (o : OnlyRead DemandAt Anything asked demand behind) where
        pub no_places : NoRead ParsesResolve NoComma behind → NoRead ParsesDef NoComma (Fixed at Import ∷ ts)
        no_places none d end p next =
            let m = import_parts p in
            let i = o.only m.demand m.behind (demand_at (same_asked m) m.demanded) tt in
            none m.places end (resolves_at (sym i.1) m.looked) next

        pub import_read : (places : List Resolve) (end : List Sign) → OnlyRead ParsesResolve NoComma behind places end → OnlyRead ParsesDef NoComma (Fixed at Import ∷ ts) (ImportDef at head.0 head.1 demand.0 demand.1 places) end
        import_read places end q = record {
          reads = import_def h.reads v o.reads q.reads;
          only = λ d other p next.
              let m = import_parts p in
              let i = h.only m.head m.rest m.titled tt in
              let j = o.only m.demand m.behind (demand_at (same_asked m) m.demanded) tt in
              let k = q.only m.places other (resolves_at (sym j.1) m.looked) next in
              (let x = m.is in let a = i.0 in let b = j.0 in let c = k.0 in cc, k.1);
        }

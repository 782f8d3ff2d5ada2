-- A pattern fits a value of the machine where it fits what the value stands for.
use Rattle.std.proofs.Common.{◌≡◌, ℕ, zero, suc, ◌+◌, Bool, true, false, List, [], ◌++◌, length, Option, Some, None, refl, sym, ap, ◌∙◌, subst, arith, append_assoc, length-append}
use Rattle.std.specs.Prelude.{option_and_then, option_map, nat_eq, reverse}
use Rattle.std.proofs.lemmas.List.{reverse-append}
use Rattle.ac_types.specs.Partial.{given}
use Rattle.ac_types.specs.Types.{Typ, same_bytes}
use Rattle.ac_terms.specs.Parts.{pattern_types, all_pattern_types}
use Rattle.ac_terms.specs.Terms.{Home, Pattern, PWild, PVar, PInt, PBool, PStr, PUnit, PTuple, PNil, PCons, PAbsent, PPresent, PExn, PExnOf, Patterns, no_patterns, pattern'}
use Rattle.ac_code.specs.Code.{Code}
use Rattle.ac_code.specs.Constants.{same_int, same_bool}
use Rattle.ac_values.specs.Values.{MValue, MInt, MBool, MStr, MUnit, MExn, MExnOf, MTuple, MNil, MCons, MAbsent, MPresent, MClosure, MMore, MValues, nothing, also}
use Rattle.ac_values.specs.ValueReaders.{without}
use Rattle.ac_values.specs.Fits.{where_true, bound, all_bound}
use Rattle.ac_meaning.specs.BareTerms.{Bare, WLam, WRec}
use Rattle.ac_meaning.specs.BareReduction.{BareWritten, fit, fit_all}
use Rattle.ac_machine_meaning.specs.Stands.{stands, all_stand, environment_values}
use Rattle.ac_machine_meaning.specs.Valid.{Valid, AllValid, ValidEnv}
use Rattle.ac_machine_meaning.proofs.Meanings.{closure_no}

-- dropping some variables, and then others
without_more : (n m : ℕ) (gs fs es : MValue) → without n gs ≡ Some fs → without m fs ≡ Some es → without (n + m) gs ≡ Some es
without_more zero m gs fs es h k = let e : 0 + m ≡ m = omega arith in ap (λ n. without n gs) e ∙ subst (λ (o : Option MValue). option_and_then (without m) (Some gs) ≡ option_and_then (without m) o) h refl ∙ k
without_more (suc n) m (MMore a b) fs es h k = let e : suc n + m ≡ suc (n + m) = omega arith in ap (λ n. without n (MMore a b)) e ∙ without_more n m b fs es h k
without_more (suc n) m _ fs es h k = absurd cc

module _ (K : Code) where
  -- the variables of these types, bound before those of es, where a pattern fits
  abbrev pub Fitted : List Typ → List Typ → MValue → Option BareWritten → Option MValue → Type 0
  Fitted D G es o None = o ≡ None
  Fitted D G es o (Some fs) = (o ≡ Some (environment_values K fs (reverse D ++ G))) × ValidEnv K fs × (without (length D) fs ≡ Some es)

  none_bound : (G : List Typ) (es : MValue) → ValidEnv K es → Fitted [] G es (Some (environment_values K es G)) (Some es)
  none_bound G es v = (refl, v, refl)

  fitted_given : (b : Bool) (D G : List Typ) (es : MValue) (o : Option BareWritten) (mo : Option MValue) → Fitted D G es o mo → Fitted D G es (given b o) (where_true b mo)
  fitted_given true D G es o mo h = h
  fitted_given false D G es o mo h = refl

  fitted_then : (D F G : List Typ) (es : MValue) (o : Option BareWritten) (mo : Option MValue) (f : BareWritten → Option BareWritten) (mf : MValue → Option MValue) → Fitted D G es o mo →
      ((fs : MValue) → ValidEnv K fs → Fitted F (reverse D ++ G) fs (f (environment_values K fs (reverse D ++ G))) (mf fs)) → Fitted (D ++ F) G es (option_and_then f o) (option_and_then mf mo)
  fitted_then D F G es o None f mf h k = ap (option_and_then f) h
  fitted_then D F G es o (Some fs) f mf h k = by (mf fs) (k fs h.1)
    where
      by : (mo : Option MValue) → Fitted F (reverse D ++ G) fs (f (environment_values K fs (reverse D ++ G))) mo → Fitted (D ++ F) G es (option_and_then f o) mo
      by None e = ap (option_and_then f) h.0 ∙ e
      by (Some gs) e =
          let same : reverse F ++ (reverse D ++ G) ≡ reverse (D ++ F) ++ G = sym (append_assoc (reverse F) (reverse D) G) ∙ ap (λ l. l ++ G) (sym (reverse-append D F)) in
          let many : length F + length D ≡ length (D ++ F) = omega (arith, length-append D F) in
          (ap (option_and_then f) h.0 ∙ e.0 ∙ ap (λ l. Some (environment_values K gs l)) same, e.1, ap (λ n. without n gs) (sym many) ∙ without_more (length F) (length D) gs fs es e.2 h.2)

  closure_fits : (p : Pattern) (ws : BareWritten) → ((h : Home) (T : Typ) (e : Bare) → fit p (WLam h T e) ws ≡ None) → ((h : Home) (T U : Typ) (e : Bare) → fit p (WRec h T U e) ws ≡ None) → (b : ℕ) (r : Bool) (fs : MValue) → fit p (stands K (MClosure b r fs)) ws ≡ None
  closure_fits p ws f g b r fs = closure_no K (λ v. fit p v ws) f g b r fs

  mutual
    pub fits : (p : Pattern) (m : MValue) (G : List Typ) (es : MValue) → Valid K m → ValidEnv K es → Fitted (pattern_types p) G es (fit p (stands K m) (environment_values K es G)) (bound p m es)
    fits PWild m G es v w = none_bound G es w
    fits (PVar T) m G es v w = (refl, (v, w), refl)
    fits (PInt n) (MInt k) G es v w = fitted_given (same_int n k) [] G es _ (Some es) (none_bound G es w)
    fits (PBool b) (MBool c) G es v w = fitted_given (same_bool b c) [] G es _ (Some es) (none_bound G es w)
    fits (PStr s) (MStr t) G es v w = fitted_given (same_bytes s t) [] G es _ (Some es) (none_bound G es w)
    fits PUnit MUnit G es v w = none_bound G es w
    fits (PTuple ps) (MTuple ms) G es v w = all_fit ps ms G es v w
    fits PNil MNil G es v w = none_bound G es w
    fits (PCons p q) (MCons a b) G es v w = fitted_then (pattern_types p) (pattern_types q) G es _ (bound p a es) (fit q (stands K b)) (bound q b) (fits p a G es v.0 w) (λ fs w. fits q b (reverse (pattern_types p) ++ G) fs v.1 w)
    fits PAbsent MAbsent G es v w = none_bound G es w
    fits (PPresent p) (MPresent a) G es v w = fits p a G es v w
    fits (PExn k) (MExn j) G es v w = fitted_given (nat_eq k j) [] G es _ (Some es) (none_bound G es w)
    fits (PExn k) (MExnOf j (MStr s)) G es v w = refl
    fits (PExnOf k p) (MExnOf j (MStr s)) G es v w = fitted_given (nat_eq k j) (pattern_types p) G es _ (bound p (MStr s) es) (fits p (MStr s) G es tt w)
    fits (PInt n) (MClosure b r fs) G es v w = closure_fits (PInt n) _ (λ h T e. refl) (λ h T U e. refl) b r fs
    fits (PBool n) (MClosure b r fs) G es v w = closure_fits (PBool n) _ (λ h T e. refl) (λ h T U e. refl) b r fs
    fits (PStr n) (MClosure b r fs) G es v w = closure_fits (PStr n) _ (λ h T e. refl) (λ h T U e. refl) b r fs
    fits PUnit (MClosure b r fs) G es v w = closure_fits PUnit _ (λ h T e. refl) (λ h T U e. refl) b r fs
    fits (PTuple ps) (MClosure b r fs) G es v w = closure_fits (PTuple ps) _ (λ h T e. refl) (λ h T U e. refl) b r fs
    fits PNil (MClosure b r fs) G es v w = closure_fits PNil _ (λ h T e. refl) (λ h T U e. refl) b r fs
    fits (PCons p q) (MClosure b r fs) G es v w = closure_fits (PCons p q) _ (λ h T e. refl) (λ h T U e. refl) b r fs
    fits PAbsent (MClosure b r fs) G es v w = closure_fits PAbsent _ (λ h T e. refl) (λ h T U e. refl) b r fs
    fits (PPresent p) (MClosure b r fs) G es v w = closure_fits (PPresent p) _ (λ h T e. refl) (λ h T U e. refl) b r fs
    fits (PExn k) (MClosure b r fs) G es v w = closure_fits (PExn k) _ (λ h T e. refl) (λ h T U e. refl) b r fs
    fits (PExnOf k p) (MClosure b r fs) G es v w = closure_fits (PExnOf k p) _ (λ h T e. refl) (λ h T U e. refl) b r fs
    fits _ (MExnOf j (MStr s)) G es v w = refl
    fits _ (MExnOf j _) G es v w = absurd v
    fits _ _ G es v w = refl

    pub all_fit : (ps : Patterns) (ms : MValues) (G : List Typ) (es : MValue) → AllValid K ms → ValidEnv K es → Fitted (all_pattern_types ps) G es (fit_all ps (all_stand K ms) (environment_values K es G)) (all_bound ps ms es)
    all_fit no_patterns nothing G es v w = none_bound G es w
    all_fit (pattern' p ps) (also m ms) G es v w = fitted_then (pattern_types p) (all_pattern_types ps) G es _ (bound p m es) (fit_all ps (all_stand K ms)) (all_bound ps ms) (fits p m G es v.0 w) (λ fs w. all_fit ps ms (reverse (pattern_types p) ++ G) fs v.1 w)
    all_fit no_patterns (also m ms) G es v w = refl
    all_fit (pattern' p ps) nothing G es v w = refl

  -- the same in one equation
  pub fits_alike : (p : Pattern) (m : MValue) (G : List Typ) (es : MValue) → Valid K m → ValidEnv K es → fit p (stands K m) (environment_values K es G) ≡ option_map (λ fs. environment_values K fs (reverse (pattern_types p) ++ G)) (bound p m es)
  fits_alike p m G es v w = by (bound p m es) (fits p m G es v w)
    where
      by : (mo : Option MValue) → Fitted (pattern_types p) G es (fit p (stands K m) (environment_values K es G)) mo → fit p (stands K m) (environment_values K es G) ≡ option_map (λ fs. environment_values K fs (reverse (pattern_types p) ++ G)) mo
      by None h = h
      by (Some fs) h = h.0

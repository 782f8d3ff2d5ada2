-- The steps of the reading of versions, over lists of tokens.
use Rattle.std.proofs.Common.{◌≡◌, ◌<◌, ℕ, List, [], ◌∷◌, ◌++◌, refl, sym, ◌∙◌, ap, subst, append_assoc}
use Rattle.ac_types.specs.Sigs.{Atom, Number as Numbered, MyName as Own}
use Rattle.ac_version.specs.VersionReading.{AtomAt, numbered, own, Atoms, last_atom, more_atoms, NoVersion, FirstAtom, NoAtom}
use Rattle.ac_version.specs.declared.read.VToken.{VToken}
use Rattle.ac_version.specs.declared.read.VToken.TheVariants.{Number, Dot, MyName}
use Rattle.ac_version.proofs.Unique.{same_atom}

pub number_atom : (t : VToken) (n m : ℕ) → t ≡ Number n → n < 4294967296 → m ≡ n → AtomAt t (Numbered m)
number_atom t n m is small same = subst (λ (k : ℕ). AtomAt t (Numbered k)) (sym same) (subst (λ (x : VToken). AtomAt x (Numbered n)) (sym is) (numbered small))

pub own_atom : (t : VToken) → t ≡ MyName → AtomAt t Own
own_atom t is = subst (λ (x : VToken). AtomAt x Own) (sym is) own

tail_eq : {x y : VToken} {r s : List VToken} → x ∷ r ≡ y ∷ s → r ≡ s
tail_eq e = cc

nothing_is_none : {P : Type 0} {x : VToken} {r : List VToken} → [] ≡ x ∷ r → P
nothing_is_none e = cc

-- a list of atoms goes on behind those done, or has no more
pub data Remain (done : List Atom) (rest : List VToken) (xs : List Atom) : Type 0 where
  all : rest ≡ [] → xs ≡ done → Remain done rest xs
  others : (behind : List VToken) (ys : List Atom) → rest ≡ Dot ∷ behind → xs ≡ done ++ ys → Atoms behind ys → Remain done rest xs

pub record AtomsRead (ts : List VToken) (done : List Atom) (rest : List VToken) : Type 0 where
  pub ended : rest ≡ [] → Atoms ts done
  pub back : (behind : List VToken) (xs : List Atom) → rest ≡ Dot ∷ behind → Atoms behind xs → Atoms ts (done ++ xs)
  pub forth : (xs : List Atom) → Atoms ts xs → Remain done rest xs

atoms_at : {r s : List VToken} {xs : List Atom} → r ≡ s → Atoms s xs → Atoms r xs
atoms_at {r} {s} {xs} e p = subst (λ (l : List VToken). Atoms l xs) (sym e) p

first_forth : {t : VToken} {a : Atom} {rest : List VToken} {xs : List Atom} → AtomAt t a → Atoms (t ∷ rest) xs → Remain (a ∷ []) rest xs
first_forth at (last_atom b) = all refl (ap (λ (x : Atom). x ∷ []) (same_atom b at))
first_forth at (more_atoms {ts = ts} {rest = ys} b p) = others ts ys refl (ap (λ (x : Atom). x ∷ ys) (same_atom b at)) p

pub first_read : (ts rest : List VToken) (a : Atom) → FirstAtom ts a rest → AtomsRead ts (a ∷ []) rest
first_read ts rest a f = record {
  ended = λ is. atoms_at (f.is ∙ ap (λ (l : List VToken). f.token ∷ l) is) (last_atom f.atom);
  back = λ behind xs is p. atoms_at (f.is ∙ ap (λ (l : List VToken). f.token ∷ l) is) (more_atoms f.atom p);
  forth = λ xs p. first_forth f.atom (atoms_at (sym f.is) p);
}

first_of_atoms : {ts : List VToken} {xs : List Atom} {P : Type 0} → Atoms ts xs → ((a : Atom) (rest : List VToken) → FirstAtom ts a rest → P) → P
first_of_atoms (last_atom {t = t} {a = a} b) f = f a [] (record { token = t; is = refl; atom = b })
first_of_atoms (more_atoms {t = t} {a = a} {ts = ts} b p) f = f a (Dot ∷ ts) (record { token = t; is = refl; atom = b })

pub first_none : (ts : List VToken) → NoAtom ts → NoVersion ts
first_none ts none xs v = first_of_atoms v.atoms (λ a rest f. none a rest f)

-- what goes on behind one more atom
more_remain : {xs : List Atom} {a : Atom} {later : List VToken} (done ys : List Atom) → xs ≡ done ++ ys → Remain (a ∷ []) later ys → Remain (done ++ a ∷ []) later xs
more_remain {xs} {a} {later} done ys is (all end same) = all end (is ∙ ap (λ (l : List Atom). done ++ l) same)
more_remain {xs} {a} {later} done ys is (others behind zs dot same p) = others behind zs dot (is ∙ ap (λ (l : List Atom). done ++ l) same ∙ sym (append_assoc done (a ∷ []) zs)) p

next_forth : {done xs : List Atom} {a : Atom} {rest behind later : List VToken} → rest ≡ Dot ∷ behind → ((ys : List Atom) → Atoms behind ys → Remain (a ∷ []) later ys) → Remain done rest xs → Remain (done ++ a ∷ []) later xs
next_forth is forth (all end same) = nothing_is_none (sym end ∙ is)
next_forth {done = done} is forth (others behind ys dot same p) = more_remain done ys same (forth ys (atoms_at (tail_eq (sym is ∙ dot)) p))

next_absent : {done xs : List Atom} {rest behind : List VToken} → rest ≡ Dot ∷ behind → NoAtom behind → Remain done rest xs → ⊥
next_absent is none (all end same) = nothing_is_none (sym end ∙ is)
next_absent is none (others behind ys dot same p) = first_of_atoms (atoms_at (tail_eq (sym is ∙ dot)) p) (λ a rest f. none a rest f)

module _ (ts : List VToken) (done : List Atom) (rest : List VToken) (r : AtomsRead ts done rest) where
  pub next_read : (behind later : List VToken) (a : Atom) → rest ≡ Dot ∷ behind → FirstAtom behind a later → AtomsRead ts (done ++ a ∷ []) later
  next_read behind later a is f =
      let one = first_read behind later a f in
      record {
        ended = λ end. r.back behind (a ∷ []) is (one.ended end);
        back = λ after xs dot p. subst (λ (l : List Atom). Atoms ts l) (sym (append_assoc done (a ∷ []) xs)) (r.back behind (a ∷ xs) is (one.back after xs dot p));
        forth = λ xs p. next_forth is one.forth (r.forth xs p);
      }

  pub next_none : (behind : List VToken) → rest ≡ Dot ∷ behind → NoAtom behind → NoVersion ts
  next_none behind is none xs v = next_absent is none (r.forth xs v.atoms)

use Rattle.std.proofs.Common.{◌≡◌, ◌∙◌, sym, ap, subst, Option, Some, None, Bor}
use Rattle.std.specs.Prelude.{option_map}
use Rattle.std.specs.Option.{option_copied}
use Rattle.std.specs.BTreeMap.{get}
use Rattle.ac_types.specs.Types.{Typ, TAbs}
use Rattle.ac_types.specs.ReadTypes.{typ_of}
use Rattle.ac_types.specs.declared.ty.Ty.{Ty}
use Rattle.ac_types.specs.declared.ty.Ty.TheVariants as ty
use Rattle.ac_terms.specs.Read.{environment_of}
use Rattle.ac_rules.specs.Views.{representation}
use Rattle.ac_check_views.proofs.ReadAs.{read_as}
use Rattle.ac_check_views.proofs.TopLaws.{not_sealed}
use Rattle.ac_check.specs.inner.Heads.{Key, key_cmp, abstract_type, IsEnd}
use Rattle.ac_check.proofs.EndLaws.{ends_here, found_end, stands_for, stands_for_none}
use Rattle.ac_check.proofs.heads.Heads.step.Goals as goal

pub returns-in-Some : goal.returns-in-Some
returns-in-Some c =
    let E = environment_of c.args.env.now in
    let key : Key = (c.in-Abs.name.0, c.as_slice.result) in
    let e = c.in-Some.end in
    let is : typ_of c.args.ty.now ≡ abstract_type key =
    read_as _ _ _ c.in-Abs.is (ty.outs-Abs _ _) ∙ ap (TAbs c.in-Abs.name.0) (sym (c.as_slice.ensures ∙ c.text.ensures.bytes)) in
    let there : get key_cmp c.args.self.now.found key ≡ Some e = sym c.get.ensures.value ∙ sym c.copied.ensures ∙ c.in-Some.is in
    subst (λ (T : Typ). IsEnd E T e) (sym is) (found_end E c.args.self.now c.requires.heads key e there)

pub returns-in-Some-rep : goal.returns-in-Some-rep
returns-in-Some-rep c =
    let E = environment_of c.args.env.now in
    let r : Some (typ_of c.in-Some-rep.next.now) ≡ representation E c.in-Abs.name.0 c.in-Abs.word =
    sym (ap (λ (o : Option (Bor Ty)). option_map typ_of (option_copied o)) c.in-Some-rep.is) ∙ c.rep.ensures in
    stands_for E (typ_of c.args.ty.now) (typ_of c.in-Some-rep.next.now) c.in-Abs.name.0 c.in-Abs.word c.as_slice.result.now
    (read_as _ _ _ c.in-Abs.is (ty.outs-Abs _ _)) (c.as_slice.ensures ∙ c.text.ensures.bytes) r

pub returns-in-None-rep : goal.returns-in-None-rep
returns-in-None-rep c =
    let E = environment_of c.args.env.now in
    let r : None ≡ representation E c.in-Abs.name.0 c.in-Abs.word =
    sym (ap (λ (o : Option (Bor Ty)). option_map typ_of (option_copied o)) c.in-None-rep.is) ∙ c.rep.ensures in
    stands_for_none E c.args.ty c.in-Abs.name.0 c.in-Abs.word (read_as _ _ _ c.in-Abs.is (ty.outs-Abs _ _)) r

pub returns-in_default : goal.returns-in_default
returns-in_default c = ends_here (environment_of c.args.env.now) c.args.ty (not_sealed _ (environment_of c.args.env.now) c.in_default.not-Abs)

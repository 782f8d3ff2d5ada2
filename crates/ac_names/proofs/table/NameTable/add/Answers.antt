use Rattle.std.proofs.Common.{◌≡◌, ◌+◌, arith, sym, ap, ◌∙◌, subst, ℕ, None, Err, length, map, ◌++◌, ◌∷◌, []}
use Rattle.std.proofs.lemmas.List.{length-map, length-append}
use Rattle.indexmap.proofs.CallerLemmas.{insert_entry-new}
use Rattle.ac_types.specs.Types.{Bytes, same_bytes}
use Rattle.ac_names.specs.declared.table.AddFault.TheVariants.{Clash}
use Rattle.ac_names.specs.Table.{KnownNames, number_of, Adds, Clashes}
use Rattle.ac_names.proofs.TableLaws.{Found, found, number_shown, same_text, other_text, adds_known, adds_new, no_clash, no_clash_new, clash, clash_number, shown, shown_push}
use Rattle.ac_names.proofs.table.NameTable.add.Goals as goal

pub returns-then-eq-clause-ok : goal.returns-then-eq-clause-ok
returns-then-eq-clause-ok c =
    let F = found c.self.inside.texts.entries c.args.self.now c.self.view_is c.args.name.0 c.in-Some.number c.in-Some.field-0-1.now c.in-Some.kept.now (sym c.in-Some.ensures.index) c.in-Some.ensures.entry in
    let same = same_text _ _ c.in-Some.kept.now.0 c.args.text.0 c.eq.result c.as_slice.ensures c.as_slice-in-Some.ensures c.eq.ensures c.if-eq.true in
    adds_known c.args.self.now c.args.name.0 c.args.text.0 c.in-Some.number (subst (λ (t : Bytes). Found c.args.self.now c.args.name.0 t c.in-Some.number) same F)

pub returns-then-eq-clause-clash : goal.returns-then-eq-clause-clash
returns-then-eq-clause-clash c =
    let F = found c.self.inside.texts.entries c.args.self.now c.self.view_is c.args.name.0 c.in-Some.number c.in-Some.field-0-1.now c.in-Some.kept.now (sym c.in-Some.ensures.index) c.in-Some.ensures.entry in
    let same = same_text _ _ c.in-Some.kept.now.0 c.args.text.0 c.eq.result c.as_slice.ensures c.as_slice-in-Some.ensures c.eq.ensures c.if-eq.true in
    λ number. (λ e. cc, λ h. absurd (no_clash c.args.self.now c.args.name.0 c.args.text.0 c.in-Some.number number (subst (λ (t : Bytes). Found c.args.self.now c.args.name.0 t c.in-Some.number) same F) h))

pub returns-in-Some-clause-clash : goal.returns-in-Some-clause-clash
returns-in-Some-clause-clash c =
    let F = found c.self.inside.texts.entries c.args.self.now c.self.view_is c.args.name.0 c.in-Some.number c.in-Some.field-0-1.now c.in-Some.kept.now (sym c.in-Some.ensures.index) c.in-Some.ensures.entry in
    let apart = other_text _ _ c.in-Some.kept.now.0 c.args.text.0 c.eq.result c.as_slice.ensures c.as_slice-in-Some.ensures c.eq.ensures c.if-eq.false in
    λ number. (
      λ e.
          let same : c.in-Some.number ≡ number = cc in
          let here : Clashes c.args.self.now c.args.name.0 c.args.text.0 number = subst (λ (i : ℕ). Clashes c.args.self.now c.args.name.0 c.args.text.0 i) same (clash c.args.self.now c.args.name.0 c.args.text.0 c.in-Some.kept.now.0 c.in-Some.number F apart) in
          here,
      λ h. ap (λ (i : ℕ). Err (Clash i)) (clash_number c.args.self.now c.args.name.0 c.args.text.0 c.in-Some.kept.now.0 c.in-Some.number number F h),
    )

pub returns-in-Ok-clause-ok : goal.returns-in-Ok-clause-ok
returns-in-Ok-clause-ok c =
    let es = c.self.inside.texts.entries in
    let table = c.args.self.now in
    let name = c.args.name.0 in
    let new : number_of table name ≡ None = sym (number_shown es table c.self.view_is name) ∙ sym c.in_default.ensures.index in
    let len : c.len-number.result ≡ length table = c.len-number.ensures.len ∙ sym (length-map es shown) ∙ ap length c.self.view_is in
    let entries : c.insert.new.self.entries ≡ es ++ (name, c.args.text) ∷ [] = c.in-Ok.ensures.entries ∙ insert_entry-new same_bytes c.self.inside.texts name c.args.text (sym c.in_default.ensures.value) in
    let view : map shown c.insert.new.self.entries ≡ table ++ (name, c.args.text.0) ∷ [] = ap (map shown) entries ∙ shown_push es (name, c.args.text) ∙ ap (λ (t : KnownNames). t ++ (name, c.args.text.0) ∷ []) c.self.view_is in
    subst (λ (t : KnownNames). Adds table name c.args.text.0 c.len-number.result t) (sym view)
    (subst (λ (i : ℕ). Adds table name c.args.text.0 i (table ++ (name, c.args.text.0) ∷ [])) (sym len) (adds_new table name c.args.text.0 new))

pub returns-in-Ok-clause-length : goal.returns-in-Ok-clause-length
returns-in-Ok-clause-length c =
    let es = c.self.inside.texts.entries in
    let more = c.in-Ok.ensures.entries ∙ insert_entry-new same_bytes c.self.inside.texts c.args.name.0 c.args.text (sym c.in_default.ensures.value) in
    let now : length c.args.self.now ≡ length es = ap length (sym c.self.view_is) ∙ length-map es shown in
    let then : length (map shown c.insert.new.self.entries) ≡ length es + 1 = length-map c.insert.new.self.entries shown ∙ ap length more ∙ length-append es ((c.args.name.0, c.args.text) ∷ []) in
    omega (arith, now, then)

pub returns-in-Ok-clause-clash : goal.returns-in-Ok-clause-clash
returns-in-Ok-clause-clash c =
    let new : number_of c.args.self.now c.args.name.0 ≡ None = sym (number_shown c.self.inside.texts.entries c.args.self.now c.self.view_is c.args.name.0) ∙ sym c.in_default.ensures.index in
    λ number. (λ e. cc, λ h. absurd (no_clash_new c.args.self.now c.args.name.0 c.args.text.0 number new h))

pub returns-clause-clash : goal.returns-clause-clash
returns-clause-clash c =
    let new : number_of c.args.self.now c.args.name.0 ≡ None = sym (number_shown c.self.inside.texts.entries c.args.self.now c.self.view_is c.args.name.0) ∙ sym c.in_default.ensures.index in
    λ number. (λ e. cc, λ h. absurd (no_clash_new c.args.self.now c.args.name.0 c.args.text.0 number new h))

pub returns-clause-memory : goal.returns-clause-memory
returns-clause-memory c = λ e. sym (number_shown c.self.inside.texts.entries c.args.self.now c.self.view_is c.args.name.0) ∙ sym c.in_default.ensures.index

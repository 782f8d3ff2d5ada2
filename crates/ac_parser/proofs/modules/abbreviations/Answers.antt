use Rattle.std.proofs.Common.{◌∷◌, [], List, map, sym, ap, subst, ◌∙◌, arith}
use Rattle.std.proofs.lemmas.List.{map-append}
use Rattle.std.proofs.lemmas.Result.{err_from_is_err_and}
use Rattle.ac_syntax.specs.Trees.{AbbrevTree}
use Rattle.ac_syntax.specs.Programs.{ParsesAbbrevs}
use Rattle.ac_syntax.specs.ReadSigns.{read_signs}
use Rattle.ac_syntax.specs.ReadTrees.{abbrev_of}
use Rattle.ac_syntax.proofs.OnStop.{on_syntax_more, refused}
use Rattle.ac_parser.proofs.Lists.{StructSoFar, no_struct, begun, next_item, none_left, ended}
use Rattle.ac_parser.proofs.ModuleSteps.{abbrevs_end, abbrevs_item, abbrevs_none, no_abbrev_word}
use Rattle.ac_parser.proofs.modules.abbreviations.Goals as goal

pub returns-in_default : goal.returns-in_default
returns-in_default c = refused _ _ c.refused_at.ensures (no_struct ParsesAbbrevs _ c.in_default.ensures.found)

pub loop-end-init : goal.loop-end-init
loop-end-init c = record {
  so_far = subst (λ (l : List AbbrevTree). StructSoFar ParsesAbbrevs (read_signs c.args.signs.now) l (read_signs c.in-Some.inner.now)) (sym (ap (map abbrev_of) c.new-found.ensures)) (begun ParsesAbbrevs _ _ c.in-Some.ensures.found);
  shorter = c.in-Some.ensures.shorter;
}

pub returns-in-Some-after : goal.returns-in-Some-after
returns-in-Some-after c = record {
  found = ended _ _ _ _ c.loop-end.invariant.so_far _ (abbrevs_end _ _ c.in-Some-after.ensures.found);
  shorter = omega (arith, c.loop-end.invariant.shorter, c.in-Some-after.ensures.shorter);
}

pub returns-in_default-after-2 : goal.returns-in_default-after-2
returns-in_default-after-2 c =
    refused _ _ c.refused_at-in_default-after-2.ensures (none_left _ _ _ _ c.loop-end.invariant.so_far (no_abbrev_word _ c.in_default-after-2.ensures.found c.in_default-after.ensures.found))

pub returns-in_err-next : goal.returns-in_err-next
returns-in_err-next c =
    let p = err_from_is_err_and c.from_residual.result c.from_residual.ensures.1 in
    rw (p.1, p.2) (on_syntax_more _ (λ none. none_left _ _ _ _ c.loop-end.invariant.so_far (abbrevs_none _ _ c.in-Some-after-2.ensures.found none)) c.in_err-next.ensures)

pub loop-end-preserved : goal.loop-end-preserved
loop-end-preserved c =
    let items = ap (map abbrev_of) c.in_ok-push.ensures.ok ∙ map-append abbrev_of c.loop-end.found (c.in_ok-next.next ∷ []) in
    let next = next_item _ _ _ _ c.loop-end.invariant.so_far _ _ (abbrevs_item _ _ c.in-Some-after-2.ensures.found _ _ c.in_ok-next.ensures.found) in
    record {
      so_far = subst (λ (l : List AbbrevTree). StructSoFar ParsesAbbrevs (read_signs c.args.signs.now) l (read_signs c.in_ok-next.later.now)) (sym items) next;
      shorter = omega (arith, c.loop-end.invariant.shorter, c.in-Some-after-2.ensures.shorter, c.in_ok-next.ensures.shorter);
    }

use Rattle.std.proofs.Common.{◌∙◌, ap, sym, refl, arith}
use Rattle.ac_types.specs.ReadNumbers.{texted_number}
use Rattle.ac_syntax.specs.Trees.{PatExnOf, pat_height}
use Rattle.ac_syntax.specs.ReadTrees.{pat_of}
use Rattle.ac_syntax.specs.declared.surface.SPat.{SPat}
use Rattle.ac_parser_patterns.specs.declared.front.Prefix.{Prefix}
use Rattle.ac_parser_patterns.specs.PatternPieces.{prefixed_pat}
use Rattle.ac_parser_patterns.proofs.PatLaws.{pat_of-ExnOf}
use Rattle.ac_parser_patterns.proofs.patterns.prefixed_by.Goals as goal

pub returns-in-Exn : goal.returns-in-Exn
returns-in-Exn c =
    let same = pat_of-ExnOf c.args.at c.in-Exn.exn _ ∙ ap (λ (p : SPat). PatExnOf c.args.at (texted_number c.in-Exn.exn) (pat_of p)) (c.in_ok-item.ensures ∙ c.into_tree.ensures) in
    record {
      tree = same ∙ sym (ap (λ (x : Prefix). prefixed_pat x c.args.at (pat_of c.args.item.tree)) c.in-Exn.is);
      height = omega (arith, c.requires.item, ap pat_height same);
      left = refl;
    }

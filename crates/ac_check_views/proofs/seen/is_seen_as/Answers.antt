use Rattle.std.proofs.Common.{◌≡◌, sym, ◌∙◌, rules, true}
use Rattle.ac_types.specs.ReadTypes.{typ_of}
use Rattle.ac_types.specs.Partial.{has}
use Rattle.ac_terms.specs.Read.{home_of}
use Rattle.ac_rules.specs.Views.{Coloured}
use Rattle.ac_rules.specs.Typing.{type_seen}
use Rattle.ac_check_views.specs.Sites.{entries_of}
use Rattle.ac_check_views.proofs.SeenLaws.{agree_has}
use Rattle.ac_check_views.proofs.seen.is_seen_as.Goals as goal

pub returns-then-are_known-clause-agreed : goal.returns-then-are_known-clause-agreed
returns-then-are_known-clause-agreed c =
    let seen = type_seen Coloured true (entries_of c.args.site.now) (home_of c.args.site.now.home) (typ_of c.args.written.now) in
    let e : c.is_viewed_as.result ≡ has seen (typ_of c.args.ty.now) = search rules in
    e ∙ sym (agree_has (typ_of c.args.ty.now) seen)

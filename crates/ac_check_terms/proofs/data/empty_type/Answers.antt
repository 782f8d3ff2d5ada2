use Rattle.std.proofs.Common.{true, ◌≡◌, sym, ap, ◌∙◌, rules, false}
use Rattle.std.specs.Prelude.{option_map, is_some}
use Rattle.ac_types.specs.ReadTypes.{typ_of}
use Rattle.ac_terms.specs.Read.{home_of}
use Rattle.ac_rules.specs.Views.{Coloured}
use Rattle.ac_check_views.specs.Sites.{entries_of}
use Rattle.ac_rules.specs.Typing.{type_seen, option_item}
use Rattle.ac_check_terms.proofs.KeptLaws.{empty_none}
use Rattle.ac_check_terms.proofs.data.empty_type.Goals as goal

pub returns-else-is_some : goal.returns-else-is_some
returns-else-is_some c =
    let e : is_some (option_item (typ_of c.in-Some.seen)) ≡ false = search rules in
    empty_none (type_seen Coloured true (entries_of c.args.site.now) (home_of c.args.site.now.home) (typ_of c.args.ty.now)) (typ_of c.in-Some.seen) (ap (option_map typ_of) (sym c.in-Some.is) ∙ c.in_ok-seen.ensures) e

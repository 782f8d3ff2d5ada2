use Rattle.std.proofs.Common.{subst, map, false, List}
use Rattle.ac_types.specs.ReadTypes.{typ_of}
use Rattle.ac_terms.specs.Read.{entry_of, value_of}
use Rattle.ac_terms.specs.declared.def.Entry.{Entry}
use Rattle.ac_rules.specs.Views.{Coloured}
use Rattle.ac_rules.specs.Typing.{holds}
use Rattle.ac_check.specs.Checking.{RefusesWhere}
use Rattle.ac_admit.proofs.commit.commit.Goals as goal

pub returns-in-Err-clause-refused : goal.returns-in-Err-clause-refused
returns-in-Err-clause-refused c =
    subst (λ (es : List Entry). RefusesWhere c.in-Err.fault (holds Coloured false (map entry_of es) (value_of c.args.value.now) (typ_of c.args.ty.now))) c.in_ok-extend.ensures.ok c.in-Err.ensures.refused

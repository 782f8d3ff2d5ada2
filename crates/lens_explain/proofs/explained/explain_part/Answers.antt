use Rattle.ac_load.specs.Loading.{shelf_of}
use Rattle.lens_explain.proofs.Right.{refused_right}
use Rattle.lens_explain.proofs.explained.explain_part.Goals as goal

pub returns-in-Some-clause-right : goal.returns-in-Some-clause-right
returns-in-Some-clause-right c = refused_right c.args.text.now (shelf_of c.args.beside.now.shelf.now) c.requires.rejected c.explain_subject.result c.explain_subject.ensures.refused

pub returns-in_default-clause-right : goal.returns-in_default-clause-right
returns-in_default-clause-right c = refused_right c.args.text.now (shelf_of c.args.beside.now.shelf.now) c.requires.rejected c.explain_subject-in_default.result c.explain_subject-in_default.ensures.refused

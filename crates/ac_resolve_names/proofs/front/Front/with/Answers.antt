use Rattle.ac_resolve_names.proofs.FrontLaws.{named_more, called_more}
use Rattle.ac_resolve_names.proofs.front.Front.with.Goals as goal

pub invariant_of-result : goal.invariant_of-result
invariant_of-result c = record {
  named = named_more c.args.self.env.entries c.push.new.self.entries c.args.def c.in-Ok.name c.in_ok-push-in-Ok.ensures.ok c.in-Ok.ensures.name c.args.self.named;
  called =
      called_more c.args.self.env.entries c.push.new.self.entries c.args.def c.in-Ok.name c.in_ok-push-in-Ok.ensures.ok c.in-Ok.ensures.name
      c.len-number.result c.args.self.externals c.in-Ok.externals c.len-number.ensures c.in-Ok.ensures.names c.args.self.called;
}

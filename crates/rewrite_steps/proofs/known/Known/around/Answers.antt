use Rattle.std.proofs.Common.{◌<◌, length, rules}
use Rattle.rewrite_steps.proofs.KnownLaws.{span-there}
use Rattle.rewrite_steps.proofs.known.Known.around.Goals as goal

pub returns-then-le-2-clause-span : goal.returns-then-le-2-clause-span
returns-then-le-2-clause-span c = λ gs slots known last.
    let lt : c.spans.place < length c.args.self.now.spans.items = search rules in
    span-there gs slots c.args.self.now.spans.items c.spans.place c.index.result.now lt c.index.ensures known

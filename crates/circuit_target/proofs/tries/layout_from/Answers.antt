-- The lookouts are over all gates, as they stand and backwards.
use Rattle.std.proofs.Common.{[]}
use Rattle.std.specs.Prelude.{reverse}
use Rattle.routed_parts.specs.Tries.{ahead_of, is_along}
use Rattle.circuit_target.proofs.TryingLaws.{chained, chained-over}
use Rattle.circuit_target.proofs.tries.layout_from.Goals as goal

pub layout-requires-clause-seen : goal.layout-requires-clause-seen
layout-requires-clause-seen c =
    let odd = is_along c.args.number in
    let n = c.args.device.now.size in
    let k = c.args.body.now.wires in
    let gs = c.args.body.now.gates in
    let o = c.in_ok-out.ensures in
    let b = c.in_ok-back.ensures in (
      ahead_of odd [],
      chained-over odd c.in_ok-out.out n gs
          (chained odd c.in_ok-out.out c.args.chains.now.out k n gs c.requires.fits o.none o.some (λ x. (c.requires.chains x).there)),
      chained-over odd c.in_ok-back.back n (reverse gs)
          (chained odd c.in_ok-back.back c.args.chains.now.back k n (reverse gs) c.requires.fits b.none b.some (λ x. (c.requires.chains x).home)),
    )

pub returns-clause-laid_out : goal.returns-clause-laid_out
returns-clause-laid_out c =
    let odd = is_along c.args.number in
    let n = c.args.device.now.size in
    let k = c.args.body.now.wires in
    let gs = c.args.body.now.gates in
    let o = c.in_ok-out.ensures in
    let b = c.in_ok-back.ensures in
    record {
      start = c.in_ok-given.given;
      starts = c.in_ok-given.ensures.start;
      laid_out = c.in_ok-laid_out.ensures.layout (ahead_of odd [])
          (chained-over odd c.in_ok-out.out n gs
          (chained odd c.in_ok-out.out c.args.chains.now.out k n gs c.requires.fits o.none o.some (λ x. (c.requires.chains x).there)))
          (chained-over odd c.in_ok-back.back n (reverse gs)
          (chained odd c.in_ok-back.back c.args.chains.now.back k n (reverse gs) c.requires.fits b.none b.some (λ x. (c.requires.chains x).home)));
    }

-- The walk begins, goes on, and ends.
use Rattle.std.proofs.Common.{◌≡◌, ◌∙◌, ap, false, replicate, sym, subst, arith}
use Rattle.circuit_list.specs.Body.{Body}
use Rattle.circuit_list.specs.Gates.{IsFine}
use Rattle.path_parity.specs.NamedSums.{SamePathSum}
use Rattle.rewrite_pass.specs.Derivations.{HasNoMore}
use Rattle.rewrite_pass.specs.Traces.{constants_turn}
use Rattle.not_propagate.specs.LastX.{XLast}
use Rattle.not_propagate.proofs.FollowLaws.{follows_first, follows_on, follows_end}
use Rattle.not_propagate.proofs.RunLaws.{fits_first, none_first, begins, fits_on, none_more, goes_on, ends, ends_x}
use Rattle.not_propagate.proofs.propagated.Goals as goal

pub gates-init : goal.gates-init
gates-init c =
    let first = c.in_ok-walk.ensures in
    record {
      fits = fits_first c.wires.result c.in_ok-walk.walk first.wires first.flags first.turn;
      wires = first.wires ∙ c.wires.ensures.wires;
      turned = begins c.args.body.wires c.wires.result c.args.body.gates c.in_ok-walk.walk first.gates first.flags first.turn;
      none = none_first c.in_ok-walk.walk first.gates;
      follows = follows_first c.args.body.wires c.args.body.gates c.in_ok-walk.walk first.gates (first.flags ∙ ap (λ m. replicate m false) c.wires.ensures.wires) first.turn;
    }

pub gates-preserved : goal.gates-preserved
gates-preserved c =
    let known = c.gates.invariant in
    let fine = subst (λ m. IsFine m c.gate.result) (sym known.wires) c.gate.ensures.fine in
    record {
      fits = fits_on c.gate.result c.gates.walk c.step.new.self known.fits c.in_ok-step.ensures.ok;
      wires = c.in_ok-step.ensures.ok.wires ∙ known.wires;
      turned = goes_on c.args.body.wires c.args.body.gates c.gates.i c.gate.result c.gates.walk c.step.new.self known.fits c.gate.ensures.there fine c.in_ok-step.ensures.ok known.turned;
      none = none_more c.gate.result c.gates.walk c.step.new.self c.in_ok-step.ensures.ok known.none;
      follows = follows_on c.args.body.wires c.args.body.gates c.gates.i c.gate.result c.gates.walk c.step.new.self c.gate.ensures.there c.in_ok-step.ensures.ok known.follows;
    }

pub replace-requires-clause-sums : goal.replace-requires-clause-sums
replace-requires-clause-sums c = subst (λ (a : Body). SamePathSum a.wires a.gates c.in_ok-passed.passed.body.gates) (sym c.new-circuit.ensures.body)
    (follows_end c.args.body.wires c.args.body.gates c.gates.i c.gates.walk c.in_ok-passed.passed c.facts.ensures.fine (omega arith) c.gates.invariant.wires c.gates.invariant.fits c.in_ok-passed.ensures.ok c.gates.invariant.follows).same

pub replace-requires-clause-turn : goal.replace-requires-clause-turn
replace-requires-clause-turn c = subst (λ (a : Body). c.in_ok-passed.passed.turn ≡ constants_turn a.wires a.gates c.in_ok-passed.passed.body.gates) (sym c.new-circuit.ensures.body)
    (follows_end c.args.body.wires c.args.body.gates c.gates.i c.gates.walk c.in_ok-passed.passed c.facts.ensures.fine (omega arith) c.gates.invariant.wires c.gates.invariant.fits c.in_ok-passed.ensures.ok c.gates.invariant.follows).turn

pub replace-requires-clause-no_more : goal.replace-requires-clause-no_more
replace-requires-clause-no_more c = subst (λ (a : Body). HasNoMore a.wires a.gates c.in_ok-passed.passed.body.gates) (sym c.new-circuit.ensures.body)
    (ends c.args.body.wires c.args.body.gates c.gates.i c.gates.walk c.in_ok-passed.passed (omega arith) c.gates.invariant.turned c.in_ok-passed.ensures.ok)

pub returns-clause-shape : goal.returns-clause-shape
returns-clause-shape c = subst (λ (a : Body). XLast a.gates) (sym (c.finish-2.ensures.body ∙ c.in_ok-replace.ensures.ok.body)) (ends_x c.gates.walk c.in_ok-passed.passed c.gates.invariant.none c.in_ok-passed.ensures.ok)

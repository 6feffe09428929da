-- The target is what is asked for.
use Rattle.std.proofs.Common.{◌≡◌, ◌≤◌, false, subst, sym, true}
use Rattle.circuit_target.specs.Standing.{IsOnQubits}
use Rattle.circuit_target.specs.Targets.{IsFit, Stands}
use Rattle.gate_inline.specs.Programs.{Program}
use Rattle.program_parts.specs.Cuts.{uncut}
use Rattle.qroute_top.proofs.PlanLaws.{Rewrites-planned}
use Rattle.qroute_top.proofs.pipeline.route_on.Goals as goal

pub routed-requires : goal.routed-requires
routed-requires c = record {
  fits = subst (λ (s : Program). s.wires ≤ c.args.device.now.size) (sym c.parted.ensures.value) c.requires.fits;
  starts = c.requires.starts;
  traced = subst (λ (s : Program). c.args.wishes.trace ≡ true → (s.cut ≡ uncut s.ops) × (c.args.wishes.clean ≡ false)) (sym c.parted.ensures.value) c.requires.traced;
}

pub answer_of-requires : goal.answer_of-requires
answer_of-requires c = record { fit = subst (λ (s : Program). IsFit s c.in_ok-target.target) c.parted.ensures.value c.in_ok-target.ensures.fit }

pub returns-clause-made : goal.returns-clause-made
returns-clause-made c = λ text line is. Rewrites-planned c.args.source c.in_ok-target.target _ _ _ text line
    (subst (λ (s : Program). Stands s c.args.wishes.keep c.args.wishes.trace (IsOnQubits c.args.device.now c.args.starts c.args.wishes.clean s)
    c.in_ok-target.target) c.parted.ensures.value c.in_ok-target.ensures.stands)
    (c.answer_of.ensures.planned text line is)

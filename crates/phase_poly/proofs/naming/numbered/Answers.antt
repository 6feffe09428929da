use Rattle.std.proofs.Common.{◌≡◌, length, take, subst, sym, arith}
use Rattle.std.proofs.lemmas.Grind.{common_steps}
use Rattle.circuit_list.specs.declared.Gate.TheVariants.{H}
use Rattle.phase_poly.specs.Polys.{AreDihedral}
use Rattle.phase_poly.proofs.NamingLaws.{known-at, numbered-more, numbered-dihedral}
use Rattle.phase_poly.proofs.naming.numbered.Goals as goal

pub number-requires-clause-known : goal.number-requires-clause-known
number-requires-clause-known c = known-at c.args.names.now c.args.gates.now c.numbered.g-index (H 0) c.numbered-test.true c.requires.known

pub numbered-preserved : goal.numbered-preserved
numbered-preserved c = record {
  gates = numbered-more c.args.names.now c.args.gates.now c.numbered.list.items c.push.new.self.items c.numbered.g-index (H 0) c.number.result c.numbered-test.true c.numbered.invariant.gates c.number.ensures.gate c.in_ok-push.ensures.items;
  dihedral = numbered-dihedral (length c.args.names.now) c.args.gates.now c.numbered.list.items c.push.new.self.items c.numbered.g-index (H 0) c.number.result c.numbered-test.true c.numbered.invariant.dihedral c.number.ensures.dihedral c.in_ok-push.ensures.items;
}

pub returns-clause-dihedral : goal.returns-clause-dihedral
returns-clause-dihedral c =
    let all : take c.numbered.g-index c.args.gates.now ≡ c.args.gates.now = grind (arith, common_steps) in
    λ n f. c.numbered.invariant.dihedral n (subst (AreDihedral n) (sym all) f)

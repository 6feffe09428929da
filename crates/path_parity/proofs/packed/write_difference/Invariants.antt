use Rattle.std.proofs.Common.{◌-◌, ◌^◌, ◌≤◌}
use Rattle.path_parity.proofs.SetLaws.{IsBetween}
use Rattle.path_parity.proofs.packed.write_difference.Given as goal

-- the rows differ nowhere else
abbrev pub invariant-front : goal.invariant-front
invariant-front l = record {
  order : l.start ≤ l.end;
  below : l.end ≤ 2 ^ 58;
  between : IsBetween l.xs l.ys l.start l.end;
}

abbrev pub decreases-front : goal.decreases-front
decreases-front l = l.end - l.start

abbrev pub invariant-back : goal.invariant-back
invariant-back l = record {
  order : l.start ≤ l.end;
  shrunk : l.end ≤ l.initial.end;
  between : IsBetween l.xs l.ys l.start l.end;
}

abbrev pub decreases-back : goal.decreases-back
decreases-back l = l.end - l.start

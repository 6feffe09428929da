use Rattle.std.proofs.Common.{◌≡◌, bit_xor, sym, ap, ◌∙◌}
use Rattle.gf2_linear.proofs.Xor.{xor_same, same_xor}
use Rattle.gf2_linear.proofs.rows.Row.equals.Goals as goal

pub returns : goal.returns
returns c = record {
  value =
      let e : c.add.new.self ≡ bit_xor c.args.self.now c.args.other.now = c.add.ensures.new ∙ ap (λ k. bit_xor k c.args.other.now) c.copy-sum.ensures.same in (
        (λ t. same_xor c.args.self.now c.args.other.now (sym e ∙ c.is_empty.ensures.value.0 t)),
        (λ q. c.is_empty.ensures.value.1 (e ∙ xor_same c.args.self.now c.args.other.now q)),
      );
}

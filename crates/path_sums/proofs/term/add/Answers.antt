-- Half a turn is summed, and anything else comes behind.
use Rattle.std.proofs.Common.{◌∙◌, ap, refl}
use Rattle.std.specs.Global.{Vec}
use Rattle.std.specs.Prelude.{bit_xor}
use Rattle.path_sums.specs.declared.words.Word.{Word}
use Rattle.path_sums.specs.Words.{words_set}
use Rattle.path_sums.proofs.TermLaws.{adds-half, adds-term}
use Rattle.path_sums.proofs.term.add.Goals as goal

pub returns-then-k-eq4-clause-adds : goal.returns-then-k-eq4-clause-adds
returns-then-k-eq4-clause-adds c =
    adds-half (words_set c.args.set.now) c.args.k c.args.gathered.now.terms.items c.args.gathered.now.half.items c.swap.new.x.items c.if-k-eq4.true
    (ap (λ (z : Vec Word). words_set z.items) c.swap.ensures.x_after ∙ c.in_ok-write_sum.ensures.set ∙ ap (λ ws. bit_xor (words_set ws) (words_set c.args.set.now)) c.deref.ensures.value)

pub returns-clause-adds : goal.returns-clause-adds
returns-clause-adds c =
    adds-term (words_set c.args.set.now) c.args.k c.args.gathered.now.terms.items c.push.new.self.items _ c.args.gathered.now.half.items
    c.in_ok-push.ensures.items (ap words_set c.in_ok-set.ensures.items) refl

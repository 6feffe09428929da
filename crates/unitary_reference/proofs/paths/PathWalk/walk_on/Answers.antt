use Rattle.std.proofs.Common.{◌≡◌, sym, subst, ◌∙◌, ap, OnOk}
use Rattle.unitary_model.specs.OddPaths.{Walk, toggle_at, toggle_odd, fresh_at}
use Rattle.unitary_reference.specs.Values.{walk_of}
use Rattle.unitary_reference.proofs.WalkLaws.{walked-even, walked-odd}
use Rattle.unitary_reference.proofs.paths.PathWalk.walk_on.Goals as goal

pub returns-in_ok-flip_where_odd-in-U : goal.returns-in_ok-flip_where_odd-in-U
returns-in_ok-flip_where_odd-in-U c =
    let q = c.in-U.q in
    record {
      walked = subst (λ (w : Walk). OnOk c.flip_where_odd-then-a-eq0-2-2.result (walk_of c.flip_where_odd-then-a-eq0-2-2.new.self ≡ w))
          (ap (toggle_odd c.in-U.b q) (c.give_fresh.ensures.given ∙ ap (fresh_at q) c.in_ok-flip_where_odd-in-U.ensures.flipped)
          ∙ sym (walked-even c.args.op c.in-U.a c.in-U.b c.in-U.c q (walk_of c.args.self.now) c.in-U.is c.if-a-eq0.false c.if-a-eq0-2.true))
          c.flip_where_odd-then-a-eq0-2-2.ensures.flipped;
    }

pub returns-in_ok-flip_label-in-U : goal.returns-in_ok-flip_label-in-U
returns-in_ok-flip_label-in-U c =
    let q = c.in-U.q in
    record {
      walked = subst (λ (w : Walk). OnOk c.flip_where_odd-else-a-eq0-2-2.result (walk_of c.flip_where_odd-else-a-eq0-2-2.new.self ≡ w))
          (ap (toggle_odd c.in-U.b q) (c.give_fresh-else-a-eq0-2-2.ensures.given ∙ ap (fresh_at q) (c.in_ok-flip_label-in-U.ensures.flipped
          ∙ ap (toggle_at q) (c.give_fresh-else-a-eq0-2.ensures.given ∙ ap (fresh_at q) c.in_ok-flip_where_odd-in-U-2.ensures.flipped)))
          ∙ sym (walked-odd c.args.op c.in-U.a c.in-U.b c.in-U.c q (walk_of c.args.self.now) c.in-U.is c.if-a-eq0.false c.if-a-eq0-2.false))
          c.flip_where_odd-else-a-eq0-2-2.ensures.flipped;
    }

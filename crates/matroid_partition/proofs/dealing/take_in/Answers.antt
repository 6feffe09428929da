use Rattle.std.proofs.Common.{◌≡◌, ◌+◌, ◌*◌, ◌<◌, ℕ, IfNone, IfSome, length, subst, ap, arith}
use Rattle.matroid_partition.specs.Dealings.{IsDealing, IsShownWide}
use Rattle.matroid_partition.proofs.DealingLaws.{dealing-few, dealing-rows, some_map}
use Rattle.matroid_partition.proofs.dealing.take_in.Goals as goal

pub returns-then-len-saturating_mul-clause-dealing : goal.returns-then-len-saturating_mul-clause-dealing
returns-then-len-saturating_mul-clause-dealing c =
    let d = c.admit.new.dealing in
    let room : c.block_count.result * c.args.spares ≡ length d.held.blocks * c.args.spares = ap (λ k. k * c.args.spares) c.block_count.ensures.value in
    dealing-few c.args.rows.now (c.args.place + 1) c.args.spares 1 d (c.in_ok-admit.ensures.dealing c.args.spares c.requires.dealing)
    (omega (arith, c.if-len-saturating_mul.true, c.len.ensures, c.saturating_mul.ensures, d.over.ok.0, room))

pub make_room-requires-clause-held : goal.make_room-requires-clause-held
make_room-requires-clause-held c = (c.in_ok-admit.ensures.dealing c.args.spares c.requires.dealing).held

pub make_room-requires-clause-rows : goal.make_room-requires-clause-rows
make_room-requires-clause-rows c = dealing-rows c.args.rows.now (c.args.place + 1) c.args.spares 1 c.admit.new.dealing (c.in_ok-admit.ensures.dealing c.args.spares c.requires.dealing)

pub returns-clause-dealing : goal.returns-clause-dealing
returns-clause-dealing c = c.in_ok-room.ensures.dealing (c.args.place + 1) c.args.spares (c.in_ok-admit.ensures.dealing c.args.spares c.requires.dealing)

pub returns-clause-some : goal.returns-clause-some
returns-clause-some c =
    let d = c.admit.new.dealing in
    let room : c.block_count.result * c.args.spares ≡ length d.held.blocks * c.args.spares = ap (λ k. k * c.args.spares) c.block_count.ensures.value in
    let many : length d.held.blocks * c.args.spares < length d.over.items =
    omega (arith, c.if-len-saturating_mul.false, c.len.ensures, c.saturating_mul.ensures, d.over.ok.0, d.over.small, room) in
    some_map c.in_ok-room.room
    (λ w. (n m : ℕ) → IsDealing c.args.rows.now n m 1 d → length d.held.blocks * m < length d.over.items → IsShownWide c.args.rows.now (length d.held.blocks) m w.items)
    (λ w. IsShownWide c.args.rows.now (length c.args.dealing.now.held.blocks) c.args.spares w.items)
    (λ w h. subst (λ k. IsShownWide c.args.rows.now k c.args.spares w.items) c.in_ok-admit.ensures.blocks
    (h (c.args.place + 1) c.args.spares (c.in_ok-admit.ensures.dealing c.args.spares c.requires.dealing) many)) c.in_ok-room.ensures.some

pub returns-clause-opened : goal.returns-clause-opened
returns-clause-opened c = subst (λ k. IfSome c.in_ok-room.room (λ _. length c.make_room.new.dealing.held.blocks ≡ k + 1)) c.in_ok-admit.ensures.blocks c.in_ok-room.ensures.opened

pub returns-clause-none : goal.returns-clause-none
returns-clause-none c = subst (λ k. IfNone c.in_ok-room.room (length c.make_room.new.dealing.held.blocks ≡ k)) c.in_ok-admit.ensures.blocks c.in_ok-room.ensures.none

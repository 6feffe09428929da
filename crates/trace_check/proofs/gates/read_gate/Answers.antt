use Rattle.std.proofs.Common.{◌≡◌, ◌∙◌, ℕ, List, refl, sym}
use Rattle.circuit_list.specs.declared.Gate.{Gate}
use Rattle.rewrite_pass.specs.TraceLines.{gate_numbers}
use Rattle.trace_check.proofs.GateLaws.{gate-coarse, gate-read, gate-unread, gate-unsplit}
use Rattle.trace_check.proofs.WordLaws.{items-small, none-of, some-of}
use Rattle.trace_check.proofs.gates.read_gate.Goals as goal

pub returns-in_default : goal.returns-in_default
returns-in_default c = gate-unsplit c.args.line.now c.args.wires (none-of _ c.in_ok-word.field-0 _ c.in_default.is c.in_ok-word.ensures.ok)

pub returns-in_default-gate_from : goal.returns-in_default-gate_from
returns-in_default-gate_from c =
    let line : List ℕ = c.args.line.now in
    let ks : List ℕ = c.split_words.new.numbers.items in
    let g : Gate = c.in-Some-gate_from.gate in
    let h = some-of _ c.in_ok-word.field-0 c.in-Some.word _ c.in-Some.is c.in_ok-word.ensures.ok in
    let numbers : ks ≡ gate_numbers g = sym c.deref.ensures.value ∙ c.in-Some-gate_from.ensures.1 in
    gate-coarse line ks g c.args.wires (items-small ks c.type_inv.numbers) numbers (gate-read line c.in-Some.word.now ks g h.1 c.in-Some-gate_from.ensures.0 numbers) (c.if-is_fine.ensures.no refl)

pub returns-in_default-gate_from-2 : goal.returns-in_default-gate_from-2
returns-in_default-gate_from-2 c =
    let ks : List ℕ = c.split_words.new.numbers.items in
    let h = some-of _ c.in_ok-word.field-0 c.in-Some.word _ c.in-Some.is c.in_ok-word.ensures.ok in
    gate-unread c.args.line.now c.in-Some.word.now ks c.args.wires h.0 (items-small ks c.type_inv.numbers) h.1
    (λ g n fine word numbers. c.in_default-gate_from.ensures g n fine word (c.deref.ensures.value ∙ numbers))

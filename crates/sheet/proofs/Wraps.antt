-- Where an instruction goes on does not change when its address is taken modulo 65,536 first.
use Rattle.std.proofs.Common.{◌≡◌, ℕ, ◌%◌, ap, arith}
use Rattle.instruction.specs.declared.decoding.Instruction.{Instruction}
use Rattle.instruction.specs.Flow.{ends, turned, flow}

pub ends_wraps : (i : Instruction) (a : ℕ) → ends i (a % 65536) ≡ ends i a
ends_wraps i a = omega arith

pub flow_wraps : (i : Instruction) (a : ℕ) → flow i (a % 65536) ≡ flow i a
flow_wraps i a = ap (λ e. turned i.family.turn i.number i.operand e) (ends_wraps i a)

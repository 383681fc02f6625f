use Rattle.std.proofs.Common.{refl, ◌∙◌, arith}
use Rattle.instruction.specs.Table.{families}
use Rattle.instruction.proofs.Lookup.{looked_up}
use Rattle.instruction.proofs.decoding.find.Goals as goal

-- that the places answer as the search does is computed, once, over all opcodes
pub returns : goal.returns
unfolding families
returns c = c.at_place.ensures ∙ looked_up _ c.args.opcode refl refl (omega arith)

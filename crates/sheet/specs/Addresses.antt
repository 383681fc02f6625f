-- Addresses as the code keeps them.
use Rattle.std.specs.Prelude.{Some, None, Option}
use Rattle.instruction.specs.Claim.{Span, unsure, from_to}
use Rattle.sheet.specs.declared.memory.Addresses.{Addresses}

-- addresses that are known, or not
abbrev pub spanned : Option Addresses → Span
spanned None = unsure
spanned (Some a) = from_to a.first a.last
